use Rattle.std.proofs.Common.{sym, subst, ap, ◌∙◌, ◌++◌, ◌∷◌, [], false, ◌≡◌, ◌<◌, length, arith}
use Rattle.tp_spec.specs.declared.event.Event.TheVariants.{Drop}
use Rattle.tp_spec.specs.Machine.{MayAct}
use Rattle.tp_laws.proofs.Members.{in-filter}
use Rattle.word_frontier.specs.Nodes.{open_nodes, is_open}
use Rattle.machine_run.specs.Settling.{LeastIs, IsDead}
use Rattle.machine_run.specs.Turns.{has_outcome}
use Rattle.machine_run.specs.Views.{RunView, state}
use Rattle.machine_run.proofs.Settling.{kept-drop, fewer-left}
use Rattle.machine_run.proofs.Taking.{may-drop, turn-some}
use Rattle.machine_run.proofs.run.MachineRun.drop_open.Goals as goal

pub invariant_of-self-2 : goal.invariant_of-self-2
invariant_of-self-2 c =
    let least = subst (λ (r : RunView). LeastIs (open_nodes r.frontier.nodes) c.args.id) (sym c.self.view_is) c.requires.least in
    let may = subst (λ (r : RunView). MayAct r.problem r.limits (state r) c.args.actor) (sym c.self.view_is) c.requires.may in
    kept-drop c.self.invariant (subst (λ (r : RunView). has_outcome r.history ≡ false) (sym c.self.view_is) c.requires.standing) least.node c.args.id _ _
    (turn-some _ _ _ c.args.actor may)
    (in-filter is_open least.node _ least.least.there) least.id_is
    (subst (λ (r : RunView). IsDead r c.args.id) (sym c.self.view_is) c.requires.dead)
    (c.push_reserved.ensures.items ∙ ap (λ es. es ++ Drop c.args.id ∷ []) c.reserve_event.ensures.items)
    (c.drop_least_open.ensures.nodes least.node least.least) c.drop_least_open.ensures.made c.drop_least_open.ensures.ranks
    (omega (arith, c.in_ok-reserve_event.ensures.room, c.push_reserved.ensures.len, c.push_reserved.ensures.capacity))

pub returns-clause-may : goal.returns-clause-may
returns-clause-may c =
    let least = subst (λ (r : RunView). LeastIs (open_nodes r.frontier.nodes) c.args.id) (sym c.self.view_is) c.requires.least in
    may-drop c.self.invariant (subst (λ (r : RunView). has_outcome r.history ≡ false) (sym c.self.view_is) c.requires.standing) c.args.actor
    (subst (λ (r : RunView). MayAct r.problem r.limits (state r) c.args.actor) (sym c.self.view_is) c.requires.may)
    c.args.id least.node (in-filter is_open least.node _ least.least.there) least.id_is
    (subst (λ (r : RunView). IsDead r c.args.id) (sym c.self.view_is) c.requires.dead) _
    (c.push_reserved.ensures.items ∙ ap (λ es. es ++ Drop c.args.id ∷ []) c.reserve_event.ensures.items)

pub returns-clause-fewer : goal.returns-clause-fewer
returns-clause-fewer c =
    let least = subst (λ (r : RunView). LeastIs (open_nodes r.frontier.nodes) c.args.id) (sym c.self.view_is) c.requires.least in
    subst (λ (r : RunView). length c.drop_least_open.new.self.nodes < length r.frontier.nodes) c.self.view_is
    (fewer-left least.node c.self.inside.frontier c.drop_least_open.new.self (in-filter is_open least.node _ least.least.there) (c.drop_least_open.ensures.nodes least.node least.least))
