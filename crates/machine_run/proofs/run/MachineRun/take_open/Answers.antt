use Rattle.std.proofs.Common.{sym, subst, ap, ◌∙◌, ◌++◌, ◌∷◌, [], Some, false, ◌≡◌, arith}
use Rattle.tp_spec.specs.declared.event.Event.TheVariants.{Take}
use Rattle.tp_spec.specs.Machine.{MayAct}
use Rattle.tp_laws.proofs.Members.{in-filter}
use Rattle.word_frontier.specs.Nodes.{is_open}
use Rattle.machine_run.specs.Settling.{FindsOpen}
use Rattle.machine_run.specs.Turns.{has_outcome}
use Rattle.machine_run.specs.Views.{RunView, state}
use Rattle.machine_run.proofs.Taking.{has-id, kept-take, rested-take, took-node}
use Rattle.machine_run.proofs.run.MachineRun.take_open.Goals as goal

pub copy_of-requires : goal.copy_of-requires
copy_of-requires c =
    let found = subst (λ (r : RunView). FindsOpen r (Some c.args.id)) (sym c.self.view_is) c.requires.found in
    has-id c.args.id found.0.node _ (in-filter is_open found.0.node _ found.0.least.there) found.0.id_is

pub invariant_of-self-2 : goal.invariant_of-self-2
invariant_of-self-2 c =
    let found = subst (λ (r : RunView). FindsOpen r (Some c.args.id)) (sym c.self.view_is) c.requires.found in
    kept-take c.self.invariant (subst (λ (r : RunView). has_outcome r.history ≡ false) (sym c.self.view_is) c.requires.standing) c.args.actor
    (subst (λ (r : RunView). MayAct r.problem r.limits (state r) c.args.actor) (sym c.self.view_is) c.requires.may)
    c.args.id found.1.0 found.0 found.1.1 _ _
    (c.push_reserved.ensures.items ∙ ap (λ es. es ++ Take c.args.actor c.args.id ∷ []) c.reserve_event.ensures.items)
    (c.take_least.ensures.nodes found.0.node found.0.least) c.take_least.ensures.made c.take_least.ensures.ranks
    (omega (arith, c.in_ok-reserve_event.ensures.room, c.push_reserved.ensures.len, c.push_reserved.ensures.capacity))

pub returns-clause-rested : goal.returns-clause-rested
returns-clause-rested c =
    let found = subst (λ (r : RunView). FindsOpen r (Some c.args.id)) (sym c.self.view_is) c.requires.found in
    rested-take c.self.invariant (subst (λ (r : RunView). has_outcome r.history ≡ false) (sym c.self.view_is) c.requires.standing) c.args.actor
    (subst (λ (r : RunView). MayAct r.problem r.limits (state r) c.args.actor) (sym c.self.view_is) c.requires.may)
    c.args.id found.1.0 found.0 found.1.1 _ _
    (c.push_reserved.ensures.items ∙ ap (λ es. es ++ Take c.args.actor c.args.id ∷ []) c.reserve_event.ensures.items)
    (c.take_least.ensures.nodes found.0.node found.0.least) c.take_least.ensures.made

pub returns-clause-node : goal.returns-clause-node
returns-clause-node c =
    let found = subst (λ (r : RunView). FindsOpen r (Some c.args.id)) (sym c.self.view_is) c.requires.found in
    took-node c.self.invariant (subst (λ (r : RunView). has_outcome r.history ≡ false) (sym c.self.view_is) c.requires.standing) c.args.actor
    (subst (λ (r : RunView). MayAct r.problem r.limits (state r) c.args.actor) (sym c.self.view_is) c.requires.may)
    c.args.id found.1.0 found.0 found.1.1 _ c.take_least.new.self
    (c.push_reserved.ensures.items ∙ ap (λ es. es ++ Take c.args.actor c.args.id ∷ []) c.reserve_event.ensures.items)
    (c.take_least.ensures.nodes found.0.node found.0.least) c.take_least.ensures.made _ c.in_ok-node.ensures
