use Rattle.std.proofs.Common.{sym, subst, ap, ◌∙◌, ◌++◌, ◌∷◌, [], IsSome, false, ◌≡◌, ◌<◌, refl, arith}
use Rattle.tp_spec.specs.declared.event.Event.TheVariants.{Drop}
use Rattle.machine_run.specs.Settling.{LeastIs, IsDead, unsettled}
use Rattle.machine_run.specs.Turns.{has_outcome}
use Rattle.machine_run.specs.Views.{RunView, state}
use Rattle.machine_run.proofs.Standing.{run}
use Rattle.machine_run.proofs.Settling.{kept-drop, fewer-left, drop-fewer}
use Rattle.machine_run.proofs.run.MachineRun.drop_best.Goals as goal

pub invariant_of-self-2 : goal.invariant_of-self-2
invariant_of-self-2 c =
    let best = subst (λ (r : RunView). LeastIs r.frontier.nodes c.args.id) (sym c.self.view_is) c.requires.best in
    kept-drop c.self.invariant (subst (λ (r : RunView). has_outcome r.history ≡ false) (sym c.self.view_is) c.requires.standing) best.node c.args.id _ _
    (subst (λ (r : RunView). IsSome (state r).turn) (sym c.self.view_is) c.requires.turn)
    best.least.there best.id_is
    (subst (λ (r : RunView). IsDead r c.args.id) (sym c.self.view_is) c.requires.dead)
    (c.push_reserved.ensures.items ∙ ap (λ es. es ++ Drop c.args.id ∷ []) c.reserve_event.ensures.items)
    (c.drop_best.ensures.nodes best.node best.least) c.drop_best.ensures.made c.drop_best.ensures.ranks
    (omega (arith, c.in_ok-reserve_event.ensures.room, c.push_reserved.ensures.len, c.push_reserved.ensures.capacity))

pub returns-clause-fewer : goal.returns-clause-fewer
returns-clause-fewer c =
    let best = subst (λ (r : RunView). LeastIs r.frontier.nodes c.args.id) (sym c.self.view_is) c.requires.best in
    let old = run c.self.inside.problem.now c.self.inside.limits c.self.inside.history.items c.self.inside.frontier in
    let new = run c.self.inside.problem.now c.self.inside.limits c.push_reserved.new.self.items c.drop_best.new.self in
    subst (λ (r : RunView). unsettled new < unsettled r) c.self.view_is
    (drop-fewer old new c.args.id
    (record { task = record { problem = refl; limits = refl }; history = c.push_reserved.ensures.items ∙ ap (λ es. es ++ Drop c.args.id ∷ []) c.reserve_event.ensures.items })
    (fewer-left best.node c.self.inside.frontier c.drop_best.new.self best.least.there (c.drop_best.ensures.nodes best.node best.least)))
