use Rattle.std.proofs.Common.{sym, subst, ap, ◌∙◌, ◌++◌, ◌∷◌, [], IsSome, false, ◌≡◌, ◌<◌, refl, arith}
use Rattle.tp_spec.specs.declared.event.Event.TheVariants.{Dispatch}
use Rattle.tp_spec.specs.Machine.{IsDue}
use Rattle.machine_run.specs.Settling.{unsettled}
use Rattle.machine_run.specs.Turns.{has_outcome}
use Rattle.machine_run.specs.Views.{RunView, state}
use Rattle.machine_run.proofs.Standing.{run}
use Rattle.machine_run.proofs.Settling.{kept-dispatch, due-later, dispatch-fewer}
use Rattle.machine_run.proofs.run.MachineRun.dispatch.Goals as goal

pub add-requires : goal.add-requires
add-requires c =
    due-later c.self.invariant (subst (λ (r : RunView). has_outcome r.history ≡ false) (sym c.self.view_is) c.requires.standing) c.args.act
    (subst (λ (r : RunView). IsSome (state r).turn) (sym c.self.view_is) c.requires.turn)
    (subst (λ (r : RunView). IsDue r.problem r.limits (state r) c.args.act) (sym c.self.view_is) c.requires.due)

pub invariant_of-self-2 : goal.invariant_of-self-2
invariant_of-self-2 c =
    kept-dispatch c.self.invariant (subst (λ (r : RunView). has_outcome r.history ≡ false) (sym c.self.view_is) c.requires.standing) c.args.act _
    (subst (λ (r : RunView). IsSome (state r).turn) (sym c.self.view_is) c.requires.turn)
    (subst (λ (r : RunView). IsDue r.problem r.limits (state r) c.args.act) (sym c.self.view_is) c.requires.due)
    (c.push_reserved.ensures.items ∙ ap (λ es. es ++ Dispatch c.args.act ∷ []) c.reserve_event.ensures.items)
    c.in_ok-add.ensures.ok
    (omega (arith, c.in_ok-reserve_event.ensures.room, c.push_reserved.ensures.len, c.push_reserved.ensures.capacity))

pub returns-clause-fewer : goal.returns-clause-fewer
returns-clause-fewer c =
    let old = run c.self.inside.problem.now c.self.inside.limits c.self.inside.history.items c.self.inside.frontier in
    let new = run c.self.inside.problem.now c.self.inside.limits c.push_reserved.new.self.items c.self.inside.frontier in
    let kept = invariant_of-self-2 c in
    subst (λ (r : RunView). unsettled new < unsettled r) c.self.view_is
    (dispatch-fewer old new c.args.act kept.stands
    (record { task = record { problem = refl; limits = refl }; history = c.push_reserved.ensures.items ∙ ap (λ es. es ++ Dispatch c.args.act ∷ []) c.reserve_event.ensures.items })
    refl)
