use Rattle.std.proofs.Common.{sym, subst, ap, ◌∙◌, ◌++◌, ◌∷◌, [], IsSome, false, ◌≡◌}
use Rattle.tp_spec.specs.declared.event.Event.TheVariants.{Exhaust}
use Rattle.machine_run.specs.Turns.{has_outcome}
use Rattle.machine_run.specs.Views.{RunView, state}
use Rattle.machine_run.proofs.Settling.{kept-exhaust}
use Rattle.machine_run.proofs.run.MachineRun.exhaust.Goals as goal

pub invariant_of-self-2 : goal.invariant_of-self-2
invariant_of-self-2 c =
    kept-exhaust c.self.invariant (subst (λ (r : RunView). has_outcome r.history ≡ false) (sym c.self.view_is) c.requires.standing) _
    (subst (λ (r : RunView). IsSome (state r).turn) (sym c.self.view_is) c.requires.turn)
    (subst (λ (r : RunView). r.frontier.nodes ≡ []) (sym c.self.view_is) c.requires.none)
    (c.push_reserved.ensures.items ∙ ap (λ es. es ++ Exhaust ∷ []) c.reserve_event.ensures.items)
