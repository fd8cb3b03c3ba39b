use Rattle.std.proofs.Common.{sym, subst, ap, ◌∙◌, arith, ◌++◌, ◌∷◌, []}
use Rattle.tp_spec.specs.declared.event.Event.TheVariants.{Tick}
use Rattle.machine_run.specs.Deeds.{IsRested}
use Rattle.machine_run.proofs.Settling.{kept-tick}
use Rattle.machine_run.proofs.run.MachineRun.tick.Goals as goal

pub invariant_of-self-2 : goal.invariant_of-self-2
invariant_of-self-2 c =
    let rested = subst IsRested (sym c.self.view_is) c.requires.rested in
    let near = c.self.invariant.stands.limited.horizon in
    kept-tick c.self.invariant rested.standing c.args.actor c.args.reading _ rested (c.push_reserved.ensures.items ∙ ap (λ es. es ++ Tick c.args.actor c.args.reading ∷ []) c.reserve_event.ensures.items)
    (omega (arith, near, c.saturating_add-last.ensures, c.min.ensures, c.max-self-inside.ensures))
    (omega (arith, c.in_ok-reserve_event.ensures.room, c.push_reserved.ensures.len, c.push_reserved.ensures.capacity))
