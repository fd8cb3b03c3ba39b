use Rattle.std.proofs.Common.{ℕ, ◌^◌, ◌<◌, List, length, subst, sym}
use Rattle.tp_spec.specs.declared.event.Event.{Event}
use Rattle.run_cli.proofs.FewEvents.{few_events}
use Rattle.run_cli.proofs.replaying.trace_answer.Goals as goal

pub replay-requires-clause-few : goal.replay-requires-clause-few
replay-requires-clause-few c =
    subst (λ (events : List Event). length events < 2 ^ 31) (sym c.as_slice.ensures)
    (few_events c.args.bytes.now c.in-Ok.history c.in-Ok.ensures.reads c.requires.short)
