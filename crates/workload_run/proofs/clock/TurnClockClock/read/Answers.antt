use Rattle.std.proofs.Common.{sym, ap, ◌∙◌, rules}
use Rattle.tp_world.specs.Readings.{reading_at}
use Rattle.workload_run.specs.Readings.{TurnState, turn_readings}
use Rattle.workload_run.proofs.Turning.{reads}
use Rattle.workload_run.proofs.clock.TurnClockClock.read.Goals as goal

pub returns-clause-reading : goal.returns-clause-reading
returns-clause-reading c =
    sym (reads c.self.inside.count (search rules)) ∙ ap (reading_at turn_readings) (ap (λ (s : TurnState). s.count) c.self.view_is)
