use Rattle.std.proofs.Common.{length}
use Rattle.snap_actions.specs.Tables.{AreTables}
use Rattle.plan_validator.specs.Course.{IsReached}
use Rattle.plan_validator.specs.Watched.{AreWatched}
use Rattle.plan_validator.proofs.course.judge_course.Given as goal

abbrev pub invariant-loop-rest : goal.invariant-loop-rest
invariant-loop-rest l = record {
  tables : AreTables l.problem l.tables;
  reached : IsReached l.problem l.acts l.fn.end l.state l.rest;
  watched : AreWatched l.problem l.acts l.running.items l.coming l.rest;
}

abbrev pub decreases-loop-rest : goal.decreases-loop-rest
decreases-loop-rest l = length l.rest
