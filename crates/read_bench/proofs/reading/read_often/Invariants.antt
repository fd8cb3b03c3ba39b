use Rattle.std.proofs.Common.{◌-◌, ◌≤◌, IfOk, IfErr}
use Rattle.read_bench.specs.Reading.{IsSaid, Explains}
use Rattle.read_bench.proofs.reading.read_often.Given as goal

abbrev pub invariant-loop-made : goal.invariant-loop-made
invariant-loop-made l =
    record {
      counts : IfOk l.outcome (λ counts. IsSaid counts l.domain l.problem);
      fault : IfErr l.outcome (λ f. Explains f l.domain l.problem);
      made : l.made ≤ l.rounds;
    }

abbrev pub decreases-loop-made : goal.decreases-loop-made
decreases-loop-made l = l.rounds - l.made
