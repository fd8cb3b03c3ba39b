use Rattle.std.proofs.Common.{◌≡◌, drop}
use Rattle.pddl_problem.specs.Known.{with_constants}
use Rattle.pddl_problem.proofs.known.with_constants.Given as goal

abbrev pub invariant-loop-constant : goal.invariant-loop-constant
invariant-loop-constant l = with_constants l.names (drop l.constant-index l.constants) ≡ with_constants l.fn.names l.constants
