use Rattle.std.proofs.Common.{◌≡◌, drop}
use Rattle.pddl_problem.specs.Known.{with_typed}
use Rattle.pddl_problem.proofs.known.with_typed.Given as goal

abbrev pub invariant-loop-constant : goal.invariant-loop-constant
invariant-loop-constant l = with_typed l.table (drop l.constant-index l.constants) ≡ with_typed l.fn.table l.constants
