use Rattle.std.proofs.Common.{◌≡◌, ◌≤◌}
use Rattle.pddl_tokens.specs.Trees.{trees_of, sizes}
use Rattle.domain_faults.specs.Written.{with_all_timed}
use Rattle.domain_faults.proofs.written.+timed.Given as goal

abbrev pub invariant-with_all_timed-members : goal.invariant-with_all_timed-members
invariant-with_all_timed-members l =
    record {
      gathered : with_all_timed l.names (trees_of l.rest) ≡ with_all_timed l.fn.names (trees_of l.forms);
      smaller : sizes (trees_of l.rest) ≤ sizes (trees_of l.forms);
    }

abbrev pub decreases-with_all_timed-members : goal.decreases-with_all_timed-members
decreases-with_all_timed-members l = sizes (trees_of l.rest)

abbrev pub decreases-with_timed : goal.decreases-with_timed
decreases-with_timed l = sizes (trees_of l.parts.now)

abbrev pub decreases-with_all_timed : goal.decreases-with_all_timed
decreases-with_all_timed l = sizes (trees_of l.forms.now)
