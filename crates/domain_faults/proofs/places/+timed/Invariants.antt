use Rattle.std.proofs.Common.{◌≡◌, ◌≤◌, ◌++◌}
use Rattle.pddl_tokens.specs.Trees.{trees_of, sizes}
use Rattle.domain_faults.specs.Places.{all_timed_places}
use Rattle.domain_faults.proofs.places.+timed.Given as goal

abbrev pub invariant-with_all_timed-members : goal.invariant-with_all_timed-members
invariant-with_all_timed-members l =
    record {
      gathered : l.places ++ all_timed_places l.label (trees_of l.rest) ≡ l.fn.places ++ all_timed_places l.label (trees_of l.forms);
      smaller : sizes (trees_of l.rest) ≤ sizes (trees_of l.forms);
    }

abbrev pub decreases-with_all_timed-members : goal.decreases-with_all_timed-members
decreases-with_all_timed-members l = sizes (trees_of l.rest)

abbrev pub decreases-with_timed : goal.decreases-with_timed
decreases-with_timed l = sizes (trees_of l.parts.now)

abbrev pub decreases-with_all_timed : goal.decreases-with_all_timed
decreases-with_all_timed l = sizes (trees_of l.forms.now)
