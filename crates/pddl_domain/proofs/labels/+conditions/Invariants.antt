use Rattle.std.proofs.Common.{◌≡◌, ◌≤◌, ◌++◌}
use Rattle.pddl_tokens.specs.Trees.{trees_of, sizes}
use Rattle.pddl_domain.specs.Bounds.{timed_conditions}
use Rattle.pddl_domain.proofs.labels.+conditions.Given as goal

abbrev pub invariant-with_timed_conditions-members : goal.invariant-with_timed_conditions-members
invariant-with_timed_conditions-members l =
    record {
      gathered : l.listed ++ timed_conditions l.symbols l.variables l.scale l.label (trees_of l.rest) ≡ l.fn.listed ++ timed_conditions l.symbols l.variables l.scale l.label (trees_of l.forms);
      smaller : sizes (trees_of l.rest) ≤ sizes (trees_of l.forms);
    }

abbrev pub decreases-with_timed_conditions-members : goal.decreases-with_timed_conditions-members
decreases-with_timed_conditions-members l = sizes (trees_of l.rest)

abbrev pub decreases-with_timed_condition : goal.decreases-with_timed_condition
decreases-with_timed_condition l = sizes (trees_of l.parts.now)

abbrev pub decreases-with_timed_conditions : goal.decreases-with_timed_conditions
decreases-with_timed_conditions l = sizes (trees_of l.forms.now)
