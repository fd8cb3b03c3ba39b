use Rattle.std.proofs.Common.{◌≡◌, ◌≤◌, ◌++◌}
use Rattle.pddl_tokens.specs.Trees.{trees_of, sizes}
use Rattle.pddl_meaning.specs.Conditions.{conditions_of}
use Rattle.pddl_meaning.proofs.conditions.+conditions.Given as goal

abbrev pub invariant-with_conditions-conditions : goal.invariant-with_conditions-conditions
invariant-with_conditions-conditions l =
    record {
      gathered : l.conditions ++ conditions_of l.symbols l.variables l.scale (trees_of l.rest) ≡ l.fn.conditions ++ conditions_of l.symbols l.variables l.scale (trees_of l.forms);
      smaller : sizes (trees_of l.rest) ≤ sizes (trees_of l.forms);
    }

abbrev pub decreases-with_conditions-conditions : goal.decreases-with_conditions-conditions
decreases-with_conditions-conditions l = sizes (trees_of l.rest)

abbrev pub decreases-with_condition : goal.decreases-with_condition
decreases-with_condition l = sizes (trees_of l.parts.now)

abbrev pub decreases-with_conditions : goal.decreases-with_conditions
decreases-with_conditions l = sizes (trees_of l.forms.now)
