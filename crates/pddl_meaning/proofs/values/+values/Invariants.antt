use Rattle.std.proofs.Common.{◌≡◌, ◌≤◌}
use Rattle.pddl_tokens.specs.Trees.{trees_of, sizes}
use Rattle.pddl_meaning.specs.Values.{grouped_value}
use Rattle.pddl_meaning.proofs.values.+values.Given as goal

abbrev pub invariant-grouped_value-summands : goal.invariant-grouped_value-summands
invariant-grouped_value-summands l =
    record {
      grouped : grouped_value l.symbols l.variables l.scale l.total (trees_of l.rest) ≡ grouped_value l.symbols l.variables l.scale l.fn.first (trees_of l.summands);
      smaller : sizes (trees_of l.rest) ≤ sizes (trees_of l.summands);
    }

abbrev pub decreases-grouped_value-summands : goal.decreases-grouped_value-summands
decreases-grouped_value-summands l = sizes (trees_of l.rest)

abbrev pub decreases-operation_value : goal.decreases-operation_value
decreases-operation_value l = sizes (trees_of l.parts.now)

abbrev pub decreases-sum_value : goal.decreases-sum_value
decreases-sum_value l = sizes (trees_of l.summands.now)

abbrev pub decreases-grouped_value : goal.decreases-grouped_value
decreases-grouped_value l = sizes (trees_of l.summands.now)

abbrev pub decreases-difference_value : goal.decreases-difference_value
decreases-difference_value l = sizes (trees_of l.operands.now)

abbrev pub decreases-less_value : goal.decreases-less_value
decreases-less_value l = sizes (trees_of l.operands.now)
