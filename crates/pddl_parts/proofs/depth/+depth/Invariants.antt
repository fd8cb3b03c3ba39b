use Rattle.std.proofs.Common.{◌≡◌, ◌≤◌}
use Rattle.pddl_tokens.specs.Trees.{trees_of, sizes}
use Rattle.pddl_parts.specs.Expressions.{grouped_depth}
use Rattle.pddl_parts.proofs.depth.+depth.Given as goal

abbrev pub invariant-grouped_depth-summands : goal.invariant-grouped_depth-summands
invariant-grouped_depth-summands l =
    record {
      counted : grouped_depth l.sum (trees_of l.rest) ≡ grouped_depth l.first (trees_of l.fn.summands);
      smaller : sizes (trees_of l.rest) ≤ sizes (trees_of l.fn.summands);
    }

abbrev pub decreases-grouped_depth-summands : goal.decreases-grouped_depth-summands
decreases-grouped_depth-summands l = sizes (trees_of l.rest)

abbrev pub decreases-depth_of : goal.decreases-depth_of
decreases-depth_of l = sizes (trees_of l.parts.now)

abbrev pub decreases-sum_depth : goal.decreases-sum_depth
decreases-sum_depth l = sizes (trees_of l.summands.now)

abbrev pub decreases-grouped_depth : goal.decreases-grouped_depth
decreases-grouped_depth l = sizes (trees_of l.summands.now)

abbrev pub decreases-difference_depth : goal.decreases-difference_depth
decreases-difference_depth l = sizes (trees_of l.operands.now)

abbrev pub decreases-second_depth : goal.decreases-second_depth
decreases-second_depth l = sizes (trees_of l.operands.now)
