use Rattle.std.proofs.Common.{◌≡◌, ◌+◌, ◌^◌, max, lit≤}
use Rattle.tp_spec.specs.WellFormed.{depth}
use Rattle.world_state.proofs.Bounds.{reach_small, sum_result, difference_result, sum_depth, difference_depth, sides_small}
use Rattle.world_state.proofs.expressions.+value_in.Goals as goal

pub sum-requires-clause-left_fits : goal.sum-requires-clause-left_fits
sum-requires-clause-left_fits t c =
    let deep : depth c.args.expr.now ≡ 1 + max (depth c.get.result.now) (depth c.get-in-Sum.result.now) = sum_depth c.args.expr.now c.in-Sum.left c.in-Sum.right c.get.result.now c.get-in-Sum.result.now c.in-Sum.is c.get.ensures c.get-in-Sum.ensures in
    let small = sides_small (depth c.args.expr.now) (depth c.get.result.now) (depth c.get-in-Sum.result.now) deep c.requires in
    reach_small (depth c.get.result.now) (2 ^ 126) c.value_in.result small.0 (lit≤ tt) c.value_in.ensures.bounded

pub sum-requires-clause-right_fits : goal.sum-requires-clause-right_fits
sum-requires-clause-right_fits t c =
    let deep : depth c.args.expr.now ≡ 1 + max (depth c.get.result.now) (depth c.get-in-Sum.result.now) = sum_depth c.args.expr.now c.in-Sum.left c.in-Sum.right c.get.result.now c.get-in-Sum.result.now c.in-Sum.is c.get.ensures c.get-in-Sum.ensures in
    let small = sides_small (depth c.args.expr.now) (depth c.get.result.now) (depth c.get-in-Sum.result.now) deep c.requires in
    reach_small (depth c.get-in-Sum.result.now) (2 ^ 95) c.value_in-in-Sum.result small.1 (lit≤ tt) c.value_in-in-Sum.ensures.bounded

pub returns-in-Sum-clause-bounded : goal.returns-in-Sum-clause-bounded
returns-in-Sum-clause-bounded t c =
    let deep : depth c.args.expr.now ≡ 1 + max (depth c.get.result.now) (depth c.get-in-Sum.result.now) = sum_depth c.args.expr.now c.in-Sum.left c.in-Sum.right c.get.result.now c.get-in-Sum.result.now c.in-Sum.is c.get.ensures c.get-in-Sum.ensures in
    sum_result (depth c.args.expr.now) (depth c.get.result.now) (depth c.get-in-Sum.result.now) c.value_in.result c.value_in-in-Sum.result c.sum.result deep c.sum.ensures c.value_in.ensures.bounded c.value_in-in-Sum.ensures.bounded

pub difference-requires-clause-left_fits : goal.difference-requires-clause-left_fits
difference-requires-clause-left_fits t c =
    let deep : depth c.args.expr.now ≡ 1 + max (depth c.get-in-Difference.result.now) (depth c.get-in-Difference-2.result.now) = difference_depth c.args.expr.now c.in-Difference.left c.in-Difference.right c.get-in-Difference.result.now c.get-in-Difference-2.result.now c.in-Difference.is c.get-in-Difference.ensures c.get-in-Difference-2.ensures in
    let small = sides_small (depth c.args.expr.now) (depth c.get-in-Difference.result.now) (depth c.get-in-Difference-2.result.now) deep c.requires in
    reach_small (depth c.get-in-Difference.result.now) (2 ^ 126) c.value_in-in-Difference.result small.0 (lit≤ tt) c.value_in-in-Difference.ensures.bounded

pub difference-requires-clause-right_fits : goal.difference-requires-clause-right_fits
difference-requires-clause-right_fits t c =
    let deep : depth c.args.expr.now ≡ 1 + max (depth c.get-in-Difference.result.now) (depth c.get-in-Difference-2.result.now) = difference_depth c.args.expr.now c.in-Difference.left c.in-Difference.right c.get-in-Difference.result.now c.get-in-Difference-2.result.now c.in-Difference.is c.get-in-Difference.ensures c.get-in-Difference-2.ensures in
    let small = sides_small (depth c.args.expr.now) (depth c.get-in-Difference.result.now) (depth c.get-in-Difference-2.result.now) deep c.requires in
    reach_small (depth c.get-in-Difference-2.result.now) (2 ^ 95) c.value_in-in-Difference-2.result small.1 (lit≤ tt) c.value_in-in-Difference-2.ensures.bounded

pub returns-in-Difference-clause-bounded : goal.returns-in-Difference-clause-bounded
returns-in-Difference-clause-bounded t c =
    let deep : depth c.args.expr.now ≡ 1 + max (depth c.get-in-Difference.result.now) (depth c.get-in-Difference-2.result.now) = difference_depth c.args.expr.now c.in-Difference.left c.in-Difference.right c.get-in-Difference.result.now c.get-in-Difference-2.result.now c.in-Difference.is c.get-in-Difference.ensures c.get-in-Difference-2.ensures in
    difference_result (depth c.args.expr.now) (depth c.get-in-Difference.result.now) (depth c.get-in-Difference-2.result.now) c.value_in-in-Difference.result c.value_in-in-Difference-2.result c.difference.result deep c.difference.ensures c.value_in-in-Difference.ensures.bounded c.value_in-in-Difference-2.ensures.bounded
