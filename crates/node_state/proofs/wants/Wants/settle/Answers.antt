use Rattle.std.proofs.Common.{◌≡◌, ◌∙◌, ap, length, ◌*◌}
use Rattle.world_state.specs.View.{meaning}
use Rattle.node_state.proofs.Granting.{row-done, blocks-cover}
use Rattle.node_state.proofs.wants.Wants.settle.Goals as goal

pub returns : goal.returns
returns c =
    let same : length c.as_slice.result.now ≡ length c.args.problem.now.facts = ap length (c.as_slice.ensures ∙ ap (λ q. q.facts) c.problem.view_is) in
    row-done c.args.problem.now (64 * c.loop-block.block) (meaning c.args.new.now).fact (meaning c.args.old.now).fact c.loop-block.row
    (blocks-cover (length c.args.problem.now.facts) (length c.as_slice.result.now) c.div_ceil-block-end.result c.loop-block.block same c.div_ceil-block-end.ensures c.loop-block-test.false) c.loop-block.invariant
