use Rattle.std.proofs.Common.{◌≡◌, ◌∙◌, sym, ap, length, ◌*◌, not, ◌||◌}
use Rattle.std.specs.List.{list_all}
use Rattle.tp_spec.specs.States.{holds}
use Rattle.tp_spec.specs.Items.{invariants}
use Rattle.world_state.specs.Rows.{is_in_row}
use Rattle.world_state.specs.View.{meaning}
use Rattle.node_state.proofs.Granting.{blocks-cover}
use Rattle.node_state.proofs.Ranges.{all-block, all-cut, block-broken, kept-behind}
use Rattle.node_state.proofs.asked.keep_invariants.Goals as goal

pub returns-then-not-is_block_kept : goal.returns-then-not-is_block_kept
returns-then-not-is_block_kept c =
    sym (block-broken (λ a. not (is_in_row c.args.running.now a) || list_all (holds (meaning c.args.state.now)) (invariants c.args.problem.now a)) (length c.args.problem.now.actions) c.loop-block.block
    (kept-behind c.args.problem.now c.args.running.now (meaning c.args.state.now)) (sym c.if-not-is_block_kept.ensures))

pub loop-block-preserved : goal.loop-block-preserved
loop-block-preserved c = all-block (λ a. not (is_in_row c.args.running.now a) || list_all (holds (meaning c.args.state.now)) (invariants c.args.problem.now a)) c.loop-block.block c.loop-block.invariant (sym c.if-not-is_block_kept.ensures)

pub returns : goal.returns
returns c =
    let same : length c.as_slice.result.now ≡ length c.args.problem.now.actions = ap length (c.as_slice.ensures ∙ ap (λ q. q.actions) c.problem.view_is) in
    sym (all-cut (λ a. not (is_in_row c.args.running.now a) || list_all (holds (meaning c.args.state.now)) (invariants c.args.problem.now a)) (length c.args.problem.now.actions) (64 * c.loop-block.block)
    (blocks-cover (length c.args.problem.now.actions) (length c.as_slice.result.now) c.div_ceil-block-end.result c.loop-block.block same c.div_ceil-block-end.ensures c.loop-block-test.false) c.loop-block.invariant)
