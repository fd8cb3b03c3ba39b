use Rattle.std.proofs.Common.{◌≡◌, ◌∙◌, ◌+◌, ap, length}
use Rattle.node_state.specs.Readings.{progress_of}
use Rattle.node_state.specs.Judges.{item_of}
use Rattle.node_state.proofs.Granting.{blocks-cover}
use Rattle.node_state.proofs.Growing.{grew-block, grew-cut, grew-none, grew-over}
use Rattle.node_state.proofs.judge.Judge.offer_row.Goals as goal

pub loop-block-init : goal.loop-block-init
loop-block-init c = (
  c.next_word-block.ensures.inside,
  grew-over c.args.self.now (progress_of c.args.reading.now) c.args.fresh c.args.found.now c.args.found.now c.args.starts c.args.row.now 0 c.next_word-block.result c.requires.covers c.next_word-block.ensures.after c.next_word-block.ensures.none
      (grew-none c.args.self.now (progress_of c.args.reading.now) c.args.fresh c.args.found.now),
)

pub loop-block-preserved : goal.loop-block-preserved
loop-block-preserved c = (
  c.next_word-block-in-loop-block.ensures.inside,
  grew-over c.args.self.now (progress_of c.args.reading.now) c.args.fresh c.args.found.now c.offer_block.new.found c.args.starts c.args.row.now (c.loop-block.block + 1) c.next_word-block-in-loop-block.result c.requires.covers c.next_word-block-in-loop-block.ensures.after
      c.next_word-block-in-loop-block.ensures.none
      (grew-block c.args.self.now (progress_of c.args.reading.now) c.args.fresh c.args.found.now c.loop-block.found c.offer_block.new.found (item_of c.args.starts) c.loop-block.block c.loop-block.invariant.1 c.in_ok-offer_block.ensures),
)

pub returns : goal.returns
returns c =
    let same : length c.as_slice.result.now ≡ length c.args.self.now.actions = ap length (c.as_slice.ensures ∙ ap (λ q. q.actions) c.problem.view_is ∙ ap (λ q. q.actions) c.self.view_is) in
    grew-cut c.args.self.now (progress_of c.args.reading.now) c.args.fresh c.args.found.now c.loop-block.found c.args.starts c.loop-block.block c.requires.reading.inside
    (blocks-cover (length c.args.self.now.actions) (length c.as_slice.result.now) c.div_ceil-blocks.result c.loop-block.block same c.div_ceil-blocks.ensures c.loop-block-test.false) c.loop-block.invariant.1
