use Rattle.std.proofs.Common.{◌+◌, ◌*◌, arith}
use Rattle.std.specs.Prelude.{bit_xor}
use Rattle.node_state.proofs.Granting.{row-on}
use Rattle.node_state.proofs.wants.Wants.settle_block.Goals as goal

pub loop-bit-init : goal.loop-bit-init
loop-bit-init c = (
  c.next_one-bit.ensures.inside,
  row-on c.args.problem.now c.args.block 0 c.next_one-bit.result (64 * c.args.block) (bit_xor c.fact_word.result c.fact_word-2.result) c.args.new.now.words c.args.old.now.words c.args.row.now (omega arith) c.next_one-bit.ensures.after c.next_one-bit.ensures.inside
      (λ i. bit_xor (c.fact_word.ensures i) (c.fact_word-2.ensures i)) c.next_one-bit.ensures.none c.requires.candidates,
)

pub loop-bit-preserved : goal.loop-bit-preserved
loop-bit-preserved c = (
  c.next_one-bit-in-loop-bit.ensures.inside,
  row-on c.args.problem.now c.args.block (c.loop-bit.bit + 1) c.next_one-bit-in-loop-bit.result (64 * c.args.block + c.loop-bit.bit + 1) (bit_xor c.fact_word.result c.fact_word-2.result) c.args.new.now.words c.args.old.now.words c.settle_at.new.row (omega arith)
      c.next_one-bit-in-loop-bit.ensures.after c.next_one-bit-in-loop-bit.ensures.inside (λ i. bit_xor (c.fact_word.ensures i) (c.fact_word-2.ensures i)) c.next_one-bit-in-loop-bit.ensures.none c.settle_at.ensures,
)
