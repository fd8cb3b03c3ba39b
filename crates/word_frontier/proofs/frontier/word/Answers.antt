use Rattle.std.proofs.Common.{◌-◌, arith, map, length-set}
use Rattle.std.proofs.lemmas.List.{length-map}
use Rattle.word_frontier.specs.Slots.{step_of}
use Rattle.word_frontier.proofs.Words.{back-less, back-within, fill-back, fill-end, fill-left, fill-some, step-at}
use Rattle.word_frontier.proofs.frontier.word.Goals as goal

pub overflow_sub-left : goal.overflow_sub-left
overflow_sub-left c =
    let some = fill-some c.args.slots.now c.loop-at.at c.loop-at.left c.requires.back c.loop-at-test.true c.loop-at.invariant.there c.loop-at.invariant.left in
    omega (arith, some)

pub index_mut-requires : goal.index_mut-requires
index_mut-requires c =
    let some = fill-some c.args.slots.now c.loop-at.at c.loop-at.left c.requires.back c.loop-at-test.true c.loop-at.invariant.there c.loop-at.invariant.left in
    let fits = c.loop-at.invariant.fits in omega (arith, some, fits)

pub loop-at-smaller : goal.loop-at-smaller
loop-at-smaller c =
    let h = back-less _ c.loop-at.at _ c.requires.back c.loop-at-test.true (step-at c.args.slots.now c.loop-at.at _ c.loop-at.invariant.there) in h

pub loop-at-preserved : goal.loop-at-preserved
loop-at-preserved c =
    let at = step-at c.args.slots.now c.loop-at.at _ c.loop-at.invariant.there in
    let n = length-map c.args.slots.now step_of in
    let longer = fill-left (map step_of c.args.slots.now) c.loop-at.at c.loop-at.left _ c.requires.back c.loop-at-test.true at c.loop-at.invariant.left in record {
      there = let h = back-within _ c.loop-at.at _ c.requires.back c.loop-at-test.true at in omega (arith, h, n);
      left = omega (arith, longer);
      fits = let size = length-set c.loop-at.marks.items (c.loop-at.left - 1) c.mark.result in let fits = c.loop-at.invariant.fits in omega (arith, size, fits);
      back = fill-back _ c.loop-at.at c.loop-at.left _ _ c.loop-at.marks.items _ c.requires.back c.loop-at-test.true at c.loop-at.invariant.left c.loop-at.invariant.fits c.mark.ensures c.loop-at.invariant.back;
    }

pub returns : goal.returns
returns c = fill-end (map step_of c.args.slots.now) c.loop-at.at c.loop-at.left c.loop-at.marks.items _ c.loop-at-test.false c.loop-at.invariant.left c.loop-at.invariant.back
