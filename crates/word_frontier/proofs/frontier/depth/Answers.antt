use Rattle.std.proofs.Common.{arith, map}
use Rattle.std.proofs.lemmas.List.{length-map}
use Rattle.word_frontier.specs.Slots.{step_of}
use Rattle.word_frontier.proofs.Words.{back-less, back-shorter, back-shortest, back-within, step-at}
use Rattle.word_frontier.proofs.frontier.depth.Goals as goal

pub loop-at-smaller : goal.loop-at-smaller
loop-at-smaller c =
    let h = back-less _ c.loop-at.at _ c.requires.back c.loop-at-test.true (step-at c.args.slots.now c.loop-at.at _ c.loop-at.invariant.there) in h

pub loop-at-preserved : goal.loop-at-preserved
loop-at-preserved c =
    let at = step-at c.args.slots.now c.loop-at.at _ c.loop-at.invariant.there in
    let n = length-map c.args.slots.now step_of in
    let less = back-less _ c.loop-at.at _ c.requires.back c.loop-at-test.true at in record {
      there = let h = back-within _ c.loop-at.at _ c.requires.back c.loop-at-test.true at in omega (arith, h, n);
      few = let few = c.loop-at.invariant.few in omega (arith, less, few);
      far = back-shorter (map step_of c.args.slots.now) c.loop-at.at c.loop-at.depth _ _ c.requires.back c.loop-at-test.true at c.loop-at.invariant.far;
    }

pub returns : goal.returns
returns c = back-shortest (map step_of c.args.slots.now) c.loop-at.at c.loop-at.depth _ c.loop-at-test.false c.loop-at.invariant.far
