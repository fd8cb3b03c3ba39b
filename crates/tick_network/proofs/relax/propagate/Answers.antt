use Rattle.std.proofs.Common.{map, length, arith, add-one}
use Rattle.std.proofs.Math.Nat.{mul-suc}
use Rattle.tick_network.specs.Relaxing.{turned_row}
use Rattle.tick_network.proofs.Looks.{looked-more, looked-same, looked-empty, looked-over, kept-same, one_look}
use Rattle.tick_network.proofs.Mirrors.{turned-ends}
use Rattle.tick_network.proofs.relax.propagate.Goals as goal

pub returns-in-Same-clause-propagates : goal.returns-in-Same-clause-propagates
returns-in-Same-clause-propagates g c = looked-same (map (turned_row c.args.mirrored) c.args.rows.now) c.args.low.now c.args.at.now c.loop.at c.relax_all.new.at c.loop.counter c.loop.invariant.looked c.in-Same.ensures.relaxes

pub returns-in-Same-clause-kept : goal.returns-in-Same-clause-kept
returns-in-Same-clause-kept g c keeps = one_look c.args.steps.now c.loop.steps c.relax_all.new.steps (length c.args.rows.now) c.loop.counter c.loop.invariant.at_most (c.loop.invariant.kept keeps) c.in-Same.ensures.at_most

pub returns-in-Empty-clause-propagates : goal.returns-in-Empty-clause-propagates
returns-in-Empty-clause-propagates g c = looked-empty (map (turned_row c.args.mirrored) c.args.rows.now) c.args.low.now c.args.at.now c.loop.at c.loop.counter c.loop.auto.at c.loop.invariant.looked c.in-Empty.ensures.relaxes

pub returns-in-Empty-clause-kept : goal.returns-in-Empty-clause-kept
returns-in-Empty-clause-kept g c keeps = one_look c.args.steps.now c.loop.steps c.relax_all.new.steps (length c.args.rows.now) c.loop.counter c.loop.invariant.at_most (c.loop.invariant.kept keeps) c.in-Empty.ensures.at_most

pub loop-preserved : goal.loop-preserved
loop-preserved g c = record {
  rises = omega (arith, c.in-Lowered.ensures.rises, c.loop.invariant.rises);
  at_most = rw (add-one, mul-suc) (omega (arith, c.in-Lowered.ensures.at_most, c.loop.invariant.at_most));
  looked = looked-more (map (turned_row c.args.mirrored) c.args.rows.now) c.args.low.now c.args.at.now c.loop.at c.relax_all.new.at c.loop.counter (omega arith) (omega arith) (omega arith) (turned-ends c.args.mirrored (length c.args.low.now) c.args.rows.now c.requires.ends) c.requires.ticks c.loop.invariant.looked c.in-Lowered.ensures.relaxes.0 c.in-Lowered.ensures.relaxes.1;
  kept = λ keeps. absurd (kept-same (map (turned_row c.args.mirrored) c.args.rows.now) c.args.low.now c.args.at.now c.loop.at c.relax_all.new.at c.loop.counter (omega arith) (omega arith) c.loop.invariant.looked c.in-Lowered.ensures.relaxes.0 c.in-Lowered.ensures.relaxes.1 keeps);
}

pub returns-clause-propagates : goal.returns-clause-propagates
returns-clause-propagates g c = looked-over (map (turned_row c.args.mirrored) c.args.rows.now) c.args.low.now c.args.at.now c.loop.at c.loop.counter c.requires.lows (omega arith) c.loop.invariant.looked

pub returns-clause-kept : goal.returns-clause-kept
returns-clause-kept g c keeps = absurd (omega (arith, c.loop.invariant.kept keeps))
