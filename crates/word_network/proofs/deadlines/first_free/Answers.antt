use Rattle.std.proofs.Common.{arith, None}
use Rattle.word_network.proofs.LastClocks.{passes, stops}
use Rattle.word_network.proofs.deadlines.first_free.Goals as goal

pub returns-then-count_by-count_commits : goal.returns-then-count_by-count_commits
returns-then-count_by-count_commits c =
    stops c.args.commits.now c.args.acts.now c.loop-i.i (record { action = 0; opens = 0; closes = None }) c.count_by.result c.count_commits.result _ (omega (arith, c.loop-i-test.true)) c.count_by.ensures c.count_commits.ensures (omega (arith, c.if-count_by-count_commits.true)) c.loop-i.invariant

pub loop-i-preserved : goal.loop-i-preserved
loop-i-preserved c =
    passes c.args.commits.now c.args.acts.now c.loop-i.i (record { action = 0; opens = 0; closes = None }) c.count_by.result c.count_commits.result _ (omega (arith, c.loop-i-test.true)) c.count_by.ensures c.count_commits.ensures (omega (arith, c.if-count_by-count_commits.false)) c.loop-i.invariant
