use Rattle.std.proofs.Common.{◌∙◌, sym, arith}
use Rattle.commit_book.proofs.Held.{held-is, goes-on, gives-up, all-held}
use Rattle.commit_book.proofs.rule.are_held.Goals as goal

pub returns-then-count_starts-count_commits : goal.returns-then-count_starts-count_commits
returns-then-count_starts-count_commits c =
    gives-up c.args.word.now c.args.commits.now c.loop-i.i c.count_starts.result c.count_commits.result _ _ (omega (arith, c.loop-i-test.true)) c.count_starts.ensures c.count_commits.ensures (omega (arith, c.if-count_starts-count_commits.true)) c.loop-i.invariant
    ∙ sym (held-is c.args.problem.now c.args.word.now c.args.commits.now)

pub loop-i-preserved : goal.loop-i-preserved
loop-i-preserved c =
    goes-on c.args.word.now c.args.commits.now c.loop-i.i c.count_starts.result c.count_commits.result _ _ (omega (arith, c.loop-i-test.true)) c.count_starts.ensures c.count_commits.ensures (omega (arith, c.if-count_starts-count_commits.false)) c.loop-i.invariant

pub returns : goal.returns
returns c = all-held c.args.word.now c.args.commits.now c.loop-i.i _ (omega (arith, c.loop-i-test.false)) c.loop-i.invariant ∙ sym (held-is c.args.problem.now c.args.word.now c.args.commits.now)
