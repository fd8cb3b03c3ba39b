use Rattle.std.proofs.Common.{◌∙◌, sym, arith}
use Rattle.commit_book.proofs.Closing.{ends-now, ends-later}
use Rattle.commit_book.proofs.rule.first_end.Goals as goal

pub returns-then-ends : goal.returns-then-ends
returns-then-ends c = ends-now c.args.word.now c.args.action c.loop-i.i _ _ c.group_at.result (omega (arith, c.loop-i-test.true)) (sym c.ends.ensures ∙ c.if-ends.true) c.group_at.ensures c.loop-i.invariant

pub loop-i-preserved : goal.loop-i-preserved
loop-i-preserved c = ends-later c.args.word.now c.args.action c.loop-i.i _ _ (omega (arith, c.loop-i-test.true)) (sym c.ends.ensures ∙ c.if-ends.false) c.loop-i.invariant
