use Rattle.std.proofs.Common.{◌∙◌, sym, arith}
use Rattle.commit_book.proofs.Starts.{passes}
use Rattle.commit_book.proofs.rule.first_free.Goals as goal

pub loop-i-preserved : goal.loop-i-preserved
loop-i-preserved c = λ p. passes p c.args.commits.now c.args.word.now c.loop-i.i _ (omega (arith, c.loop-i-test.true)) (sym c.free_start.ensures ∙ c.in_default.is) (c.loop-i.invariant p)
