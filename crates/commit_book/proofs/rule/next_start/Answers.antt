use Rattle.commit_book.proofs.Closing.{next-some}
use Rattle.commit_book.proofs.rule.next_start.Goals as goal

pub returns-clause-some : goal.returns-clause-some
returns-clause-some c = next-some c.args.problem.now c.args.word.now c.args.commits.now c.requires.sound c.first_free.result c.first_free.ensures.some
