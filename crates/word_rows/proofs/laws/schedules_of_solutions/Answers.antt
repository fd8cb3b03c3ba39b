use Rattle.word_rows.proofs.Solutions.{greatest-is, least-is, none-is}
use Rattle.word_rows.proofs.laws.schedules_of_solutions.Goals as goal

pub returns-clause-greatest : goal.returns-clause-greatest
returns-clause-greatest c = greatest-is

pub returns-clause-least : goal.returns-clause-least
returns-clause-least c = least-is

pub returns-clause-none : goal.returns-clause-none
returns-clause-none c = none-is
