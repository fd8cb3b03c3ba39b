use Rattle.pddl_problem.proofs.Texts.{same_words}
use Rattle.pddl_problem.proofs.elements.texts_are_apart.Goals as goal

pub returns-clause-words : goal.returns-clause-words
returns-clause-words c = same_words
