use Rattle.pddl_parts.proofs.Least.{first_least}
use Rattle.pddl_parts.proofs.first.first_is_least.Goals as goal

pub returns-clause-some : goal.returns-clause-some
returns-clause-some c = first_least
