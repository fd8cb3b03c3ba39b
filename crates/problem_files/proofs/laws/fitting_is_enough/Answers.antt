use Rattle.problem_files.proofs.Keeps.{keeps}
use Rattle.problem_files.proofs.laws.fitting_is_enough.Goals as goal

pub returns : goal.returns
returns c = keeps
