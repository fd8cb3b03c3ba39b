use Rattle.problem_files.proofs.Once.{one_problem, one_fault, no_fault}
use Rattle.problem_files.proofs.laws.answers_are_one.Goals as goal

pub returns-clause-problem : goal.returns-clause-problem
returns-clause-problem c = one_problem

pub returns-clause-fault : goal.returns-clause-fault
returns-clause-fault c = one_fault

pub returns-clause-apart : goal.returns-clause-apart
returns-clause-apart c = no_fault
