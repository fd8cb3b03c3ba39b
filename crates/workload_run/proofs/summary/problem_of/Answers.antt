use Rattle.std.proofs.Common.{ap, subst, ◌≡◌, List, ℕ}
use Rattle.problem_files.specs.Answers.{IsPddlProblem}
use Rattle.workload_run.proofs.Turning.{of-made}
use Rattle.workload_run.proofs.summary.problem_of.Goals as goal

pub returns-in-Ok : goal.returns-in-Ok
returns-in-Ok c = of-made c.args.seed c.in_ok-domain.domain.items c.in_ok-domain.problem.items c.in-Ok.problem c.in_ok-domain.ensures.texts
    (subst (λ xs. IsPddlProblem xs c.in_ok-domain.problem.items 1 c.in-Ok.problem) c.deref.ensures.value
    (subst (λ xs. IsPddlProblem c.deref.result.now xs 1 c.in-Ok.problem) c.deref-2.ensures.value c.in-Ok.ensures.problem))
