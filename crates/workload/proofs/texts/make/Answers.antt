use Rattle.std.proofs.Common.{◌≡◌, ◌≤◌, List, ℕ, length, subst, sym}
use Rattle.workload.specs.Domain.{domain_text}
use Rattle.workload.specs.Texts.{problem_text}
use Rattle.workload.proofs.Lengths.{domain_len, problem_len}
use Rattle.workload.proofs.texts.make.Goals as goal

short_of : (text other : List ℕ) → text ≡ other → length other ≤ 2048 → length text ≤ 2048
short_of text other e short = subst (λ (y : List ℕ). length y ≤ 2048) (sym e) short

pub returns-clause-short : goal.returns-clause-short
returns-clause-short c = (
  short_of c.in_ok-domain.domain.items domain_text c.in_ok-domain.ensures domain_len,
  short_of c.in_ok-problem.problem.items (problem_text c.args.seed) c.in_ok-problem.ensures (problem_len c.args.seed),
)
