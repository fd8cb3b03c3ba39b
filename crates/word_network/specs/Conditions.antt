-- What the calls ask of limits and commitments.
use Rattle.std.specs.Prelude.{◌≤◌, ◌^◌, nat_le, List, IsTrue}
use Rattle.std.specs.List.{list_all}
use Rattle.tp_spec.specs.declared.plan.Limits.{Limits}
use Rattle.tp_spec.specs.declared.plan.Timed.{Timed}
use Rattle.tp_spec.specs.declared.problem.Problem.{Problem}
use Rattle.tp_spec.specs.Courses.{in_range}
use Rattle.tp_laws.specs.Plans.{AreInTurn}

-- limits that the words of a command line may give
pub record AreLimits (l : Limits) : Type 0 where
  pub actions : l.actions ≤ 64
  pub horizon : l.horizon ≤ 2 ^ 40
  pub lead : l.lead ≤ 1000
  pub nodes : l.nodes ≤ 200000

-- Commitments of a problem: those of one action come in order of their starts, no start is past the
-- greatest horizon, and each length is in its action's range.
pub record AreCommits (p : Problem) (commits : List Timed) : Type 0 where
  pub in_turn : AreInTurn commits
  pub early : IsTrue (list_all (λ c. nat_le c.start (2 ^ 40)) commits)
  pub ranged : IsTrue (list_all (λ c. in_range p c.action c.length) commits)
