-- The rank of a word is at most the number of goal parts, so there is a queue for each child's.
use Rattle.std.proofs.Common.{ℕ, ◌<◌, ◌≤◌, Bool, true, false, not, cond, List, [], ◌∷◌, ◌++◌, length, count_by, All, slice_index_or, arith}
use Rattle.std.proofs.lemmas.List.Sums.{count_by-le-length}
use Rattle.tp_spec.specs.declared.plan.Limits.{Limits}
use Rattle.tp_spec.specs.declared.plan.Mark.{Mark}
use Rattle.tp_spec.specs.declared.plan.Timed.{Timed}
use Rattle.tp_spec.specs.declared.problem.Problem.{Problem}
use Rattle.tp_spec.specs.Items.{has_after}
use Rattle.tp_spec.specs.States.{holds}
use Rattle.tp_spec.specs.Words.{Progress, progress, state_past}
use Rattle.tp_spec.specs.Machine.{rank}
use Rattle.word_frontier.specs.declared.child.Child.{Child}
use Rattle.machine_run.specs.Children.{IsChild}

pub rank-few : (p : Problem) (w : List Mark) → rank p w ≤ length p.goal
unfolding rank
rank-few p w = by_test (has_after p c.before c.group) where
  c : Progress
  c = progress p w

  by_test : (b : Bool) → cond b (count_by (λ g. not (holds (state_past p c) g)) p.goal) (length p.goal) ≤ length p.goal
  by_test true = count_by-le-length (λ g. not (holds (state_past p c) g)) p.goal
  by_test false = omega arith

-- so are the ranks of children
pub ranks-below : (p : Problem) (l : Limits) (commits : List Timed) (w : List Mark) (cs : List Child) (n : ℕ) → length p.goal < n → All (IsChild p l commits w) cs → All (λ c. c.rank < n) cs
ranks-below p l commits w cs n h each k d below =
    let c : Child = slice_index_or cs k d in
    omega (arith, (each k d below).ranked, rank-few p (w ++ c.mark ∷ []), h)
