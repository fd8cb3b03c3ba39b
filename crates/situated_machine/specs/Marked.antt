-- What may be asked of a word at a clock and under commitments.
use Rattle.std.specs.Prelude.{◌≡◌, ◌+◌, ◌<◌, ◌≤◌, ◌^◌, ℕ, List, [], ◌∷◌, ◌++◌, length, All}
use Rattle.tp_spec.specs.declared.plan.Limits.{Limits}
use Rattle.tp_spec.specs.declared.plan.Mark.{Mark}
use Rattle.tp_spec.specs.declared.plan.Plan.{Plan}
use Rattle.tp_spec.specs.declared.plan.Timed.{Timed}
use Rattle.tp_spec.specs.declared.problem.Problem.{Problem}
use Rattle.tp_spec.specs.Courses.{Possible}
use Rattle.tp_spec.specs.Schedules.{Live}
use Rattle.tp_spec.specs.WellFormed.{IsWellFormed}
use Rattle.tp_spec.specs.Words.{Sound, spell}
use Rattle.tp_laws.specs.Clocks.{IsDeadline}
use Rattle.machine_run.specs.Children.{IsChild, marks_of}
use Rattle.search_workers.specs.Sprouting.{AreThose}
use Rattle.situated_machine.specs.Keeping.{ReplayView}
use Rattle.word_frontier.specs.declared.child.Child.{Child}
use Rattle.word_network.specs.Conditions.{AreLimits, AreCommits}

-- a word under a problem and limits, at a clock and under commitments
pub record Sight : Type 0 where
  pub problem : Problem
  pub limits : Limits
  pub now : ℕ
  pub commits : List Timed
  pub word : List Mark

-- a replay's word
abbrev pub sight_of : ReplayView → List Mark → Sight
sight_of r w = record {
  problem = r.problem;
  limits = r.limits;
  now = r.machine.now;
  commits = r.machine.commits;
  word = w;
}

-- The problem is well formed, limits and commitments are in range, and the clock is at most one
-- tick past the horizon. The word is sound and not too long.
pub record IsInSight (s : Sight) : Type 0 where
  pub formed : IsWellFormed s.problem
  pub limited : AreLimits s.limits
  pub commits : AreCommits s.problem s.commits
  pub clock : s.now ≤ s.limits.horizon + 1
  pub sound : Sound s.problem s.word
  pub short : length s.word + 1 < 2 ^ 31

-- a mark makes the word a live word
abbrev pub IsLiveAfter : Sight → Mark → Type 0
IsLiveAfter s a = Live s.problem s.limits s.now s.commits (s.word ++ a ∷ [])

-- the last clock at which the word with a mark behind it is live
abbrev pub IsDeadlineAfter : Sight → Mark → ℕ → Type 0
IsDeadlineAfter s a deadline = IsDeadline s.problem s.limits s.commits (s.word ++ a ∷ []) deadline

-- children with exactly those of some marks that make the word a live word, and with the ranks and
-- the deadlines of these words
pub record AreLiveAmong (s : Sight) (marks : List Mark) (children : List Child) : Type 0 where
  pub those : AreThose (IsLiveAfter s) marks (marks_of children)
  pub each : All (IsChild s.problem s.limits s.commits s.word) children

-- no possible plan has this word
abbrev pub HasNoPlan : Sight → Type 0
HasNoPlan s = (plan : Plan) → Possible s.problem s.limits s.now s.commits plan
    → ¬ (spell s.problem plan ≡ s.word)
