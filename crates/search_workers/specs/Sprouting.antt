-- What a worker may be asked to sprout, and what it keeps of the marks that may follow a word.
use Rattle.std.specs.Prelude.{◌≡◌, ◌⊎◌, ◌+◌, ◌<◌, ◌≤◌, ◌^◌, List, [], ◌∷◌, ◌++◌, length, All}
use Rattle.tp_spec.specs.declared.plan.Mark.{Mark}
use Rattle.tp_spec.specs.declared.problem.Problem.{Problem}
use Rattle.tp_spec.specs.Schedules.{Live}
use Rattle.tp_spec.specs.WellFormed.{IsWellFormed}
use Rattle.tp_spec.specs.Words.{Sound}
use Rattle.tp_laws.specs.Clocks.{IsDeadline}
use Rattle.machine_run.specs.Children.{IsChild, marks_of}
use Rattle.open_tree.specs.Views.{JobView}
use Rattle.word_frontier.specs.declared.child.Child.{Child}
use Rattle.word_network.specs.Conditions.{AreLimits, AreCommits}

-- A job of this well-formed problem, whose limits and commitments are in range and whose clock is
-- at most one tick past the horizon. Its word is sound and not too long, and its deadline is the
-- word's.
pub record CanSprout (p : Problem) (j : JobView) : Type 0 where
  pub formed : IsWellFormed p
  pub problem : j.problem ≡ p
  pub limited : AreLimits j.limits
  pub commits : AreCommits p j.commits
  pub clock : j.clock ≤ j.limits.horizon + 1
  pub sound : Sound p j.node.word
  pub timely : IsDeadline p j.limits j.commits j.node.word j.node.deadline
  pub short : length j.node.word + 1 < 2 ^ 31

-- the members of a list that have a property, in order
abbrev pub AreThose : {A : Type 0} → (A → Type 0) → List A → List A → Type 0
AreThose P [] ys = ys ≡ []
AreThose P (x ∷ xs) [] = (P x → ⊥) × AreThose P xs []
AreThose P (x ∷ xs) (y ∷ ys) =
    (P x × (x ≡ y) × AreThose P xs ys) ⊎ ((P x → ⊥) × AreThose P xs (y ∷ ys))

-- a mark makes a job's word a live word under its view
abbrev pub IsLiveMark : Problem → JobView → Mark → Type 0
IsLiveMark p j a = Live p j.limits j.clock j.commits (j.node.word ++ a ∷ [])

-- children with exactly those of some marks that make a job's word a live word, and with the ranks
-- and the deadlines of these words
pub record AreKept (p : Problem) (j : JobView) (marks : List Mark) (children : List Child) :
    Type 0 where
  pub those : AreThose (IsLiveMark p j) marks (marks_of children)
  pub each : All (IsChild p j.limits j.commits j.node.word) children
