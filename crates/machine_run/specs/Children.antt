-- The children of a word under a clock and commitments.
use Rattle.std.specs.Prelude.{◌≡◌, ℕ, false, List, [], ◌∷◌, ◌++◌, map, None, All}
use Rattle.tp_spec.specs.declared.plan.Limits.{Limits}
use Rattle.tp_spec.specs.declared.plan.Mark.{Mark}
use Rattle.tp_spec.specs.declared.plan.Timed.{Timed}
use Rattle.tp_spec.specs.declared.problem.Problem.{Problem}
use Rattle.tp_spec.specs.Machine.{Machine, AreLiveMarks, rank}
use Rattle.tp_laws.specs.Clocks.{IsDeadline}
use Rattle.word_frontier.specs.declared.child.Child.{Child}

-- A clock and commitments as a machine with nothing else: which marks are live after a word depends
-- on these two alone.
abbrev pub view_at : ℕ → List Timed → Machine
view_at now commits =
    record { now = now; commits = commits; nodes = []; made = 0; turn = None; over = false }

abbrev pub marks_of : List Child → List Mark
marks_of children = map (λ c. c.mark) children

-- the rank and the deadline that a child has are those of the word with its mark
pub record IsChild (p : Problem) (l : Limits) (commits : List Timed) (w : List Mark) (c : Child)
    : Type 0 where
  pub ranked : c.rank ≡ rank p (w ++ c.mark ∷ [])
  pub timely : IsDeadline p l commits (w ++ c.mark ∷ []) c.deadline

-- exactly the marks that make a word a live word at a clock and under commitments, in order, each
-- with the rank and the deadline of the longer word
pub record AreChildren (p : Problem) (l : Limits) (now : ℕ) (commits : List Timed)
    (w : List Mark) (children : List Child) : Type 0 where
  pub exact : AreLiveMarks p l (view_at now commits) w (marks_of children)
  pub each : All (IsChild p l commits w) children
