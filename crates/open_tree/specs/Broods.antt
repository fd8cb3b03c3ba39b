-- The children of a word, told under one list of commitments, as they are under another.
use Rattle.std.specs.Prelude.{◌≡◌, ◌⊎◌, List, [], ◌∷◌, ◌++◌, Option, Some, None}
use Rattle.tp_spec.specs.declared.plan.Limits.{Limits}
use Rattle.tp_spec.specs.declared.plan.Mark.{Mark}
use Rattle.tp_spec.specs.declared.plan.Timed.{Timed}
use Rattle.tp_spec.specs.declared.problem.Problem.{Problem}
use Rattle.tp_spec.specs.Schedules.{Live}
use Rattle.tp_laws.specs.Clocks.{IsDeadline}
use Rattle.word_frontier.specs.declared.child.Child.{Child}

-- the same mark and rank, and the deadline under these commitments
pub record IsRenewed (p : Problem) (l : Limits) (commits : List Timed) (w : List Mark)
    (old new : Child) : Type 0 where
  pub mark : new.mark ≡ old.mark
  pub rank : new.rank ≡ old.rank
  pub timely : IsDeadline p l commits (w ++ old.mark ∷ []) new.deadline

-- a child with its deadline under these commitments, or none where its word is dead at every clock
abbrev pub Renews : Problem → Limits → List Timed → List Mark → Child → Option Child → Type 0
Renews p l commits w old None = ¬ (Live p l 0 commits (w ++ old.mark ∷ []))
Renews p l commits w old (Some new) = IsRenewed p l commits w old new

-- the children that are not dead at every clock, in order, with their deadlines
abbrev pub AreRenewed : Problem → Limits → List Timed → List Mark → List Child → List Child → Type 0
AreRenewed p l commits w [] new = new ≡ []
AreRenewed p l commits w (x ∷ old) new =
    (Renews p l commits w x None × AreRenewed p l commits w old new)
    ⊎ ((y : Child) × (rest : List Child) × (new ≡ y ∷ rest) × Renews p l commits w x (Some y)
    × AreRenewed p l commits w old rest)
