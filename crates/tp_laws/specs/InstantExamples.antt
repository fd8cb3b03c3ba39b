-- A small problem of one instant action and two timed items, against which the deadlines of words
-- of instants are checked.
use Rattle.std.specs.Prelude.{ℕ, List, [], ◌∷◌, Option, codes}
use Rattle.tp_spec.specs.WellFormed.{Ground}
use Rattle.tp_spec.specs.declared.plan.Limits.{Limits}
use Rattle.tp_spec.specs.declared.plan.Mark.{Mark}
use Rattle.tp_spec.specs.declared.problem.Effect.TheVariants.{Add}
use Rattle.tp_laws.specs.Examples.{instant, truth}
use Rattle.tp_laws.specs.Instants.{outlook_of, deadline_with}

-- a button that rings, and two facts that come at ticks 3 and 7
abbrev pub bell : Ground
bell = record {
  scale = 1;
  facts = codes "rung" ∷ codes "six" ∷ codes "ten" ∷ [];
  fluents = [];
  actions = instant (codes "ring") [] (Add 0 ∷ []) ∷ [];
  timed = record { tick = 3; adds = 1 ∷ []; deletes = [] }
      ∷ record { tick = 7; adds = 2 ∷ []; deletes = [] } ∷ [];
  init = [];
  values = [];
  goal = truth 0 ∷ [];
}

-- at most two acts, up to a horizon
abbrev pub up_to : ℕ → Limits
up_to horizon = record { actions = 2; horizon = horizon; lead = 0; nodes = 1 }

-- the deadline of a word with one mark more, by the word's
abbrev pub with_mark : ℕ → List Mark → ℕ → Mark → Option ℕ
with_mark horizon w d a = deadline_with bell (up_to horizon) (outlook_of bell w) d a
