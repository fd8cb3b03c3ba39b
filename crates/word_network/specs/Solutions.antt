-- Ticks of a word's variables that are its greatest, or its least.
use Rattle.std.specs.Prelude.{ℕ, ◌≡◌, List, length, slice_index}
use Rattle.tp_spec.specs.declared.plan.Limits.{Limits}
use Rattle.tp_spec.specs.declared.plan.Mark.{Mark}
use Rattle.tp_spec.specs.declared.plan.Timed.{Timed}
use Rattle.tp_spec.specs.declared.problem.Problem.{Problem}
use Rattle.word_rows.specs.Laws.{HasRoom, IsLast, IsFirst}
use Rattle.word_rows.specs.Rows.{variables}
use Rattle.word_network.specs.declared.solving.Solved.{Solved}
use Rattle.word_network.specs.Parts.{ArePartsOf}

pub record AreLastOf (p : Problem) (l : Limits) (now : ℕ) (commits : List Timed) (w : List Mark)
    (s : Solved) : Type 0 where
  pub made : ArePartsOf p w s.parts
  pub room : HasRoom p l commits w
  pub count : length s.ticks.items ≡ variables p w
  pub is : IsLast p l now commits w (slice_index s.ticks.items)

pub record AreFirstOf (p : Problem) (l : Limits) (now : ℕ) (commits : List Timed) (w : List Mark)
    (s : Solved) : Type 0 where
  pub made : ArePartsOf p w s.parts
  pub room : HasRoom p l commits w
  pub count : length s.ticks.items ≡ variables p w
  pub is : IsFirst p l now commits w (slice_index s.ticks.items)
