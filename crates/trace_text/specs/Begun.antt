-- A text whose first line is that of a trace.
use Rattle.std.specs.Prelude.{◌≡◌, ℕ, List, ◌∷◌, ◌++◌, IsTrue}
use Rattle.line_text.specs.Lines.{is_line}
use Rattle.trace_text.specs.Traces.{header_line}
use Rattle.trace_text.specs.Grammar.{is_wide}
use Rattle.trace_text.specs.Cuts.{IsRead}

pub record BeginsTrace (text : List ℕ) (count : ℕ) (behind : List ℕ) : Type 0 where
  pub first : List ℕ
  pub line : IsTrue (is_line first)
  pub parts : text ≡ first ++ 10 ∷ behind
  pub read : IsRead header_line is_wide first count
