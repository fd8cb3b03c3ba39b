-- Which line of a text is the first that no text of a grammar has there. A grammar is the set of
-- its whole texts.
use Rattle.std.specs.Prelude.{ℕ, zero, suc, List}
use Rattle.tp_spec.specs.Lists.{BeginsWith}
use Rattle.line_text.specs.Lines.{Begins, joined}
use Rattle.tp_spec.specs.declared.fault.LineFault.{LineFault}
use Rattle.tp_spec.specs.declared.fault.LineFault.TheVariants.{Line, NoMemory}

-- The fault stands behind n lines: some text of the grammar begins with these, and none with one
-- line more. A last piece without a line feed is no line, so none begins with it; nor with the line
-- behind the last one.
pub record IsFaultBehind (IsWhole : List ℕ → Type 0) (n : ℕ) (text : List ℕ) : Type 0 where
  pub some : (whole : List ℕ) × IsWhole whole × Begins n whole text
  pub none : (whole : List ℕ) → IsWhole whole → Begins (suc n) whole text → ⊥

-- The number of the line of the fault, from 1.
abbrev pub Tells : (List ℕ → Type 0) → ℕ → List ℕ → Type 0
Tells IsWhole zero text = ⊥
Tells IsWhole (suc n) text = IsFaultBehind IsWhole n text

-- some text of the grammar begins with these lines
abbrev pub SomeBegins : (List ℕ → Type 0) → List (List ℕ) → Type 0
SomeBegins IsWhole taken = (whole : List ℕ) × IsWhole whole × BeginsWith whole (joined taken)

-- no text of the grammar begins with these lines
abbrev pub NoneBegins : (List ℕ → Type 0) → List (List ℕ) → Type 0
NoneBegins IsWhole taken = (whole : List ℕ) → IsWhole whole → BeginsWith whole (joined taken) → ⊥

-- What a fault that is told says of a text; want of memory says nothing.
abbrev pub TellsFault : (List ℕ → Type 0) → LineFault → List ℕ → Type 0
TellsFault IsWhole NoMemory text = Unit {0}
TellsFault IsWhole (Line n) text = Tells IsWhole n text
