-- The ground texts as a grammar of lines, and what a reader may answer to one of them.
use Rattle.std.specs.Prelude.{◌≡◌, ℕ, List, Result, Ok, Err}
use Rattle.tp_spec.specs.WellFormed.{Ground, IsWellFormed}
use Rattle.tp_spec.specs.declared.fault.LineFault.{LineFault}
use Rattle.tp_spec.specs.declared.fault.LineFault.TheVariants.{NoMemory}
use Rattle.tp_spec.specs.declared.problem.Problem.{Problem}
use Rattle.ground_text.specs.Texts.{problem_text}

-- the text of a problem
abbrev pub IsProblemText : List ℕ → Type 0
IsProblemText text = (p : Ground) × IsWellFormed p × (text ≡ problem_text p)

-- What a reader may answer to the text of p: p itself, or want of memory.
abbrev pub GivesOnly : Result Problem LineFault → Ground → Type 0
GivesOnly (Ok q) p = q ≡ p
GivesOnly (Err fault) p = fault ≡ NoMemory
