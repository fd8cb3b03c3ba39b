-- What a ground text is read as: a problem, or none.
use Rattle.std.specs.Prelude.{◌≡◌, ◌≢◌, ℕ, List, Some}
use Rattle.tp_spec.specs.declared.problem.Problem.{Problem}
use Rattle.tp_spec.specs.WellFormed.{IsWellFormed}
use Rattle.line_text.specs.FirstFault.{TellsFault}
use Rattle.ground_text.specs.Grammar.{IsProblemText}
use Rattle.ground_text.specs.Texts.{problem_text}
use Rattle.tp_spec.specs.declared.fault.LineFault.{LineFault}
use Rattle.tp_spec.specs.declared.fault.LineFault.TheVariants as line_faults
use Rattle.run_cli.specs.VerdictTexts.{ground_line}

-- a text is this well-formed problem's, and no other's
pub record IsTextOf (text : List ℕ) (p : Problem) : Type 0 where
  pub is : text ≡ problem_text p
  pub formed : IsWellFormed p
  pub only : (q : Problem) → IsWellFormed q → text ≡ problem_text q → q ≡ p

-- a text is no problem's, and this is its fault; nothing is said where memory was refused
pub record IsFaultyText (text : List ℕ) (fault : LineFault) : Type 0 where
  pub none : (p : Problem) → IsWellFormed p → text ≡ problem_text p → fault ≡ line_faults.NoMemory
  pub tells : TellsFault IsProblemText fault text

-- a text is no problem's, and the line tells its fault
pub record RefusesGround (text line : List ℕ) : Type 0 where
  pub fault : LineFault
  pub none : (p : Problem) → IsWellFormed p → text ≢ problem_text p
  pub tells : TellsFault IsProblemText fault text
  pub line_is : ground_line fault ≡ Some line
