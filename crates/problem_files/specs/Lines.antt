-- The line that is printed of a fault.
use Rattle.std.specs.Prelude.{ℕ, List, ◌++◌, Option, Some, None, codes, decimal}
use Rattle.pddl_tokens.specs.declared.form.TextFault.{TextFault}
use Rattle.pddl_tokens.specs.declared.form.TextFault.TheVariants as texts
use Rattle.pddl_parts.specs.declared.faults.PddlFault.{PddlFault}
use Rattle.pddl_parts.specs.declared.faults.PddlFault.TheVariants as parts
use Rattle.grounder.specs.declared.fault.CountKind.{CountKind}
use Rattle.grounder.specs.declared.fault.CountKind.TheVariants.{Substitutions, Actions, Facts, Fluents, Timed}
use Rattle.problem_files.specs.declared.fault.PddlFileFault.{PddlFileFault}
use Rattle.problem_files.specs.declared.fault.PddlFileFault.TheVariants.{DomainText, Domain, ProblemText, Problem, TooMany, NoMemory}

-- words, a number and the end of a line
abbrev pub numbered : List ℕ → ℕ → List ℕ → List ℕ
numbered words number end = words ++ decimal number ++ end

-- the line of a fault of a text, behind these words; none where memory was refused
abbrev pub text_line : List ℕ → TextFault → Option (List ℕ)
text_line words (texts.NotUtf8 at) = Some (numbered words at (codes " NotUtf8\n"))
text_line words (texts.Unclosed at) = Some (numbered words at (codes " Unclosed\n"))
text_line words (texts.Unopened at) = Some (numbered words at (codes " Unopened\n"))
text_line words (texts.TooDeep at) = Some (numbered words at (codes " TooDeep\n"))
text_line words texts.NoMemory = None

-- the line of a fault of a domain or a problem
abbrev pub part_line : List ℕ → PddlFault → Option (List ℕ)
part_line words (parts.Shape at) = Some (numbered words at (codes " Shape\n"))
part_line words (parts.LeftOut at) = Some (numbered words at (codes " LeftOut\n"))
part_line words (parts.Unknown at) = Some (numbered words at (codes " Unknown\n"))
part_line words (parts.Arity at) = Some (numbered words at (codes " Arity\n"))
part_line words (parts.Twice at) = Some (numbered words at (codes " Twice\n"))
part_line words (parts.Cycle at) = Some (numbered words at (codes " Cycle\n"))
part_line words (parts.NotWhole at) = Some (numbered words at (codes " NotWhole\n"))
part_line words (parts.TooLarge at) = Some (numbered words at (codes " TooLarge\n"))
part_line words (parts.ClashingTimed at) = Some (numbered words at (codes " ClashingTimed\n"))
part_line words (parts.OtherDomain at) = Some (numbered words at (codes " OtherDomain\n"))
part_line words parts.NoMemory = None

-- the end of the line of a count past its limit
abbrev pub count_end : CountKind → List ℕ
count_end Substitutions = codes " TooManySubstitutions\n"
count_end Actions = codes " TooManyActions\n"
count_end Facts = codes " TooManyFacts\n"
count_end Fluents = codes " TooManyFluents\n"
count_end Timed = codes " TooManyTimed\n"

-- The line of a fault: the file that is refused, the place, which is the offset of the byte, or the
-- count that passes its limit, and the fault's name. None where memory was refused.
abbrev pub fault_line : PddlFileFault → Option (List ℕ)
fault_line (DomainText fault) = text_line (codes "refused domain ") fault
fault_line (Domain fault) = part_line (codes "refused domain ") fault
fault_line (ProblemText fault) = text_line (codes "refused problem ") fault
fault_line (Problem fault) = part_line (codes "refused problem ") fault
fault_line (TooMany kind count) =
    Some (numbered (codes "refused problem ") count (count_end kind))
fault_line NoMemory = None
