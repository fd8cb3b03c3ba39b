-- What `validate` prints.
use Rattle.std.specs.Prelude.{ℕ, List, ◌++◌, Option, Some, None, codes, decimal}
use Rattle.tp_spec.specs.declared.fault.LineFault.{LineFault}
use Rattle.tp_spec.specs.declared.fault.LineFault.TheVariants as ground_faults
use Rattle.line_text.specs.Written.{item_text}
use Rattle.plan_text.specs.declared.fault.PlanFault.{PlanFault}
use Rattle.plan_text.specs.declared.fault.PlanFault.TheVariants as plan_faults
use Rattle.plan_validator.specs.declared.verdict.Verdict.{Verdict}
use Rattle.plan_validator.specs.declared.verdict.Verdict.TheVariants.{Valid, TooLong, TwiceAt, LengthOut, Overlap, EndOff, Clash, Unmet, Overflow, Broken, GoalUnmet}

-- `valid`, or `invalid` with the name of the verdict and its numbers in order; ticks at every scale
abbrev pub verdict_text : Verdict → List ℕ
verdict_text Valid = codes "valid\n"
verdict_text (TooLong acts) = codes "invalid TooLong " ++ decimal acts ++ codes "\n"
verdict_text (TwiceAt start action) =
    codes "invalid TwiceAt " ++ decimal start ++ codes " " ++ decimal action ++ codes "\n"
verdict_text (LengthOut start action) =
    codes "invalid LengthOut " ++ decimal start ++ codes " " ++ decimal action ++ codes "\n"
verdict_text (Overlap start action) =
    codes "invalid Overlap " ++ decimal start ++ codes " " ++ decimal action ++ codes "\n"
verdict_text (EndOff end) = codes "invalid EndOff " ++ decimal end ++ codes "\n"
verdict_text (Clash tick a b) =
    codes "invalid Clash " ++ decimal tick ++ codes " " ++ item_text a ++ codes " " ++ item_text b
    ++ codes "\n"
verdict_text (Unmet tick item) =
    codes "invalid Unmet " ++ decimal tick ++ codes " " ++ item_text item ++ codes "\n"
verdict_text (Overflow tick fluent) =
    codes "invalid Overflow " ++ decimal tick ++ codes " " ++ decimal fluent ++ codes "\n"
verdict_text (Broken tick action) =
    codes "invalid Broken " ++ decimal tick ++ codes " " ++ decimal action ++ codes "\n"
verdict_text (GoalUnmet part) = codes "invalid GoalUnmet " ++ decimal part ++ codes "\n"

-- the line for a ground text that is refused; none where memory is
abbrev pub ground_line : LineFault → Option (List ℕ)
ground_line (ground_faults.Line number) =
    Some (codes "refused ground " ++ decimal number ++ codes " Line\n")
ground_line ground_faults.NoMemory = None

-- the line for a plan file that is refused; none where memory is
abbrev pub plan_line : PlanFault → Option (List ℕ)
plan_line (plan_faults.Shape line) =
    Some (codes "refused plan " ++ decimal line ++ codes " Shape\n")
plan_line (plan_faults.UnknownAction line) =
    Some (codes "refused plan " ++ decimal line ++ codes " UnknownAction\n")
plan_line (plan_faults.NotWhole line) =
    Some (codes "refused plan " ++ decimal line ++ codes " NotWhole\n")
plan_line (plan_faults.TooLarge line) =
    Some (codes "refused plan " ++ decimal line ++ codes " TooLarge\n")
plan_line plan_faults.NoMemory = None
