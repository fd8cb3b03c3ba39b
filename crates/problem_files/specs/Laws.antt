-- Two texts have one answer at most.
use Rattle.std.specs.Prelude.{◌≡◌, ◌≢◌, ℕ, List}
use Rattle.tp_spec.specs.WellFormed.{Ground}
use Rattle.problem_files.specs.declared.fault.PddlFileFault.{PddlFileFault}
use Rattle.problem_files.specs.declared.fault.PddlFileFault.TheVariants.{NoMemory}
use Rattle.problem_files.specs.Answers.{IsPddlProblem, IsPddlFaultOf}

-- they are of one problem at most
abbrev pub HaveOneProblem : Type 0
HaveOneProblem =
    (domain problem : List ℕ) (scale : ℕ) (p q : Ground) → IsPddlProblem domain problem scale p
    → IsPddlProblem domain problem scale q → p ≡ q

-- they have one fault at most, where it is not that memory was refused
abbrev pub HaveOneFault : Type 0
HaveOneFault =
    (domain problem : List ℕ) (scale : ℕ) (f g : PddlFileFault) → f ≢ NoMemory → g ≢ NoMemory
    → IsPddlFaultOf domain problem scale f → IsPddlFaultOf domain problem scale g → f ≡ g

-- a fault of two texts that are of a problem is that memory was refused
abbrev pub HaveNoFault : Type 0
HaveNoFault =
    (domain problem : List ℕ) (scale : ℕ) (p : Ground) (f : PddlFileFault)
    → IsPddlProblem domain problem scale p → IsPddlFaultOf domain problem scale f → f ≡ NoMemory
