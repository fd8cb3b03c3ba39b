-- What the texts of a domain and of a problem say: a ground problem, or the first fault.
use Rattle.std.specs.Prelude.{◌≡◌, ℕ, List, length, Some, None}
use Rattle.std.specs.Option.{option_map}
use Rattle.tp_spec.specs.WellFormed.{Ground, IsWellFormed}
use Rattle.pddl_tokens.specs.Tokens.{tokens_of_text}
use Rattle.pddl_tokens.specs.Trees.{Trees, all_spelled}
use Rattle.pddl_tokens.specs.Faults.{fault_of}
use Rattle.pddl_tokens.specs.declared.form.TextFault.{TextFault}
use Rattle.pddl_parts.specs.Reported.{reported}
use Rattle.pddl_parts.specs.declared.faults.PddlFault.{PddlFault}
use Rattle.domain_faults.specs.Passes.{domain_fault}
use Rattle.pddl_domain.specs.declared.domain.Domain.{Domain}
use Rattle.pddl_domain.specs.Meaning.{domain_of}
use Rattle.pddl_problem.specs.declared.task.Task.{Task}
use Rattle.pddl_problem.specs.Passes.{problem_fault}
use Rattle.pddl_problem.specs.Meaning.{task_of}
use Rattle.grounder.specs.Sources.{Source}
use Rattle.grounder.specs.Grounded.{problem_of, excess}
use Rattle.grounder.specs.declared.fault.CountKind.{CountKind}
use Rattle.problem_files.specs.declared.fault.PddlFileFault.{PddlFileFault}
use Rattle.problem_files.specs.declared.fault.PddlFileFault.TheVariants.{DomainText, Domain as InDomain, ProblemText, Problem as InProblem, TooMany, NoMemory}

-- a text without a fault of its own, and the words and lists that it spells
pub record Spells (text : List ℕ) (trees : Trees) : Type 0 where
  pub sound : fault_of text ≡ None
  pub spelled : all_spelled trees ≡ tokens_of_text text

-- a text says a domain, in units of a scale
pub record SaysDomain (text : List ℕ) (scale : ℕ) (domain : Domain) : Type 0 where
  pub trees : Trees
  pub spells : Spells text trees
  pub sound : domain_fault scale (length text) trees ≡ None
  pub says : domain ≡ domain_of scale trees

-- a text is one of words and lists, and this is the first fault of them as a domain
pub record HasDomainFault (text : List ℕ) (scale : ℕ) (fault : PddlFault) : Type 0 where
  pub trees : Trees
  pub spells : Spells text trees
  pub first : option_map reported (domain_fault scale (length text) trees) ≡ Some fault

-- a text says a problem of a domain
pub record SaysTask (text : List ℕ) (scale : ℕ) (domain : Domain) (task : Task) : Type 0 where
  pub trees : Trees
  pub spells : Spells text trees
  pub sound : problem_fault domain scale (length text) trees ≡ None
  pub says : task ≡ task_of domain scale trees

-- a text is one of words and lists, and this is the first fault of them as a problem of a domain
pub record HasTaskFault (text : List ℕ) (scale : ℕ) (domain : Domain) (fault : PddlFault) :
    Type 0 where
  pub trees : Trees
  pub spells : Spells text trees
  pub first : option_map reported (problem_fault domain scale (length text) trees) ≡ Some fault

-- two texts say a domain and a problem of it
pub record AreSaid (domain problem : List ℕ) (scale : ℕ) (s : Source) : Type 0 where
  pub domain_said : SaysDomain domain scale s.domain
  pub task_said : SaysTask problem scale s.domain s.task

-- Two texts say a domain and a problem of it whose ground problem this is: no count of it is past
-- its limit, and it keeps the rules of a ground problem.
pub record IsPddlProblem (domain problem : List ℕ) (scale : ℕ) (p : Ground) : Type 0 where
  pub source : Source
  pub said : AreSaid domain problem scale source
  pub within : excess source ≡ None
  pub grounded : p ≡ problem_of scale source
  pub keeps : IsWellFormed p

-- the domain's text says a domain, and the problem's text has this fault of its own
pub record HasTextFault (domain problem : List ℕ) (scale : ℕ) (fault : TextFault) : Type 0 where
  pub of_domain : Domain
  pub said : SaysDomain domain scale of_domain
  pub first : fault_of problem ≡ Some fault

-- the domain's text says a domain, of which the problem's text says no problem, with this fault
pub record HasProblemFault (domain problem : List ℕ) (scale : ℕ) (fault : PddlFault) :
    Type 0 where
  pub of_domain : Domain
  pub said : SaysDomain domain scale of_domain
  pub first : HasTaskFault problem scale of_domain fault

-- two texts say a domain and a problem of it, and this is their first count past its limit
pub record HasTooMany (domain problem : List ℕ) (scale : ℕ) (kind : CountKind) (count : ℕ) :
    Type 0 where
  pub source : Source
  pub said : AreSaid domain problem scale source
  pub first : excess source ≡ Some (kind, count)

-- this is the first fault of two texts; nothing is said where memory was refused
abbrev pub IsPddlFaultOf : List ℕ → List ℕ → ℕ → PddlFileFault → Type 0
IsPddlFaultOf domain problem scale (DomainText fault) = fault_of domain ≡ Some fault
IsPddlFaultOf domain problem scale (InDomain fault) = HasDomainFault domain scale fault
IsPddlFaultOf domain problem scale (ProblemText fault) = HasTextFault domain problem scale fault
IsPddlFaultOf domain problem scale (InProblem fault) = HasProblemFault domain problem scale fault
IsPddlFaultOf domain problem scale (TooMany kind count) =
    HasTooMany domain problem scale kind count
IsPddlFaultOf domain problem scale NoMemory = Unit {0}
