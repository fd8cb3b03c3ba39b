-- What is grounded, and what its members are called.
use Rattle.std.specs.Prelude.{ℕ, List, ◌∷◌, ◌++◌, map, get_or, slice_get}
use Rattle.std.specs.List.{flat_map}
use Rattle.tp_spec.specs.Lists.{part_of}
use Rattle.pddl_meaning.specs.declared.terms.Term.{Term}
use Rattle.pddl_meaning.specs.declared.terms.Term.TheVariants.{Parameter, Object}
use Rattle.pddl_meaning.specs.declared.terms.Atom.{Atom}
use Rattle.pddl_domain.specs.declared.domain.Domain.{Domain}
use Rattle.pddl_domain.specs.declared.domain.Head.{Head}
use Rattle.pddl_problem.specs.declared.task.Task.{Task}
use Rattle.grounder.specs.declared.sources.Source.{Source as Given}

-- a domain, and a problem over it
pub record Source : Type 0 where
  pub domain : Domain
  pub task : Task

-- what the code has of it
abbrev pub source_of : Given → Source
source_of s = record { domain = s.domain.now; task = s.task.now }

-- the object that a term stands for under a substitution, which lists an object for each parameter
abbrev pub object_of : List ℕ → Term → ℕ
object_of objects (Parameter k) = get_or objects k 0
object_of objects (Object k) = k

abbrev pub object_name : Source → ℕ → List ℕ
object_name s k = part_of (slice_get s.task.objects k) (λ o. o.name)

abbrev pub head_name : List Head → ℕ → List ℕ
head_name heads k = part_of (slice_get heads k) (λ h. h.name)

-- a symbol and objects, joined by one space
abbrev pub named : Source → List ℕ → List ℕ → List ℕ
named s symbol objects = symbol ++ flat_map (λ k. 32 ∷ object_name s k) objects

-- the names of an atom and of a function term under a substitution
abbrev pub atom_name : Source → List ℕ → Atom → List ℕ
atom_name s objects a =
    named s (head_name s.domain.predicates a.head) (map (object_of objects) a.terms)

abbrev pub call_name : Source → List ℕ → Atom → List ℕ
call_name s objects a =
    named s (head_name s.domain.functions a.head) (map (object_of objects) a.terms)
