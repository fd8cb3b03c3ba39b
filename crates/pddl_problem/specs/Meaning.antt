-- What a problem's text says, where it has no fault.
use Rattle.std.specs.Prelude.{ℕ, ℤ, if◌then◌else◌, List, [], ◌∷◌, ◌++◌, Option, Some, None, codes, unsigned_abs}
use Rattle.std.specs.List.{list_any}
use Rattle.std.specs.Str.{bytes_eq}
use Rattle.pddl_tokens.specs.Trees.{Trees, Leaf, Node, End, More}
use Rattle.pddl_parts.specs.declared.typed.Part.TheVariants.{Start}
use Rattle.pddl_parts.specs.Names.{with_name}
use Rattle.pddl_parts.specs.Items.{with_items}
use Rattle.pddl_parts.specs.Members.{members_of}
use Rattle.pddl_meaning.specs.declared.groups.Object.{Object}
use Rattle.pddl_meaning.specs.declared.terms.Atom.{Atom}
use Rattle.pddl_meaning.specs.declared.terms.Symbols.{Symbols}
use Rattle.pddl_meaning.specs.Terms.{atom_of, behind_first}
use Rattle.pddl_meaning.specs.Groups.{objects_from}
use Rattle.pddl_meaning.specs.Conditions.{condition_of}
use Rattle.pddl_domain.specs.declared.domain.Head.{Head}
use Rattle.pddl_domain.specs.declared.domain.Domain.{Domain}
use Rattle.domain_faults.specs.Sections.{objects}
use Rattle.pddl_problem.specs.declared.task.Given.{Given}
use Rattle.pddl_problem.specs.declared.task.Dated.{Dated}
use Rattle.pddl_problem.specs.declared.task.Task.{Task}
use Rattle.pddl_problem.specs.Known.{with_sorts, with_constants}
use Rattle.pddl_problem.specs.Literals.{is_fact}
use Rattle.pddl_problem.specs.Elements.{first_list, first_number, behind_equal, behind_at, literal_in, is_positive, atom_in}
use Rattle.pddl_problem.specs.Passes.{sections_of}

-- the names of heads
abbrev pub with_head_names : List (List ℕ) → List Head → List (List ℕ)
with_head_names names [] = names
with_head_names names (h ∷ heads) = with_head_names (with_name names h.name) heads

-- what `:init` and `:goal` name, numbered: the constants come first, then the members of `:objects`
abbrev pub symbols_of : Domain → Trees → Symbols
symbols_of domain members =
    record {
      objects = with_items objects (with_constants [] domain.constants) Start members;
      predicates = with_head_names [] domain.predicates;
      functions = with_head_names [] domain.functions;
    }

-- objects without those of these names
abbrev pub without : List (List ℕ) → List Object → List Object
without names [] = []
without names (o ∷ listed) =
    if list_any (bytes_eq o.name) names then without names listed else o ∷ without names listed

-- the domain's constants, and the members of `:objects` that are none of them
abbrev pub objects_of : Domain → Trees → List Object
objects_of domain members =
    domain.constants
    ++ without (with_constants [] domain.constants)
    (objects_from objects (with_sorts [] domain.types) Start members)

-- a predicate or a function of these names, with its arguments
abbrev pub ground_atom : Symbols → List (List ℕ) → Trees → Atom
ground_atom symbols names End = record { head = 0; terms = [] }
ground_atom symbols names (More (Node first end parts) rest) = record { head = 0; terms = [] }
ground_atom symbols names (More (Leaf head text) rest) = atom_of symbols [] names text rest

-- an element that is an atom
abbrev pub fact_of : Symbols → Trees → List Atom
fact_of symbols End = []
fact_of symbols (More (Node first end parts) rest) = []
fact_of symbols (More (Leaf head text) rest) =
    if is_fact text rest then atom_of symbols [] symbols.predicates text rest ∷ [] else []

abbrev pub facts_of : Symbols → Trees → List Atom
facts_of symbols End = []
facts_of symbols (More (Leaf at text) rest) = facts_of symbols rest
facts_of symbols (More (Node at close parts) rest) = fact_of symbols parts ++ facts_of symbols rest

-- a function and its value, by what stands behind `=`
abbrev pub given_of : Symbols → Trees → Option ℤ → List Given
given_of symbols members None = []
given_of symbols members (Some value) =
    record { target = ground_atom symbols symbols.functions (first_list members); value = value }
    ∷ []

abbrev pub values_of : Symbols → ℕ → Trees → List Given
values_of symbols scale End = []
values_of symbols scale (More (Leaf at text) rest) = values_of symbols scale rest
values_of symbols scale (More (Node at close parts) rest) =
    given_of symbols (behind_equal parts) (first_number scale (behind_first (behind_equal parts)))
    ++ values_of symbols scale rest

-- a literal and its tick, by what stands behind `at`
abbrev pub dated_of : Symbols → Trees → Option ℤ → List Dated
dated_of symbols members None = []
dated_of symbols members (Some time) =
    record {
      tick = unsigned_abs time;
      positive = is_positive (literal_in members);
      atom = ground_atom symbols symbols.predicates (atom_in (literal_in members));
    }
    ∷ []

abbrev pub timed_of : Symbols → ℕ → Trees → List Dated
timed_of symbols scale End = []
timed_of symbols scale (More (Leaf at text) rest) = timed_of symbols scale rest
timed_of symbols scale (More (Node at close parts) rest) =
    dated_of symbols (behind_at parts) (first_number scale (behind_at parts))
    ++ timed_of symbols scale rest

-- a problem over these symbols, by the members of its `:objects` and `:init`, and those of its
-- goal's list
abbrev pub task_from : Domain → Symbols → ℕ → Trees → Trees → Trees → Task
task_from domain symbols scale listed init goal =
    record {
      objects = objects_of domain listed;
      init = facts_of symbols init;
      values = values_of symbols scale init;
      timed = timed_of symbols scale init;
      goal = condition_of symbols [] scale goal;
    }

-- a problem by its sections
abbrev pub task_in : Domain → ℕ → Trees → Task
task_in domain scale sections =
    task_from domain (symbols_of domain (members_of (codes ":objects") sections)) scale
    (members_of (codes ":objects") sections) (members_of (codes ":init") sections)
    (first_list (members_of (codes ":goal") sections))

-- the problem that a file without a fault says, over its domain and at a scale
abbrev pub task_of : Domain → ℕ → Trees → Task
task_of domain scale forms = task_in domain scale (sections_of forms)
