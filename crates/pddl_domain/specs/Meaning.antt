-- What a domain's text says, where it has no fault.
use Rattle.std.specs.Prelude.{◌≡◌, ℕ, Bool, true, false, if◌then◌else◌, List, [], ◌∷◌, ◌++◌, Option, Some, None, Result, Ok, Err, codes}
use Rattle.std.specs.Option.{option_map}
use Rattle.std.specs.Str.{bytes_eq}
use Rattle.pddl_tokens.specs.Trees.{Trees, Leaf, Node, End, More}
use Rattle.pddl_parts.specs.declared.faults.Fault.{Fault}
use Rattle.pddl_parts.specs.declared.faults.PddlFault.{PddlFault}
use Rattle.pddl_parts.specs.declared.faults.PddlFault.TheVariants.{NoMemory}
use Rattle.pddl_parts.specs.Reported.{reported}
use Rattle.pddl_parts.specs.declared.typed.Part.{Part}
use Rattle.pddl_parts.specs.declared.typed.Part.TheVariants.{Start, Items, Hyphen}
use Rattle.pddl_parts.specs.Members.{members_of}
use Rattle.pddl_parts.specs.Tables.{value_of}
use Rattle.pddl_parts.specs.Items.{with_items}
use Rattle.pddl_meaning.specs.declared.terms.Symbols.{Symbols}
use Rattle.pddl_meaning.specs.Terms.{or_zero, behind_first}
use Rattle.pddl_meaning.specs.Conditions.{condition_of}
use Rattle.pddl_meaning.specs.Changes.{effect_of}
use Rattle.pddl_meaning.specs.Groups.{sorts_from, objects_from}
use Rattle.pddl_meaning.specs.declared.conditions.Condition.{Condition}
use Rattle.pddl_meaning.specs.declared.changes.Change.{Change}
use Rattle.pddl_domain.specs.declared.domain.Bound.{Bound}
use Rattle.pddl_domain.specs.declared.domain.Sort.{Sort}
use Rattle.pddl_domain.specs.declared.domain.Head.{Head}
use Rattle.pddl_domain.specs.declared.domain.Schema.{Schema}
use Rattle.pddl_domain.specs.declared.domain.Domain.{Domain}
use Rattle.domain_faults.specs.Heads.{parameters, behind_word, behind_list, with_listed}
use Rattle.domain_faults.specs.Sections.{objects}
use Rattle.domain_faults.specs.Types.{type_names, parents_of}
use Rattle.domain_faults.specs.declared.heads.HeadKind.{HeadKind}
use Rattle.domain_faults.specs.declared.heads.HeadKind.TheVariants.{Predicates, Functions}
use Rattle.domain_faults.specs.declared.parts.ActionKind.{ActionKind}
use Rattle.domain_faults.specs.declared.parts.ActionKind.TheVariants.{Instant, Durative}
use Rattle.domain_faults.specs.Parts.{is_action, kind_of, part_of}
use Rattle.domain_faults.specs.Actions.{variables_of}
use Rattle.pddl_domain.specs.Bounds.{duration_of, timed_condition, timed_effect}
use Rattle.domain_faults.specs.Passes.{sections_of}

-- the names of the heads among the members of `:predicates`, or of `:functions`
abbrev pub with_head_names : HeadKind → List (List ℕ) → Part → Trees → List (List ℕ)
with_head_names kind names part End = names
with_head_names kind names part (More (Leaf at text) rest) =
    with_head_names kind names (behind_word part text) rest
with_head_names kind names part (More (Node at end parts) rest) =
    with_head_names kind (with_listed names part parts) (behind_list kind part) rest

abbrev pub head_names : HeadKind → Trees → List (List ℕ)
head_names kind members = with_head_names kind [] Start members

-- what the actions of a domain may name, numbered
abbrev pub symbols_of : Trees → Symbols
symbols_of sections =
    record {
      objects = with_items objects [] Start (members_of (codes ":constants") sections);
      predicates = head_names Predicates (members_of (codes ":predicates") sections);
      functions = head_names Functions (members_of (codes ":functions") sections);
    }

-- types with their parents
abbrev pub each_sort : List (List ℕ × ℕ) → List (List ℕ) → List Sort
each_sort parents [] = []
each_sort parents (name ∷ names) =
    record { name = name; parent = or_zero (value_of parents name) } ∷ each_sort parents names

-- a head with the types of its variables
abbrev pub head_in : List (List ℕ) → Trees → List Head
head_in types End = []
head_in types (More (Node first end parts) rest) = []
head_in types (More (Leaf head text) rest) =
    record { name = text; sorts = sorts_from parameters types Start rest } ∷ []

abbrev pub head_at : List (List ℕ) → Part → Trees → List Head
head_at types Start parts = head_in types parts
head_at types Items parts = head_in types parts
head_at types Hyphen parts = []

abbrev pub heads_from : HeadKind → List (List ℕ) → Part → Trees → List Head
heads_from kind types part End = []
heads_from kind types part (More (Leaf at text) rest) =
    heads_from kind types (behind_word part text) rest
heads_from kind types part (More (Node at end parts) rest) =
    head_at types part parts ++ heads_from kind types (behind_list kind part) rest

-- an instant action
abbrev pub instant_of : List (List ℕ) → Symbols → ℕ → List ℕ → Trees → Schema
instant_of types symbols scale name members =
    record {
      name = name;
      sorts = sorts_from parameters types Start (part_of Instant (codes ":parameters") members);
      bounds = None;
      start_conds =
          condition_of symbols (variables_of Instant members) scale
          (part_of Instant (codes ":precondition") members);
      all_conds = [];
      end_conds = [];
      start_effects =
          effect_of symbols (variables_of Instant members) scale
          (part_of Instant (codes ":effect") members);
      end_effects = [];
    }

-- the parts of a durative action over these variables
abbrev pub conditions_in : Symbols → List (List ℕ) → ℕ → List ℕ → Trees → List Condition
conditions_in symbols variables scale label members =
    timed_condition symbols variables scale label (part_of Durative (codes ":condition") members)

abbrev pub effects_in : Symbols → List (List ℕ) → ℕ → List ℕ → Trees → List Change
effects_in symbols variables scale label members =
    timed_effect symbols variables scale label (part_of Durative (codes ":effect") members)

abbrev pub bounds_in : Symbols → List (List ℕ) → ℕ → Trees → List Bound
bounds_in symbols variables scale members =
    duration_of symbols variables scale (part_of Durative (codes ":duration") members)

-- a durative action over these variables
abbrev pub durative_from : List (List ℕ) → Symbols → List (List ℕ) → ℕ → List ℕ → Trees → Schema
durative_from types symbols variables scale name members =
    record {
      name = name;
      sorts = sorts_from parameters types Start (part_of Durative (codes ":parameters") members);
      bounds = Some (bounds_in symbols variables scale members);
      start_conds = conditions_in symbols variables scale (codes "start") members;
      all_conds = conditions_in symbols variables scale (codes "all") members;
      end_conds = conditions_in symbols variables scale (codes "end") members;
      start_effects = effects_in symbols variables scale (codes "start") members;
      end_effects = effects_in symbols variables scale (codes "end") members;
    }

-- a durative action
abbrev pub durative_of : List (List ℕ) → Symbols → ℕ → List ℕ → Trees → Schema
durative_of types symbols scale name members =
    durative_from types symbols (variables_of Durative members) scale name members

abbrev pub schema_of : ActionKind → List (List ℕ) → Symbols → ℕ → List ℕ → Trees → Schema
schema_of Instant types symbols scale name members =
    instant_of types symbols scale name members
schema_of Durative types symbols scale name members =
    durative_of types symbols scale name members

-- an action behind its section's head
abbrev pub named_schema : ActionKind → List (List ℕ) → Symbols → ℕ → Trees → List Schema
named_schema kind types symbols scale End = []
named_schema kind types symbols scale (More (Leaf at text) rest) =
    schema_of kind types symbols scale text rest ∷ []
named_schema kind types symbols scale (More (Node at end parts) rest) = []

abbrev pub section_schema : List (List ℕ) → Symbols → ℕ → Trees → List Schema
section_schema types symbols scale End = []
section_schema types symbols scale (More (Node first end parts) members) = []
section_schema types symbols scale (More (Leaf head text) members) =
    if is_action text then named_schema (kind_of text) types symbols scale members else []

-- the actions among sections
abbrev pub schemas_of : List (List ℕ) → Symbols → ℕ → Trees → List Schema
schemas_of types symbols scale End = []
schemas_of types symbols scale (More (Leaf at text) rest) = schemas_of types symbols scale rest
schemas_of types symbols scale (More (Node at end parts) rest) =
    section_schema types symbols scale parts ++ schemas_of types symbols scale rest

abbrev pub first_word : Trees → List ℕ
first_word End = []
first_word (More (Leaf at text) rest) = text
first_word (More (Node at end parts) rest) = []

abbrev pub first_parts : Trees → Trees
first_parts End = End
first_parts (More (Leaf at text) rest) = End
first_parts (More (Node at end parts) rest) = parts

-- the name in `(define (domain NAME) ..)`
abbrev pub domain_name : Trees → List ℕ
domain_name forms = first_word (behind_first (first_parts (behind_first (first_parts forms))))

-- a domain of these types and symbols, by its sections
abbrev pub domain_from : List ℕ → List (List ℕ) → Symbols → ℕ → Trees → Domain
domain_from name types symbols scale sections =
    record {
      name = name;
      types = each_sort (parents_of types (members_of (codes ":types") sections)) types;
      constants = objects_from objects types Start (members_of (codes ":constants") sections);
      predicates = heads_from Predicates types Start (members_of (codes ":predicates") sections);
      functions = heads_from Functions types Start (members_of (codes ":functions") sections);
      actions = schemas_of types symbols scale sections;
    }

-- the domain that a file without a fault says, at a scale
abbrev pub domain_of : ℕ → Trees → Domain
domain_of scale forms =
    domain_from (domain_name forms) (type_names (members_of (codes ":types") (sections_of forms)))
    (symbols_of (sections_of forms)) scale (sections_of forms)

-- what a reader answers: an Ok where there is no fault, this fault, or that memory was refused
abbrev pub Gives : {A : Type 0} → Result A PddlFault → Option Fault → Type 0
Gives (Ok x) fault = fault ≡ None
Gives (Err NoMemory) fault = Unit {0}
Gives (Err f) fault = option_map reported fault ≡ Some f
