-- The types of a domain, and what is wrong with their declarations.
use Rattle.std.specs.Prelude.{ℕ, zero, suc, Bool, true, false, ◌||◌, nat_eq, if◌then◌else◌, List, [], ◌∷◌, ◌++◌, length, get_or, Option, Some, None, position, codes}
use Rattle.std.specs.Str.{bytes_eq}
use Rattle.pddl_tokens.specs.Trees.{Trees, Leaf, Node, End, More}
use Rattle.pddl_parts.specs.declared.faults.Fault.{Fault}
use Rattle.pddl_parts.specs.declared.faults.Kind.TheVariants.{Twice, Cycle}
use Rattle.pddl_parts.specs.declared.typed.Part.{Part}
use Rattle.pddl_parts.specs.declared.typed.Part.TheVariants.{Start}
use Rattle.pddl_parts.specs.declared.typed.Rule.{Rule}
use Rattle.pddl_parts.specs.First.{fault}
use Rattle.pddl_parts.specs.Names.{with_name, is_new}
use Rattle.pddl_parts.specs.Tables.{value_of, with_value}
use Rattle.pddl_parts.specs.Words.{is_thing}
use Rattle.pddl_meaning.specs.Groups.{parent_behind}
use Rattle.pddl_parts.specs.Typed.{typed_faults, with_item, is_item, next, next_of_list}

-- names, each with any name as its parent
abbrev pub new_types : Rule
new_types = record { variables = false; any_type = true }

-- the types that words name, as a type or as a parent, each where it comes first
abbrev pub with_types : List (List ℕ) → Trees → List (List ℕ)
with_types names End = names
with_types names (More (Leaf at text) rest) = with_types (with_item (is_thing text) names text) rest
with_types names (More (Node at close parts) rest) = with_types names rest

-- the types of a domain: `object` first
abbrev pub type_names : Trees → List (List ℕ)
type_names members = with_types (codes "object" ∷ []) members

-- whether a type is declared again with the parent that it has
abbrev pub is_same : Option ℕ → Option ℕ → Bool
is_same None parent = false
is_same (Some p) None = false
is_same (Some p) (Some q) = nat_eq p q

-- a type that was declared with another parent, or is declared now with none that fits
abbrev pub again_type : List (List ℕ) → List (List ℕ × ℕ) → ℕ → List ℕ → Option ℕ → List Fault
again_type seen parents at text parent =
    if is_new seen text then []
    else if is_same (value_of parents text) parent then []
    else fault Twice at ∷ []

abbrev pub with_parent : List (List ℕ × ℕ) → List ℕ → Option ℕ → List (List ℕ × ℕ)
with_parent parents text None = parents
with_parent parents text (Some p) = with_value parents text p

-- the first declaration of a type gives its parent
abbrev pub with_first : List (List ℕ) → List (List ℕ × ℕ) → List ℕ → Option ℕ → List (List ℕ × ℕ)
with_first seen parents text parent =
    if is_new seen text then with_parent parents text parent else parents

-- each type that was declared before, and not so
abbrev pub again_types : List (List ℕ) → List (List ℕ) → List (List ℕ × ℕ) → Part → Trees
    → List Fault
again_types types seen parents part End = []
again_types types seen parents part (More (Leaf at text) rest) =
    if is_item new_types part text then
    again_type seen parents at text (parent_behind types rest)
    ++ again_types types (with_name seen text)
    (with_first seen parents text (parent_behind types rest)) (next part text) rest
    else again_types types seen parents (next part text) rest
again_types types seen parents part (More (Node at close members) rest) =
    again_types types seen parents (next_of_list part) rest

-- the parents of the types, by their first declarations
abbrev pub with_parents : List (List ℕ) → List (List ℕ) → List (List ℕ × ℕ) → Part → Trees
    → List (List ℕ × ℕ)
with_parents types seen parents part End = parents
with_parents types seen parents part (More (Leaf at text) rest) =
    if is_item new_types part text then
    with_parents types (with_name seen text)
    (with_first seen parents text (parent_behind types rest)) (next part text) rest
    else with_parents types seen parents (next part text) rest
with_parents types seen parents part (More (Node at close members) rest) =
    with_parents types seen parents (next_of_list part) rest

-- `object` counts as declared, under itself
abbrev pub object_alone : List (List ℕ)
object_alone = codes "object" ∷ []

abbrev pub parents_of : List (List ℕ) → Trees → List (List ℕ × ℕ)
parents_of types members = with_parents types object_alone ((codes "object", 0) ∷ []) Start members

-- the parent of a type: `object` where none is declared
abbrev pub or_object : Option ℕ → ℕ
or_object None = 0
or_object (Some p) = p

abbrev pub parent_of : List (List ℕ) → List (List ℕ × ℕ) → ℕ → ℕ
parent_of types parents k = or_object (value_of parents (get_or types k []))

-- whether the way up from a type meets the type k within so many steps, before it comes to `object`
abbrev pub meets : List (List ℕ) → List (List ℕ × ℕ) → ℕ → ℕ → ℕ → Bool
meets types parents k zero j = false
meets types parents k (suc n) j =
    if nat_eq j 0 then false
    else nat_eq j k || meets types parents k n (parent_of types parents j)

-- whether a type is its own ancestor
abbrev pub is_own_ancestor : List (List ℕ) → List (List ℕ × ℕ) → ℕ → Bool
is_own_ancestor types parents k = meets types parents k (length types) (parent_of types parents k)

abbrev pub is_cyclic : List (List ℕ) → List (List ℕ × ℕ) → Option ℕ → Bool
is_cyclic types parents None = false
is_cyclic types parents (Some k) = is_own_ancestor types parents k

-- each word that names a type that is its own ancestor, as a type or as a parent
abbrev pub cycle_faults : List (List ℕ) → List (List ℕ × ℕ) → Trees → List Fault
cycle_faults types parents End = []
cycle_faults types parents (More (Leaf at text) rest) =
    (if is_cyclic types parents (position (bytes_eq text) types) then fault Cycle at ∷ [] else [])
    ++ cycle_faults types parents rest
cycle_faults types parents (More (Node at close members) rest) = cycle_faults types parents rest

-- what is wrong with the members of `:types`
abbrev pub types_faults : List (List ℕ) → ℕ → Trees → List Fault
types_faults types close members =
    typed_faults new_types [] close Start members
    ++ (again_types types object_alone ((codes "object", 0) ∷ []) Start members
    ++ cycle_faults types (parents_of types members) members)
