-- Groups of items in typed lists, each with its type: behind the next hyphen, or `object`.
use Rattle.std.specs.Prelude.{ℕ, if◌then◌else◌, List, [], ◌∷◌, Option, Some, None, position}
use Rattle.std.specs.Str.{bytes_eq}
use Rattle.pddl_tokens.specs.Trees.{Trees, Leaf, Node, End, More}
use Rattle.pddl_parts.specs.declared.typed.Part.{Part}
use Rattle.pddl_parts.specs.declared.typed.Rule.{Rule}
use Rattle.pddl_parts.specs.Words.{is_thing, is_dash}
use Rattle.pddl_parts.specs.Typed.{is_item, next, next_of_list}
use Rattle.pddl_meaning.specs.declared.groups.Object.{Object}
use Rattle.pddl_meaning.specs.Terms.{or_zero}

-- the type that is named behind a hyphen, by its number; none where no name stands there
abbrev pub named_parent : List (List ℕ) → Trees → Option ℕ
named_parent types End = None
named_parent types (More (Leaf at text) rest) =
    if is_thing text then position (bytes_eq text) types else None
named_parent types (More (Node at close parts) rest) = None

-- the type of the group in whose midst these members stand: behind the next hyphen, or `object`
-- where none comes
abbrev pub parent_behind : List (List ℕ) → Trees → Option ℕ
parent_behind types End = Some 0
parent_behind types (More (Leaf at text) rest) =
    if is_dash text then named_parent types rest else parent_behind types rest
parent_behind types (More (Node at close parts) rest) = parent_behind types rest

-- the types of the items of a typed list, by their numbers
abbrev pub sorts_from : Rule → List (List ℕ) → Part → Trees → List ℕ
sorts_from rule types part End = []
sorts_from rule types part (More (Leaf at text) rest) =
    if is_item rule part text
    then or_zero (parent_behind types rest) ∷ sorts_from rule types (next part text) rest
    else sorts_from rule types (next part text) rest
sorts_from rule types part (More (Node at close parts) rest) =
    sorts_from rule types (next_of_list part) rest

-- the items of a typed list with their types
abbrev pub objects_from : Rule → List (List ℕ) → Part → Trees → List Object
objects_from rule types part End = []
objects_from rule types part (More (Leaf at text) rest) =
    if is_item rule part text
    then record { name = text; sort = or_zero (parent_behind types rest) }
    ∷ objects_from rule types (next part text) rest
    else objects_from rule types (next part text) rest
objects_from rule types part (More (Node at close parts) rest) =
    objects_from rule types (next_of_list part) rest
