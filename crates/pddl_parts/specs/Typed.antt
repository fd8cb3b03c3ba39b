-- Typed lists: items, each group of them with a hyphen and its type behind it or without.
use Rattle.std.specs.Prelude.{ℕ, Bool, false, not, ◌&&◌, ◌||◌, if◌then◌else◌, List, [], ◌∷◌, ◌++◌}
use Rattle.std.specs.List.{list_any}
use Rattle.std.specs.Str.{bytes_eq}
use Rattle.pddl_tokens.specs.Trees.{Trees, Leaf, Node, End, More}
use Rattle.pddl_parts.specs.declared.faults.Fault.{Fault}
use Rattle.pddl_parts.specs.declared.faults.Kind.TheVariants.{Shape, Unknown, Twice}
use Rattle.pddl_parts.specs.declared.typed.Part.{Part}
use Rattle.pddl_parts.specs.declared.typed.Part.TheVariants.{Start, Items, Hyphen}
use Rattle.pddl_parts.specs.declared.typed.Rule.{Rule}
use Rattle.pddl_parts.specs.First.{fault}
use Rattle.pddl_parts.specs.Names.{with_name}
use Rattle.pddl_parts.specs.Words.{is_dash, is_name, is_variable, is_left_out}
use Rattle.pddl_parts.specs.Literals.{misfit_list, name_faults, variable_faults}

-- where an item is to stand: a variable, or a name
abbrev pub item_faults : Rule → ℕ → List ℕ → List Fault
item_faults rule at text = if rule.variables then variable_faults at text else name_faults at text

-- where a type is to stand: one that is declared, or any name
abbrev pub type_faults : Rule → List (List ℕ) → ℕ → List ℕ → List Fault
type_faults rule types at text =
    name_faults at text
    ++ (if rule.any_type || list_any (bytes_eq text) types then [] else fault Unknown at ∷ [])

-- what may follow a word
abbrev pub next : Part → List ℕ → Part
next Start text = if is_dash text then Hyphen else Items
next Items text = if is_dash text then Hyphen else Items
next Hyphen text = Start

-- what may follow a list
abbrev pub next_of_list : Part → Part
next_of_list Start = Items
next_of_list Items = Items
next_of_list Hyphen = Start

-- what is wrong with a word: a hyphen needs an item before it
abbrev pub word_faults : Rule → List (List ℕ) → Part → ℕ → List ℕ → List Fault
word_faults rule types Start at text =
    if is_dash text then fault Shape at ∷ [] else item_faults rule at text
word_faults rule types Items at text = if is_dash text then [] else item_faults rule at text
word_faults rule types Hyphen at text = type_faults rule types at text

-- a type is missing
abbrev pub end_faults : Part → ℕ → List Fault
end_faults Start close = []
end_faults Items close = []
end_faults Hyphen close = fault Shape close ∷ []

-- what is wrong with a typed list, up to the closing parenthesis
abbrev pub typed_faults : Rule → List (List ℕ) → ℕ → Part → Trees → List Fault
typed_faults rule types close part End = end_faults part close
typed_faults rule types close part (More (Leaf at text) rest) =
    word_faults rule types part at text ++ typed_faults rule types close (next part text) rest
typed_faults rule types close part (More (Node at end parts) rest) =
    misfit_list at parts ++ typed_faults rule types close (next_of_list part) rest

-- whether a word is an item that fits
abbrev pub is_item : Rule → Part → List ℕ → Bool
is_item rule Start text =
    not (is_left_out text) && (if rule.variables then is_variable text else is_name text)
is_item rule Items text =
    not (is_left_out text) && (if rule.variables then is_variable text else is_name text)
is_item rule Hyphen text = false

-- an item that came before
abbrev pub again_faults : Bool → List (List ℕ) → ℕ → List ℕ → List Fault
again_faults item seen at text =
    if item && list_any (bytes_eq text) seen then fault Twice at ∷ [] else []

-- the names, with this word where it is an item
abbrev pub with_item : Bool → List (List ℕ) → List ℕ → List (List ℕ)
with_item item seen text = if item then with_name seen text else seen

-- each item that came before, in the list or among the names given
abbrev pub repeat_faults : Rule → List (List ℕ) → Part → Trees → List Fault
repeat_faults rule seen part End = []
repeat_faults rule seen part (More (Leaf at text) rest) =
    again_faults (is_item rule part text) seen at text
    ++ repeat_faults rule (with_item (is_item rule part text) seen text) (next part text) rest
repeat_faults rule seen part (More (Node at end parts) rest) =
    repeat_faults rule seen (next_of_list part) rest
