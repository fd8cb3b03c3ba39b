-- The items of typed lists.
use Rattle.std.specs.Prelude.{ℕ, List}
use Rattle.pddl_tokens.specs.Trees.{Trees, Leaf, Node, End, More}
use Rattle.pddl_parts.specs.declared.typed.Part.{Part}
use Rattle.pddl_parts.specs.declared.typed.Rule.{Rule}
use Rattle.pddl_parts.specs.Typed.{next, next_of_list, is_item, with_item}

-- the names, with each item of a typed list that fits, where it comes first
abbrev pub with_items : Rule → List (List ℕ) → Part → Trees → List (List ℕ)
with_items rule names part End = names
with_items rule names part (More (Leaf at text) rest) =
    with_items rule (with_item (is_item rule part text) names text) (next part text) rest
with_items rule names part (More (Node at end parts) rest) =
    with_items rule names (next_of_list part) rest
