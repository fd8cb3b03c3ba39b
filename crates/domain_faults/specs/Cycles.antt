-- The types by their numbers, and which of them are marked.
use Rattle.std.specs.Prelude.{◌≡◌, ℕ, suc, ◌-◌, ◌<◌, Bool, false, if◌then◌else◌, List, [], ◌∷◌, ◌++◌, length, get_or, Option, Some, None, position}
use Rattle.std.specs.Str.{bytes_eq}
use Rattle.pddl_tokens.specs.Trees.{Trees, Leaf, Node, End, More}
use Rattle.pddl_parts.specs.declared.faults.Fault.{Fault}
use Rattle.pddl_parts.specs.declared.faults.Kind.TheVariants.{Cycle}
use Rattle.pddl_parts.specs.First.{fault}
use Rattle.domain_faults.specs.Types.{parent_of}

-- the parent of each type is a type
abbrev pub AreInside : List (List ℕ) → List (List ℕ × ℕ) → Type 0
AreInside types parents = (v : ℕ) → v < length types → parent_of types parents v < length types

-- the parent of each type, by number; `object` counts as above itself
pub record IsAbove
    (types : List (List ℕ))
    (parents : List (List ℕ × ℕ))
    (above : List ℕ) : Type 0 where
  pub number : length above ≡ suc (length types - 1)
  pub root : get_or above 0 0 ≡ 0
  pub parent : (v : ℕ) → 0 < v → v < length above → get_or above v 0 ≡ parent_of types parents v

abbrev pub is_marked : List Bool → Option ℕ → Bool
is_marked marks None = false
is_marked marks (Some k) = get_or marks k false

-- each word that names a marked type
abbrev pub marked_faults : List (List ℕ) → List Bool → Trees → List Fault
marked_faults types marks End = []
marked_faults types marks (More (Leaf at text) rest) =
    (if is_marked marks (position (bytes_eq text) types) then fault Cycle at ∷ [] else [])
    ++ marked_faults types marks rest
marked_faults types marks (More (Node at close members) rest) = marked_faults types marks rest
