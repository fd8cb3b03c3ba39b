-- The parents that members of `:types` give are types.
use Rattle.std.proofs.Common.{◌≡◌, ℕ, ◌<◌, Bool, true, false, cond, nat_lt, is_some, List, [], ◌∷◌, ◌++◌, length, get_or, Option, Some, None, position, codes, refl, ◌∙◌, arith}
use Rattle.std.proofs.lemmas.Bool.Decides.{nat_tests}
use Rattle.std.proofs.lemmas.Bool.{and_parts, and_from}
use Rattle.std.proofs.lemmas.List.Quantifiers.{position-Some}
use Rattle.std.proofs.lemmas.List.Folds.{list_all-append}
use Rattle.std.specs.List.{list_all}
use Rattle.std.specs.Map.{lookup}
use Rattle.std.specs.Str.{bytes_eq}
use Rattle.pddl_tokens.specs.Trees.{Trees, Leaf, Node, End, More}
use Rattle.pddl_parts.specs.declared.typed.Part.{Part}
use Rattle.pddl_parts.specs.declared.typed.Part.TheVariants.{Start}
use Rattle.pddl_parts.specs.Names.{with_name, is_new}
use Rattle.pddl_parts.specs.Tables.{value_of, with_value}
use Rattle.pddl_parts.specs.Typed.{is_item, next, next_of_list}
use Rattle.pddl_parts.specs.Words.{is_thing, is_dash}
use Rattle.pddl_meaning.specs.Groups.{named_parent, parent_behind}
use Rattle.domain_faults.specs.Types.{new_types, with_parent, with_first, with_parents, parents_of, object_alone, or_object}
use Rattle.domain_faults.specs.Cycles.{AreInside}

abbrev is_low : ℕ → (List ℕ × ℕ) → Bool
is_low n e = nat_lt e.1 n

abbrev low_or_none : ℕ → Option ℕ → Bool
low_or_none n None = true
low_or_none n (Some p) = nat_lt p n

below : (p n : ℕ) → p < n → nat_lt p n ≡ true
below p n h = grind (arith, nat_tests)

chosen : {X : Type 0} (f : X → Bool) (b : Bool) (x y : X) → f x ≡ true → f y ≡ true → f (cond b x y) ≡ true
chosen f true x y h k = h
chosen f false x y h k = k

one_low : (n : ℕ) (text : List ℕ) (p : ℕ) → nat_lt p n ≡ true → list_all (is_low n) ((text, p) ∷ []) ≡ true
one_low n text p k = and_from (nat_lt p n) true k refl

more_low : (n : ℕ) (parents : List (List ℕ × ℕ)) (text : List ℕ) (p : ℕ) → list_all (is_low n) parents ≡ true → nat_lt p n ≡ true → list_all (is_low n) (parents ++ (text, p) ∷ []) ≡ true
more_low n parents text p h k = list_all-append (is_low n) parents ((text, p) ∷ []) ∙ and_from (list_all (is_low n) parents) (list_all (is_low n) ((text, p) ∷ [])) h (one_low n text p k)

found_low : (n : ℕ) (parents : List (List ℕ × ℕ)) (test : List ℕ → Bool) → list_all (is_low n) parents ≡ true → low_or_none n (lookup test parents) ≡ true
found_low n [] test h = refl
found_low n (e ∷ parents) test h =
    let p = and_parts (is_low n e) (list_all (is_low n) parents) h in
    chosen (low_or_none n) (test e.0) (Some e.1) (lookup test parents) p.0 (found_low n parents test p.1)

object_low : (n : ℕ) (o : Option ℕ) → 0 < n → low_or_none n o ≡ true → or_object o < n
object_low n None some h = some
object_low n (Some p) some h = grind (arith, nat_tests)

module _ (types : List (List ℕ)) (some : 0 < length types) where
  named_low : (ts : Trees) → low_or_none (length types) (named_parent types ts) ≡ true
  named_low End = refl
  named_low (More (Leaf at text) rest) = chosen (low_or_none (length types)) (is_thing text) (position (bytes_eq text) types) None (here (position (bytes_eq text) types) refl) refl
    where
      here : (o : Option ℕ) → position (bytes_eq text) types ≡ o → low_or_none (length types) o ≡ true
      here None e = refl
      here (Some k) e = let p = position-Some (bytes_eq text) types k [] e in below k (length types) p.0
  named_low (More (Node at close parts) rest) = refl

  behind_low : (ts : Trees) → low_or_none (length types) (parent_behind types ts) ≡ true
  behind_low End = below 0 (length types) some
  behind_low (More (Leaf at text) rest) = chosen (low_or_none (length types)) (is_dash text) (named_parent types rest) (parent_behind types rest) (named_low rest) (behind_low rest)
  behind_low (More (Node at close parts) rest) = behind_low rest

  value_low : (parents : List (List ℕ × ℕ)) (text : List ℕ) (p : ℕ) → list_all (is_low (length types)) parents ≡ true → nat_lt p (length types) ≡ true → list_all (is_low (length types)) (with_value parents text p) ≡ true
  value_low parents text p h k = chosen (list_all (is_low (length types))) (is_some (value_of parents text)) parents (parents ++ (text, p) ∷ []) h (more_low (length types) parents text p h k)

  parent_low : (parents : List (List ℕ × ℕ)) (text : List ℕ) (o : Option ℕ) → list_all (is_low (length types)) parents ≡ true → low_or_none (length types) o ≡ true → list_all (is_low (length types)) (with_parent parents text o) ≡ true
  parent_low parents text None h k = h
  parent_low parents text (Some p) h k = value_low parents text p h k

  first_low : (seen : List (List ℕ)) (parents : List (List ℕ × ℕ)) (text : List ℕ) (o : Option ℕ) → list_all (is_low (length types)) parents ≡ true → low_or_none (length types) o ≡ true → list_all (is_low (length types)) (with_first seen parents text o) ≡ true
  first_low seen parents text o h k = chosen (list_all (is_low (length types))) (is_new seen text) (with_parent parents text o) parents (parent_low parents text o h k) h

  pub parents_low : (seen : List (List ℕ)) (parents : List (List ℕ × ℕ)) (part : Part) (ts : Trees) → list_all (is_low (length types)) parents ≡ true → list_all (is_low (length types)) (with_parents types seen parents part ts) ≡ true
  parents_low seen parents part End h = h
  parents_low seen parents part (More (Leaf at text) rest) h =
      chosen (list_all (is_low (length types))) (is_item new_types part text)
      (with_parents types (with_name seen text) (with_first seen parents text (parent_behind types rest)) (next part text) rest)
      (with_parents types seen parents (next part text) rest)
      (parents_low (with_name seen text) (with_first seen parents text (parent_behind types rest)) (next part text) rest (first_low seen parents text (parent_behind types rest) h (behind_low rest)))
      (parents_low seen parents (next part text) rest h)
  parents_low seen parents part (More (Node at close parts) rest) h = parents_low seen parents (next_of_list part) rest h

pub parents_inside : (types : List (List ℕ)) (ts : Trees) → AreInside types (parents_of types ts)
parents_inside types ts v lt =
    let some : 0 < length types = omega arith in
    object_low (length types) (value_of (parents_of types ts) (get_or types v [])) some
    (found_low (length types) (parents_of types ts) (bytes_eq (get_or types v []))
    (parents_low types some object_alone ((codes "object", 0) ∷ []) Start ts (one_low (length types) (codes "object") 0 (below 0 (length types) some))))
