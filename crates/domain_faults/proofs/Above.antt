-- Walks over the numbers of types are ways up from types.
use Rattle.std.proofs.Common.{◌≡◌, ℕ, zero, suc, ◌<◌, Bool, true, false, cond, ◌||◌, nat_eq, List, [], ◌∷◌, ◌++◌, length, get_or, Option, Some, None, Result, Ok, Err, position, refl, ap, sym, ◌∙◌, arith}
use Rattle.std.proofs.lemmas.List.Quantifiers.{position-Some}
use Rattle.std.specs.Prelude.{IfOk}
use Rattle.std.specs.Str.{bytes_eq}
use Rattle.pddl_tokens.specs.Trees.{Trees, Leaf, Node, End, More}
use Rattle.pddl_parts.specs.declared.faults.Fault.{Fault}
use Rattle.pddl_parts.specs.declared.faults.Kind.TheVariants.{Cycle}
use Rattle.pddl_parts.specs.First.{fault}
use Rattle.domain_faults.specs.Types.{parent_of, meets, is_own_ancestor, is_cyclic, cycle_faults}
use Rattle.domain_faults.specs.Walks.{comes_to, comes_back}
use Rattle.domain_faults.specs.Cycles.{AreInside, IsAbove, is_marked, marked_faults}

-- the numbers above stay within the numbers
pub above_below : (types : List (List ℕ)) (parents : List (List ℕ × ℕ)) (above : List ℕ) → IsAbove types parents above → AreInside types parents
    → (v : ℕ) → v < length above → get_or above v 0 < length above
above_below types parents above a inside zero lt = omega (arith, a.root, a.number)
above_below types parents above a inside (suc v) lt =
    let p : get_or above (suc v) 0 ≡ parent_of types parents (suc v) = a.parent (suc v) (omega arith) lt in
    let q : parent_of types parents (suc v) < length types = inside (suc v) (omega (arith, a.number, lt)) in
    omega (arith, p, q, a.number)

pub above_some : (types : List (List ℕ)) (parents : List (List ℕ × ℕ)) (above : List ℕ) → IsAbove types parents above → 0 < length above
above_some types parents above a = omega (arith, a.number)

-- no way comes to 0
no_root : (types : List (List ℕ)) (parents : List (List ℕ × ℕ)) (n j : ℕ) → meets types parents 0 n j ≡ false
no_root types parents zero j = refl
no_root types parents (suc n) j = here (nat_eq j 0) (meets types parents 0 n (parent_of types parents j)) (no_root types parents n (parent_of types parents j))
  where
    here : (z x : Bool) → x ≡ false → cond z false (z || x) ≡ false
    here true x e = refl
    here false x e = e

up_alone : (above : List ℕ) (n : ℕ) → comes_to above 0 n 0 ≡ false
up_alone above zero = refl
up_alone above (suc n) = refl

module _ (types : List (List ℕ)) (parents : List (List ℕ × ℕ)) (above : List ℕ) (a : IsAbove types parents above) (inside : AreInside types parents) where
  same_way : (k n j : ℕ) → j < length types → comes_to above k n j ≡ meets types parents k n j
  same_way k zero j lt = refl
  same_way k (suc n) zero lt = refl
  same_way k (suc n) (suc j) lt =
      let p : get_or above (suc j) 0 ≡ parent_of types parents (suc j) = a.parent (suc j) (omega arith) (omega (arith, a.number, lt)) in
      ap (λ (x : Bool). cond (nat_eq (suc j) 0) false (nat_eq (suc j) k || x)) (ap (comes_to above k n) p ∙ same_way k n (parent_of types parents (suc j)) (inside (suc j) lt))

  pub same_return : (v : ℕ) → v < length types → comes_back above v ≡ is_own_ancestor types parents v
  same_return zero lt = ap (comes_to above 0 (length above)) a.root ∙ up_alone above (length above) ∙ sym (no_root types parents (length types) (parent_of types parents 0))
  same_return (suc v) lt =
      let p : get_or above (suc v) 0 ≡ parent_of types parents (suc v) = a.parent (suc v) (omega arith) (omega (arith, a.number, lt)) in
      let n : length above ≡ length types = omega (arith, a.number, lt) in
      ap (comes_to above (suc v) (length above)) p
      ∙ ap (λ (k : ℕ). comes_to above (suc v) k (parent_of types parents (suc v))) n
      ∙ same_way (suc v) (length types) (parent_of types parents (suc v)) (inside (suc v) lt)

-- what comes back on the numbers is its own ancestor among types
pub marks_of : {E : Type 0} (types : List (List ℕ)) (parents : List (List ℕ × ℕ)) (above : List ℕ) → IsAbove types parents above → AreInside types parents
    → (r : Result (List Bool) E)
    → IfOk r (λ marks. (v : ℕ) → v < length above → get_or marks v false ≡ comes_back above v)
    → IfOk r (λ marks. (v : ℕ) → v < length types → get_or marks v false ≡ is_own_ancestor types parents v)
marks_of types parents above a inside (Ok marks) h = λ v lt. h v (omega (arith, a.number, lt)) ∙ same_return types parents above a inside v lt
marks_of types parents above a inside (Err e) h = h

module _ (types : List (List ℕ)) (parents : List (List ℕ × ℕ)) (marks : List Bool) (right : (v : ℕ) → v < length types → get_or marks v false ≡ is_own_ancestor types parents v) where
  marked_same : (text : List ℕ) (o : Option ℕ) → position (bytes_eq text) types ≡ o → is_marked marks o ≡ is_cyclic types parents o
  marked_same text None e = refl
  marked_same text (Some k) e = let p = position-Some (bytes_eq text) types k [] e in right k p.0

  -- the words that name a marked type are those that name one that is its own ancestor
  pub marked_all : (ts : Trees) → marked_faults types marks ts ≡ cycle_faults types parents ts
  marked_all End = refl
  marked_all (More (Leaf at text) rest) =
      ap (λ (b : Bool). cond b (fault Cycle at ∷ []) [] ++ marked_faults types marks rest) (marked_same text (position (bytes_eq text) types) refl)
      ∙ ap (λ (fs : List Fault). cond (is_cyclic types parents (position (bytes_eq text) types)) (fault Cycle at ∷ []) [] ++ fs) (marked_all rest)
  marked_all (More (Node at close members) rest) = marked_all rest
