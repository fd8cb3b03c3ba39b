-- The first of two lists.
use Rattle.std.proofs.Common.{◌≡◌, ℕ, List, [], ◌∷◌, ◌++◌, ◌+◌, ◌<◌, length, get_or, drop, Option, Some, None, refl, ap, sym, ◌∙◌, arith}
use Rattle.std.proofs.lemmas.List.{at_drop_more}
use Rattle.std.proofs.lemmas.Bool.Decides.{nat_tests}
use Rattle.pddl_parts.specs.declared.faults.Fault.{Fault}
use Rattle.pddl_parts.specs.First.{first, earlier}

pub earlier_none : (x : Option Fault) → earlier x None ≡ x
earlier_none None = refl
earlier_none (Some a) = refl

three : (a b c : Fault) → earlier (Some a) (earlier (Some b) (Some c)) ≡ earlier (earlier (Some a) (Some b)) (Some c)
three a b c = grind (arith, nat_tests)

pub earlier_assoc : (x y z : Option Fault) → earlier x (earlier y z) ≡ earlier (earlier x y) z
earlier_assoc None y z = refl
earlier_assoc (Some a) None z = refl
earlier_assoc (Some a) (Some b) None = sym (earlier_none (earlier (Some a) (Some b)))
earlier_assoc (Some a) (Some b) (Some c) = three a b c

pub first_append : (xs ys : List Fault) → first (xs ++ ys) ≡ earlier (first xs) (first ys)
first_append [] ys = refl
first_append (f ∷ xs) ys = ap (earlier (Some f)) (first_append xs ys) ∙ earlier_assoc (Some f) (first xs) (first ys)

-- the first of some faults, behind the best so far
pub first_onto : (best : Option Fault) (xs ys : List Fault) → earlier best (first (xs ++ ys)) ≡ earlier (earlier best (first xs)) (first ys)
first_onto best xs ys = ap (earlier best) (first_append xs ys) ∙ earlier_assoc best (first xs) (first ys)

-- one member more of a list, where each has faults of its own
pub each_more : {X : Type 0} (F : X → List Fault) (G : List X → List Fault) → ((x : X) (xs : List X) → G (x ∷ xs) ≡ F x ++ G xs) → (best : Option Fault) (xs : List X) (i : ℕ) (x : X)
    → i < length xs → x ≡ get_or xs i x → earlier best (first (G (drop i xs))) ≡ earlier (earlier best (first (F x))) (first (G (drop (i + 1) xs)))
each_more {X} F G step best xs i x lt is =
    at_drop_more (λ (ys : List X). earlier best (first (G ys))) xs i x lt
    ∙ (ap (λ (y : X). earlier best (first (G (y ∷ drop (i + 1) xs)))) (sym is)
    ∙ (ap (λ (fs : List Fault). earlier best (first fs)) (step x (drop (i + 1) xs))
    ∙ first_onto best (F x) (G (drop (i + 1) xs))))
