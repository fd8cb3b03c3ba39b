-- Acts in order.
use Rattle.std.proofs.Common.{◌≡◌, ℕ, suc, ◌+◌, ◌<◌, ◌≤◌, Bool, true, false, ◌&&◌, ◌||◌, ◌==◌, nat_lt, nat_le, nat_cmp, is_lt, IsTrue, List, [], ◌∷◌, length, get_or, refl, subst, arith}
use Rattle.std.specs.Ordering.{ordering_then}
use Rattle.std.proofs.lemmas.Bool.{and_from}
use Rattle.std.proofs.lemmas.Bool.Decides.{nat_tests}
use Rattle.tp_spec.specs.Lists.{each_next}
use Rattle.tp_spec.specs.Courses.{act_before}
use Rattle.tp_spec.specs.declared.plan.Timed.{Timed}

-- whether y comes before x, by the order of the sort's keys
abbrev pub sorts_before : Timed → Timed → Bool
sorts_before y x = is_lt (ordering_then (ordering_then (nat_cmp y.start x.start) (nat_cmp y.action x.action)) (nat_cmp y.length x.length))

not_after : (a b c a' b' c' : ℕ) → is_lt (ordering_then (ordering_then (nat_cmp a' a) (nat_cmp b' b)) (nat_cmp c' c)) ≡ false
    → (nat_lt a a' || (a == a' && (nat_lt b b' || (b == b' && nat_le c c')))) ≡ true
not_after a b c a' b' c' h = grind (arith, nat_tests)

-- a sorted list of acts is in order
pub in_order_sorted : (xs : List Timed) → ((k : ℕ) (d : Timed) → 0 ≤ k → k + 1 < length xs → sorts_before (get_or xs (k + 1) d) (get_or xs k d) ≡ false)
    → IsTrue (each_next act_before xs)
in_order_sorted [] h = refl
in_order_sorted (x ∷ []) h = refl
in_order_sorted (x ∷ y ∷ rest) h =
    and_from (act_before x y) (each_next act_before (y ∷ rest))
    (not_after x.start x.action x.length y.start y.action y.length (h 0 x (omega arith) (omega arith)))
    (in_order_sorted (y ∷ rest) (λ k d low high.
    let fits : suc k + 1 < length (x ∷ y ∷ rest) = omega arith in
    let here : suc k + 1 ≡ suc (k + 1) = omega arith in
    subst (λ (n : ℕ). sorts_before (get_or (x ∷ y ∷ rest) n d) (get_or (y ∷ rest) k d) ≡ false) here (h (suc k) d (omega arith) fits)))
