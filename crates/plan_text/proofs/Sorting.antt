-- Acts in order are in the only order.
use Rattle.std.proofs.Common.{◌≡◌, ℕ, ◌+◌, Bool, true, false, cond, ◌&&◌, ◌||◌, ◌==◌, nat_lt, nat_le, List, [], ◌∷◌, refl, ap, sym, ◌∙◌, arith}
use Rattle.std.specs.List.{list_all, sum_by}
use Rattle.std.specs.List.Sorted.{IsPermutation}
use Rattle.std.proofs.lemmas.Bool.{and_from, and_parts}
use Rattle.std.proofs.lemmas.Bool.Decides.{nat_tests}
use Rattle.std.proofs.lemmas.List.Sums.{sum_by-cons}
use Rattle.std.proofs.lemmas.List.Sorted.{sum_by-IsPermutation}
use Rattle.tp_spec.specs.Lists.{each_next}
use Rattle.tp_spec.specs.Courses.{act_before}
use Rattle.tp_spec.specs.declared.plan.Timed.{Timed}

through : (a b c a' b' c' a'' b'' c'' : ℕ)
    → (nat_lt a a' || (a == a' && (nat_lt b b' || (b == b' && nat_le c c')))) ≡ true
    → (nat_lt a' a'' || (a' == a'' && (nat_lt b' b'' || (b' == b'' && nat_le c' c'')))) ≡ true
    → (nat_lt a a'' || (a == a'' && (nat_lt b b'' || (b == b'' && nat_le c c'')))) ≡ true
through a b c a' b' c' a'' b'' c'' h k = grind (arith, nat_tests)

same_starts : (a b c a' b' c' : ℕ)
    → (nat_lt a a' || (a == a' && (nat_lt b b' || (b == b' && nat_le c c')))) ≡ true
    → (nat_lt a' a || (a' == a && (nat_lt b' b || (b' == b && nat_le c' c)))) ≡ true
    → a ≡ a'
same_starts a b c a' b' c' h k = grind (arith, nat_tests)

same_actions : (a b c a' b' c' : ℕ)
    → (nat_lt a a' || (a == a' && (nat_lt b b' || (b == b' && nat_le c c')))) ≡ true
    → (nat_lt a' a || (a' == a && (nat_lt b' b || (b' == b && nat_le c' c)))) ≡ true
    → b ≡ b'
same_actions a b c a' b' c' h k = grind (arith, nat_tests)

same_lengths : (a b c a' b' c' : ℕ)
    → (nat_lt a a' || (a == a' && (nat_lt b b' || (b == b' && nat_le c c')))) ≡ true
    → (nat_lt a' a || (a' == a && (nat_lt b' b || (b' == b && nat_le c' c)))) ≡ true
    → c ≡ c'
same_lengths a b c a' b' c' h k = grind (arith, nat_tests)

itself : (a b c : ℕ) → (nat_lt a a || (a == a && (nat_lt b b || (b == b && nat_le c c)))) ≡ true
itself a b c = grind (arith, nat_tests)

both_before : (x y : Timed) → act_before x y ≡ true → act_before y x ≡ true → x ≡ y
both_before x y h k =
    let s = same_starts x.start x.action x.length y.start y.action y.length h k in
    let a = same_actions x.start x.action x.length y.start y.action y.length h k in
    let l = same_lengths x.start x.action x.length y.start y.action y.length h k in
    λ i. record { action = a i; start = s i; length = l i }

all_through : (x y : Timed) → act_before x y ≡ true → (zs : List Timed) → list_all (act_before y) zs ≡ true → list_all (act_before x) zs ≡ true
all_through x y h [] k = refl
all_through x y h (z ∷ zs) k =
    let w = and_parts (act_before y z) (list_all (act_before y) zs) k in
    and_from _ _ (through x.start x.action x.length y.start y.action y.length z.start z.action z.length h w.0) (all_through x y h zs w.1)

-- the first act comes before all others
least : (x : Timed) (xs : List Timed) → each_next act_before (x ∷ xs) ≡ true → list_all (act_before x) xs ≡ true
least x [] h = refl
least x (y ∷ ys) h =
    let w = and_parts (act_before x y) (each_next act_before (y ∷ ys)) h in
    and_from _ _ w.0 (all_through x y w.0 ys (least y ys w.1))

later : (x : Timed) (xs : List Timed) → each_next act_before (x ∷ xs) ≡ true → each_next act_before xs ≡ true
later x [] h = refl
later x (y ∷ ys) h = (and_parts (act_before x y) (each_next act_before (y ∷ ys)) h).1

-- counts what an act does not come before
abbrev missed : Timed → Timed → ℕ
missed x z = cond (act_before x z) 0 1

missed_none : (x : Timed) (zs : List Timed) → list_all (act_before x) zs ≡ true → sum_by (missed x) zs ≡ 0
missed_none x [] h = refl
missed_none x (z ∷ zs) h =
    let w = and_parts (act_before x z) (list_all (act_before x) zs) h in
    let here : missed x z ≡ 0 = ap (λ (b : Bool). cond b 0 1) w.0 in
    let there = missed_none x zs w.1 in
    sum_by-cons (missed x) z zs ∙ (λ i. here i + there i)

not_missed : (b : Bool) → ◌≡◌ {A = ℕ} (cond b 0 1) 0 → b ≡ true
not_missed true h = refl
not_missed false h = absurd (omega arith)

-- an act among others, of which another one comes before all, comes behind that one
comes_before : (x y : Timed) (xs ys : List Timed) → each_next act_before (y ∷ ys) ≡ true → sum_by (missed y) (x ∷ xs) ≡ sum_by (missed y) (y ∷ ys) → act_before y x ≡ true
comes_before x y xs ys h e =
    let own : missed y y ≡ 0 = ap (λ (b : Bool). cond b 0 1) (itself y.start y.action y.length) in
    let others = missed_none y ys (least y ys h) in
    let right = sum_by-cons (missed y) y ys in
    let left = sum_by-cons (missed y) x xs in
    not_missed (act_before y x) (omega arith)

-- two rows of acts in order that hold the same are one
pub same_in_order : (xs ys : List Timed) → each_next act_before xs ≡ true → each_next act_before ys ≡ true → ((f : Timed → ℕ) → sum_by f xs ≡ sum_by f ys) → xs ≡ ys
same_in_order [] [] h k e = refl
same_in_order [] (y ∷ ys) h k e =
    let one = e (λ z. 1) in
    let right = sum_by-cons (λ (z : Timed). 1) y ys in
    let left : sum_by (λ (z : Timed). 1) [] ≡ 0 = refl in
    absurd (omega arith)
same_in_order (x ∷ xs) [] h k e =
    let one = e (λ z. 1) in
    let left = sum_by-cons (λ (z : Timed). 1) x xs in
    let right : sum_by (λ (z : Timed). 1) [] ≡ 0 = refl in
    absurd (omega arith)
same_in_order (x ∷ xs) (y ∷ ys) h k e =
    let first : x ≡ y = both_before x y (comes_before y x ys xs h (sym (e (missed x)))) (comes_before x y xs ys k (e (missed y))) in
    let rest : xs ≡ ys = same_in_order xs ys (later x xs h) (later y ys k) (λ f.
    let whole = e f in
    let left = sum_by-cons f x xs in
    let right = sum_by-cons f y ys in
    let same : f x ≡ f y = ap f first in
    omega arith) in
    λ i. first i ∷ rest i

-- a row of acts in order stays as it is when it is put in order
pub put_in_order_same : (xs ys : List Timed) → each_next act_before xs ≡ true → IsPermutation xs ys → each_next act_before ys ≡ true → ys ≡ xs
put_in_order_same xs ys h p k = same_in_order ys xs k h (λ f. sum_by-IsPermutation f xs ys p)
