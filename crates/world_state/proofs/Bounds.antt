-- Bounds on values, so that sums of them are exact in 128 bits.
use Rattle.std.proofs.Common.{◌≡◌, sym, ap, subst, ◌∙◌, ℕ, zero, suc, ◌+◌, ◌-◌, ◌*◌, ◌^◌, ◌≤◌, ◌<◌, max, List, [], ◌∷◌, ◌++◌, length, get_or, set, drop, Option, Some, None, ℤ, pos, neg_ℤ, ◌+ℤ◌, ◌-ℤ◌, ◌≤ℤ◌, arith}
use Rattle.std.proofs.lemmas.Int.{ints}
use Rattle.std.proofs.lemmas.List.{drop_more}
use Rattle.std.proofs.lemmas.Grind.{pow_more}
use Rattle.std.proofs.Math.Nat.{pow-le-pow_right}
use Rattle.tp_spec.specs.declared.expr.Expr.{Expr, fold-roll-Expr}
use Rattle.tp_spec.specs.declared.expr.Expr.TheOpen.{Expr-F}
use Rattle.tp_spec.specs.declared.expr.Expr.TheVariants.{Sum, Difference, rolls-Sum, rolls-Difference}
use Rattle.tp_spec.specs.States.{of_both}
use Rattle.tp_spec.specs.WellFormed.{depth, depth_at}
use Rattle.world_state.specs.Exact.{IsBounded, AreBounded}

pub bounded_more : (b c : ℕ) (v : Option ℤ) → b ≤ c → IsBounded b v → IsBounded c v
bounded_more b c None le h = tt
bounded_more b c (Some z) le h =
    let low : neg_ℤ (pos b) ≤ℤ z = h.0 in
    let high : z ≤ℤ pos b = h.1 in
    (omega (arith, ints), omega (arith, ints))

pub are_bounded_more : (b c : ℕ) (values : List (Option ℤ)) → b ≤ c → AreBounded b values → AreBounded c values
are_bounded_more b c values le h x = bounded_more b c (get_or values x None) le (h x)

pub sum_bounded : (b c : ℕ) (v w : Option ℤ) → IsBounded b v → IsBounded c w → IsBounded (b + c) (of_both (λ m n. m +ℤ n) v w)
sum_bounded b c None w h k = tt
sum_bounded b c (Some m) None h k = tt
sum_bounded b c (Some m) (Some n) h k =
    let low : neg_ℤ (pos b) ≤ℤ m = h.0 in
    let high : m ≤ℤ pos b = h.1 in
    let low' : neg_ℤ (pos c) ≤ℤ n = k.0 in
    let high' : n ≤ℤ pos c = k.1 in
    (omega (arith, ints), omega (arith, ints))

pub difference_bounded : (b c : ℕ) (v w : Option ℤ) → IsBounded b v → IsBounded c w → IsBounded (b + c) (of_both (λ m n. m -ℤ n) v w)
difference_bounded b c None w h k = tt
difference_bounded b c (Some m) None h k = tt
difference_bounded b c (Some m) (Some n) h k =
    let low : neg_ℤ (pos b) ≤ℤ m = h.0 in
    let high : m ≤ℤ pos b = h.1 in
    let low' : neg_ℤ (pos c) ≤ℤ n = k.0 in
    let high' : n ≤ℤ pos c = k.1 in
    (omega (arith, ints), omega (arith, ints))

-- the bound of a value by the depth of its expression
abbrev pub reach : ℕ → ℕ
reach depth = 2 ^ (63 + depth)

pub reach_more : (d e : ℕ) → d ≤ e → reach d ≤ reach e
reach_more d e le = let sum : 63 + d ≤ 63 + e = omega arith in pow-le-pow_right (omega arith) sum

-- two values under an operation
pub reach_both : (d e : ℕ) → reach d + reach e ≤ reach (1 + max d e)
reach_both d e =
    let m : ℕ = max d e in
    let left : d ≤ m = omega arith in
    let right : e ≤ m = omega arith in
    let twice : 2 ^ (63 + m + 1) ≡ 2 ^ (63 + m) * 2 = pow_more 2 (63 + m) in
    let same : 63 + (1 + m) ≡ 63 + m + 1 = omega arith in
    let e' : reach (1 + m) ≡ 2 ^ (63 + m) * 2 = ap (λ k. 2 ^ k) same ∙ twice in
    omega (arith, reach_more d m left, reach_more e m right, e')

pub sum_reaches : (d e : ℕ) (v w : Option ℤ) → IsBounded (reach d) v → IsBounded (reach e) w → IsBounded (reach (1 + max d e)) (of_both (λ m n. m +ℤ n) v w)
sum_reaches d e v w h k = bounded_more (reach d + reach e) (reach (1 + max d e)) (of_both (λ m n. m +ℤ n) v w) (reach_both d e) (sum_bounded (reach d) (reach e) v w h k)

pub difference_reaches : (d e : ℕ) (v w : Option ℤ) → IsBounded (reach d) v → IsBounded (reach e) w → IsBounded (reach (1 + max d e)) (of_both (λ m n. m -ℤ n) v w)
difference_reaches d e v w h k = bounded_more (reach d + reach e) (reach (1 + max d e)) (of_both (λ m n. m -ℤ n) v w) (reach_both d e) (difference_bounded (reach d) (reach e) v w h k)

-- an expression of at most 32 operations is within 95 bits
pub reach_small : (d b : ℕ) (v : Option ℤ) → d ≤ 32 → 2 ^ 95 ≤ b → IsBounded (reach d) v → IsBounded b v
reach_small d b v small le h =
    let most : reach d ≤ reach 32 = reach_more d 32 small in
    bounded_more (reach d) b v (omega arith) h

pub sum_result : (depth d e : ℕ) (v w r : Option ℤ) → depth ≡ 1 + max d e → r ≡ of_both (λ m n. m +ℤ n) v w → IsBounded (reach d) v → IsBounded (reach e) w
    → IsBounded (reach depth) r
sum_result depth d e v w r is result h k =
    subst (λ n. IsBounded (reach n) r) (sym is) (subst (IsBounded (reach (1 + max d e))) (sym result) (sum_reaches d e v w h k))

pub difference_result : (depth d e : ℕ) (v w r : Option ℤ) → depth ≡ 1 + max d e → r ≡ of_both (λ m n. m -ℤ n) v w → IsBounded (reach d) v → IsBounded (reach e) w
    → IsBounded (reach depth) r
difference_result depth d e v w r is result h k =
    subst (λ n. IsBounded (reach n) r) (sym is) (subst (IsBounded (reach (1 + max d e))) (sym result) (difference_reaches d e v w h k))

pub sum_depth : (e l r l' r' : Expr) → e ≡ Sum l r → l' ≡ l → r' ≡ r → depth e ≡ 1 + max (depth l') (depth r')
sum_depth e l r l' r' is left right =
    ap depth is ∙ ap depth (sym (rolls-Sum l r)) ∙ fold-roll-Expr ℕ depth_at (Expr-F.Sum l r)
    ∙ ap (λ x. 1 + max (depth x) (depth r)) (sym left) ∙ ap (λ x. 1 + max (depth l') (depth x)) (sym right)

pub difference_depth : (e l r l' r' : Expr) → e ≡ Difference l r → l' ≡ l → r' ≡ r → depth e ≡ 1 + max (depth l') (depth r')
difference_depth e l r l' r' is left right =
    ap depth is ∙ ap depth (sym (rolls-Difference l r)) ∙ fold-roll-Expr ℕ depth_at (Expr-F.Difference l r)
    ∙ ap (λ x. 1 + max (depth x) (depth r)) (sym left) ∙ ap (λ x. 1 + max (depth l') (depth x)) (sym right)

-- the sides of an operation of at most 32 operations
pub sides_small : (depth d e : ℕ) → depth ≡ 1 + max d e → depth ≤ 32 → (d ≤ 32) × (e ≤ 32)
sides_small depth d e is small = (omega arith, omega arith)

pub bounded_push : (b : ℕ) (values : List (Option ℤ)) (v : Option ℤ) → AreBounded b values → IsBounded b v → AreBounded b (values ++ v ∷ [])
bounded_push b [] v h k zero = k
bounded_push b [] v h k (suc x) = tt
bounded_push b (w ∷ ws) v h k zero = h zero
bounded_push b (w ∷ ws) v h k (suc x) = bounded_push b ws v (λ j. h (suc j)) k x

pub bounded_set : (b : ℕ) (values : List (Option ℤ)) (i : ℕ) (v : Option ℤ) → AreBounded b values → IsBounded b v → AreBounded b (set values i v)
bounded_set b [] i v h k x = tt
bounded_set b (w ∷ ws) zero v h k zero = k
bounded_set b (w ∷ ws) zero v h k (suc x) = h (suc x)
bounded_set b (w ∷ ws) (suc i) v h k zero = h zero
bounded_set b (w ∷ ws) (suc i) v h k (suc x) = bounded_set b ws i v (λ j. h (suc j)) k x

-- a loop that goes down a list of at most 4,096 effects, each of which adds at most 95 bits
pub effects_fit : (n i : ℕ) → n ≤ 4096 → 2 ^ 125 + (n - i) * 2 ^ 95 ≤ 2 ^ 126
effects_fit n i few = omega arith

pub effect_more : (b n i : ℕ) → 0 < i → i ≤ n → b + (n - i) * 2 ^ 95 + 2 ^ 95 ≤ b + (n - (i - 1)) * 2 ^ 95
effect_more b n i some below = omega arith

pub effects_all : (b n i : ℕ) → i ≤ 0 → b + (n - i) * 2 ^ 95 ≤ b + n * 2 ^ 95
effects_all b n i none = omega arith

-- a loop that goes down a list of at most 8,448 items
pub items_fit : (n i : ℕ) → n ≤ 8448 → 2 ^ 63 + (n - i) * 2 ^ 107 ≤ 2 ^ 125
items_fit n i few = omega arith

pub item_more : (n i k : ℕ) → 0 < i → i ≤ n → k ≤ 4096 → 2 ^ 63 + (n - i) * 2 ^ 107 + k * 2 ^ 95 ≤ 2 ^ 63 + (n - (i - 1)) * 2 ^ 107
item_more n i k some below few = omega arith

-- what a loop that goes down a list has before it
pub drop_back : {A : Type 0} (xs : List A) (n : ℕ) (x : A) → 0 < n → n ≤ length xs → x ≡ get_or xs (n - 1) x → drop (n - 1) xs ≡ x ∷ drop n xs
drop_back xs n x some below is =
    let within : n - 1 < length xs = omega arith in
    let next : n - 1 + 1 ≡ n = omega arith in
    drop_more xs (n - 1) x within ∙ ap (λ k. get_or xs (n - 1) x ∷ drop k xs) next ∙ ap (λ y. y ∷ drop n xs) (sym is)

pub drop_back_at : {A : Type 0} (xs : List A) (n : ℕ) (d : A) → 0 < n → n ≤ length xs → drop (n - 1) xs ≡ get_or xs (n - 1) d ∷ drop n xs
drop_back_at xs n d some below =
    let within : n - 1 < length xs = omega arith in
    let next : n - 1 + 1 ≡ n = omega arith in
    drop_more xs (n - 1) d within ∙ ap (λ k. get_or xs (n - 1) d ∷ drop k xs) next
