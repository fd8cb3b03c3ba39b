-- Numbers of many digits.
use Rattle.std.proofs.Common.{◌≡◌, ℕ, zero, suc, ◌+◌, ◌-◌, ◌*◌, ◌^◌, ◌/◌, ◌%◌, ◌<◌, ◌≤◌, Bool, true, false, cond, ◌&&◌, nat_eq, nat_lt, List, [], ◌∷◌, ◌++◌, length, map, take, drop, min, Some, None, Ok, Err, refl, ap, sym, subst, ◌∙◌, arith, append_assoc, length-drop, pos, neg_ℤ, ◌⊎◌, inl, inr}
use Rattle.std.specs.List.{list_all}
use Rattle.std.specs.Char.{is_ascii_digit}
use Rattle.std.specs.Int.Digits.{number_from_digits_after, AllBelowBase}
use Rattle.std.proofs.lemmas.Int.Digits as digits
use Rattle.std.proofs.lemmas.List.{map-append, length-map, take-append-drop, drop_all}
use Rattle.std.proofs.Math.Nat.{pow-suc, mul-pos, le-mul_of_pos_right, mul-lt-mul_of_pos_right}
use Rattle.std.proofs.lemmas.Nat.{pow-add, div-mul-add, mod-mul-add}
use Rattle.std.proofs.lemmas.Bool.Decides.{nat_tests}
use Rattle.pddl_tokens.specs.declared.numbers.NumberFault.TheVariants.{NotWhole, TooLarge}
use Rattle.pddl_tokens.specs.Numbers.{in_u64, in_range, digit, are_zeros, product_of}

pub far_is_none : (n : ℕ) → 2 ^ 64 ≤ n → in_u64 n ≡ None
far_is_none n h = grind (arith, nat_tests)

pub none_is_far : (n : ℕ) → in_u64 n ≡ None → 2 ^ 64 ≤ n
none_is_far n h = grind (arith, nat_tests)

pub near_is_some : (n : ℕ) → n < 2 ^ 64 → in_u64 n ≡ Some n
near_is_some n h = grind (arith, nat_tests)

-- a number that is too large stays so with more digits
pub stays_far : (n : ℕ) (ds : List ℕ) → in_u64 n ≡ None → in_u64 (number_from_digits_after 10 n ds) ≡ None
stays_far n ds h =
    let far = none_is_far n h in
    let more = digits.number_after_ge 10 n ds (omega arith) in
    far_is_none (number_from_digits_after 10 n ds) (omega arith)

pub number_after_append : (n : ℕ) (xs ys : List ℕ) → number_from_digits_after 10 n (xs ++ ys) ≡ number_from_digits_after 10 (number_from_digits_after 10 n xs) ys
number_after_append n xs ys = digits.number_after_append 10 n xs ys

-- one more digit, and all digits behind it
apart : (n d L v w p : ℕ) → v ≡ (n * 10 + d) * L + w → p ≡ (0 * 10 + d) * L + w → v ≡ n * (L * 10) + p
apart n d L v w p a b = grind arith

-- more digits at the end of a number
pub number_after : (n : ℕ) (ds : List ℕ) → number_from_digits_after 10 n ds ≡ n * 10 ^ length ds + number_from_digits_after 10 0 ds
number_after n [] = omega arith
number_after n (d ∷ ds) =
    apart n d (10 ^ length ds) (number_from_digits_after 10 (n * 10 + d) ds) (number_from_digits_after 10 0 ds) (number_from_digits_after 10 (0 * 10 + d) ds) (number_after (n * 10 + d) ds) (number_after (0 * 10 + d) ds)
    ∙ ap (λ (p : ℕ). n * p + number_from_digits_after 10 (0 * 10 + d) ds) (sym (pow-suc 10 (length ds)))

is_zero : (c : ℕ) → nat_eq c 48 ≡ true → digit c ≡ 0
is_zero c h = grind (arith, nat_tests)

not_zero : (c : ℕ) → is_ascii_digit c ≡ true → nat_eq c 48 ≡ false → 0 < digit c
not_zero c d h = grind (arith, nat_tests)

small : (c : ℕ) → is_ascii_digit c ≡ true → digit c < 10
small c d = grind (arith, nat_tests)

both : (a b : Bool) → a && b ≡ true → (a ≡ true) × (b ≡ true)
both true true h = (refl, refl)
both true false h = absurd (cc)
both false b h = absurd (cc)

-- digits are below the base
below_ten : (ds : List ℕ) → list_all is_ascii_digit ds ≡ true → AllBelowBase 10 (map digit ds)
below_ten [] h = tt
below_ten (c ∷ ds) h = let p = both (is_ascii_digit c) (list_all is_ascii_digit ds) h in (small c p.0, below_ten ds p.1)

-- zeros are the number 0
zeros_value : (ds : List ℕ) → are_zeros ds ≡ true → number_from_digits_after 10 0 (map digit ds) ≡ 0
zeros_value [] h = refl
zeros_value (c ∷ ds) h =
    let p = both (nat_eq c 48) (are_zeros ds) h in
    let e : 0 * 10 + digit c ≡ 0 = omega (arith, is_zero c p.0) in
    ap (λ (n : ℕ). number_from_digits_after 10 n (map digit ds)) e ∙ zeros_value ds p.1

-- digits that are not all 0 are a number above 0
by_first : (c : ℕ) (ds : List ℕ) (b : Bool) → nat_eq c 48 ≡ b → is_ascii_digit c ≡ true → b && are_zeros ds ≡ false
    → (are_zeros ds ≡ false → 0 < number_from_digits_after 10 0 (map digit ds)) → 0 < number_from_digits_after 10 (0 * 10 + digit c) (map digit ds)
by_first c ds true e d h r =
    let z : 0 * 10 + digit c ≡ 0 = omega (arith, is_zero c e) in
    subst (λ (n : ℕ). 0 < number_from_digits_after 10 n (map digit ds)) (sym z) (r h)
by_first c ds false e d h r =
    let first = not_zero c d e in
    let more = digits.number_after_ge 10 (0 * 10 + digit c) (map digit ds) (omega arith) in
    omega arith

value_of_others : (ds : List ℕ) → list_all is_ascii_digit ds ≡ true → are_zeros ds ≡ false → 0 < number_from_digits_after 10 0 (map digit ds)
value_of_others [] d h = absurd (cc)
value_of_others (c ∷ ds) d h =
    let p = both (is_ascii_digit c) (list_all is_ascii_digit ds) d in
    by_first c ds (nat_eq c 48) refl p.0 h (value_of_others ds p.1)

all_behind : (p : ℕ → Bool) (n : ℕ) (xs : List ℕ) → list_all p xs ≡ true → list_all p (drop n xs) ≡ true
all_behind p zero xs h = h
all_behind p (suc n) [] h = refl
all_behind p (suc n) (x ∷ xs) h = all_behind p n xs (both (p x) (list_all p xs) h).1

ten_pos : (k : ℕ) → 0 < 10 ^ k
ten_pos zero = omega arith
ten_pos (suc k) = rw (pow-suc 10 k) (mul-pos (ten_pos k) (omega arith))

chosen_whole : (minus : Bool) (above below q : ℕ) → above % below ≡ 0 → above / below ≡ q
    → cond (nat_eq (above % below) 0) (in_range minus (above / below)) (Err NotWhole) ≡ in_range minus q
chosen_whole minus above below q m d = rw (m, d) refl

chosen_parted : (minus : Bool) (above below : ℕ) {r : ℕ} → above % below ≡ r → 0 < r
    → cond (nat_eq (above % below) 0) (in_range minus (above / below)) (Err NotWhole) ≡ Err NotWhole
chosen_parted minus above below {r} m p =
    let n : nat_eq (above % below) 0 ≡ false = grind (arith, nat_tests) in
    rw n refl

not_in_range : (minus : Bool) (n : ℕ) → 2 ^ 64 ≤ n → in_range minus n ≡ Err TooLarge
not_in_range minus n far =
    let a : nat_lt n (2 ^ 63) ≡ false = grind (arith, nat_tests) in
    let b : nat_eq n (2 ^ 63) ≡ false = grind (arith, nat_tests) in
    rw (a, b) (neither minus)
  where
    neither : (minus : Bool) → cond (minus && false) (Ok (neg_ℤ (pos n))) (Err TooLarge) ≡ Err TooLarge
    neither true = refl
    neither false = refl

-- a number that is too large for 64 bits is so for the range
pub too_far : (minus : Bool) (n : ℕ) → in_u64 n ≡ None → in_range minus n ≡ Err TooLarge
too_far minus n h = let far = none_is_far n h in not_in_range minus n far

pub some_is : (n m : ℕ) → in_u64 n ≡ Some m → n ≡ m
some_is n m h = grind (arith, nat_tests)

far_times : (n z : ℕ) → in_u64 n ≡ None → in_u64 (n * 10 ^ z) ≡ None
far_times n z h =
    let far = none_is_far n h in
    let more = le-mul_of_pos_right n (ten_pos z) in
    far_is_none (n * 10 ^ z) (omega arith)

-- more digits and zeros keep it too large
pub far_first : (xs ys : List ℕ) (z : ℕ) → in_u64 (number_from_digits_after 10 0 xs) ≡ None → in_u64 (number_from_digits_after 10 0 (xs ++ ys) * 10 ^ z) ≡ None
far_first xs ys z h = rw (number_after_append 0 xs ys) (far_times _ z (stays_far _ ys h))

pub far_second : (xs ys : List ℕ) (z n : ℕ) → in_u64 (number_from_digits_after 10 0 xs) ≡ Some n → in_u64 (number_from_digits_after 10 n ys) ≡ None → in_u64 (number_from_digits_after 10 0 (xs ++ ys) * 10 ^ z) ≡ None
far_second xs ys z n e h = rw (number_after_append 0 xs ys, some_is _ n e) (far_times _ z h)

-- the digits behind the kept ones are all 0, or no zeros are put behind them
product_of_parts : (a tail p q r : ℕ) → (tail ≡ 0) ⊎ (r ≡ 1) → (a * p + tail) * (q * r) ≡ a * r * (q * p) + tail * q
product_of_parts a tail p q r (inl e) = rw e (grind arith)
product_of_parts a tail p q r (inr e) = rw e (grind arith)

-- all digits, by the kept ones and those behind them
digits_apart : (k : ℕ) (whole part : List ℕ)
    → number_from_digits_after 10 0 (map digit (whole ++ part))
    ≡ number_from_digits_after 10 0 (map digit whole ++ map digit (take k part)) * 10 ^ (length part - k) + number_from_digits_after 10 0 (map digit (drop k part))
digits_apart k whole part =
    ap (λ (ds : List ℕ). number_from_digits_after 10 0 (map digit (whole ++ ds))) (sym (take-append-drop k part))
    ∙ (ap (number_from_digits_after 10 0) (map-append digit whole (take k part ++ drop k part) ∙ (ap (λ (ds : List ℕ). map digit whole ++ ds) (map-append digit (take k part) (drop k part)) ∙ sym (append_assoc (map digit whole) (map digit (take k part)) (map digit (drop k part)))))
    ∙ (number_after_append 0 (map digit whole ++ map digit (take k part)) (map digit (drop k part))
    ∙ (number_after (number_from_digits_after 10 0 (map digit whole ++ map digit (take k part))) (map digit (drop k part))
    ∙ ap (λ (n : ℕ). number_from_digits_after 10 0 (map digit whole ++ map digit (take k part)) * 10 ^ n + number_from_digits_after 10 0 (map digit (drop k part))) (length-map (drop k part) digit ∙ length-drop k part))))

-- the digits behind the kept ones are few enough
tail_small : (k : ℕ) (part : List ℕ) → list_all is_ascii_digit part ≡ true → number_from_digits_after 10 0 (map digit (drop k part)) < 10 ^ (length part - k)
tail_small k part ds =
    let lt = digits.number_lt 10 (map digit (drop k part)) (below_ten (drop k part) (all_behind is_ascii_digit k part ds)) in
    subst (λ (n : ℕ). number_from_digits_after 10 0 (map digit (drop k part)) < 10 ^ n) (length-map (drop k part) digit ∙ length-drop k part) lt

behind_all : (k : ℕ) (part : List ℕ) → k ≡ length part → number_from_digits_after 10 0 (map digit (drop k part)) ≡ 0
behind_all k part e =
    let d = drop_all k part (omega arith) in
    rw d refl

-- a digit is kept for each place, or all digits are kept
pub record IsKept (places k : ℕ) (part : List ℕ) : Type 0 where
  pub few : k ≤ places
  pub there : k ≤ length part
  pub all : (k ≡ length part) ⊎ (k ≡ places)

pub kept_is : (places : ℕ) (part : List ℕ) (k : ℕ) → k ≡ min places (length part) → IsKept places k part
kept_is places part k e = record { few = omega arith; there = omega arith; all = grind arith }

one_or_none : (places k : ℕ) (part : List ℕ) → (k ≡ length part) ⊎ (k ≡ places) → (number_from_digits_after 10 0 (map digit (drop k part)) ≡ 0) ⊎ (10 ^ (places - k) ≡ 1)
one_or_none places k part (inl e) = inl (behind_all k part e)
one_or_none places k part (inr e) = let z : places - k ≡ 0 = omega arith in inr (rw z refl)

-- all digits times the scale, over the power of ten of those behind the point
product_is : (scale places k : ℕ) (whole part : List ℕ) → 10 ^ places ≡ scale → IsKept places k part
    → number_from_digits_after 10 0 (map digit (whole ++ part)) * scale
    ≡ number_from_digits_after 10 0 (map digit whole ++ map digit (take k part)) * 10 ^ (places - k) * 10 ^ length part
    + number_from_digits_after 10 0 (map digit (drop k part)) * 10 ^ k
product_is scale places k whole part s h =
    let a = number_from_digits_after 10 0 (map digit whole ++ map digit (take k part)) in
    let tail = number_from_digits_after 10 0 (map digit (drop k part)) in
    let f = h.few in
    let t = h.there in
    let e1 : k + (places - k) ≡ places = omega arith in
    let e2 : k + (length part - k) ≡ length part = omega arith in
    let p1 : scale ≡ 10 ^ k * 10 ^ (places - k) = sym s ∙ (ap (λ (n : ℕ). 10 ^ n) (sym e1) ∙ pow-add 10 k (places - k)) in
    let p2 : 10 ^ k * 10 ^ (length part - k) ≡ 10 ^ length part = sym (pow-add 10 k (length part - k)) ∙ ap (λ (n : ℕ). 10 ^ n) e2 in
    ap (λ (n : ℕ). n * scale) (digits_apart k whole part)
    ∙ (ap (λ (n : ℕ). (a * 10 ^ (length part - k) + tail) * n) p1
    ∙ (product_of_parts a tail (10 ^ (length part - k)) (10 ^ k) (10 ^ (places - k)) (one_or_none places k part h.all)
    ∙ ap (λ (n : ℕ). a * 10 ^ (places - k) * n + tail * 10 ^ k) p2))

-- what is over is less than the divisor
over_small : (places k : ℕ) (part : List ℕ) → list_all is_ascii_digit part ≡ true → IsKept places k part → number_from_digits_after 10 0 (map digit (drop k part)) * 10 ^ k < 10 ^ length part
over_small places k part ds h =
    let t = h.there in
    let e2 : (length part - k) + k ≡ length part = omega arith in
    let p2 : 10 ^ (length part - k) * 10 ^ k ≡ 10 ^ length part = sym (pow-add 10 (length part - k) k) ∙ ap (λ (n : ℕ). 10 ^ n) e2 in
    subst (λ (n : ℕ). number_from_digits_after 10 0 (map digit (drop k part)) * 10 ^ k < n) p2 (mul-lt-mul_of_pos_right (tail_small k part ds) (ten_pos k))

-- where only zeros stand behind the kept digits, the product is whole
pub whole_product : (scale places k : ℕ) (minus : Bool) (whole part : List ℕ) → list_all is_ascii_digit part ≡ true → 10 ^ places ≡ scale → IsKept places k part
    → are_zeros (drop k part) ≡ true
    → product_of scale (record { minus = minus; whole = whole; part = part }) ≡ in_range minus (number_from_digits_after 10 0 (map digit whole ++ map digit (take k part)) * 10 ^ (places - k))
whole_product scale places k minus whole part ds s h z =
    let q = number_from_digits_after 10 0 (map digit whole ++ map digit (take k part)) * 10 ^ (places - k) in
    let e = product_is scale places k whole part s h in
    let small = over_small places k part ds h in
    let none : number_from_digits_after 10 0 (map digit (drop k part)) * 10 ^ k ≡ 0 = rw (zeros_value (drop k part) z) (omega arith) in
    let m = mod-mul-add q (10 ^ length part) (number_from_digits_after 10 0 (map digit (drop k part)) * 10 ^ k) small in
    let d = div-mul-add q (10 ^ length part) (number_from_digits_after 10 0 (map digit (drop k part)) * 10 ^ k) small in
    chosen_whole minus _ _ _ (ap (λ (n : ℕ). n % 10 ^ length part) e ∙ (m ∙ none)) (ap (λ (n : ℕ). n / 10 ^ length part) e ∙ d)

-- where others stand there, it is not
pub parted_product : (scale places k : ℕ) (minus : Bool) (whole part : List ℕ) → list_all is_ascii_digit part ≡ true → 10 ^ places ≡ scale → IsKept places k part
    → are_zeros (drop k part) ≡ false
    → product_of scale (record { minus = minus; whole = whole; part = part }) ≡ Err NotWhole
parted_product scale places k minus whole part ds s h z =
    let q = number_from_digits_after 10 0 (map digit whole ++ map digit (take k part)) * 10 ^ (places - k) in
    let e = product_is scale places k whole part s h in
    let small = over_small places k part ds h in
    let some : 0 < number_from_digits_after 10 0 (map digit (drop k part)) * 10 ^ k = mul-pos (value_of_others (drop k part) (all_behind is_ascii_digit k part ds) z) (ten_pos k) in
    let m = mod-mul-add q (10 ^ length part) (number_from_digits_after 10 0 (map digit (drop k part)) * 10 ^ k) small in
    chosen_parted minus _ _ (ap (λ (n : ℕ). n % 10 ^ length part) e ∙ m) some
