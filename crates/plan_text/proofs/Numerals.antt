-- The numbers that ticks' texts spell.
use Rattle.std.proofs.Common.{◌≡◌, ℕ, suc, ◌+◌, ◌*◌, ◌/◌, ◌%◌, ◌^◌, ◌<◌, ◌≤◌, pos, Bool, true, false, not, cond, nat_eq, nat_lt, List, [], ◌∷◌, ◌++◌, length, map, drop, Some, None, Ok, Err, refl, ap, sym, subst, ◌∙◌, append-nil, arith}
use Rattle.std.specs.List.{list_all}
use Rattle.std.specs.Char.{is_ascii_digit}
use Rattle.std.specs.Int.Digits.{number_from_digits_after}
use Rattle.std.proofs.lemmas.Int.Digits as digits
use Rattle.std.proofs.lemmas.List.{map-append}
use Rattle.std.proofs.lemmas.Bool.{and_from, and_parts, eq-eqb, ne_eqb, lt-ltb}
use Rattle.std.proofs.lemmas.Bool.Decides.{nat_tests}
use Rattle.std.proofs.lemmas.Nat.{div-mul-add, mod-mul-add}
use Rattle.std.proofs.Math.Seq.{take-append_seam}
use Rattle.pddl_tokens.specs.Numbers.{digit, are_digits, at_point, pointed, unsigned_of, numeral_of, in_range, product_if, number_of}
use Rattle.pddl_tokens.specs.declared.numbers.NumberFault.TheVariants.{NotWhole}
use Rattle.plan_text.proofs.Ticks.{IsDecimal, IsPart}
use Rattle.plan_text.proofs.Places.{position_none, position_seam, drop_seam}

-- a test that follows from another one
pub all_imply : (p q : ℕ → Bool) (imply : (x : ℕ) → p x ≡ true → q x ≡ true) (xs : List ℕ) → list_all p xs ≡ true → list_all q xs ≡ true
all_imply p q imply [] h = refl
all_imply p q imply (x ∷ xs) h =
    let w = and_parts (p x) (list_all p xs) h in
    and_from (q x) (list_all q xs) (imply x w.0) (all_imply p q imply xs w.1)

no_point : (x : ℕ) → is_ascii_digit x ≡ true → not (nat_eq x 46) ≡ true
no_point x h = grind (arith, nat_tests)

no_minus : (x : ℕ) → is_ascii_digit x ≡ true → nat_eq x 45 ≡ false
no_minus x h = grind (arith, nat_tests)

some_digits : (ds : List ℕ) → list_all is_ascii_digit ds ≡ true → 1 ≤ length ds → are_digits ds ≡ true
some_digits ds h some =
    let e : nat_eq (length ds) 0 ≡ false = ne_eqb (length ds) 0 (λ z. omega arith) in
    and_from _ _ (ap not e) h

-- digits and something behind them begin with no minus
unsigned : (ds tail : List ℕ) → list_all is_ascii_digit ds ≡ true → 1 ≤ length ds → numeral_of (ds ++ tail) ≡ unsigned_of false (ds ++ tail)
unsigned [] tail h some = absurd (omega arith)
unsigned (c ∷ rest) tail h some =
    let w = and_parts (is_ascii_digit c) (list_all is_ascii_digit rest) h in
    ap (λ (b : Bool). cond b (unsigned_of true (rest ++ tail)) (unsigned_of false (c ∷ (rest ++ tail)))) (no_minus c w.0)

pub numeral_whole : (ds : List ℕ) → list_all is_ascii_digit ds ≡ true → 1 ≤ length ds → numeral_of ds ≡ Some (record { minus = false; whole = ds; part = [] })
numeral_whole ds h some =
    let none = position_none (λ c. nat_eq c 46) ds (all_imply is_ascii_digit (λ c. not (nat_eq c 46)) no_point ds h) in
    ap numeral_of (sym (append-nil ds))
    ∙ (unsigned ds [] h some
    ∙ (ap (unsigned_of false) (append-nil ds)
    ∙ (ap (at_point false ds) none
    ∙ ap (λ (b : Bool). cond b (Some (record { minus = false; whole = ds; part = [] })) None) (some_digits ds h some))))

pub numeral_parts : (ds part : List ℕ) → list_all is_ascii_digit ds ≡ true → 1 ≤ length ds → list_all is_ascii_digit part ≡ true → 1 ≤ length part
    → numeral_of (ds ++ 46 ∷ part) ≡ Some (record { minus = false; whole = ds; part = part })
numeral_parts ds part h some g more =
    let at = position_seam (λ c. nat_eq c 46) ds 46 part (all_imply is_ascii_digit (λ c. not (nat_eq c 46)) no_point ds h) refl in
    let front = take-append_seam ds (46 ∷ part) in
    let next : length ds + 1 ≡ suc (length ds) = omega arith in
    let back : drop (length ds + 1) (ds ++ 46 ∷ part) ≡ part = ap (λ (n : ℕ). drop n (ds ++ 46 ∷ part)) next ∙ drop_seam ds 46 part in
    unsigned ds (46 ∷ part) h some
    ∙ (ap (at_point false (ds ++ 46 ∷ part)) at
    ∙ ((λ i. pointed false (front i) (back i))
    ∙ ap (λ (b : Bool). cond b (Some (record { minus = false; whole = ds; part = part })) None) (and_from _ _ (some_digits ds h some) (some_digits part g more))))

-- a product that is whole and small enough
whole_quotient : (above below t : ℕ) → above ≡ t * below → 0 < below → t < 2 ^ 63
    → cond (nat_eq (above % below) 0) (in_range false (above / below)) (Err NotWhole) ≡ Ok (pos t)
whole_quotient above below t e some small =
    let same : above ≡ t * below + 0 = omega arith in
    let over : above % below ≡ 0 = ap (λ (n : ℕ). n % below) same ∙ mod-mul-add t below 0 some in
    let times : above / below ≡ t = ap (λ (n : ℕ). n / below) same ∙ div-mul-add t below 0 some in
    let none : nat_eq (above % below) 0 ≡ true = eq-eqb (above % below) 0 over in
    let fits : nat_lt t (2 ^ 63) ≡ true = lt-ltb t (2 ^ 63) small in
    ap (λ (b : Bool). cond b (in_range false (above / below)) (Err NotWhole)) none
    ∙ (ap (in_range false) times ∙ near t fits)
  where
    near : (n : ℕ) → nat_lt n (2 ^ 63) ≡ true → in_range false n ≡ Ok (pos n)
    near n fits = rw fits refl

pub number_whole : (t : ℕ) (ds : List ℕ) → IsDecimal t ds → t < 2 ^ 63 → number_of 1 ds ≡ Ok (pos t)
number_whole t ds d small =
    let value : number_from_digits_after 10 0 (map digit (ds ++ [])) * 1 ≡ t * 1 =
    ap (λ (l : List ℕ). number_from_digits_after 10 0 (map digit l) * 1) (append-nil ds) ∙ ap (λ (n : ℕ). n * 1) d.value in
    ap (product_if 1) (numeral_whole ds d.digits d.some) ∙ whole_quotient _ 1 t value (omega arith) small

pub number_parts : (scale t : ℕ) (ds part : List ℕ) → IsDecimal (t / scale) ds → IsPart scale t part → 0 < scale → t < 2 ^ 63 → number_of scale (ds ++ 46 ∷ part) ≡ Ok (pos t)
number_parts scale t ds part d b some small =
    let value : number_from_digits_after 10 0 (map digit (ds ++ part)) ≡ t =
    ap (number_from_digits_after 10 0) (map-append digit ds part)
    ∙ (digits.number_after_append 10 0 (map digit ds) (map digit part)
    ∙ (ap (λ (n : ℕ). number_from_digits_after 10 n (map digit part)) d.value ∙ b.value)) in
    let places : 10 ^ length part ≡ scale = b.places in
    let above : number_from_digits_after 10 0 (map digit (ds ++ part)) * scale ≡ t * 10 ^ length part = (ap (λ (n : ℕ). n * scale) value ∙ ap (λ (n : ℕ). t * n) (sym places)) in
    let below : 0 < 10 ^ length part = subst (λ (n : ℕ). 0 < n) (sym places) some in
    ap (product_if scale) (numeral_parts ds part d.digits d.some b.digits b.some) ∙ whole_quotient _ (10 ^ length part) t above below small
