-- A tick's text is read as the tick.
use Rattle.std.proofs.Common.{◌≡◌, ℕ, ◌+◌, ◌/◌, ◌%◌, ◌^◌, ◌<◌, ◌≤◌, true, List, [], ◌∷◌, ◌++◌, length, map, drop, decimal, refl, ap, sym, subst, ◌∙◌, arith}
use Rattle.std.specs.List.{list_all}
use Rattle.std.specs.Char.{is_ascii_digit}
use Rattle.std.specs.Int.Digits.{number_from_digits_after}
use Rattle.std.proofs.lemmas.Int.Digits as digits
use Rattle.std.proofs.lemmas.List.{map-append, length-append}
use Rattle.std.proofs.lemmas.List.Folds.{list_all-append}
use Rattle.std.proofs.lemmas.Bool.{and_from}
use Rattle.std.proofs.lemmas.Bool.Decides.{nat_tests}
use Rattle.std.proofs.lemmas.Fmt.{decimal_by_steps, decimal_step, decimal_digit}
use Rattle.pddl_tokens.specs.Numbers.{digit}

-- what a number's digits are: digits, of that value, and some
pub record IsDecimal (n : ℕ) (ds : List ℕ) : Type 0 where
  pub digits : list_all is_ascii_digit ds ≡ true
  pub value : number_from_digits_after 10 0 (map digit ds) ≡ n
  pub some : 1 ≤ length ds

digit_byte : (n : ℕ) → n < 10 → is_ascii_digit (48 + n) ≡ true
digit_byte n h = grind (arith, nat_tests)

one_digit : (n : ℕ) → n < 10 → IsDecimal n ((48 + n) ∷ [])
one_digit n h = record {
  digits = and_from _ true (digit_byte n h) refl;
  value = omega arith;
  some = omega arith;
}

more_digits : (n : ℕ) (ds : List ℕ) → 10 ≤ n → IsDecimal (n / 10) ds → IsDecimal n (ds ++ ((48 + n % 10) ∷ []))
more_digits n ds h d =
    let small : n % 10 < 10 = omega arith in
    let behind : number_from_digits_after 10 (n / 10) (map digit ((48 + n % 10) ∷ [])) ≡ n = omega arith in
    record {
      digits = list_all-append is_ascii_digit ds ((48 + n % 10) ∷ []) ∙ and_from _ _ d.digits (and_from _ true (digit_byte (n % 10) small) refl);
      value =
          ap (number_from_digits_after 10 0) (map-append digit ds ((48 + n % 10) ∷ []))
          ∙ (digits.number_after_append 10 0 (map digit ds) (map digit ((48 + n % 10) ∷ []))
          ∙ (ap (λ (m : ℕ). number_from_digits_after 10 m (map digit ((48 + n % 10) ∷ []))) d.value ∙ behind));
      some = omega (arith, length-append ds ((48 + n % 10) ∷ []));
    }

pub decimal_is : (n : ℕ) → n < 2 ^ 64 → IsDecimal n (decimal n)
decimal_is n h = decimal_by_steps IsDecimal one_digit more_digits n h

-- the digits of a number of two, three or four digits, the first of them 1
two : (n : ℕ) → 10 ≤ n → n < 20 → decimal n ≡ 49 ∷ (48 + n % 10) ∷ []
two n a b =
    let tens : n / 10 ≡ 1 = omega arith in
    decimal_step n a (omega arith) ∙ (ap (λ (m : ℕ). decimal m ++ ((48 + n % 10) ∷ [])) tens ∙ ap (λ (ds : List ℕ). ds ++ ((48 + n % 10) ∷ [])) (decimal_digit 1 (omega arith)))

three : (n : ℕ) → 100 ≤ n → n < 200 → decimal n ≡ 49 ∷ (48 + n / 10 % 10) ∷ (48 + n % 10) ∷ []
three n a b =
    decimal_step n (omega arith) (omega arith) ∙ ap (λ (ds : List ℕ). ds ++ ((48 + n % 10) ∷ [])) (two (n / 10) (omega arith) (omega arith))

four : (n : ℕ) → 1000 ≤ n → n < 2000 → decimal n ≡ 49 ∷ (48 + n / 10 / 10 % 10) ∷ (48 + n / 10 % 10) ∷ (48 + n % 10) ∷ []
four n a b =
    decimal_step n (omega arith) (omega arith) ∙ ap (λ (ds : List ℕ). ds ++ ((48 + n % 10) ∷ [])) (three (n / 10) (omega arith) (omega arith))

-- the digits behind the point: digits, one for each place of the scale, that give a tick behind its units
pub record IsPart (scale t : ℕ) (ds : List ℕ) : Type 0 where
  pub digits : list_all is_ascii_digit ds ≡ true
  pub value : number_from_digits_after 10 (t / scale) (map digit ds) ≡ t
  pub places : 10 ^ length ds ≡ scale
  pub some : 1 ≤ length ds

pub part_ten : (t : ℕ) → IsPart 10 t (drop 1 (decimal (10 + t % 10)))
part_ten t =
    let same : decimal (10 + t % 10) ≡ 49 ∷ (48 + (10 + t % 10) % 10) ∷ [] = two (10 + t % 10) (omega arith) (omega arith) in
    subst (λ (ds : List ℕ). IsPart 10 t (drop 1 ds)) (sym same) (record {
      digits = and_from _ true (digit_byte ((10 + t % 10) % 10) (omega arith)) refl;
      value = omega arith;
      places = refl;
      some = omega arith;
    })

pub part_hundred : (t : ℕ) → IsPart 100 t (drop 1 (decimal (100 + t % 100)))
part_hundred t =
    let n : ℕ = 100 + t % 100 in
    let same : decimal n ≡ 49 ∷ (48 + n / 10 % 10) ∷ (48 + n % 10) ∷ [] = three n (omega arith) (omega arith) in
    subst (λ (ds : List ℕ). IsPart 100 t (drop 1 ds)) (sym same) (record {
      digits = and_from _ _ (digit_byte (n / 10 % 10) (omega arith)) (and_from _ true (digit_byte (n % 10) (omega arith)) refl);
      value = omega arith;
      places = refl;
      some = omega arith;
    })

pub part_thousand : (t : ℕ) → IsPart 1000 t (drop 1 (decimal (1000 + t % 1000)))
part_thousand t =
    let n : ℕ = 1000 + t % 1000 in
    let same : decimal n ≡ 49 ∷ (48 + n / 10 / 10 % 10) ∷ (48 + n / 10 % 10) ∷ (48 + n % 10) ∷ [] = four n (omega arith) (omega arith) in
    subst (λ (ds : List ℕ). IsPart 1000 t (drop 1 ds)) (sym same) (record {
      digits = and_from _ _ (digit_byte (n / 10 / 10 % 10) (omega arith)) (and_from _ _ (digit_byte (n / 10 % 10) (omega arith)) (and_from _ true (digit_byte (n % 10) (omega arith)) refl));
      value = omega arith;
      places = refl;
      some = omega arith;
    })
