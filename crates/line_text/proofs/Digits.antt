-- A number that stands in front of a text is read, and nothing else is.
use Rattle.std.proofs.Common.{◌≡◌, ℕ, ◌+◌, ◌-◌, ◌*◌, ◌/◌, ◌%◌, ◌^◌, ◌≤◌, ◌<◌, Bool, true, false, List, [], ◌∷◌, ◌++◌, length, take, refl, sym, ap, subst, ◌∙◌, append_assoc, length-append, arith}
use Rattle.std.specs.Prelude.{decimal, if◌then◌else◌}
use Rattle.std.proofs.lemmas.Fmt.{decimal_by_steps}
use Rattle.std.proofs.lemmas.Bool.Decides.{nat_tests}
use Rattle.std.proofs.lemmas.List.{take_at}
use Rattle.line_text.specs.Numbers.{is_digit, begins_with_digit, held, digits_from, BeginsWithNumber}

digit_is : (d : ℕ) → d < 10 → is_digit (48 + d) ≡ true
digit_is d lt = grind (arith, nat_tests)

one_digit : (m d n : ℕ) (rest : List ℕ) → d < 10 → m * 10 + d ≡ n → n < 2 ^ 64 → digits_from m ((48 + d) ∷ rest) ≡ digits_from n rest
one_digit m d n rest lt is fits =
    let digit = digit_is d lt in
    let value : held (held (m * 10) + ((48 + d) - 48)) ≡ n = omega arith in
    rw (digit, value) refl

abbrev Reads : ℕ → List ℕ → Type 0
Reads n ds = n < 2 ^ 64 → (rest : List ℕ) → digits_from 0 (ds ++ rest) ≡ digits_from n rest

reads_one : (n : ℕ) → n < 10 → Reads n ((48 + n) ∷ [])
reads_one n lt fits rest = one_digit 0 n n rest lt (omega arith) fits

reads_more : (n : ℕ) (ds : List ℕ) → 10 ≤ n → Reads (n / 10) ds → Reads n (ds ++ ((48 + n % 10) ∷ []))
reads_more n ds big front fits rest =
    let less : n / 10 < 2 ^ 64 = omega arith in
    let small : n % 10 < 10 = omega arith in
    let whole : (n / 10) * 10 + n % 10 ≡ n = omega arith in
    ap (digits_from 0) (append_assoc ds ((48 + n % 10) ∷ []) rest)
    ∙ front less ((48 + n % 10) ∷ rest)
    ∙ one_digit (n / 10) (n % 10) n rest small whole fits

digits_end : (n : ℕ) (rest : List ℕ) → begins_with_digit rest ≡ false → digits_from n rest ≡ (n, rest)
digits_end n [] h = refl
digits_end n (c ∷ rest) h = rw h refl

-- a number in front is read
digits_again : (n : ℕ) (rest : List ℕ) → n < 2 ^ 64 → begins_with_digit rest ≡ false → digits_from 0 (decimal n ++ rest) ≡ (n, rest)
digits_again n rest fits ends = decimal_by_steps Reads reads_one reads_more n fits fits rest ∙ digits_end n rest ends

-- what is left stands behind a front, and begins with no digit
record IsLeft (text rest : List ℕ) : Type 0 where
  pub front : List ℕ
  pub parts : text ≡ front ++ rest
  pub ends : begins_with_digit rest ≡ false

left_of : (n : ℕ) (text : List ℕ) → IsLeft text (digits_from n text).1
left_of n [] = record { front = []; parts = refl; ends = refl }
left_of n (c ∷ rest) = by_digit (is_digit c) refl (left_of (held (held (n * 10) + (c - 48))) rest) where
  by_digit : (is : Bool) → is_digit c ≡ is → IsLeft rest (digits_from (held (held (n * 10) + (c - 48))) rest).1
      → IsLeft (c ∷ rest) (if is then digits_from (held (held (n * 10) + (c - 48))) rest else (n, c ∷ rest)).1
  by_digit true e more = record { front = c ∷ more.front; parts = ap (λ (y : List ℕ). c ∷ y) more.parts; ends = more.ends }
  by_digit false e more = record { front = []; parts = refl; ends = e }

-- the bytes before what is left
before_left : (text front rest : List ℕ) → text ≡ front ++ rest → take (length text - length rest) text ≡ front
before_left text front rest parts =
    let sum = ap length parts ∙ length-append front rest in
    let count : length front ≡ length text - length rest = omega (arith, sum) in
    ap (take (length text - length rest)) parts ∙ take_at front rest (length text - length rest) count

module _ (text rest digits : List ℕ) (number len most : ℕ) (read : ◌≡◌ {A = ℕ × List ℕ} (number, rest) (digits_from 0 text)) (count : len ≡ length text - length rest) (front : digits ≡ take len text) where
  left : IsLeft text rest
  left = subst (λ (x : ℕ × List ℕ). IsLeft text x.1) (sym read) (left_of 0 text)

  digits_are : digits ≡ left.front
  digits_are = front ∙ ap (λ (k : ℕ). take k text) count ∙ before_left text left.front rest left.parts

  pub found : number ≤ most → decimal number ≡ digits → BeginsWithNumber most text number rest
  found within written = record {
    is = left.parts ∙ ap (λ (y : List ℕ). y ++ rest) (sym digits_are ∙ sym written);
    within = within;
    ends = left.ends;
  }

  module _ (bound : most < 2 ^ 64) (m : ℕ) (behind : List ℕ) (begins : BeginsWithNumber most text m behind) where
    same : ◌≡◌ {A = ℕ × List ℕ} (number, rest) (m, behind)
    same =
        let fits : m < 2 ^ 64 = let w = begins.within in omega (arith, w, bound) in
        read ∙ ap (digits_from 0) begins.is ∙ digits_again m behind fits begins.ends

    pub not_greater : number ≤ most
    not_greater = let e : number ≡ m = ap (λ (x : ℕ × List ℕ). x.0) same in let w = begins.within in omega (arith, e, w)

    pub is_written : decimal number ≡ digits
    is_written =
        let e : number ≡ m = ap (λ (x : ℕ × List ℕ). x.0) same in
        let r : rest ≡ behind = ap (λ (x : ℕ × List ℕ). x.1) same in
        ap decimal e ∙ sym (front ∙ ap (λ (k : ℕ). take k text) (count ∙ ap (λ (y : List ℕ). length text - length y) r) ∙ before_left text (decimal m) behind begins.is)
