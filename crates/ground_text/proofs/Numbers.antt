-- A number that is written is read again.
use Rattle.std.proofs.Common.{◌≡◌, ℕ, suc, ◌+◌, ◌-◌, ◌*◌, ◌/◌, ◌%◌, ◌^◌, ◌≤◌, ◌<◌, true, false, List, [], ◌∷◌, ◌++◌, Option, Some, None, refl, sym, ap, ◌∙◌, append_assoc, arith, inl, inr}
use Rattle.std.specs.Prelude.{decimal, ℤ, pos, negsuc, ◌==◌}
use Rattle.std.specs.Fmt.{signed_decimal}
use Rattle.std.proofs.lemmas.Fmt.{decimal_by_steps}
use Rattle.std.proofs.lemmas.Bool.{false≢true, false_from_ne_true, eqb-true, and_parts, lt-ltb, le-ltb, leb-true, cases_lt}
use Rattle.std.proofs.lemmas.Bool.Decides.{nat_tests}
use Rattle.ground_text.specs.Texts.{value_text}
use Rattle.tp_spec.specs.WellFormed.{is_i64, is_value}
use Rattle.ground_text.specs.Reading.{is_digit, within, narrow, signed_of, first_is, number_from, number_at, index_at, integer_at, value_at, begins_with_digit}

digit_is : (d : ℕ) → d < 10 → is_digit (48 + d) ≡ true
digit_is d lt = grind (arith, nat_tests)

within_is : (n : ℕ) → n < 2 ^ 64 → within n ≡ n
within_is n lt = omega arith

one_digit : (m d n : ℕ) (rest : List ℕ) → d < 10 → m * 10 + d ≡ n → n < 2 ^ 64 → number_from m ((48 + d) ∷ rest) ≡ number_from n rest
one_digit m d n rest lt is fits =
    let digit = digit_is d lt in
    let value : within (within (m * 10) + ((48 + d) - 48)) ≡ n = omega arith in
    rw (digit, value) refl

abbrev Reads : ℕ → List ℕ → Type 0
Reads n ds = n < 2 ^ 64 → (rest : List ℕ) → number_from 0 (ds ++ rest) ≡ number_from n rest

reads_one : (n : ℕ) → n < 10 → Reads n ((48 + n) ∷ [])
reads_one n lt fits rest = one_digit 0 n n rest lt (omega arith) fits

reads_more : (n : ℕ) (ds : List ℕ) → 10 ≤ n → Reads (n / 10) ds → Reads n (ds ++ ((48 + n % 10) ∷ []))
reads_more n ds big front fits rest =
    let less : n / 10 < 2 ^ 64 = omega arith in
    let small : n % 10 < 10 = omega arith in
    let whole : (n / 10) * 10 + n % 10 ≡ n = omega arith in
    ap (number_from 0) (append_assoc ds ((48 + n % 10) ∷ []) rest)
    ∙ front less ((48 + n % 10) ∷ rest)
    ∙ one_digit (n / 10) (n % 10) n rest small whole fits

number_ends : (n : ℕ) (rest : List ℕ) → begins_with_digit rest ≡ false → number_from n rest ≡ (n, rest)
number_ends n [] h = refl
number_ends n (c ∷ rest) h = rw h refl

pub number_again : (n : ℕ) (rest : List ℕ) → n < 2 ^ 64 → begins_with_digit rest ≡ false → number_at (decimal n ++ rest) ≡ (n, rest)
unfolding number_at
number_again n rest fits ends = decimal_by_steps Reads reads_one reads_more n fits fits rest ∙ number_ends n rest ends

begins-append : (ds rest : List ℕ) → begins_with_digit ds ≡ true → begins_with_digit (ds ++ rest) ≡ true
begins-append [] rest h = absurd (false≢true h)
begins-append (c ∷ ds) rest h = h

pub decimal_begins : (n : ℕ) (rest : List ℕ) → n < 2 ^ 64 → begins_with_digit (decimal n ++ rest) ≡ true
decimal_begins n rest fits =
    begins-append (decimal n) rest
    (decimal_by_steps (λ m ds. begins_with_digit ds ≡ true) digit_is (λ m ds big h. begins-append ds ((48 + m % 10) ∷ []) h) n fits)

pub digit_first : (c : ℕ) (bytes : List ℕ) → is_digit c ≡ false → begins_with_digit bytes ≡ true → first_is c bytes ≡ false
digit_first c [] other h = absurd (false≢true h)
digit_first c (d ∷ rest) other h = false_from_ne_true _ (λ e. false≢true (sym other ∙ ap is_digit (sym (eqb-true d c e)) ∙ h))

unsigned_is : (bytes : List ℕ) → begins_with_digit bytes ≡ true → integer_at bytes ≡ (signed_of false (number_at bytes).0, (number_at bytes).1)
unfolding integer_at
unsigned_is [] h = absurd (false≢true h)
unsigned_is (c ∷ rest) h = rw (digit_first 45 (c ∷ rest) refl h) refl

signed_positive : (n : ℕ) → n < 2 ^ 63 → signed_of false n ≡ pos n
signed_positive n lt = rw (lt-ltb n (2 ^ 63) lt) refl

signed_negative : (n : ℕ) → n < 2 ^ 63 → signed_of true (suc n) ≡ negsuc n
signed_negative n lt = elim (cases_lt (suc n) (2 ^ 63)) [
  | inl less ↦ rw (lt-ltb (suc n) (2 ^ 63) less) refl
  | inr most ↦ rw (le-ltb (suc n) (2 ^ 63) most) (ap negsuc (omega arith))
]

negative_again : (n : ℕ) (rest : List ℕ) → n < 2 ^ 63 → begins_with_digit rest ≡ false → integer_at (45 ∷ (decimal (suc n) ++ rest)) ≡ (negsuc n, rest)
unfolding integer_at
negative_again n rest lt ends =
    let fits : suc n < 2 ^ 64 = omega arith in
    ap (λ (x : ℕ × List ℕ). (signed_of true x.0, x.1)) (number_again (suc n) rest fits ends)
    ∙ ap (λ (z : ℤ). (z, rest)) (signed_negative n lt)

pub integer_again : (z : ℤ) (rest : List ℕ) → is_i64 z ≡ true → begins_with_digit rest ≡ false → integer_at (signed_decimal z ++ rest) ≡ (z, rest)
integer_again (pos n) rest kept ends =
    let lt : n ≤ 2 ^ 63 - 1 = leb-true n (2 ^ 63 - 1) kept in
    let fits : n < 2 ^ 64 = omega arith in
    let less : n < 2 ^ 63 = omega arith in
    unsigned_is (decimal n ++ rest) (decimal_begins n rest fits)
    ∙ ap (λ (x : ℕ × List ℕ). (signed_of false x.0, x.1)) (number_again n rest fits ends)
    ∙ ap (λ (z : ℤ). (z, rest)) (signed_positive n less)
integer_again (negsuc n) rest kept ends = negative_again n rest (below n kept) ends where
  below : (n : ℕ) → is_i64 (negsuc n) ≡ true → n < 2 ^ 63
  below n kept = omega (arith, leb-true n (2 ^ 63 - 1) (and_parts _ _ kept).0)

pub integer_first : (c : ℕ) (z : ℤ) (rest : List ℕ) → is_i64 z ≡ true → is_digit c ≡ false → (45 == c) ≡ false → first_is c (signed_decimal z ++ rest) ≡ false
integer_first c (pos n) rest kept other minus =
    let lt : n ≤ 2 ^ 63 - 1 = leb-true n (2 ^ 63 - 1) kept in
    digit_first c (decimal n ++ rest) other (decimal_begins n rest (omega arith))
integer_first c (negsuc n) rest kept other minus = minus

pub index_again : (n : ℕ) (rest : List ℕ) → n < 2 ^ 32 → begins_with_digit rest ≡ false → index_at (decimal n ++ rest) ≡ (n, rest)
unfolding index_at
index_again n rest fits ends =
    ap (λ (x : ℕ × List ℕ). (narrow x.0, x.1)) (number_again n rest (omega arith) ends)
    ∙ ap (λ (k : ℕ). (k, rest)) (narrow_is n fits) where
      narrow_is : (n : ℕ) → n < 2 ^ 32 → narrow n ≡ n
      narrow_is n fits = omega arith

pub value_again : (v : Option ℤ) (rest : List ℕ) → is_value v ≡ true → begins_with_digit rest ≡ false → value_at (value_text v ++ rest) ≡ (v, rest)
unfolding value_at
value_again None rest kept ends = rw ends refl
value_again (Some (pos n)) rest kept ends =
    rw (digit_first 45 (decimal n ++ rest) refl (decimal_begins n rest (below n kept))) (ap (λ (x : ℤ × List ℕ). (Some x.0, x.1)) (integer_again (pos n) rest kept ends)) where
      below : (n : ℕ) → is_i64 (pos n) ≡ true → n < 2 ^ 64
      below n kept = omega (arith, leb-true n (2 ^ 63 - 1) kept)
value_again (Some (negsuc n)) rest kept ends =
    rw (decimal_begins (suc n) rest (below n kept)) (ap (λ (x : ℤ × List ℕ). (Some x.0, x.1)) (integer_again (negsuc n) rest kept ends)) where
      below : (n : ℕ) → is_i64 (negsuc n) ≡ true → suc n < 2 ^ 64
      below n kept = omega (arith, leb-true n (2 ^ 63 - 1) (and_parts _ _ kept).0)
