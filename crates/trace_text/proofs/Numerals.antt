-- A number in front of a text is read in one way.
use Rattle.std.proofs.Common.{◌≡◌, ℕ, ◌+◌, ◌%◌, ◌^◌, ◌≤◌, ◌<◌, Bool, true, false, List, [], ◌∷◌, ◌++◌, refl, sym, ap, ◌∙◌, arith}
use Rattle.std.specs.Prelude.{decimal, ◌&&◌}
use Rattle.std.specs.List.{list_all}
use Rattle.std.proofs.lemmas.Fmt.{decimal_by_steps, decimal_injective}
use Rattle.std.proofs.lemmas.Bool.{and_parts, false≢true}
use Rattle.std.proofs.lemmas.Bool.Decides.{nat_tests}
use Rattle.line_text.specs.Numbers.{is_digit, begins_with_digit}

digit_is : (d : ℕ) → d < 10 → is_digit (48 + d) ≡ true
digit_is d lt = grind (arith, nat_tests)

digits_more : (xs : List ℕ) (c : ℕ) → list_all is_digit xs ≡ true → is_digit c ≡ true → list_all is_digit (xs ++ c ∷ []) ≡ true
digits_more [] c all one = ap (λ (b : Bool). b && true) one
digits_more (x ∷ xs) c all one =
    let w = and_parts (is_digit x) (list_all is_digit xs) all in
    ap (λ (b : Bool). b && list_all is_digit (xs ++ c ∷ [])) w.0 ∙ digits_more xs c w.1 one

digits_one : (n : ℕ) → n < 10 → list_all is_digit ((48 + n) ∷ []) ≡ true
digits_one n lt = ap (λ (b : Bool). b && true) (digit_is n lt)

digits_step : (n : ℕ) (ds : List ℕ) → 10 ≤ n → list_all is_digit ds ≡ true → list_all is_digit (ds ++ ((48 + n % 10) ∷ [])) ≡ true
digits_step n ds big all = digits_more ds (48 + n % 10) all (digit_is (n % 10) (omega arith))

-- a number is written by digits alone
pub digits_alone : (n : ℕ) → n < 2 ^ 64 → list_all is_digit (decimal n) ≡ true
digits_alone n fits = decimal_by_steps (λ n ds. list_all is_digit ds ≡ true) digits_one digits_step n fits

abbrev head_of : List ℕ → ℕ
head_of [] = 0
head_of (x ∷ xs) = x

abbrev tail_of : List ℕ → List ℕ
tail_of [] = []
tail_of (x ∷ xs) = xs

-- digits in front of what begins with none
same_digits : (xs ys back rest : List ℕ) → list_all is_digit xs ≡ true → list_all is_digit ys ≡ true
    → begins_with_digit back ≡ false → begins_with_digit rest ≡ false → xs ++ back ≡ ys ++ rest → (xs ≡ ys) × (back ≡ rest)
same_digits [] [] back rest hx hy hb hr e = (refl, e)
same_digits [] (y ∷ ys) back rest hx hy hb hr e =
    let w = and_parts (is_digit y) (list_all is_digit ys) hy in
    absurd (false≢true (sym hb ∙ ap begins_with_digit e ∙ w.0))
same_digits (x ∷ xs) [] back rest hx hy hb hr e =
    let w = and_parts (is_digit x) (list_all is_digit xs) hx in
    absurd (false≢true (sym hr ∙ sym (ap begins_with_digit e) ∙ w.0))
same_digits (x ∷ xs) (y ∷ ys) back rest hx hy hb hr e =
    let w = and_parts (is_digit x) (list_all is_digit xs) hx in
    let v = and_parts (is_digit y) (list_all is_digit ys) hy in
    let head : x ≡ y = ap head_of e in
    let tail : xs ++ back ≡ ys ++ rest = ap tail_of e in
    let more = same_digits xs ys back rest w.1 v.1 hb hr tail in
    ((λ i. head i ∷ more.0 i), more.1)

-- two numbers in front of one text are the same
pub same_number : (n m : ℕ) (back rest : List ℕ) → n < 2 ^ 64 → m < 2 ^ 64 → begins_with_digit back ≡ false → begins_with_digit rest ≡ false
    → decimal n ++ back ≡ decimal m ++ rest → (n ≡ m) × (back ≡ rest)
same_number n m back rest n_fits m_fits hb hr e =
    let same = same_digits (decimal n) (decimal m) back rest (digits_alone n n_fits) (digits_alone m m_fits) hb hr e in
    (decimal_injective n m n_fits m_fits same.0, same.1)
