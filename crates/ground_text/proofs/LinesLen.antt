-- The first lines of a text as its first bytes.
use Rattle.std.proofs.Common.{◌≡◌, ℕ, zero, suc, ◌+◌, ◌-◌, Bool, true, false, List, [], ◌∷◌, take, refl, sym, ap, ◌∙◌, arith}
use Rattle.std.specs.Prelude.{◌==◌}
use Rattle.std.proofs.lemmas.Bool.Decides.{nat_tests}
use Rattle.line_text.specs.Lines.{lines, has_lines}
use Rattle.ground_text.specs.Completion.{lines_len, lines_stand}

some_left : (n : ℕ) → (suc n == 0) ≡ false
some_left n = grind (arith, nat_tests)

pub stand : (n : ℕ) (text : List ℕ) → lines_stand n text ≡ has_lines n text
stand zero [] = refl
stand (suc n) [] = some_left n
stand zero (c ∷ text) = refl
stand (suc n) (c ∷ text) = by_end (c == 10) refl (stand n text) (stand (suc n) text) where
  less : suc n - 1 ≡ n
  less = omega arith

  by_end : (is : Bool) → (c == 10) ≡ is → lines_stand n text ≡ has_lines n text → lines_stand (suc n) text ≡ has_lines (suc n) text → lines_stand (suc n) (c ∷ text) ≡ has_lines (suc n) (c ∷ text)
  by_end true e fewer same = rw (some_left n, e, less) fewer
  by_end false e fewer same = rw (some_left n, e) same

pub front : (n : ℕ) (text : List ℕ) → take (lines_len n text) text ≡ lines n text
front zero [] = refl
front (suc n) [] = refl
front zero (c ∷ text) = refl
front (suc n) (c ∷ text) = by_end (c == 10) refl (front n text) (front (suc n) text) where
  less : suc n - 1 ≡ n
  less = omega arith

  more : (m : ℕ) → 1 + m ≡ suc m
  more m = omega arith

  by_end : (is : Bool) → (c == 10) ≡ is → take (lines_len n text) text ≡ lines n text → take (lines_len (suc n) text) text ≡ lines (suc n) text
      → take (lines_len (suc n) (c ∷ text)) (c ∷ text) ≡ lines (suc n) (c ∷ text)
  by_end true e fewer same = rw (some_left n, e, less) (ap (λ (m : ℕ). take m (c ∷ text)) (more (lines_len n text)) ∙ ap (λ (y : List ℕ). c ∷ y) fewer)
  by_end false e fewer same = rw (some_left n, e) (ap (λ (m : ℕ). take m (c ∷ text)) (more (lines_len (suc n) text)) ∙ ap (λ (y : List ℕ). c ∷ y) same)

none_len : (rest : List ℕ) → lines_len 0 rest ≡ 0
none_len [] = refl
none_len (c ∷ rest) = refl

-- a loop that counts bytes stops where no line is left
pub stop_len : (left : ℕ) (rest : List ℕ) (len total : ℕ) → left ≡ 0 → len + lines_len left rest ≡ total → len ≡ total
stop_len left rest len total e so_far =
    let none : lines_len left rest ≡ 0 = ap (λ (n : ℕ). lines_len n rest) e ∙ none_len rest in
    omega (arith, none, so_far)

none_stand : (rest : List ℕ) → lines_stand 0 rest ≡ true
none_stand [] = refl
none_stand (c ∷ rest) = refl

pub stop_stand : (left : ℕ) (rest : List ℕ) (total : Bool) → left ≡ 0 → lines_stand left rest ≡ total → true ≡ total
stop_stand left rest total e so_far = sym (none_stand rest) ∙ sym (ap (λ (n : ℕ). lines_stand n rest) e) ∙ so_far
