-- The number of digits that are read one by one.
use Rattle.std.proofs.Common.{◌≡◌, ℕ, ◌+◌, ◌-◌, ◌*◌, ◌^◌, ◌<◌, ◌≤◌, Bool, true, false, nat_lt, List, [], ◌∷◌, length, get_or, Option, Some, None, ap, sym, subst, ◌∙◌, arith}
use Rattle.std.specs.Prelude.{if◌then◌else◌}
use Rattle.std.proofs.lemmas.Bool.Decides.{nat_tests}
use Rattle.script_text.specs.Scripts.{number_from, number_of}

-- digits make a number no smaller
number_grows : (n : ℕ) (rest : List ℕ) → n ≤ number_from n rest
number_grows n [] = omega arith
number_grows n (c ∷ rest) = let more = number_grows (n * 10 + (c - 48)) rest in omega (arith, more)

fits : (n : ℕ) → n < 2 ^ 64 → nat_lt n (2 ^ 64) ≡ true
fits n lt = grind (arith, nat_tests)

is_far : (n : ℕ) → 2 ^ 64 ≤ n → nat_lt n (2 ^ 64) ≡ false
is_far n le = grind (arith, nat_tests)

-- all digits are read
pub read_all : (word rest : List ℕ) (number : ℕ) → number_from number rest ≡ number_from 0 word → length rest < 1 → number < 2 ^ 64 → Some number ≡ number_of word
read_all word (c ∷ rest) number e none lt = absurd (omega arith)
read_all word [] number e none lt =
    let small : number_from 0 word < 2 ^ 64 = subst (λ (n : ℕ). n < 2 ^ 64) e lt in
    ap (λ (n : ℕ). Some n) e ∙ sym (ap (λ (b : Bool). if b then Some (number_from 0 word) else None) (fits (number_from 0 word) small))

-- one digit more is too much
pub read_far : (word rest : List ℕ) (number : ℕ) → number_from number rest ≡ number_from 0 word → 1 ≤ length rest → 2 ^ 64 ≤ number * 10 + (get_or rest 0 0 - 48) → ◌≡◌ {A = Option ℕ} None (number_of word)
read_far word [] number e some far = absurd (omega arith)
read_far word (c ∷ rest) number e some far =
    let more = number_grows (number * 10 + (c - 48)) rest in
    let large : 2 ^ 64 ≤ number_from 0 word = subst (λ (n : ℕ). 2 ^ 64 ≤ n) e (omega (arith, more, far)) in
    sym (ap (λ (b : Bool). if b then Some (number_from 0 word) else None) (is_far (number_from 0 word) large))
