-- Marks of the names of `!` alone that are taken.
use Rattle.std.proofs.Common.{◌≡◌, ℕ, zero, suc, ◌+◌, ◌-◌, ◌≤◌, ◌<◌, Bool, true, false, List, [], ◌∷◌, ◌++◌, length, get_or, set, refl, ap, ◌∙◌, arith}
use Rattle.std.specs.Prelude.{◌==◌, if◌then◌else◌}
use Rattle.std.proofs.lemmas.Bool.{false≢true}
use Rattle.std.proofs.lemmas.Bool.Decides.{nat_tests}
use Rattle.ground_text.specs.Completion.{bangs, first_free, marked, with_name}

-- ---- as code keeps them

-- a place without a mark behind them all changes nothing
pub marked_push : (marks : List Bool) (place : ℕ) → length marks ≤ place → marked place (marks ++ false ∷ []) ≡ marked place marks
marked_push [] zero h = refl
marked_push [] (suc place) h = refl
marked_push (mark ∷ marks) zero h = absurd (omega (arith, h))
marked_push (mark ∷ marks) (suc place) h = ap (λ (rest : List Bool). mark ∷ rest) (marked_push marks place (omega (arith, h)))

pub marked_set : (marks : List Bool) (place : ℕ) → place < length marks → set marks place true ≡ marked place marks
marked_set [] place h = absurd (omega (arith, h))
marked_set (mark ∷ marks) zero h = refl
marked_set (mark ∷ marks) (suc place) h = ap (λ (rest : List Bool). mark ∷ rest) (marked_set marks place (omega (arith, h)))

-- ---- what they say

-- the first free place has no mark
pub free_unmarked : (marks : List Bool) → get_or marks (first_free marks) false ≡ false
free_unmarked [] = refl
free_unmarked (true ∷ marks) =
    let one_more : 1 + first_free marks ≡ suc (first_free marks) = omega arith in
    ap (λ (place : ℕ). get_or (true ∷ marks) place false) one_more ∙ free_unmarked marks
free_unmarked (false ∷ marks) = refl

marked_is : (place : ℕ) (marks : List Bool) → get_or (marked place marks) place false ≡ true
marked_is zero [] = refl
marked_is zero (mark ∷ marks) = refl
marked_is (suc place) [] = marked_is place []
marked_is (suc place) (mark ∷ marks) = marked_is place marks

marked_stays : (place other : ℕ) (marks : List Bool) → get_or marks other false ≡ true → get_or (marked place marks) other false ≡ true
marked_stays place other [] h = absurd (false≢true h)
marked_stays zero zero (mark ∷ marks) h = refl
marked_stays zero (suc other) (mark ∷ marks) h = h
marked_stays (suc place) zero (mark ∷ marks) h = h
marked_stays (suc place) (suc other) (mark ∷ marks) h = marked_stays place other marks h

-- where a name is of `!` alone, its place has a mark
abbrev pub IsTaken : List Bool → List ℕ → Type 0
IsTaken marks name = (place : ℕ) → bangs name ≡ suc place → get_or marks place false ≡ true

-- the marks with one more for a name of so many `!`
abbrev counted : ℕ → List Bool → List Bool
counted count marks = if count == 0 then marks else marked (count - 1) marks

counted_suc : (n : ℕ) (marks : List Bool) → counted (suc n) marks ≡ marked n marks
counted_suc n marks =
    let some : (suc n == 0) ≡ false = grind (arith, nat_tests) in
    let same : suc n - 1 ≡ n = omega arith in
    ap (λ (none : Bool). if none then marks else marked (suc n - 1) marks) some ∙ ap (λ (k : ℕ). marked k marks) same

by_count : (count : ℕ) (marks : List Bool) (place : ℕ) → count ≡ suc place → get_or (counted count marks) place false ≡ true
by_count count marks place e =
    ap (λ (n : ℕ). get_or (counted n marks) place false) e
    ∙ ap (λ (xs : List Bool). get_or xs place false) (counted_suc place marks)
    ∙ marked_is place marks

-- the name that was marked is taken
pub own_taken : (name : List ℕ) (marks : List Bool) → IsTaken (with_name name marks) name
own_taken name marks = λ place e. by_count (bangs name) marks place e

still : (count : ℕ) (marks : List Bool) (place : ℕ) → get_or marks place false ≡ true → get_or (counted count marks) place false ≡ true
still zero marks place h = h
still (suc n) marks place h = ap (λ (xs : List Bool). get_or xs place false) (counted_suc n marks) ∙ marked_stays n place marks h

-- with one mark more each name that was taken is
pub still_taken : (name other : List ℕ) (marks : List Bool) → IsTaken marks name → IsTaken (with_name other marks) name
still_taken name other marks taken = λ place e. still (bangs other) marks place (taken place e)
