-- Rows that take in or lose the members of a list, one by one.
use Rattle.std.proofs.Common.{◌≡◌, refl, sym, ap, ◌∙◌, ℕ, ◌+◌, ◌/◌, ◌<◌, Bool, true, false, not, ◌&&◌, ◌||◌, List, [], ◌∷◌, length, take, get_or, arith, inl, inr}
use Rattle.std.specs.List.{list_any, list_all}
use Rattle.std.specs.Int.{div_ceil}
use Rattle.std.proofs.lemmas.Bool.{false≢true, lt-ltb, and_parts, or_cases}
use Rattle.std.proofs.lemmas.List.Folds.{list_any_more}
use Rattle.world_state.specs.declared.rows.BitRow.{BitRow}
use Rattle.world_state.specs.Rows.{is_in_row, has_place, width, words_for, IsRowOf, Takes, Loses}

or_false : (b : Bool) → b ≡ (b || false)
or_false true = refl
or_false false = refl

place_false : (old place : Bool) → old ≡ (old || (place && false))
place_false true place = refl
place_false false true = refl
place_false false false = refl

and_true : (b : Bool) → b ≡ (b && true)
and_true true = refl
and_true false = refl

more_taken : (old place a b : Bool) → ((old || (place && a)) || (place && b)) ≡ (old || (place && (a || b)))
more_taken true place a b = refl
more_taken false true a b = refl
more_taken false false a b = refl

more_lost : (old a b : Bool) → ((old && not a) && not b) ≡ (old && not (a || b))
more_lost true true b = refl
more_lost true false b = refl
more_lost false a b = refl

-- a row that stays takes in nothing and loses nothing
pub takes_none : (row : BitRow) (set : ℕ → Bool) → ((f : ℕ) → set f ≡ false) → Takes row row set
takes_none row set none = record {
  wide = refl;
  has = λ f. place_false (is_in_row row f) (has_place (width row) f) ∙ ap (λ b. is_in_row row f || (has_place (width row) f && b)) (sym (none f));
}

pub loses_none : (row : BitRow) (set : ℕ → Bool) → ((f : ℕ) → set f ≡ false) → Loses row row set
loses_none row set none = record {
  wide = refl;
  has = λ f. and_true (is_in_row row f) ∙ ap (λ b. is_in_row row f && not b) (sym (none f));
}

-- first one set and then another
pub takes_both : (old mid new : BitRow) (first second : ℕ → Bool) → Takes old mid first → Takes mid new second → Takes old new (λ f. first f || second f)
takes_both old mid new first second h k = record {
  wide = k.wide ∙ h.wide;
  has = λ f.
      k.has f
      ∙ ap (λ b. b || (has_place (width mid) f && second f)) (h.has f)
      ∙ ap (λ w. (is_in_row old f || (has_place (width old) f && first f)) || (has_place w f && second f)) h.wide
      ∙ more_taken (is_in_row old f) (has_place (width old) f) (first f) (second f);
}

pub loses_both : (old mid new : BitRow) (first second : ℕ → Bool) → Loses old mid first → Loses mid new second → Loses old new (λ f. first f || second f)
loses_both old mid new first second h k = record {
  wide = k.wide ∙ h.wide;
  has = λ f.
      k.has f
      ∙ ap (λ b. b && not (second f)) (h.has f)
      ∙ more_lost (is_in_row old f) (first f) (second f);
}

-- the same set
pub takes_same : (old new : BitRow) (set set' : ℕ → Bool) → ((f : ℕ) → set f ≡ set' f) → Takes old new set → Takes old new set'
takes_same old new set set' same h = record {
  wide = h.wide;
  has = λ f. h.has f ∙ ap (λ b. is_in_row old f || (has_place (width old) f && b)) (same f);
}

pub loses_same : (old new : BitRow) (set set' : ℕ → Bool) → ((f : ℕ) → set f ≡ set' f) → Loses old new set → Loses old new set'
loses_same old new set set' same h = record {
  wide = h.wide;
  has = λ f. h.has f ∙ ap (λ b. is_in_row old f && not b) (same f);
}

step : {A : Type 0} (brings : ℕ → A → Bool) (xs : List A) (i : ℕ) (x : A) → i < length xs → x ≡ get_or xs i x
    → (f : ℕ) → (list_any (brings f) (take i xs) || brings f x) ≡ list_any (brings f) (take (i + 1) xs)
step brings xs i x below is f =
    ap (λ y. list_any (brings f) (take i xs) || brings f y) is
    ∙ sym (list_any_more (brings f) xs i x below)

-- one member more of a list of which each member brings numbers in
pub takes_more : {A : Type 0} (old mid new : BitRow) (brings : ℕ → A → Bool) (xs : List A) (i : ℕ) (x : A)
    → i < length xs → x ≡ get_or xs i x
    → Takes old mid (λ f. list_any (brings f) (take i xs))
    → Takes mid new (λ f. brings f x)
    → Takes old new (λ f. list_any (brings f) (take (i + 1) xs))
takes_more old mid new brings xs i x below is h k =
    takes_same old new (λ f. list_any (brings f) (take i xs) || brings f x) (λ f. list_any (brings f) (take (i + 1) xs)) (step brings xs i x below is)
    (takes_both old mid new (λ f. list_any (brings f) (take i xs)) (λ f. brings f x) h k)

pub loses_more : {A : Type 0} (old mid new : BitRow) (brings : ℕ → A → Bool) (xs : List A) (i : ℕ) (x : A)
    → i < length xs → x ≡ get_or xs i x
    → Loses old mid (λ f. list_any (brings f) (take i xs))
    → Loses mid new (λ f. brings f x)
    → Loses old new (λ f. list_any (brings f) (take (i + 1) xs))
loses_more old mid new brings xs i x below is h k =
    loses_same old new (λ f. list_any (brings f) (take i xs) || brings f x) (λ f. list_any (brings f) (take (i + 1) xs)) (step brings xs i x below is)
    (loses_both old mid new (λ f. list_any (brings f) (take i xs)) (λ f. brings f x) h k)

-- a row that was empty
pub row_from_none : (old new : BitRow) (words : ℕ) (set : ℕ → Bool) → width old ≡ words → ((f : ℕ) → is_in_row old f ≡ false) → Takes old new set
    → IsRowOf new words (λ f. has_place words f && set f)
row_from_none old new words set wide none h = record {
  wide = h.wide ∙ wide;
  has = λ f. h.has f ∙ ap (λ b. b || (has_place (width old) f && set f)) (none f) ∙ ap (λ w. has_place w f && set f) wide;
}

pub place_below : (count f : ℕ) → f < count → has_place (words_for count) f ≡ true
place_below count f below = lt-ltb (f / 64) (div_ceil count 64) (omega arith)

pub implied : (place any : Bool) → (any ≡ true → place ≡ true) → (place && any) ≡ any
implied true any h = refl
implied false true h = h refl
implied false false h = refl

-- where each number has a place, the row is the whole set
pub row_whole : (row : BitRow) (count : ℕ) (set : ℕ → Bool) → ((f : ℕ) → set f ≡ true → f < count)
    → IsRowOf row (words_for count) (λ f. has_place (words_for count) f && set f) → IsRowOf row (words_for count) set
row_whole row count set below r = record {
  wide = r.wide;
  has = λ f. r.has f ∙ implied (has_place (words_for count) f) (set f) (λ is. place_below count f (below f is));
}

-- what members of a list bring is below a bound that each of them keeps
pub below_of : {A : Type 0} (good : A → Bool) (brings : ℕ → A → Bool) (count : ℕ) → ((x : A) (f : ℕ) → good x ≡ true → brings f x ≡ true → f < count)
    → (xs : List A) (f : ℕ) → list_all good xs ≡ true → list_any (brings f) xs ≡ true → f < count
below_of good brings count one [] f all any = absurd (false≢true any)
below_of good brings count one (x ∷ xs) f all any =
    elim (or_cases _ _ any) [
      | inl here ↦ one x f (and_parts _ _ all).0 here
      | inr there ↦ below_of good brings count one xs f (and_parts _ _ all).1 there
    ]
