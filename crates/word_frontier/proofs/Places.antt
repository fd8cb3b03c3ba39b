-- Places of lists: what a write and one more item leave, and heads of ranks pointwise.
use Rattle.std.proofs.Common.{◌≡◌, ◌≢◌, refl, sym, ap, subst, ◌∙◌, inl, inr, ◌⊎◌, ℕ, zero, suc, ◌<◌, Bool, true, false, ◌==◌, List, [], ◌∷◌, ◌++◌, length, map, set, get_or, Option, Some, None, option_map, arith, length-append, length-set}
use Rattle.std.proofs.lemmas.Bool.Decides.{nat_tests}
use Rattle.std.proofs.lemmas.Bool.{cases_lt}
use Rattle.std.specs.List.{slice_get}
use Rattle.std.proofs.lemmas.List.{get_or-set_same, get_or-set_other}
use Rattle.std.proofs.lemmas.Option.{slice_get_within, slice_get_read, slice_get-map}
use Rattle.word_frontier.specs.Slots.{head_at, IsFirst, AreHeads, IsFirstBehind, HeadMoved, or_else}

pub equal : (a b : ℕ) → a ≡ b → (a == b) ≡ true
equal a b h = grind (arith, nat_tests)

pub unlike : (a b : ℕ) → a < b → (a == b) ≡ false
unlike a b h = grind (arith, nat_tests)

pub above : (a b : ℕ) → b < a → (a == b) ≡ false
above a b h = grind (arith, nat_tests)

pub equals : (a b : ℕ) → (a == b) ≡ true → a ≡ b
equals a b h = grind (arith, nat_tests)

apart : (a b : ℕ) → (a == b) ≡ false → a ≢ b
apart a b h e = grind (arith, nat_tests)

either : (b : Bool) → (b ≡ true) ⊎ (b ≡ false)
either true = inl refl
either false = inr refl

pub both : (r q : ℕ) → (r ≡ q) ⊎ (r ≢ q)
both r q = elim (either (r == q)) [ inl y ↦ inl (equals r q y) | inr n ↦ inr (apart r q n) ]

pub some_same : {A : Type 0} {x y : A} → Some x ≡ Some y → x ≡ y
some_same h = cc

pub none_some : {A : Type 0} {x : A} {o : Option A} → o ≡ None → o ≡ Some x → ⊥
none_some h k = cc

-- places of a list

pub set_same : {A : Type 0} (xs : List A) (k : ℕ) (y : A) → k < length xs → slice_get (set xs k y) k ≡ Some y
set_same [] k y h = absurd (omega arith)
set_same (x ∷ xs) zero y h = refl
set_same (x ∷ xs) (suc k) y h = set_same xs k y (omega arith)

pub set_other : {A : Type 0} (xs : List A) (k j : ℕ) (y : A) → j ≢ k → slice_get (set xs k y) j ≡ slice_get xs j
set_other [] k j y h = refl
set_other (x ∷ xs) zero zero y h = absurd (h refl)
set_other (x ∷ xs) zero (suc j) y h = refl
set_other (x ∷ xs) (suc k) zero y h = refl
set_other (x ∷ xs) (suc k) (suc j) y h = set_other xs k j y (λ e. h (ap suc e))

pub front : {A : Type 0} (xs ys : List A) (n : ℕ) → n < length xs → slice_get (xs ++ ys) n ≡ slice_get xs n
front [] ys n h = absurd (omega arith)
front (x ∷ xs) ys zero h = refl
front (x ∷ xs) ys (suc n) h = front xs ys n (omega arith)

pub seam : {A : Type 0} (xs : List A) (y : A) → slice_get (xs ++ y ∷ []) (length xs) ≡ Some y
seam [] y = refl
seam (x ∷ xs) y = seam xs y

pub seam-at : {A : Type 0} (xs : List A) (y : A) (m : ℕ) → m ≡ length xs → slice_get (xs ++ y ∷ []) m ≡ Some y
seam-at xs y m e = ap (slice_get (xs ++ y ∷ [])) e ∙ seam xs y

-- an item of a list with one more lies in the list, or is the new one
pub front_or_seam : {A : Type 0} (xs : List A) (y z : A) (m j : ℕ) → m ≡ length xs → slice_get (xs ++ y ∷ []) j ≡ Some z
    → ((j < m) × (slice_get xs j ≡ Some z)) ⊎ ((j ≡ m) × (y ≡ z))
front_or_seam xs y z m j e h = elim (cases_lt j m) [
  | inl lt ↦ inl (lt, sym (front xs (y ∷ []) j (omega (arith, lt, e))) ∙ h)
  | inr ge ↦
      let n = length-append xs (y ∷ []) in
      let within = slice_get_within (xs ++ y ∷ []) j z h in
      let is : j ≡ m = omega (arith, n, within, e, ge) in
      inr (is, some_same (sym (seam-at xs y j (is ∙ e)) ∙ h))
]

pub map-get : {A B : Type 0} (f : A → B) (xs : List A) (k : ℕ) (x : A) → slice_get xs k ≡ Some x → slice_get (map f xs) k ≡ Some (f x)
map-get f xs k x h = slice_get-map f xs k ∙ ap (option_map f) h

pub lies-of : {A : Type 0} (xs : List A) (k : ℕ) (x : A) → k < length xs → x ≡ get_or xs k x → slice_get xs k ≡ Some x
lies-of xs k x h e = slice_get_read xs (length xs) k x refl h e

pub item-of : {A : Type 0} (xs : List A) (k : ℕ) → k < length xs → (x : A) × (slice_get xs k ≡ Some x)
item-of [] k h = absurd (let z : ⊥ = omega arith in z)
item-of (x ∷ xs) zero h = (x, refl)
item-of (x ∷ xs) (suc k) h = item-of xs k (omega arith)

pub set-back : {A : Type 0} (xs : List A) (k : ℕ) (x : A) → slice_get xs k ≡ Some x → set xs k x ≡ xs
set-back [] k x h = refl
set-back (y ∷ xs) zero x h = ap (λ z. z ∷ xs) (sym (some_same h))
set-back (y ∷ xs) (suc k) x h = ap (λ zs. y ∷ zs) (set-back xs k x h)

-- heads

-- fewer ids count than before
abbrev pub AreFewer : List (Option ℕ) → List (Option ℕ) → Type 0
AreFewer new old = (r j : ℕ) → slice_get new j ≡ Some (Some r) → slice_get old j ≡ Some (Some r)

-- the same ids of other ranks count
abbrev pub AgreeBut : ℕ → List (Option ℕ) → List (Option ℕ) → Type 0
AgreeBut rank new old = (r j : ℕ) → r ≢ rank → slice_get old j ≡ Some (Some r) → slice_get new j ≡ Some (Some r)

first-behind : (r : ℕ) (new old : List (Option ℕ)) (o p : Option ℕ) → AreFewer new old → IsFirst r 0 old o → IsFirstBehind r new o p → IsFirst r 0 new p
first-behind r new old None p few first e = subst (IsFirst r 0 new) (sym e) (λ j h k. first j h (few r j k))
first-behind r new old (Some f) None few first e = λ j h k. elim (cases_lt j f) [ inl lt ↦ first.before j h lt (few r j k) | inr ge ↦ e j ge k ]
first-behind r new old (Some f) (Some g) few first e = record {
  from = omega arith;
  key = e.key;
  before = λ j h lt k. elim (cases_lt j f) [ inl below ↦ first.before j h below (few r j k) | inr ge ↦ e.before j ge lt k ];
}

first-same : (r : ℕ) (new old : List (Option ℕ)) (o : Option ℕ) → AreFewer new old → ((j : ℕ) → slice_get old j ≡ Some (Some r) → slice_get new j ≡ Some (Some r)) → IsFirst r 0 old o → IsFirst r 0 new o
first-same r new old None few same first = λ j h k. first j h (few r j k)
first-same r new old (Some f) few same first = record { from = omega arith; key = same f first.key; before = λ j h lt k. first.before j h lt (few r j k) }

-- one rank's head moved on
pub heads-moved : (rank : ℕ) (new old heads heads' : List (Option ℕ)) → AreFewer new old → AgreeBut rank new old → AreHeads old heads → HeadMoved rank new heads heads' → AreHeads new heads'
heads-moved rank new old heads heads' few agree h moved = λ r. elim (both r rank) [
  | inl e ↦ subst (λ q. IsFirst q 0 new (head_at heads' q)) (sym e) (first-behind rank new old (head_at heads rank) (head_at heads' rank) few (h rank) moved.here)
  | inr n ↦ subst (IsFirst r 0 new) (sym (moved.others r n)) (first-same r new old (head_at heads r) few (λ j. agree r j n) (h r))
]

-- the same ids count as before
pub heads-stay : (new old heads : List (Option ℕ)) → new ≡ old → AreHeads old heads → AreHeads new heads
heads-stay new old heads e h = subst (λ ks. AreHeads ks heads) (sym e) h

-- a list with one id less
pub fewer-set : (ks : List (Option ℕ)) (k : ℕ) → AreFewer (set ks k None) ks
fewer-set ks k r j h = elim (both j k) [
  | inl e ↦
      let within = slice_get_within (set ks k None) j (Some r) h in
      let n = length-set ks k None in
      let gone : slice_get (set ks k None) j ≡ Some None = subst (λ i. slice_get (set ks k None) i ≡ Some None) (sym e) (set_same ks k None (omega (arith, within, n, e))) in
      absurd (none_some refl (some_same (sym gone ∙ h)))
  | inr d ↦ sym (set_other ks k j None d) ∙ h
]

pub agree-set : (ks : List (Option ℕ)) (k rank : ℕ) (o : Option ℕ) → slice_get ks k ≡ Some o → ((r : ℕ) → o ≡ Some r → r ≡ rank) → AgreeBut rank (set ks k None) ks
agree-set ks k rank o lies is r j n h = elim (both j k) [
  | inl e ↦ absurd (n (is r (some_same (sym lies ∙ ap (slice_get ks) (sym e) ∙ h))))
  | inr d ↦ set_other ks k j None d ∙ h
]

-- one id more

first-push : (r q m : ℕ) (ks : List (Option ℕ)) (o : Option ℕ) → m ≡ length ks → r ≢ q → IsFirst r 0 ks o → IsFirst r 0 (ks ++ Some q ∷ []) o
first-push r q m ks None e n first = λ j h k. elim (front_or_seam ks (Some q) (Some r) m j e k) [
  | inl p ↦ first j h p.1
  | inr p ↦ n (sym (some_same p.1))
]
first-push r q m ks (Some f) e n first = record {
  from = omega arith;
  key = front ks (Some q ∷ []) f (slice_get_within ks f (Some r) first.key) ∙ first.key;
  before = λ j h lt k. elim (front_or_seam ks (Some q) (Some r) m j e k) [ inl p ↦ first.before j h lt p.1 | inr p ↦ n (sym (some_same p.1)) ];
}

first-pushed : (q m : ℕ) (ks : List (Option ℕ)) (o : Option ℕ) → m ≡ length ks → IsFirst q 0 ks o → IsFirst q 0 (ks ++ Some q ∷ []) (or_else o (Some m))
first-pushed q m ks None e first = record {
  from = omega arith;
  key = seam-at ks (Some q) m e;
  before = λ j h lt k. first j h (sym (front ks (Some q ∷ []) j (omega (arith, lt, e))) ∙ k);
}
first-pushed q m ks (Some f) e first =
    let within = slice_get_within ks f (Some q) first.key in record {
      from = omega arith;
      key = front ks (Some q ∷ []) f within ∙ first.key;
      before = λ j h lt k. first.before j h lt (sym (front ks (Some q ∷ []) j (omega (arith, lt, within))) ∙ k);
    }

pub heads-push : (q m : ℕ) (ks heads : List (Option ℕ)) → m ≡ length ks → q < length heads → AreHeads ks heads → AreHeads (ks ++ Some q ∷ []) (set heads q (or_else (head_at heads q) (Some m)))
heads-push q m ks heads e within h = λ r. elim (both r q) [
  | inl is ↦ subst (λ p. IsFirst p 0 (ks ++ Some q ∷ []) (head_at (set heads q (or_else (head_at heads q) (Some m))) p)) (sym is)
      (subst (IsFirst q 0 (ks ++ Some q ∷ [])) (sym (get_or-set_same heads q (or_else (head_at heads q) (Some m)) None within)) (first-pushed q m ks (head_at heads q) e (h q)))
  | inr n ↦ subst (IsFirst r 0 (ks ++ Some q ∷ [])) (sym (get_or-set_other heads q r (or_else (head_at heads q) (Some m)) None n)) (first-push r q m ks (head_at heads r) e n (h r))
]
