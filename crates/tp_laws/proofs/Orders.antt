-- Items that do not interfere commute.
use Rattle.std.proofs.Common.{◌≡◌, refl, sym, ap, subst, ◌∙◌, ℕ, List, [], ◌∷◌, ◌++◌, Some, None}
use Rattle.std.specs.Prelude.{Bool, true, false, not, ◌&&◌, ◌||◌, ◌==◌, Option, ℤ, ◌+ℤ◌, ◌-ℤ◌, if◌then◌else◌}
use Rattle.std.specs.List.{list_any, list_all}
use Rattle.std.proofs.Math.IntN.{+ℤ_assoc, +ℤ_comm, neg_ℤ}
use Rattle.std.proofs.lemmas.Bool.{and_parts, and_from, false≢true, eqb-true}
use Rattle.std.specs.List.Sorted.{IsPermutation}
use Rattle.tp_spec.specs.declared.expr.Expr.{Expr}
use Rattle.tp_spec.specs.declared.plan.Item.{Item}
use Rattle.tp_spec.specs.declared.problem.Effect.{Effect}
use Rattle.tp_spec.specs.declared.problem.Effect.TheVariants.{Add, Delete, Change}
use Rattle.tp_spec.specs.declared.problem.How.TheVariants.{Increase, Decrease, Assign}
use Rattle.tp_spec.specs.declared.problem.Problem.{Problem}
use Rattle.tp_spec.specs.Lists.{each_pair}
use Rattle.tp_spec.specs.States.{State, value, of_both}
use Rattle.tp_spec.specs.Items.{effects, conditions, effects_of, adds, deletes, change, changed, next, fits_new, after}
use Rattle.tp_spec.specs.Interference.{collides, disturbs, touches, interfere}
use Rattle.tp_laws.proofs.Reorderings.{Reordering, none, same_first, exchanged, in_steps, reordering, all-parts, any-parts, pairs}
use Rattle.tp_laws.proofs.States.{same_state}

or-comm : (a b : Bool) → (a || b) ≡ (b || a)
or-comm true true = refl
or-comm true false = refl
or-comm false true = refl
or-comm false false = refl

pub or-none : (a b : Bool) → a ≡ false → b ≡ false → (a || b) ≡ false
or-none a b h k = λ i. h i || k i

pub or-left : (a b : Bool) → (a || b) ≡ false → a ≡ false
or-left true b h = h
or-left false b h = refl

pub or-right : (a b : Bool) → (a || b) ≡ false → b ≡ false
or-right true b h = absurd (false≢true (sym h))
or-right false b h = h

pub not-true : (b : Bool) → not b ≡ true → b ≡ false
not-true true h = absurd (false≢true h)
not-true false h = refl

-- where no member passes either of two tests, none passes the one, and none the other
pub any-split : {A : Type 0} (p q : A → Bool) (xs : List A) → list_any (λ x. p x || q x) xs ≡ false → (list_any p xs ≡ false) × (list_any q xs ≡ false)
any-split p q [] h = (refl, refl)
any-split p q (x ∷ xs) h =
    let rest = any-split p q xs (or-right _ _ h) in
    let one : (p x || q x) ≡ false = or-left _ _ h in
    (or-none (p x) (list_any p xs) (or-left _ _ one) rest.0, or-none (q x) (list_any q xs) (or-right _ _ one) rest.1)

-- sums and differences in either order
sums-commute : (v a b : ℤ) → (v +ℤ b) +ℤ a ≡ (v +ℤ a) +ℤ b
sums-commute v a b = +ℤ_assoc v b a ∙ ap (λ c. v +ℤ c) (+ℤ_comm b a) ∙ sym (+ℤ_assoc v a b)

module _ (f g : ℤ → ℤ → ℤ) (commute : (v a b : ℤ) → f (g v b) a ≡ g (f v a) b) where
  both-commute : (v a b : Option ℤ) → of_both f (of_both g v b) a ≡ of_both g (of_both f v a) b
  both-commute None a b = refl
  both-commute (Some v) None None = refl
  both-commute (Some v) None (Some b) = refl
  both-commute (Some v) (Some a) None = refl
  both-commute (Some v) (Some a) (Some b) = ap Some (commute v a b)

-- two changes of one value, each made or not
if-swap : {A : Type 0} (f g : A → A) (b c : Bool) (v : A) → (b ≡ true → c ≡ true → f (g v) ≡ g (f v))
    → (if b then f (if c then g v else v) else (if c then g v else v)) ≡ (if c then g (if b then f v else v) else (if b then f v else v))
if-swap f g true true v h = h refl refl
if-swap f g true false v h = refl
if-swap f g false true v h = refl
if-swap f g false false v h = refl

-- one fluent is not written in two ways
apart : (x y z : ℕ) (a b : Bool) → (a || ((y == z) && b)) ≡ false → b ≡ true → (x == y) ≡ true → (x == z) ≡ true → ⊥
apart x y z a b h two_ways xy xz =
    let yz : (y == z) ≡ true = subst (λ w. (w == z) ≡ true) (eqb-true x y xy) xz in
    false≢true (sym (or-right a ((y == z) && b) h) ∙ and_from (y == z) b yz two_ways)

module _ (s : State) (x : ℕ) where
  abbrev plus : Expr → Option ℤ → Option ℤ
  plus a u = of_both (λ m n. m +ℤ n) u (value s a)

  abbrev minus : Expr → Option ℤ → Option ℤ
  minus a u = of_both (λ m n. m -ℤ n) u (value s a)

  abbrev set_to : Expr → Option ℤ → Option ℤ
  set_to a u = value s a

  change-swap : (e f : Effect) (v : Option ℤ) → collides e f ≡ false → change s x e (change s x f v) ≡ change s x f (change s x e v)
  change-swap (Add g) f v h = refl
  change-swap (Delete g) f v h = refl
  change-swap (Change how y a) (Add g) v h = refl
  change-swap (Change how y a) (Delete g) v h = refl
  change-swap (Change Increase y a) (Change Increase z b) v h =
      if-swap (plus a) (plus b) (x == y) (x == z) v (λ _ _. both-commute _ _ sums-commute v (value s a) (value s b))
  change-swap (Change Increase y a) (Change Decrease z b) v h =
      if-swap (plus a) (minus b) (x == y) (x == z) v (λ _ _. both-commute _ _ (λ v m n. sums-commute v m (neg_ℤ n)) v (value s a) (value s b))
  change-swap (Change Decrease y a) (Change Increase z b) v h =
      if-swap (minus a) (plus b) (x == y) (x == z) v (λ _ _. both-commute _ _ (λ v m n. sums-commute v (neg_ℤ m) n) v (value s a) (value s b))
  change-swap (Change Decrease y a) (Change Decrease z b) v h =
      if-swap (minus a) (minus b) (x == y) (x == z) v (λ _ _. both-commute _ _ (λ v m n. sums-commute v (neg_ℤ m) (neg_ℤ n)) v (value s a) (value s b))
  change-swap (Change Increase y a) (Change Assign z b) v h = if-swap (plus a) (set_to b) (x == y) (x == z) v (λ j k. absurd (apart x y z _ true h refl j k))
  change-swap (Change Decrease y a) (Change Assign z b) v h = if-swap (minus a) (set_to b) (x == y) (x == z) v (λ j k. absurd (apart x y z _ true h refl j k))
  change-swap (Change Assign y a) (Change Increase z b) v h = if-swap (set_to a) (plus b) (x == y) (x == z) v (λ j k. absurd (apart x y z _ true h refl j k))
  change-swap (Change Assign y a) (Change Decrease z b) v h = if-swap (set_to a) (minus b) (x == y) (x == z) v (λ j k. absurd (apart x y z _ true h refl j k))
  change-swap (Change Assign y a) (Change Assign z b) v h = if-swap (set_to a) (set_to b) (x == y) (x == z) v (λ j k. absurd (apart x y z _ true h refl j k))

  -- the part of some effects in the new value
  abbrev pub changes : List Effect → Option ℤ → Option ℤ
  changes [] v = v
  changes (e ∷ es) v = change s x e (changes es v)

  pub changed-append : (es fs : List Effect) → changed s x (es ++ fs) ≡ changes es (changed s x fs)
  changed-append [] fs = refl
  changed-append (e ∷ es) fs = ap (change s x e) (changed-append es fs)

  past-one : (e : Effect) (fs : List Effect) (v : Option ℤ) → list_any (collides e) fs ≡ false → change s x e (changes fs v) ≡ changes fs (change s x e v)
  past-one e [] v h = refl
  past-one e (f ∷ fs) v h = change-swap e f (changes fs v) (or-left _ _ h) ∙ ap (change s x f) (past-one e fs v (or-right _ _ h))

  pub past-all : (es fs : List Effect) (v : Option ℤ) → list_any (λ e. list_any (collides e) fs) es ≡ false → changes es (changes fs v) ≡ changes fs (changes es v)
  past-all [] fs v h = refl
  past-all (e ∷ es) fs v h = ap (change s x e) (past-all es fs v (or-right _ _ h)) ∙ past-one e fs (changes es v) (or-left _ _ h)

-- no effect of an item collides with one of the other
pub collides-none : (p : Problem) (i j : Item) → interfere p i j ≡ false → list_any (λ e. list_any (collides e) (effects p j)) (effects p i) ≡ false
collides-none p i j h =
    (any-split (λ e. list_any (disturbs e) (conditions p j)) (λ e. list_any (collides e) (effects p j)) (effects p i)
    (or-left (touches p i j) (touches p j i) h)).1

module _ (p : Problem) where
  abbrev pub stay_apart : Item → Item → Bool
  stay_apart i j = not (interfere p i j)

  changed-reordered : (s : State) (x : ℕ) (xs ys : List Item) → Reordering xs ys → each_pair stay_apart xs ≡ true
      → changed s x (effects_of p xs) ≡ changed s x (effects_of p ys)
  changed-reordered s x _ _ none h = refl
  changed-reordered s x _ _ (same_first i xs ys r) h =
      changed-append s x (effects p i) (effects_of p xs)
      ∙ ap (changes s x (effects p i)) (changed-reordered s x xs ys r (and_parts _ _ h).1)
      ∙ sym (changed-append s x (effects p i) (effects_of p ys))
  changed-reordered s x _ _ (exchanged i j xs) h =
      let far : interfere p i j ≡ false = not-true _ (and_parts _ _ (and_parts _ _ h).0).0 in
      two i j
      ∙ past-all s x (effects p i) (effects p j) (changed s x (effects_of p xs)) (collides-none p i j far)
      ∙ sym (two j i)
    where
      two : (i j : Item) → changed s x (effects_of p (i ∷ j ∷ xs)) ≡ changes s x (effects p i) (changes s x (effects p j) (changed s x (effects_of p xs)))
      two i j = changed-append s x (effects p i) (effects_of p (j ∷ xs)) ∙ ap (changes s x (effects p i)) (changed-append s x (effects p j) (effects_of p xs))
  changed-reordered s x _ _ (in_steps xs ys zs r q) h =
      changed-reordered s x xs ys r h ∙ changed-reordered s x ys zs q (sym (pairs stay_apart even xs ys r) ∙ h)
    where
      even : (i j : Item) → stay_apart i j ≡ stay_apart j i
      even i j = ap not (or-comm (touches p i j) (touches p j i))

  next-reordered : (s : State) (xs ys : List Item) → Reordering xs ys → each_pair stay_apart xs ≡ true → next s (effects_of p xs) ≡ next s (effects_of p ys)
  next-reordered s xs ys r h = same_state (next s (effects_of p xs)) (next s (effects_of p ys))
      (λ f k. (s.fact f && not (any-parts (deletes f) (effects p) xs ys r k)) || any-parts (adds f) (effects p) xs ys r k)
      (λ x. changed-reordered s x xs ys r h)

  pub after-permuted : (s : State) (xs ys : List Item) → IsPermutation xs ys → each_pair stay_apart xs ≡ true → after p s xs ≡ after p s ys
  after-permuted s xs ys permuted h =
      let r : Reordering xs ys = reordering xs ys permuted in
      let same : next s (effects_of p xs) ≡ next s (effects_of p ys) = next-reordered s xs ys r h in
      let fit : list_all (fits_new (next s (effects_of p xs))) (effects_of p xs) ≡ list_all (fits_new (next s (effects_of p ys))) (effects_of p ys)
      = ap (λ t. list_all (fits_new t) (effects_of p xs)) same ∙ all-parts (fits_new (next s (effects_of p ys))) (effects p) xs ys r in
      λ k. if fit k then Some (same k) else None
