-- Items that do not interfere do together what they do one after another.
use Rattle.std.proofs.Common.{◌≡◌, refl, sym, ap, subst, ◌∙◌, ℕ, List, [], ◌∷◌, ◌++◌, ◌⊎◌, inl, inr}
use Rattle.std.specs.Prelude.{Bool, true, false, not, ◌&&◌, ◌||◌, ◌==◌, Option, ℤ, ◌+ℤ◌, ◌-ℤ◌, if◌then◌else◌}
use Rattle.std.specs.List.{list_any, list_all}
use Rattle.std.proofs.lemmas.Bool.{and_parts, false≢true, eqb-true, eq-eqb, false_from_ne_true}
use Rattle.std.proofs.lemmas.List.Folds.{list_any-append}
use Rattle.tp_spec.specs.declared.expr.Expr.{Expr, roll-Expr, map-Expr}
use Rattle.tp_spec.specs.declared.expr.Expr.TheOpen.{Expr-F}
use Rattle.tp_spec.specs.declared.expr.Expr.TheFolds.{ind-Expr, fold-roll-Expr}
use Rattle.tp_spec.specs.declared.plan.Item.{Item}
use Rattle.tp_spec.specs.declared.problem.Effect.{Effect}
use Rattle.tp_spec.specs.declared.problem.Effect.TheVariants.{Add, Delete, Change}
use Rattle.tp_spec.specs.declared.problem.How.{How}
use Rattle.tp_spec.specs.declared.problem.How.TheVariants.{Increase, Decrease, Assign}
use Rattle.tp_spec.specs.declared.problem.Problem.{Problem}
use Rattle.tp_spec.specs.Lists.{each_pair}
use Rattle.tp_spec.specs.States.{State, value, value_at, of_both}
use Rattle.tp_spec.specs.Items.{effects, effects_of, adds, deletes, change, changed, next}
use Rattle.tp_spec.specs.Interference.{reads, reads_at, collides}
use Rattle.tp_laws.specs.Laws.{one_by_one}
use Rattle.tp_laws.proofs.States.{same_state, next-none}
use Rattle.tp_laws.proofs.Orders.{or-none, or-left, or-right, not-true, any-split, changes, changed-append, past-all, collides-none, stay_apart}

or-true : (b : Bool) → (b || true) ≡ true
or-true true = refl
or-true false = refl

or-either : (a b : Bool) → (a || b) ≡ true → (a ≡ true) ⊎ (b ≡ true)
or-either true b h = inl refl
or-either false b h = inr h

same_number : (n : ℕ) → (n == n) ≡ true
same_number n = eq-eqb n n refl

-- the fluents that an expression reads have the same values
abbrev SameFor : State → State → Expr → Type 0
SameFor s t e = (y : ℕ) → reads y e ≡ true → s.fluent y ≡ t.fluent y

abbrev SameValue : State → State → Expr → Type 0
SameValue s t e = SameFor s t e → value s e ≡ value t e

module _ (s t : State) where
  abbrev Part : Type 0
  Part = (e : Expr) × SameValue s t e

  by_layer : (y : Expr-F Part) → SameValue s t (roll-Expr (map-Expr Part Expr (λ e. e.0) y))
  by_layer (Expr-F.Number n) h = fold-roll-Expr (Option ℤ) (value_at s) (Expr-F.Number n) ∙ sym (fold-roll-Expr (Option ℤ) (value_at t) (Expr-F.Number n))
  by_layer (Expr-F.Fluent x) h =
      fold-roll-Expr (Option ℤ) (value_at s) (Expr-F.Fluent x)
      ∙ h x (fold-roll-Expr Bool (reads_at x) (Expr-F.Fluent x) ∙ same_number x)
      ∙ sym (fold-roll-Expr (Option ℤ) (value_at t) (Expr-F.Fluent x))
  by_layer (Expr-F.Sum a b) h =
      let left = a.1 (λ y r. h y (fold-roll-Expr Bool (reads_at y) (Expr-F.Sum a.0 b.0) ∙ ap (λ c. c || reads y b.0) r)) in
      let right = b.1 (λ y r. h y (fold-roll-Expr Bool (reads_at y) (Expr-F.Sum a.0 b.0) ∙ ap (λ c. reads y a.0 || c) r ∙ or-true (reads y a.0))) in
      fold-roll-Expr (Option ℤ) (value_at s) (Expr-F.Sum a.0 b.0)
      ∙ (λ k. of_both (λ m n. m +ℤ n) (left k) (right k))
      ∙ sym (fold-roll-Expr (Option ℤ) (value_at t) (Expr-F.Sum a.0 b.0))
  by_layer (Expr-F.Difference a b) h =
      let left = a.1 (λ y r. h y (fold-roll-Expr Bool (reads_at y) (Expr-F.Difference a.0 b.0) ∙ ap (λ c. c || reads y b.0) r)) in
      let right = b.1 (λ y r. h y (fold-roll-Expr Bool (reads_at y) (Expr-F.Difference a.0 b.0) ∙ ap (λ c. reads y a.0 || c) r ∙ or-true (reads y a.0))) in
      fold-roll-Expr (Option ℤ) (value_at s) (Expr-F.Difference a.0 b.0)
      ∙ (λ k. of_both (λ m n. m -ℤ n) (left k) (right k))
      ∙ sym (fold-roll-Expr (Option ℤ) (value_at t) (Expr-F.Difference a.0 b.0))

  -- a value depends only on what the expression reads
  value-same : (e : Expr) → SameValue s t e
  value-same = ind-Expr (SameValue s t) (λ x y is. subst (λ z. SameValue s t (roll-Expr z)) is (by_layer y))

-- whether an effect changes a fluent
abbrev writes : ℕ → Effect → Bool
writes y (Add g) = false
writes y (Delete g) = false
writes y (Change how z a) = y == z

change-kept : (s : State) (y : ℕ) (e : Effect) (v : Option ℤ) → writes y e ≡ false → change s y e v ≡ v
change-kept s y (Add g) v h = refl
change-kept s y (Delete g) v h = refl
change-kept s y (Change Increase z a) v h = ap (λ b. if b then of_both (λ m n. m +ℤ n) v (value s a) else v) h
change-kept s y (Change Decrease z a) v h = ap (λ b. if b then of_both (λ m n. m -ℤ n) v (value s a) else v) h
change-kept s y (Change Assign z a) v h = ap (λ b. if b then value s a else v) h

changed-kept : (s : State) (y : ℕ) (es : List Effect) → list_any (writes y) es ≡ false → changed s y es ≡ s.fluent y
changed-kept s y [] h = refl
changed-kept s y (e ∷ es) h = change-kept s y e (changed s y es) (or-left _ _ h) ∙ changed-kept s y es (or-right _ _ h)

-- what the right side of an effect reads is not written by effects that do not collide with it
unwritten : (how : How) (x : ℕ) (a : Expr) (y : ℕ) → reads y a ≡ true → (es : List Effect) → list_any (λ e. collides e (Change how x a)) es ≡ false → list_any (writes y) es ≡ false
unwritten how x a y r [] h = refl
unwritten how x a y r (e ∷ es) h = or-none _ _ (one e (or-left _ _ h)) (unwritten how x a y r es (or-right _ _ h)) where
  one : (e : Effect) → collides e (Change how x a) ≡ false → writes y e ≡ false
  one (Add g) h = refl
  one (Delete g) h = refl
  one (Change how' z b) h = false_from_ne_true (y == z) (λ same. false≢true (sym (or-left (reads z a) _ h) ∙ subst (λ w. reads w a ≡ true) (eqb-true y z same) r))

module _ (s : State) (es : List Effect) where
  -- a right side has its value after effects that do not collide with it
  value-kept : (how : How) (x : ℕ) (a : Expr) → list_any (λ e. collides e (Change how x a)) es ≡ false → value (next s es) a ≡ value s a
  value-kept how x a h = value-same (next s es) s a (λ y r. changed-kept s y es (unwritten how x a y r es h))

  change-later : (x : ℕ) (f : Effect) (v : Option ℤ) → list_any (λ e. collides e f) es ≡ false → change (next s es) x f v ≡ change s x f v
  change-later x (Add g) v h = refl
  change-later x (Delete g) v h = refl
  change-later x (Change Increase z a) v h = ap (λ u. if x == z then of_both (λ m n. m +ℤ n) v u else v) (value-kept Increase z a h)
  change-later x (Change Decrease z a) v h = ap (λ u. if x == z then of_both (λ m n. m -ℤ n) v u else v) (value-kept Decrease z a h)
  change-later x (Change Assign z a) v h = ap (λ u. if x == z then u else v) (value-kept Assign z a h)

  changes-later : (x : ℕ) (fs : List Effect) (v : Option ℤ) → list_any (λ e. list_any (collides e) fs) es ≡ false → changes (next s es) x fs v ≡ changes s x fs v
  changes-later x [] v h = refl
  changes-later x (f ∷ fs) v h =
      let parts = any-split (λ e. collides e f) (λ e. list_any (collides e) fs) es h in
      change-later x f (changes (next s es) x fs v) parts.0 ∙ ap (change s x f) (changes-later x fs v parts.1)

changed-all : (s : State) (x : ℕ) (es : List Effect) → changed s x es ≡ changes s x es (s.fluent x)
changed-all s x [] = refl
changed-all s x (e ∷ es) = ap (change s x e) (changed-all s x es)

-- what is added is not deleted by effects that do not collide with it
undeleted : (f : ℕ) (es fs : List Effect) → list_any (λ e. list_any (collides e) fs) es ≡ false → list_any (adds f) es ≡ true → list_any (deletes f) fs ≡ false
undeleted f [] fs h r = absurd (false≢true r)
undeleted f (e ∷ es) fs h r = elim (or-either (adds f e) (list_any (adds f) es) r) [
  | inl q ↦ one e (or-left _ _ h) q
  | inr q ↦ undeleted f es fs (or-right _ _ h) q
]
  where
    one : (e : Effect) → list_any (collides e) fs ≡ false → adds f e ≡ true → list_any (deletes f) fs ≡ false
    one (Add g) h q = subst (λ k. list_any (deletes k) fs ≡ false) (sym (eqb-true f g q)) h
    one (Delete g) h q = absurd (false≢true q)
    one (Change how z a) h q = absurd (false≢true q)

-- a fact that was true or not, deleted, added, deleted and added again
fact-once : (s d a d' a' : Bool) → (a ≡ true → d' ≡ false) → ((((s && not d) || a) && not d') || a') ≡ ((s && not (d || d')) || (a || a'))
fact-once s d true true a' h = absurd (false≢true (sym (h refl)))
fact-once true true true false a' h = refl
fact-once true false true false a' h = refl
fact-once false d true false a' h = refl
fact-once true true false d' a' h = refl
fact-once true false false true a' h = refl
fact-once true false false false a' h = refl
fact-once false d false d' a' h = refl

next-once : (s : State) (es fs : List Effect) → list_any (λ e. list_any (collides e) fs) es ≡ false → next (next s es) fs ≡ next s (es ++ fs)
next-once s es fs h = same_state (next (next s es) fs) (next s (es ++ fs)) facts fluents where
  facts : (f : ℕ) → (next (next s es) fs).fact f ≡ (next s (es ++ fs)).fact f
  facts f =
      fact-once (s.fact f) (list_any (deletes f) es) (list_any (adds f) es) (list_any (deletes f) fs) (list_any (adds f) fs) (undeleted f es fs h)
      ∙ (λ k. (s.fact f && not (sym (list_any-append (deletes f) es fs) k)) || sym (list_any-append (adds f) es fs) k)

  fluents : (x : ℕ) → (next (next s es) fs).fluent x ≡ (next s (es ++ fs)).fluent x
  fluents x =
      changed-all (next s es) x fs
      ∙ changes-later s es x fs (changed s x es) h
      ∙ ap (changes s x fs) (changed-all s x es)
      ∙ sym (past-all s x es fs (s.fluent x) h)
      ∙ ap (changes s x es) (sym (changed-all s x fs))
      ∙ sym (changed-append s x es fs)

any-join : {A : Type 0} (p q r : A → Bool) → ((x : A) → r x ≡ (p x || q x)) → (xs : List A) → list_any p xs ≡ false → list_any q xs ≡ false → list_any r xs ≡ false
any-join p q r same [] h k = refl
any-join p q r same (x ∷ xs) h k =
    or-none (r x) (list_any r xs) (same x ∙ or-none (p x) (q x) (or-left _ _ h) (or-left _ _ k)) (any-join p q r same xs (or-right _ _ h) (or-right _ _ k))

none-passes : {A : Type 0} (xs : List A) → list_any (λ x. false) xs ≡ false
none-passes [] = refl
none-passes (x ∷ xs) = none-passes xs

module _ (p : Problem) where
  clear : (i : Item) (is : List Item) → list_all (stay_apart p i) is ≡ true → list_any (λ e. list_any (collides e) (effects_of p is)) (effects p i) ≡ false
  clear i [] h = none-passes (effects p i)
  clear i (j ∷ is) h =
      any-join (λ e. list_any (collides e) (effects p j)) (λ e. list_any (collides e) (effects_of p is)) (λ e. list_any (collides e) (effects_of p (j ∷ is)))
      (λ e. list_any-append (collides e) (effects p j) (effects_of p is)) (effects p i)
      (collides-none p i j (not-true _ (and_parts _ _ h).0)) (clear i is (and_parts _ _ h).1)

  pub one_by_one-next : (s : State) (is : List Item) → each_pair (stay_apart p) is ≡ true → one_by_one p s is ≡ next s (effects_of p is)
  one_by_one-next s [] h = sym (next-none s)
  one_by_one-next s (i ∷ is) h = one_by_one-next (next s (effects p i)) is (and_parts _ _ h).1 ∙ next-once s (effects p i) (effects_of p is) (clear i is (and_parts _ _ h).0)
