-- What a valid plan says of each two of its acts, and of each one.
use Rattle.std.proofs.Common.{◌≡◌, refl, sym, subst, ◌∙◌, ℕ, zero, suc, ◌+◌, ◌<◌, ◌≤◌, Bool, true, false, not, eqb, List, [], ◌∷◌, ◌++◌, length, Option, Some, None, ◌⊎◌, inl, inr, arith}
use Rattle.std.specs.Prelude.{slice_get, ◌==◌, ◌||◌, ◌&&◌, nat_lt, nat_le}
use Rattle.std.specs.List.{AllByRecursion as Each, list_all}
use Rattle.std.proofs.lemmas.Bool.{and_parts, false≢true, ltb-true, leb-true, eqb-true, eqb-false, eq-eqb}
use Rattle.std.proofs.lemmas.Option.{slice_get_within}
use Rattle.tp_spec.specs.declared.plan.Limits.{Limits}
use Rattle.tp_spec.specs.declared.plan.Plan.{Plan}
use Rattle.tp_spec.specs.declared.plan.Timed.{Timed}
use Rattle.tp_spec.specs.declared.problem.Action.{Action}
use Rattle.tp_spec.specs.declared.problem.Kind.{Kind}
use Rattle.tp_spec.specs.declared.problem.Kind.TheVariants.{Instant, Durative}
use Rattle.tp_spec.specs.declared.problem.Problem.{Problem}
use Rattle.tp_spec.specs.declared.problem.TimedItem.{TimedItem}
use Rattle.tp_spec.specs.Lists.{each_pair, each_next, some_and, IsIn}
use Rattle.tp_spec.specs.Items.{is_durative, is_durative_kind}
use Rattle.tp_spec.specs.Courses.{Valid, act_before, allows_length, in_range}
use Rattle.tp_spec.specs.WellFormed.{IsWellFormed, is_action, is_kind}
use Rattle.tp_laws.proofs.EarlyLists.{each-map, each-true, each-in}
use Rattle.tp_laws.proofs.ClockCommits.{in_get}
use Rattle.tp_laws.proofs.PlanOfBeside.{Pairs}

-- a list whose neighbours are related has each two related
pub chain : {A : Type 0} (test : A → A → Bool) (R : A → A → Type 0) (xs : List A) → ((x y : A) → test x y ≡ true → R x y) → ((x y z : A) → R x y → R y z → R x z) → each_next test xs ≡ true → Pairs R xs
chain test R [] f over h = tt
chain test R (x ∷ []) f over h = (tt, tt)
chain test R (x ∷ y ∷ xs) f over h =
    let first : R x y = f x y (and_parts _ _ h).0 in
    let rest = chain test R (y ∷ xs) f over (and_parts _ _ h).1 in
    ((first, each-map (R y) (R x) xs (λ z r. over x y z first r) rest.0), rest)

pub pairs-from : {A : Type 0} (test : A → A → Bool) (R : A → A → Type 0) (xs : List A) → ((x y : A) → test x y ≡ true → R x y) → each_pair test xs ≡ true → Pairs R xs
pairs-from test R [] f h = tt
pairs-from test R (x ∷ xs) f h = (
  each-map (λ y. test x y ≡ true) (R x) xs (λ y e. f x y e) (each-true (test x) xs (and_parts _ _ h).0),
  pairs-from test R xs f (and_parts _ _ h).1,
)

pub pairs-both : {A : Type 0} (R S T : A → A → Type 0) (xs : List A) → ((x y : A) → R x y → S x y → T x y) → Pairs R xs → Pairs S xs → Pairs T xs
pairs-both R S T [] f h k = tt
pairs-both {A} R S T (x ∷ xs) f h k = (both xs h.0 k.0, pairs-both R S T xs f h.1 k.1)
  where
    both : (ys : List A) → Each (R x) ys → Each (S x) ys → Each (T x) ys
    both [] a b = tt
    both (y ∷ ys) a b = (f x y a.0 b.0, both ys a.1 b.1)

pub pairs-front : {A : Type 0} (R : A → A → Type 0) (xs ys : List A) → Pairs R (xs ++ ys) → Pairs R xs
pairs-front R [] ys h = tt
pairs-front {A} R (x ∷ xs) ys h = (front xs h.0, pairs-front R xs ys h.1)
  where
    front : (zs : List A) → Each (R x) (zs ++ ys) → Each (R x) zs
    front [] h = tt
    front (z ∷ zs) h = (h.0, front zs h.1)

pub pairs-back : {A : Type 0} (R : A → A → Type 0) (xs ys : List A) → Pairs R (xs ++ ys) → Pairs R ys
pairs-back R [] ys h = h
pairs-back R (x ∷ xs) ys h = pairs-back R xs ys h.1

-- each of a front is related to the first one behind it
pub pairs-across : {A : Type 0} (R : A → A → Type 0) (xs : List A) (y : A) (ys : List A) → Pairs R (xs ++ y ∷ ys) → Each (λ x. R x y) xs
pairs-across R [] y ys h = tt
pairs-across {A} R (x ∷ xs) y ys h = (at xs h.0, pairs-across R xs y ys h.1)
  where
    at : (zs : List A) → Each (R x) (zs ++ y ∷ ys) → R x y
    at [] h = h.0
    at (z ∷ zs) h = at zs h.1

-- two members are the same, or one stands before the other
pub pairs-in : {A : Type 0} (R : A → A → Type 0) (xs : List A) (x y : A) → Pairs R xs → IsIn x xs → IsIn y xs → (x ≡ y) ⊎ (R x y ⊎ R y x)
pairs-in R [] x y h i j = absurd i
pairs-in R (z ∷ xs) x y h (inl e) (inl d) = inl (sym e ∙ d)
pairs-in R (z ∷ xs) x y h (inl e) (inr j) = inr (inl (subst (λ w. R w y) e (each-in (R z) xs y h.0 j)))
pairs-in R (z ∷ xs) x y h (inr i) (inl d) = inr (inr (subst (λ w. R w x) d (each-in (R z) xs x h.0 i)))
pairs-in R (z ∷ xs) x y h (inr i) (inr j) = pairs-in R xs x y h.1 i j

-- of two places the earlier is related to the later
pub pairs-get : {A : Type 0} (R : A → A → Type 0) (xs : List A) (j k : ℕ) (x y : A) → Pairs R xs → j < k → slice_get xs j ≡ Some x → slice_get xs k ≡ Some y → R x y
pairs-get R [] j k x y h lt d e = absurd cc
pairs-get R (z ∷ xs) j zero x y h lt d e = absurd (omega (arith, lt))
pairs-get R (z ∷ xs) zero (suc k) x y h lt d e = let same : z ≡ x = cc in subst (λ w. R w y) same (each-in (R z) xs y h.0 (in_get xs k y e))
pairs-get R (z ∷ xs) (suc j) (suc k) x y h lt d e = pairs-get R xs j k x y h.1 (omega (arith, lt)) d e

-- of two acts of one action the first ends before the second starts, or then
abbrev pub Turn : Timed → Timed → Type 0
Turn x y = x.action ≡ y.action → x.start + x.length ≤ y.start

-- the order of a plan's acts, of which no two are of one action and tick
abbrev pub Earlier : Timed → Timed → Type 0
Earlier x y = (x.start < y.start) ⊎ ((x.start ≡ y.start) × (x.action < y.action))

abbrev Weak : Timed → Timed → Type 0
Weak x y = (x.start < y.start) ⊎ ((x.start ≡ y.start) × (x.action ≤ y.action))

weak-of : (x y : Timed) → act_before x y ≡ true → Weak x y
weak-of x y h = by_test (nat_lt x.start y.start) refl h
  where
    inside : (b : Bool) → nat_lt x.action y.action ≡ b → (b || (x.action == y.action && nat_le x.length y.length)) ≡ true → x.action ≤ y.action
    inside true e k = omega (arith, ltb-true x.action y.action e)
    inside false e k = omega (arith, eqb-true x.action y.action (and_parts _ _ k).0)

    by_test : (b : Bool) → nat_lt x.start y.start ≡ b → (b || (x.start == y.start && (nat_lt x.action y.action || (x.action == y.action && nat_le x.length y.length)))) ≡ true → Weak x y
    by_test true e k = inl (ltb-true x.start y.start e)
    by_test false e k = inr (eqb-true x.start y.start (and_parts _ _ k).0, inside (nat_lt x.action y.action) refl (and_parts _ _ k).1)

weak-over : (x y z : Timed) → Weak x y → Weak y z → Weak x z
weak-over x y z (inl a) (inl b) = inl (omega (arith, a, b))
weak-over x y z (inl a) (inr b) = inl (omega (arith, a, b.0))
weak-over x y z (inr a) (inl b) = inl (omega (arith, a.0, b))
weak-over x y z (inr a) (inr b) = inr (a.0 ∙ b.0, omega (arith, a.1, b.1))

abbrev Apart : Timed → Timed → Type 0
Apart x y = x.action ≡ y.action → x.start ≡ y.start → ⊥

apart-of : (x y : Timed) → not (x.action == y.action && x.start == y.start) ≡ true → Apart x y
apart-of x y h a s = by_test (x.action == y.action) (x.start == y.start) (eq-eqb x.action y.action a) (eq-eqb x.start y.start s) h
  where
    by_test : (b c : Bool) → b ≡ true → c ≡ true → not (b && c) ≡ true → ⊥
    by_test true true d e k = false≢true k
    by_test true false d e k = false≢true e
    by_test false c d e k = false≢true d

earlier-of : (x y : Timed) → Weak x y → Apart x y → Earlier x y
earlier-of x y (inl b) h = inl b
earlier-of x y (inr b) h = by_test (eqb x.action y.action) refl
  where
    by_test : (c : Bool) → eqb x.action y.action ≡ c → Earlier x y
    by_test true e = absurd (h (eqb-true x.action y.action e) b.0)
    by_test false e = inr (b.0, strict (λ s. eqb-false x.action y.action e s))
      where
        strict : (x.action ≡ y.action → ⊥) → x.action < y.action
        strict ne = let le = b.1 in omega (arith, le, ne)

turn-of : (x y : Timed) → (not (x.action == y.action) || nat_le (x.start + x.length) y.start) ≡ true → Turn x y
turn-of x y h a = by_test (x.action == y.action) (eq-eqb x.action y.action a) h
  where
    by_test : (b : Bool) → b ≡ true → (not b || nat_le (x.start + x.length) y.start) ≡ true → x.start + x.length ≤ y.start
    by_test true e k = leb-true (x.start + x.length) y.start k
    by_test false e k = absurd (false≢true e)

-- one of the problem's actions, in a length of its kind
pub record Ranged (p : Problem) (y : Timed) : Type 0 where
  pub known : y.action < length p.actions
  pub long : is_durative p y.action ≡ true → 1 ≤ y.length
  pub at_once : is_durative p y.action ≡ false → y.length ≡ 0

pub some-at : {A : Type 0} (o : Option A) (test : A → Bool) → some_and o test ≡ true → (x : A) × (o ≡ Some x) × (test x ≡ true)
some-at None test h = absurd (false≢true h)
some-at (Some x) test h = (x, refl, h)

got : {A : Type 0} (xs : List A) (a : ℕ) (test : A → Bool) → some_and (slice_get xs a) test ≡ true → a < length xs
got xs a test h = let x = some-at (slice_get xs a) test h in slice_get_within xs a x.0 x.1

long-kind : (x : Action) (n : ℕ) (k : Kind) → is_kind k x ≡ true → allows_length k n ≡ true → is_durative_kind k ≡ true → 1 ≤ n
long-kind x n Instant f h d = absurd (false≢true d)
long-kind x n (Durative least most) f h d = omega (arith, leb-true 1 least (and_parts _ _ (and_parts _ _ f).0).0, leb-true least n (and_parts _ _ h).0)

long-act : (facts fluents : ℕ) (xs : List Action) (a n : ℕ) → list_all (is_action facts fluents) xs ≡ true → some_and (slice_get xs a) (λ x. allows_length x.kind n) ≡ true → some_and (slice_get xs a) (λ x. is_durative_kind x.kind) ≡ true → 1 ≤ n
long-act facts fluents [] a n f h d = absurd (false≢true h)
long-act facts fluents (x ∷ xs) zero n f h d =
    long-kind x n x.kind (and_parts _ _ (and_parts _ _ (and_parts _ _ (and_parts _ _ (and_parts _ _ (and_parts _ _ (and_parts _ _ f).0).0).0).0).0).0).1 h d
long-act facts fluents (x ∷ xs) (suc a) n f h d = long-act facts fluents xs a n (and_parts _ _ f).1 h d

short-act : (xs : List Action) (a n : ℕ) → some_and (slice_get xs a) (λ x. allows_length x.kind n) ≡ true → some_and (slice_get xs a) (λ x. is_durative_kind x.kind) ≡ false → n ≡ 0
short-act [] a n h d = absurd (false≢true h)
short-act (x ∷ xs) zero n h d = by_kind x.kind h d
  where
    by_kind : (k : Kind) → allows_length k n ≡ true → is_durative_kind k ≡ false → n ≡ 0
    by_kind Instant h d = eqb-true n 0 h
    by_kind (Durative least most) h d = absurd (false≢true (sym d))
short-act (x ∷ xs) (suc a) n h d = short-act xs a n h d

actions-fit : (p : Problem) → IsWellFormed p → list_all (is_action (length p.facts) (length p.fluents)) p.actions ≡ true
actions-fit p formed = (and_parts _ _ formed.acting).1

-- what the acts of a valid plan are, and how they stand to one another
pub record Plays (p : Problem) (acts : List Timed) : Type 0 where
  pub ranged : Each (Ranged p) acts
  pub turns : Pairs Turn acts
  pub sorted : Pairs Earlier acts
  pub ticks : Pairs {A = TimedItem} (λ s t. s.tick < t.tick) p.timed

pub plays : (p : Problem) (l : Limits) (plan : Plan) → IsWellFormed p → Valid p l plan → Plays p plan.acts
plays p l plan formed valid = record {
  ranged = each-map (λ y. in_range p y.action y.length ≡ true) (Ranged p) plan.acts one (each-true (λ y. in_range p y.action y.length) plan.acts valid.lengths);
  turns = pairs-from (λ x y. not (x.action == y.action) || nat_le (x.start + x.length) y.start) Turn plan.acts turn-of valid.in_turn;
  sorted = pairs-both Weak Apart Earlier plan.acts earlier-of (chain act_before Weak plan.acts weak-of weak-over valid.in_order) (pairs-from (λ x y. not (x.action == y.action && x.start == y.start)) Apart plan.acts apart-of valid.once);
  ticks = chain (λ s t. nat_lt s.tick t.tick) (λ s t. s.tick < t.tick) p.timed (λ s t h. ltb-true s.tick t.tick h) (λ s t u a b. omega (arith, a, b)) (and_parts _ _ formed.timing).1;
}
  where
    one : (y : Timed) → in_range p y.action y.length ≡ true → Ranged p y
    one y h = record {
      known = got p.actions y.action (λ x. allows_length x.kind y.length) h;
      long = λ d. long-act (length p.facts) (length p.fluents) p.actions y.action y.length (actions-fit p formed) h d;
      at_once = λ d. short-act p.actions y.action y.length h d;
    }
