-- Each kind of row and bound, and what it says.
use Rattle.std.proofs.Common.{◌≡◌, ℕ, zero, suc, ◌-◌, ◌<◌, ◌≤◌, true, List, [], ◌∷◌, ◌++◌, Option, Some, None, refl, subst, arith, inl, inr}
use Rattle.std.specs.Prelude.{pos, negsuc, ◌+ℤ◌, ◌-ℤ◌, ◌≤ℤ◌, IfSome, slice_get, map}
use Rattle.std.specs.List.{flat_map, AllByRecursion as Each}
use Rattle.std.proofs.lemmas.Int.{ints}
use Rattle.std.proofs.lemmas.Bool.{cases_lt, and_parts, and_from, leb-true, le-leb, eqb-true, eq-eqb, false≢true}
use Rattle.tick_network.specs.Nets.{KeepsRow}
use Rattle.tp_laws.proofs.ClockActs.{each-append}
use Rattle.tp_spec.specs.declared.problem.Action.{Action}
use Rattle.tp_spec.specs.declared.problem.Kind.{Kind}
use Rattle.tp_spec.specs.declared.problem.Kind.TheVariants.{Instant, Durative}
use Rattle.tp_spec.specs.declared.problem.Problem.{Problem}
use Rattle.tp_spec.specs.declared.problem.TimedItem.{TimedItem}
use Rattle.tp_spec.specs.Lists.{IsIn, some_and}
use Rattle.tp_spec.specs.Courses.{allows_length, in_range}
use Rattle.tp_spec.specs.Words.{Act}
use Rattle.word_rows.specs.Rows.{rise_rows, late_rows, length_rows, end_of, least_of, most_of, least_length, most_length, timed_bounds, horizon_bounds}

pub each-front : {A : Type 0} (P : A → Type 0) (xs ys : List A) → Each P (xs ++ ys) → Each P xs
each-front P [] ys h = tt
each-front P (x ∷ xs) ys h = (h.0, each-front P xs ys h.1)

pub each-back : {A : Type 0} (P : A → Type 0) (xs ys : List A) → Each P (xs ++ ys) → Each P ys
each-back P [] ys h = h
each-back P (x ∷ xs) ys h = each-back P xs ys h.1

pub each-flat : {A B : Type 0} (P : B → Type 0) (f : A → List B) (xs : List A) → ((a : A) → IsIn a xs → Each P (f a)) → Each P (flat_map f xs)
each-flat P f [] h = tt
each-flat P f (x ∷ xs) h = each-append P (f x) (flat_map f xs) (h x (inl refl)) (each-flat P f xs (λ a i. h a (inr i)))

pub flat-each : {A B : Type 0} (P : B → Type 0) (f : A → List B) (xs : List A) → Each P (flat_map f xs) → (a : A) → IsIn a xs → Each P (f a)
flat-each P f [] h a i = absurd i
flat-each P f (x ∷ xs) h a i = elim i [
  | inl e ↦ subst (λ z. Each P (f z)) e (each-front P (f x) (flat_map f xs) h)
  | inr j ↦ flat-each P f xs (each-back P (f x) (flat_map f xs) h) a j
]

pub each-map : {A B : Type 0} (P : B → Type 0) (f : A → B) (xs : List A) → ((a : A) → IsIn a xs → P (f a)) → Each P (map f xs)
each-map P f [] h = tt
each-map P f (x ∷ xs) h = (h x (inl refl), each-map P f xs (λ a i. h a (inr i)))

pub map-each : {A B : Type 0} (P : B → Type 0) (f : A → B) (xs : List A) → Each P (map f xs) → (a : A) → IsIn a xs → P (f a)
map-each P f [] h a i = absurd i
map-each P f (x ∷ xs) h a i = elim i [
  | inl e ↦ subst (λ z. P (f z)) e h.0
  | inr j ↦ map-each P f xs h.1 a j
]

-- groups rise
pub rise-to : (t : ℕ → ℕ) (m : ℕ) → ((g : ℕ) → g < m → t g < t (suc g)) → Each (KeepsRow t) (rise_rows m)
rise-to t zero h = tt
rise-to t (suc m) h = (let one : t m < t (suc m) = h m (omega arith) in omega (arith, ints), rise-to t m (λ g b. h g (omega arith)))

pub rise-from : (t : ℕ → ℕ) (m : ℕ) → Each (KeepsRow t) (rise_rows m) → (g : ℕ) → g < m → t g < t (suc g)
rise-from t zero h g b = absurd (omega arith)
rise-from t (suc m) h g b = elim (cases_lt g m) [
  | inl below ↦ rise-from t m h.1 g below
  | inr above ↦ let same : m ≡ g = omega arith in subst (λ (k : ℕ). t k < t (suc k)) same (let one : pos (t m) ≤ℤ (pos (t (suc m)) +ℤ negsuc 0) = h.0 in omega (arith, ints))
]

-- which lengths a kind allows
pub allows-from : (k : Kind) (n : ℕ) → allows_length k n ≡ true → (least_of k ≤ n) × (n ≤ most_of k)
allows-from Instant n h = let e : n ≡ 0 = eqb-true n 0 h in (omega arith, omega arith)
allows-from (Durative least most) n h = let parts = and_parts _ _ h in (leb-true least n parts.0, leb-true n most parts.1)

pub allows-to : (k : Kind) (n : ℕ) → least_of k ≤ n → n ≤ most_of k → allows_length k n ≡ true
allows-to Instant n low high = let e : n ≡ 0 = omega arith in eq-eqb n 0 e
allows-to (Durative least most) n low high = and_from _ _ (le-leb least n low) (le-leb n most high)

range_from : (o : Option Action) (n : ℕ) → some_and o (λ x. allows_length x.kind n) ≡ true → (elim o as (λ _. ℕ) [ None ↦ 0 | Some x ↦ least_of x.kind ] ≤ n) × (n ≤ elim o as (λ _. ℕ) [ None ↦ 0 | Some x ↦ most_of x.kind ])
range_from None n h = absurd (false≢true h)
range_from (Some x) n h = allows-from x.kind n h

pub range-from : (p : Problem) (a n : ℕ) → in_range p a n ≡ true → (least_length p a ≤ n) × (n ≤ most_length p a)
range-from p a n h = range_from (slice_get p.actions a) n h

range_to : (o : Option Action) (x : Action) (n : ℕ) → o ≡ Some x → elim o as (λ _. ℕ) [ None ↦ 0 | Some x ↦ least_of x.kind ] ≤ n → n ≤ elim o as (λ _. ℕ) [ None ↦ 0 | Some x ↦ most_of x.kind ] → some_and o (λ x. allows_length x.kind n) ≡ true
range_to None x n e low high = absurd cc
range_to (Some y) x n e low high = allows-to y.kind n low high

pub range-to : (p : Problem) (a n : ℕ) (x : Action) → slice_get p.actions a ≡ Some x → least_length p a ≤ n → n ≤ most_length p a → in_range p a n ≡ true
range-to p a n x e low high = range_to (slice_get p.actions a) x n e low high

-- the rows on one act's length
two_rows : (s e least most : ℕ) → s ≤ e → least ≤ e - s → e - s ≤ most → (pos e ≤ℤ (pos s +ℤ pos most)) × (pos s ≤ℤ (pos e +ℤ (pos 0 -ℤ pos least)))
two_rows s e least most le low high = (omega (arith, ints), omega (arith, ints))

two_bounds : (s e least most : ℕ) → pos e ≤ℤ (pos s +ℤ pos most) → pos s ≤ℤ (pos e +ℤ (pos 0 -ℤ pos least)) → (s ≤ e) × (least ≤ e - s) × (e - s ≤ most)
two_bounds s e least most h k = (omega (arith, ints), omega (arith, ints), omega (arith, ints))

late_to : (t : ℕ → ℕ) (n end : ℕ) (o : Option ℕ) → (o ≡ None → t (n - 1) ≤ t end) → Each (KeepsRow t) (late_rows n end o)
late_to t n end None h = (let one : t (n - 1) ≤ t end = h refl in omega (arith, ints), tt)
late_to t n end (Some g) h = tt

late_from : (t : ℕ → ℕ) (n end : ℕ) (o : Option ℕ) → Each (KeepsRow t) (late_rows n end o) → o ≡ None → t (n - 1) ≤ t end
late_from t n end None h e = let one : pos (t (n - 1)) ≤ℤ (pos (t end) +ℤ pos 0) = h.0 in omega (arith, ints)
late_from t n end (Some g) h e = absurd cc

pub length-to : (p : Problem) (n : ℕ) (running : List Act) (a : Act) (t : ℕ → ℕ) → t a.opens ≤ t (end_of n running a) → in_range p a.action (t (end_of n running a) - t a.opens) ≡ true → (a.closes ≡ None → t (n - 1) ≤ t (end_of n running a)) → Each (KeepsRow t) (length_rows p n running a)
length-to p n running a t le allowed late =
    let range = range-from p a.action _ allowed in
    let rows = two_rows (t a.opens) (t (end_of n running a)) (least_length p a.action) (most_length p a.action) le range.0 range.1 in
    (rows.0, (rows.1, late_to t n (end_of n running a) a.closes late))

pub record IsLong (p : Problem) (n : ℕ) (a : Act) (s e last : ℕ) : Type 0 where
  pub forward : s ≤ e
  pub allowed : in_range p a.action (e - s) ≡ true
  pub late : a.closes ≡ None → last ≤ e

pub length-from : (p : Problem) (n : ℕ) (running : List Act) (a : Act) (x : Action) (t : ℕ → ℕ) → slice_get p.actions a.action ≡ Some x → Each (KeepsRow t) (length_rows p n running a) → IsLong p n a (t a.opens) (t (end_of n running a)) (t (n - 1))
length-from p n running a x t known h =
    let bounds = two_bounds (t a.opens) (t (end_of n running a)) (least_length p a.action) (most_length p a.action) h.0 h.1.0 in
    record { forward = bounds.0; allowed = range-to p a.action _ x known bounds.1 bounds.2; late = late_from t n (end_of n running a) a.closes h.1.1 }

-- timed items
abbrev pub AtTimes : (ℕ → ℕ) → List ℕ → List TimedItem → Type 0
AtTimes t gs items = (k : ℕ) → IfSome (slice_get gs k) (λ g. IfSome (slice_get items k) (λ i. t g ≡ i.tick))

pub timed-to : (t : ℕ → ℕ) (gs : List ℕ) (items : List TimedItem) → AtTimes t gs items → Each (λ b. t b.variable ≡ b.tick) (timed_bounds gs items)
timed-to t [] items h = tt
timed-to t (g ∷ gs) [] h = tt
timed-to t (g ∷ gs) (i ∷ items) h = (h 0, timed-to t gs items (λ k. h (suc k)))

pub timed-from : (t : ℕ → ℕ) (gs : List ℕ) (items : List TimedItem) → Each (λ b. t b.variable ≡ b.tick) (timed_bounds gs items) → AtTimes t gs items
timed-from t [] items h k = tt
timed-from t (g ∷ gs) [] h zero = tt
timed-from t (g ∷ gs) [] h (suc k) = none_there (slice_get gs k)
  where
    none_there : (o : Option ℕ) → IfSome o (λ g. IfSome (slice_get {X = TimedItem} [] (suc k)) (λ i. t g ≡ i.tick))
    none_there None = tt
    none_there (Some g) = tt
timed-from t (g ∷ gs) (i ∷ items) h zero = h.0
timed-from t (g ∷ gs) (i ∷ items) h (suc k) = timed-from t gs items h.1 k

-- nothing stands behind the horizon
pub horizon-to : (t : ℕ → ℕ) (horizon n : ℕ) → ((v : ℕ) → v < n → t v ≤ horizon) → Each (λ b. t b.variable ≤ b.tick) (horizon_bounds horizon n)
horizon-to t horizon zero h = tt
horizon-to t horizon (suc n) h = (h n (omega arith), horizon-to t horizon n (λ v b. h v (omega arith)))

pub horizon-from : (t : ℕ → ℕ) (horizon n : ℕ) → Each (λ b. t b.variable ≤ b.tick) (horizon_bounds horizon n) → (v : ℕ) → v < n → t v ≤ horizon
horizon-from t horizon zero h v b = absurd (omega arith)
horizon-from t horizon (suc n) h v b = elim (cases_lt v n) [
  | inl below ↦ horizon-from t horizon n h.1 v below
  | inr above ↦ let same : n ≡ v = omega arith in subst (λ (k : ℕ). t k ≤ horizon) same h.0
]
