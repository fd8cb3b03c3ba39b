-- One happening after another: what stands in front, and what is left behind it.
use Rattle.std.proofs.Common.{◌≡◌, refl, sym, ap, subst, ◌∙◌, ℕ, zero, suc, ◌+◌, ◌<◌, ◌≤◌, Bool, true, false, not, ◌&&◌, ◌||◌, ◌==◌, nat_lt, nat_le, List, [], ◌∷◌, map, cond, length, get_or, arith, inl, inr, ◌⊎◌, IsTrue, Option, Some, None}
use Rattle.std.specs.Prelude.{if◌then◌else◌}
use Rattle.std.specs.List.{list_all, filter}
use Rattle.std.proofs.lemmas.Bool.{and_parts, and_from, or_cases, false≢true, ltb-true, le-leb, leb-true, eqb-true, eqb-false, eq-eqb, ne_eqb, cases_Bool}
use Rattle.tp_spec.specs.declared.plan.Item.{Item}
use Rattle.tp_spec.specs.declared.plan.Timed.{Timed}
use Rattle.tp_spec.specs.declared.problem.Problem.{Problem}
use Rattle.tp_spec.specs.Lists.{each_pair}
use Rattle.tp_spec.specs.Items.{item_before}
use Rattle.tp_spec.specs.Courses.{happening, state_before, state_after, Passes}
use Rattle.world_state.specs.View.{StateView, meaning, IsStateOf}
use Rattle.plan_validator.specs.declared.standings.Standing.{Standing}
use Rattle.plan_validator.specs.Acts.{is_of}
use Rattle.plan_validator.specs.Standings.{item_of, standing_before, items_at, front_at, behind_at, AreStandings}
use Rattle.plan_validator.specs.Course.{IsReached, IsStep, IsThrough}
use Rattle.plan_validator.proofs.Quiet.{quiet_to, step_more}

abbrev pub AllFrom : ℕ → List Standing → Type 0
AllFrom t xs = list_all (λ x. nat_le t x.tick) xs ≡ true

-- those behind one stand no earlier
not_earlier : (x y : Standing) → standing_before x y ≡ true → x.tick ≤ y.tick
not_earlier x y h = elim (or_cases (nat_lt x.tick y.tick) (x.tick == y.tick && item_before (item_of x.place) (item_of y.place)) h) [
  | inl less ↦ let below : x.tick < y.tick = ltb-true x.tick y.tick less in omega arith
  | inr same ↦ let is : x.tick ≡ y.tick = eqb-true x.tick y.tick (and_parts (x.tick == y.tick) (item_before (item_of x.place) (item_of y.place)) same).0 in omega arith
]

all_later : (t : ℕ) (x : Standing) (ys : List Standing) → t ≤ x.tick → list_all (standing_before x) ys ≡ true → AllFrom t ys
all_later t x [] le h = refl
all_later t x (y ∷ ys) le h =
    let parts = and_parts (standing_before x y) (list_all (standing_before x) ys) h in
    let next : x.tick ≤ y.tick = not_earlier x y parts.0 in
    and_from (nat_le t y.tick) (list_all (λ z. nat_le t z.tick) ys) (le-leb t y.tick (omega arith)) (all_later t x ys le parts.1)

-- all stand no earlier than the first one
pub from_first : (t : ℕ) (x : Standing) (xs : List Standing) → t ≤ x.tick → each_pair standing_before (x ∷ xs) ≡ true → AllFrom t (x ∷ xs)
from_first t x xs le h =
    and_from (nat_le t x.tick) (list_all (λ z. nat_le t z.tick) xs) (le-leb t x.tick le) (all_later t x xs le (and_parts (list_all (standing_before x) xs) (each_pair standing_before xs) h).0)

-- nothing stands earlier
pub none_earlier : (u t : ℕ) (xs : List Standing) → u < t → AllFrom t xs → items_at u xs ≡ []
none_earlier u t [] less h = refl
none_earlier u t (x ∷ xs) less h =
    let parts = and_parts (nat_le t x.tick) (list_all (λ z. nat_le t z.tick) xs) h in
    let late : t ≤ x.tick = leb-true t x.tick parts.0 in
    let other : (x.tick == u) ≡ false = ne_eqb x.tick u (λ e. omega (arith, e, late, less)) in
    ap (λ b. map (λ z. item_of z.place) (cond b (x ∷ filter (λ z. z.tick == u) xs) (filter (λ z. z.tick == u) xs))) other ∙ none_earlier u t xs less parts.1

later_than : (t : ℕ) (x : Standing) → nat_le t x.tick ≡ true → (x.tick == t) ≡ false → suc t ≤ x.tick
later_than t x late other =
    let from : t ≤ x.tick = leb-true t x.tick late in
    let apart : x.tick ≡ t → ⊥ = eqb-false x.tick t other in
    omega arith

-- the items in front are those at the tick
pub front_is : (t : ℕ) (xs : List Standing) → each_pair standing_before xs ≡ true → AllFrom t xs → front_at t xs ≡ items_at t xs
front_is t [] up h = refl
front_is t (x ∷ xs) up h =
    let parts = and_parts (nat_le t x.tick) (list_all (λ z. nat_le t z.tick) xs) h in
    let pairs = and_parts (list_all (standing_before x) xs) (each_pair standing_before xs) up in
    by_test (x.tick == t) (front_is t xs pairs.1 parts.1) (λ other. none_earlier t (suc t) xs (omega arith) (all_later (suc t) x xs (later_than t x parts.0 other) pairs.0))
  where
    by_test : (b : Bool) → front_at t xs ≡ items_at t xs → (b ≡ false → items_at t xs ≡ [])
        → (if b then item_of x.place ∷ front_at t xs else []) ≡ map (λ z. item_of z.place) (cond b (x ∷ filter (λ z. z.tick == t) xs) (filter (λ z. z.tick == t) xs))
    by_test true rest none = ap (λ is. item_of x.place ∷ is) rest
    by_test false rest none = sym (none refl)

-- what is behind them
pub behind_rises : (t : ℕ) (xs : List Standing) → each_pair standing_before xs ≡ true → each_pair standing_before (behind_at t xs) ≡ true
behind_rises t [] up = refl
behind_rises t (x ∷ xs) up = by_test (x.tick == t) (behind_rises t xs (and_parts (list_all (standing_before x) xs) (each_pair standing_before xs) up).1) where
  by_test : (b : Bool) → each_pair standing_before (behind_at t xs) ≡ true → each_pair standing_before (if b then behind_at t xs else x ∷ xs) ≡ true
  by_test true rest = rest
  by_test false rest = up

pub behind_late : (t : ℕ) (xs : List Standing) → each_pair standing_before xs ≡ true → AllFrom t xs → AllFrom (suc t) (behind_at t xs)
behind_late t [] up h = refl
behind_late t (x ∷ xs) up h =
    let parts = and_parts (nat_le t x.tick) (list_all (λ z. nat_le t z.tick) xs) h in
    let pairs = and_parts (list_all (standing_before x) xs) (each_pair standing_before xs) up in
    by_test (x.tick == t) (behind_late t xs pairs.1 parts.1) (λ other. from_first (suc t) x xs (later_than t x parts.0 other) up)
  where
    by_test : (b : Bool) → AllFrom (suc t) (behind_at t xs) → (b ≡ false → AllFrom (suc t) (x ∷ xs)) → AllFrom (suc t) (if b then behind_at t xs else x ∷ xs)
    by_test true rest all = rest
    by_test false rest all = all refl

pub behind_same : (t u : ℕ) (xs : List Standing) → t < u → items_at u (behind_at t xs) ≡ items_at u xs
behind_same t u [] less = refl
behind_same t u (x ∷ xs) less = by_test (x.tick == t) (behind_same t u xs less) (λ here. ne_eqb x.tick u (λ e. omega (arith, eqb-true x.tick t here, e, less))) where
  by_test : (b : Bool) → items_at u (behind_at t xs) ≡ items_at u xs → (b ≡ true → (x.tick == u) ≡ false) → items_at u (if b then behind_at t xs else x ∷ xs) ≡ items_at u (x ∷ xs)
  by_test true rest other = rest ∙ ap (λ b. map (λ z. item_of z.place) (cond b (x ∷ filter (λ z. z.tick == u) xs) (filter (λ z. z.tick == u) xs))) (sym (other refl))
  by_test false rest other = refl

pub left_behind : (p : Problem) (acts : List Timed) (t n : ℕ) (xs : List Standing) → t ≤ n → AllFrom n xs → AreStandings p acts t xs → AreStandings p acts (suc n) (behind_at n xs)
left_behind p acts t n xs le from are = record {
  rising = behind_rises n xs are.rising;
  late = behind_late n xs are.rising from;
  are = λ u late. behind_same n u xs (omega (arith, late)) ∙ are.are u (omega (arith, late, le));
}

module _ (p : Problem) (acts : List Timed) (inside : list_all (is_of (length p.actions)) acts ≡ true) (end : ℕ) where
  -- up to a tick before which nothing is left, all is whole, and the state is the same
  pub reach : (s : StateView) (xs : List Standing) (n : ℕ) (h : IsReached p acts end s xs) → h.tick ≤ n → AllFrom n xs
      → ((u : ℕ) → u < n → Passes p acts u) × (state_before p acts n ≡ Some (meaning s))
  reach s xs n h le from =
      quiet_to p acts inside h.tick n (meaning s) le (λ u late less. sym (h.left.are u late) ∙ none_earlier u n xs less from) h.passed h.before

  pub here_is : (s : StateView) (xs : List Standing) (n : ℕ) (h : IsReached p acts end s xs) → h.tick ≤ n → AllFrom n xs → front_at n xs ≡ happening p acts n
  here_is s xs n h le from = front_is n xs h.left.rising from ∙ h.left.are n le

  -- nothing is left up to the end
  pub through : (s : StateView) (xs : List Standing) → AllFrom (suc end) xs → IsReached p acts end s xs → IsThrough p acts end s
  through s xs from h =
      let all = reach s xs (suc end) h h.in_time from in
      record { passed = all.0; leads = all.1 }

  -- a happening further
  pub reached_more : (s next : StateView) (xs : List Standing) (n : ℕ) (h : IsReached p acts end s xs) → n ≤ end → h.tick ≤ n → AllFrom n xs → IsStep p acts n next → IsReached p acts end next (behind_at n xs)
  reached_more s next xs n h in_time le from step = record {
    tick = suc n;
    in_time = omega (arith, in_time);
    passed = step_more p acts inside n (reach s xs n h le from).0 step.passes;
    before = step.leads;
    of_problem = step.of_problem;
    left = left_behind p acts h.tick n xs le from h.left;
  }

pub first_from : (xs : List Standing) (d : Standing) → 1 ≤ length xs → each_pair standing_before xs ≡ true → AllFrom (get_or xs 0 d).tick xs
first_from [] d h up = refl
first_from (x ∷ xs) d h up = from_first x.tick x xs (omega arith) up

pub first_late : (t : ℕ) (xs : List Standing) (d : Standing) → 1 ≤ length xs → AllFrom t xs → t ≤ (get_or xs 0 d).tick
first_late t [] d h from = absurd (omega (arith, h))
first_late t (x ∷ xs) d h from = leb-true t x.tick (and_parts (nat_le t x.tick) (list_all (λ z. nat_le t z.tick) xs) from).0

pub later_all : (m n : ℕ) → m ≤ n → (xs : List Standing) → AllFrom n xs → AllFrom m xs
later_all m n le [] h = refl
later_all m n le (x ∷ xs) h =
    let parts = and_parts (nat_le n x.tick) (list_all (λ z. nat_le n z.tick) xs) h in
    let here : n ≤ x.tick = leb-true n x.tick parts.0 in
    and_from (nat_le m x.tick) (list_all (λ z. nat_le m z.tick) xs) (le-leb m x.tick (omega arith)) (later_all m n le xs parts.1)

pub past_end : (end : ℕ) (xs : List Standing) (d : Standing) → 1 ≤ length xs → each_pair standing_before xs ≡ true → end < (get_or xs 0 d).tick → AllFrom (suc end) xs
past_end end xs d h up less = later_all (suc end) (get_or xs 0 d).tick (omega (arith, less)) xs (first_from xs d h up)

pub none_left : (t : ℕ) (xs : List Standing) → length xs ≡ 0 → AllFrom t xs
none_left t [] e = refl
none_left t (x ∷ xs) e = absurd (omega (arith, e))

no_longer : (t : ℕ) (xs : List Standing) → length (behind_at t xs) ≤ length xs
no_longer t [] = omega arith
no_longer t (x ∷ xs) = by_test (x.tick == t) (no_longer t xs) where
  by_test : (b : Bool) → length (behind_at t xs) ≤ length xs → length (if b then behind_at t xs else x ∷ xs) ≤ suc (length xs)
  by_test true le = omega (arith, le)
  by_test false le = omega arith

-- less is left behind the first one
pub shorter : (xs : List Standing) (d : Standing) → 1 ≤ length xs → length (behind_at (get_or xs 0 d).tick xs) < length xs
shorter [] d h = absurd (omega (arith, h))
shorter (x ∷ xs) d h =
    let le : length (behind_at x.tick xs) ≤ length xs = no_longer x.tick xs in
    let here : behind_at x.tick (x ∷ xs) ≡ behind_at x.tick xs = ap (λ b. if b then behind_at x.tick xs else x ∷ xs) (eq-eqb x.tick x.tick refl) in
    let same : length (behind_at x.tick (x ∷ xs)) ≡ length (behind_at x.tick xs) = ap length here in
    omega (arith, le, same)
