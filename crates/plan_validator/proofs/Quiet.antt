-- Between two happenings nothing changes, and nothing begins to run.
use Rattle.std.proofs.Common.{◌≡◌, refl, sym, ap, subst, ◌∙◌, ℕ, zero, suc, ◌+◌, ◌-◌, ◌<◌, ◌≤◌, Bool, true, false, not, ◌&&◌, ◌||◌, ◌==◌, nat_lt, nat_le, List, [], ◌∷◌, map, cond, length, arith, inl, inr, ◌⊎◌, IsTrue, Option, Some, None}
use Rattle.std.specs.Prelude.{IsSome, if◌then◌else◌}
use Rattle.std.specs.List.{list_any, list_all, filter}
use Rattle.std.proofs.lemmas.Bool.{and_parts, and_from, or_cases, or_parts, false≢true, true≢false, ltb-true, lt-ltb, le-ltb, le-leb, leb-true, eqb-true, eqb-false, eq-eqb, ne_eqb, cases_Bool, cases_lt, cases_order, not-true, false_from_ne_true}
use Rattle.tp_spec.specs.declared.plan.Item.{Item}
use Rattle.tp_spec.specs.declared.plan.Item.TheVariants.{Start}
use Rattle.tp_spec.specs.declared.plan.Timed.{Timed}
use Rattle.tp_spec.specs.declared.problem.Problem.{Problem}
use Rattle.tp_spec.specs.Lists.{is_empty, each_pair, some_and}
use Rattle.tp_spec.specs.States.{State, holds}
use Rattle.tp_spec.specs.Items.{own, invariants, after}
use Rattle.tp_spec.specs.Interference.{interfere}
use Rattle.tp_spec.specs.Courses.{happening, runs_at, keeps_invariants, state_before, state_after, Passes}
use Rattle.tp_spec.proofs.Ticks.{le_suc}
use Rattle.tp_laws.proofs.States.{state_after-quiet}
use Rattle.plan_validator.specs.Acts.{is_of}
use Rattle.plan_validator.proofs.Rising.{has_item}
use Rattle.plan_validator.proofs.Standing.{happening_has}

-- no act starts at a tick
abbrev NoneStarts : List Timed → ℕ → Type 0
NoneStarts acts u = list_all (λ x. not (x.start == u)) acts ≡ true

no_starts : (acts : List Timed) (u : ℕ) → ((a : ℕ) → list_any (λ x. x.action == a && x.start == u) acts ≡ false) → NoneStarts acts u
no_starts [] u each = refl
no_starts (x ∷ xs) u each =
    and_from (not (x.start == u)) (list_all (λ y. not (y.start == u)) xs)
    (alone (x.action == x.action) (x.start == u) (eq-eqb x.action x.action refl) (or_parts (x.action == x.action && x.start == u) (list_any (λ y. y.action == x.action && y.start == u) xs) (each x.action)).0)
    (no_starts xs u (λ a. (or_parts (x.action == a && x.start == u) (list_any (λ y. y.action == a && y.start == u) xs) (each a)).1))
  where
    alone : (e s : Bool) → e ≡ true → (e && s) ≡ false → not s ≡ true
    alone true true e h = absurd (true≢false h)
    alone true false e h = refl
    alone false s e h = absurd (false≢true e)

quiet_starts : (p : Problem) (acts : List Timed) → list_all (is_of (length p.actions)) acts ≡ true → (u : ℕ) → happening p acts u ≡ [] → NoneStarts acts u
quiet_starts p acts inside u quiet = no_starts acts u (λ a. sym (happening_has p acts inside u (Start a)) ∙ ap (λ is. has_item is (Start a)) quiet)

-- what runs at a tick without a start ran at the tick before
ran_before : (x : Timed) (u : ℕ) → not (x.start == suc u) ≡ true → runs_at (suc u) x ≡ true → runs_at u x ≡ true
ran_before x u other runs =
    let parts = and_parts (nat_le x.start (suc u)) (nat_lt (suc u) (x.start + x.length)) runs in
    let begun : x.start ≤ suc u = leb-true x.start (suc u) parts.0 in
    let left : suc u < x.start + x.length = ltb-true (suc u) (x.start + x.length) parts.1 in
    let apart : x.start ≡ suc u → ⊥ = eqb-false x.start (suc u) (not-true (x.start == suc u) other) in
    let earlier : x.start ≤ u = by_cases (le_suc x.start u begun) apart in
    and_from (nat_le x.start u) (nat_lt u (x.start + x.length)) (le-leb x.start u earlier) (lt-ltb u (x.start + x.length) (omega arith))
  where
    by_cases : (x.start ≤ u) ⊎ (suc u ≡ x.start) → (x.start ≡ suc u → ⊥) → x.start ≤ u
    by_cases (inl le) apart = le
    by_cases (inr e) apart = absurd (apart (sym e))

keeps_on : (p : Problem) (s : State) (u : ℕ) (acts : List Timed) → NoneStarts acts (suc u) → keeps_invariants p acts u s ≡ true → keeps_invariants p acts (suc u) s ≡ true
keeps_on p s u [] none kept = refl
keeps_on p s u (x ∷ xs) none kept =
    let parts = and_parts (not (x.start == suc u)) (list_all (λ y. not (y.start == suc u)) xs) none in
    let held = and_parts (not (runs_at u x) || list_all (holds s) (invariants p x.action)) (keeps_invariants p xs u s) kept in
    and_from (not (runs_at (suc u) x) || list_all (holds s) (invariants p x.action)) (keeps_invariants p xs (suc u) s)
    (still (runs_at u x) (runs_at (suc u) x) (list_all (holds s) (invariants p x.action)) (ran_before x u parts.0) held.0)
    (keeps_on p s u xs parts.1 held.1)
  where
    still : (b n v : Bool) → (n ≡ true → b ≡ true) → (not b || v) ≡ true → (not n || v) ≡ true
    still b true v f h = subst (λ c. (not c || v) ≡ true) (f refl) h
    still b false v f h = refl

keeps_first : (p : Problem) (s : State) (acts : List Timed) → NoneStarts acts 0 → keeps_invariants p acts 0 s ≡ true
keeps_first p s [] none = refl
keeps_first p s (x ∷ xs) none =
    let parts = and_parts (not (x.start == 0)) (list_all (λ y. not (y.start == 0)) xs) none in
    and_from (not (runs_at 0 x) || list_all (holds s) (invariants p x.action)) (keeps_invariants p xs 0 s)
    (idle (runs_at 0 x) (list_all (holds s) (invariants p x.action)) (λ runs. not_yet (leb-true x.start 0 (and_parts (nat_le x.start 0) (nat_lt 0 (x.start + x.length)) runs).0) (eqb-false x.start 0 (not-true (x.start == 0) parts.0))))
    (keeps_first p s xs parts.1)
  where
    idle : (r v : Bool) → (r ≡ true → ⊥) → (not r || v) ≡ true
    idle true v f = absurd (f refl)
    idle false v f = refl

    not_yet : x.start ≤ 0 → (x.start ≡ 0 → ⊥) → ⊥
    not_yet le apart = apart (omega (arith, le))

empty_test : (is : List Item) → is ≡ [] → is_empty is ≡ true
empty_test is e = ap is_empty e

-- the state stays
pub state_stays : (p : Problem) (acts : List Timed) (u : ℕ) → happening p acts u ≡ [] → state_after p acts u ≡ state_before p acts u
state_stays p acts u quiet = state_after-quiet p acts u (empty_test (happening p acts u) quiet)

module _ (p : Problem) (acts : List Timed) (inside : list_all (is_of (length p.actions)) acts ≡ true) where
  kept_at : (u : ℕ) (s : State) → happening p acts u ≡ [] → ((v : ℕ) → v < u → Passes p acts v) → state_before p acts u ≡ Some s → keeps_invariants p acts u s ≡ true
  kept_at zero s quiet passed before = keeps_first p s acts (quiet_starts p acts inside zero quiet)
  kept_at (suc v) s quiet passed before =
      keeps_on p s v acts (quiet_starts p acts inside (suc v) quiet)
      (subst (λ o. some_and o (keeps_invariants p acts v) ≡ true) before ((passed v (omega arith)).kept))

  -- a tick at which nothing happens is whole where all before it are
  pub quiet_passes : (u : ℕ) (s : State) → happening p acts u ≡ [] → ((v : ℕ) → v < u → Passes p acts v) → state_before p acts u ≡ Some s → Passes p acts u
  quiet_passes u s quiet passed before =
      let there : state_after p acts u ≡ Some s = state_stays p acts u quiet ∙ before in
      record {
        apart = subst (λ is. each_pair (λ i j. not (interfere p i j)) is ≡ true) (sym quiet) refl;
        met = subst (λ o. some_and o (λ s. list_all (own p s) (happening p acts u)) ≡ true) (sym before) (subst (λ is. list_all (own p s) is ≡ true) (sym quiet) refl);
        exists = subst IsSome (sym there) refl;
        kept = subst (λ o. some_and o (keeps_invariants p acts u) ≡ true) (sym there) (kept_at u s quiet passed before);
      }

  one_more : (t : ℕ) → ((u : ℕ) → u < t → Passes p acts u) → Passes p acts t → (u : ℕ) → u < suc t → Passes p acts u
  one_more t passed here u less = elim (le_suc (suc u) t (omega (arith, less))) [
    | inl before ↦ passed u (omega (arith, before))
    | inr e ↦ let is : t ≡ u = omega (arith, e) in subst (λ v. Passes p acts v) is here
  ]

  -- from one happening to the next
  quiet_up : (t k : ℕ) (s : State) → ((u : ℕ) → t ≤ u → u < t + k → happening p acts u ≡ []) → ((u : ℕ) → u < t → Passes p acts u) → state_before p acts t ≡ Some s
      → ((u : ℕ) → u < t + k → Passes p acts u) × (state_before p acts (t + k) ≡ Some s)
  quiet_up t zero s quiet passed before =
      let same : t ≡ t + zero = omega arith in
      (λ u less. passed u (omega (arith, less)), subst (λ v. state_before p acts v ≡ Some s) same before)
  quiet_up t (suc k) s quiet passed before =
      let rest = quiet_up t k s (λ u from less. quiet u from (omega (arith, less))) passed before in
      let here : happening p acts (t + k) ≡ [] = quiet (t + k) (omega arith) (omega arith) in
      let next : suc (t + k) ≡ t + suc k = omega arith in
      let whole = quiet_passes (t + k) s here rest.0 rest.1 in
      (λ u less. one_more (t + k) rest.0 whole u (omega (arith, less, next)), subst (λ v. state_before p acts v ≡ Some s) next (state_stays p acts (t + k) here ∙ rest.1))

  pub quiet_to : (t n : ℕ) (s : State) → t ≤ n → ((u : ℕ) → t ≤ u → u < n → happening p acts u ≡ []) → ((u : ℕ) → u < t → Passes p acts u) → state_before p acts t ≡ Some s
      → ((u : ℕ) → u < n → Passes p acts u) × (state_before p acts n ≡ Some s)
  quiet_to t n s le quiet passed before =
      let is : t + (n - t) ≡ n = omega (arith, le) in
      let up = quiet_up t (n - t) s (λ u from less. quiet u from (omega (arith, less, is))) passed before in
      (λ u less. up.0 u (omega (arith, less, is)), subst (λ v. state_before p acts v ≡ Some s) is up.1)

  pub step_more : (t : ℕ) → ((u : ℕ) → u < t → Passes p acts u) → Passes p acts t → (u : ℕ) → u < suc t → Passes p acts u
  step_more = one_more
