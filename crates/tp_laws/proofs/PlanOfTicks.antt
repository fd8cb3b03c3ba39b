-- The ticks of the groups of a plan's word.
use Rattle.std.proofs.Common.{◌≡◌, refl, sym, ap, subst, ◌∙◌, ℕ, zero, suc, ◌<◌, ◌≤◌, Bool, true, false, not, cond, eqb, List, [], ◌∷◌, ◌⊎◌, inl, inr, arith}
use Rattle.std.specs.Prelude.{◌==◌, ◌||◌}
use Rattle.std.proofs.lemmas.Bool.{eq-eqb, eqb-true, false≢true, cases_lt, ne_eqb}
use Rattle.tp_spec.specs.declared.plan.Item.{Item}
use Rattle.tp_spec.specs.declared.plan.Timed.{Timed}
use Rattle.tp_spec.specs.declared.problem.Problem.{Problem}
use Rattle.tp_spec.specs.Lists.{is_empty}
use Rattle.tp_spec.specs.Courses.{happening}
use Rattle.tp_spec.specs.Words.{groups, marked, spelled}
use Rattle.tp_spec.specs.Schedules.{Schedule, last_tick}
use Rattle.tp_laws.proofs.Ends.{groups-append, groups-joining, groups-rise}

marks-some : (is : List Item) → is_empty is ≡ false → groups (marked is) ≡ 1
marks-some [] e = absurd (false≢true (sym e))
marks-some (i ∷ is) e = omega (arith, groups-joining is)

marks-none : (is : List Item) → is_empty is ≡ true → groups (marked is) ≡ 0
marks-none [] e = refl
marks-none (i ∷ is) e = absurd (false≢true e)

module _ (p : Problem) (acts : List Timed) where
  -- how many groups stand before a tick
  abbrev pub groups_at : ℕ → ℕ
  groups_at t = groups (spelled p acts t)

  -- the tick of a group of what is spelled before tick n
  abbrev pub tick_before : ℕ → ℕ → ℕ
  tick_before zero g = 0
  tick_before (suc n) g = cond (eqb (groups_at n) g) n (tick_before n g)

  pub some-more : (t : ℕ) → is_empty (happening p acts t) ≡ false → groups_at (suc t) ≡ suc (groups_at t)
  some-more t e = omega (arith, groups-append (spelled p acts t) (marked (happening p acts t)), marks-some (happening p acts t) e)

  pub none-more : (t : ℕ) → is_empty (happening p acts t) ≡ true → groups_at (suc t) ≡ groups_at t
  none-more t e = omega (arith, groups-append (spelled p acts t) (marked (happening p acts t)), marks-none (happening p acts t) e)

  pub tick-opened : (n t : ℕ) → t < n → is_empty (happening p acts t) ≡ false → tick_before n (groups_at t) ≡ t
  tick-opened zero t lt some = absurd (omega (arith, lt))
  tick-opened (suc n) t lt some = by_order (cases_lt t n) (λ b. tick-opened n t b some)
    where
      by_order : (t < n) ⊎ (n ≤ t) → (t < n → tick_before n (groups_at t) ≡ t) → cond (eqb (groups_at n) (groups_at t)) n (tick_before n (groups_at t)) ≡ t
      by_order (inl b) ih =
          let more : groups_at t < groups_at n = omega (arith, some-more t some, groups-rise p acts (suc t) n (omega (arith, b))) in
          ap (λ c. cond c n (tick_before n (groups_at t))) (ne_eqb (groups_at n) (groups_at t) (λ e. omega (arith, more, e))) ∙ ih b
      by_order (inr b) ih =
          let same : n ≡ t = omega (arith, lt, b) in
          ap (λ c. cond c n (tick_before n (groups_at t))) (eq-eqb (groups_at n) (groups_at t) (ap groups_at same)) ∙ same

  -- the tick at which a group opens
  pub record Opening (n g : ℕ) : Type 0 where
    pub at : ℕ
    pub before : at < n
    pub some : is_empty (happening p acts at) ≡ false
    pub count : groups_at at ≡ g

  pub opening : (n g : ℕ) → g < groups_at n → Opening n g
  opening zero g lt = absurd (omega (arith, lt))
  opening (suc n) g lt = by_order (cases_lt g (groups_at n)) (λ b. opening n g b)
    where
      here : groups_at n ≤ g → (b : Bool) → is_empty (happening p acts n) ≡ b → Opening (suc n) g
      here le true e = absurd (omega (arith, lt, le, none-more n e))
      here le false e = record { at = n; before = omega arith; some = e; count = omega (arith, lt, le, some-more n e) }

      by_order : (g < groups_at n) ⊎ (groups_at n ≤ g) → (g < groups_at n → Opening n g) → Opening (suc n) g
      by_order (inl b) ih = let o = ih b in record { at = o.at; before = omega (arith, o.before); some = o.some; count = o.count }
      by_order (inr b) ih = here b (is_empty (happening p acts n)) refl

  tick-of : (n g : ℕ) (o : Opening n g) → tick_before n g ≡ o.at
  tick-of n g o = ap (tick_before n) (sym o.count) ∙ tick-opened n o.at o.before o.some

  pub ticks-before : (n g : ℕ) → g < groups_at n → tick_before n g < n
  ticks-before n g lt = let o = opening n g lt in omega (arith, tick-of n g o, o.before)

  pub ticks-rise : (n g : ℕ) → suc g < groups_at n → tick_before n g < tick_before n (suc g)
  ticks-rise n g lt =
      let o = opening n g (omega (arith, lt)) in
      let s = opening n (suc g) lt in
      omega (arith, tick-of n g o, tick-of n (suc g) s, by_order o s (cases_lt o.at s.at))
    where
      by_order : (o : Opening n g) (s : Opening n (suc g)) → (o.at < s.at) ⊎ (s.at ≤ o.at) → o.at < s.at
      by_order o s (inl b) = b
      by_order o s (inr b) = absurd (omega (arith, o.count, s.count, groups-rise p acts s.at o.at b))

  -- a word's last group is at the end of its plan
  pub last-group : (end : ℕ) → (end == 0 || not (is_empty (happening p acts end))) ≡ true → (x : Schedule) → ((g : ℕ) → x.tick g ≡ tick_before (suc end) g) → last_tick x (groups_at (suc end)) ≡ end
  last-group end closing x same = by_test (is_empty (happening p acts end)) refl
    where
      at-zero : (b : Bool) → (b || false) ≡ true → b ≡ true
      at-zero true h = refl
      at-zero false h = h

      by_test : (b : Bool) → is_empty (happening p acts end) ≡ b → last_tick x (groups_at (suc end)) ≡ end
      by_test true e =
          let zero_end : end ≡ 0 = eqb-true end 0 (at-zero (end == 0) (subst (λ b. (end == 0 || not b) ≡ true) e closing)) in
          let none : groups_at (suc end) ≡ 0 = none-more end e ∙ ap groups_at zero_end in
          ap (last_tick x) none ∙ sym zero_end
      by_test false e = ap (last_tick x) (some-more end e) ∙ same (groups_at end) ∙ tick-opened (suc end) end (omega arith) e
