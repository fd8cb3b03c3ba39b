-- The running and the coming acts stand for all acts.
use Rattle.std.proofs.Common.{◌≡◌, refl, sym, ap, subst, ◌∙◌, ℕ, suc, ◌+◌, ◌<◌, ◌≤◌, Bool, true, false, not, ◌&&◌, ◌||◌, ◌==◌, nat_le, nat_lt, List, [], ◌∷◌, ◌++◌, cond, length, get_or, arith, IsTrue, Some}
use Rattle.std.specs.Prelude.{if◌then◌else◌}
use Rattle.std.specs.List.{list_any, list_all, filter}
use Rattle.std.proofs.lemmas.Bool.{and_parts, true≢false, le-ltb, lt-leb, leb-true, leb-false, eqb-true, and_left, and_right}
use Rattle.std.proofs.lemmas.List.Folds.{list_any-append}
use Rattle.tp_spec.specs.declared.plan.Item.{Item}
use Rattle.tp_spec.specs.declared.plan.Timed.{Timed}
use Rattle.tp_spec.specs.declared.problem.Cond.{Cond}
use Rattle.tp_spec.specs.declared.problem.Problem.{Problem}
use Rattle.tp_spec.specs.Lists.{is_empty, each_pair, each_next}
use Rattle.tp_spec.specs.States.{State, holds}
use Rattle.tp_spec.specs.Items.{invariants}
use Rattle.tp_spec.specs.Courses.{act_before, runs_at, happening, stands, state_before}
use Rattle.world_state.specs.Happenings.{is_item_of, same_item}
use Rattle.world_state.specs.View.{StateView, meaning}
use Rattle.world_state.proofs.AllItems.{some_items_fit}
use Rattle.plan_validator.specs.declared.tick.Judged.{Judged}
use Rattle.plan_validator.specs.declared.standings.Standing.{Standing}
use Rattle.plan_validator.specs.Acts.{is_of}
use Rattle.plan_validator.specs.Standings.{standing_before, front_at, behind_at}
use Rattle.plan_validator.specs.Verdicts.{is_broken_in}
use Rattle.plan_validator.specs.Course.{IsFirstBroken, IsJudged, IsReached}
use Rattle.plan_validator.specs.Watched.{is_over, is_watched, begun_at, later_at, AreRunning, AreWatched}
use Rattle.plan_validator.proofs.Order.{no_later, starts_rise}
use Rattle.plan_validator.proofs.Walk.{AllFrom, behind_late, later_all, reach, here_is, first_from, first_late}

-- whether an act of an action runs at a tick
abbrev runs_of : ℕ → ℕ → Timed → Bool
runs_of u a x = x.action == a && runs_at u x

-- the invariants of an action do not hold in a state
abbrev fails : Problem → State → ℕ → Bool
fails p s a = not (list_all (holds s) (invariants p a))

-- an act that ended runs no longer
over_idle : (t u a : ℕ) (x : Timed) → t ≤ u → is_over t x ≡ true → runs_of u a x ≡ false
over_idle t u a x le over =
    let ended : x.start + x.length ≤ t = leb-true (x.start + x.length) t over in
    and_right (x.action == a) (runs_at u x) (and_right (nat_le x.start u) (nat_lt u (x.start + x.length)) (le-ltb u (x.start + x.length) (omega (arith, le, ended))))

-- what ends is let go: what runs from then on stays
drop_ended_same : (t u a : ℕ) → t ≤ u → (xs : List Timed) → list_any (runs_of u a) (filter (λ x. not (is_over t x)) xs) ≡ list_any (runs_of u a) xs
drop_ended_same t u a le [] = refl
drop_ended_same t u a le (x ∷ xs) = by_test (is_over t x) (over_idle t u a x le) (drop_ended_same t u a le xs) where
  by_test : (b : Bool) → (b ≡ true → runs_of u a x ≡ false) → list_any (runs_of u a) (filter (λ y. not (is_over t y)) xs) ≡ list_any (runs_of u a) xs
      → list_any (runs_of u a) (cond (not b) (x ∷ filter (λ y. not (is_over t y)) xs) (filter (λ y. not (is_over t y)) xs)) ≡ (runs_of u a x || list_any (runs_of u a) xs)
  by_test true idle rest = rest ∙ ap (λ c. c || list_any (runs_of u a) xs) (sym (idle refl))
  by_test false idle rest = ap (λ c. runs_of u a x || c) rest

-- an action without invariants never fails
unwatched_holds : (p : Problem) (s : State) (x : Timed) → is_watched p x ≡ false → fails p s x.action ≡ false
unwatched_holds p s x h = by_list (invariants p x.action) h where
  by_list : (cs : List Cond) → not (is_empty cs) ≡ false → not (list_all (holds s) cs) ≡ false
  by_list [] h = refl
  by_list (c ∷ cs) h = absurd (true≢false h)

-- those without invariants need not be taken in
watched_same : (p : Problem) (s : State) (u a : ℕ) → fails p s a ≡ true → (xs : List Timed) → list_any (runs_of u a) (filter (is_watched p) xs) ≡ list_any (runs_of u a) xs
watched_same p s u a bad [] = refl
watched_same p s u a bad (x ∷ xs) = by_test (is_watched p x) (λ none. other (x.action == a) (runs_at u x) (λ is. true≢false (sym bad ∙ ap (fails p s) (sym (eqb-true x.action a is)) ∙ unwatched_holds p s x none))) (watched_same p s u a bad xs) where
  other : (e r : Bool) → (e ≡ true → ⊥) → (e && r) ≡ false
  other true r f = absurd (f refl)
  other false r f = refl

  by_test : (b : Bool) → (b ≡ false → runs_of u a x ≡ false) → list_any (runs_of u a) (filter (is_watched p) xs) ≡ list_any (runs_of u a) xs
      → list_any (runs_of u a) (cond b (x ∷ filter (is_watched p) xs) (filter (is_watched p) xs)) ≡ (runs_of u a x || list_any (runs_of u a) xs)
  by_test true idle rest = ap (λ c. runs_of u a x || c) rest
  by_test false idle rest = rest ∙ ap (λ c. c || list_any (runs_of u a) xs) (sym (idle refl))

-- each act that comes is one that starts by a tick, or one behind these
split_any : (test : Timed → Bool) (t : ℕ) (xs : List Timed) → (list_any test (begun_at t xs) || list_any test (later_at t xs)) ≡ list_any test xs
split_any test t [] = refl
split_any test t (x ∷ xs) = by_test (nat_le x.start t) (split_any test t xs) where
  regroup : (a b c d : Bool) → (b || c) ≡ d → ((a || b) || c) ≡ (a || d)
  regroup true b c d e = refl
  regroup false b c d e = e

  by_test : (b : Bool) → (list_any test (begun_at t xs) || list_any test (later_at t xs)) ≡ list_any test xs
      → (list_any test (if b then x ∷ begun_at t xs else []) || list_any test (if b then later_at t xs else x ∷ xs)) ≡ (test x || list_any test xs)
  by_test true rest = regroup (test x) (list_any test (begun_at t xs)) (list_any test (later_at t xs)) (list_any test xs) rest
  by_test false rest = refl

-- what comes later starts later
all_later : (t : ℕ) (x : Timed) (ys : List Timed) → t < x.start → list_all (no_later x) ys ≡ true → (u a : ℕ) → u ≤ t → list_any (runs_of u a) ys ≡ false
all_later t x [] less h u a le = refl
all_later t x (y ∷ ys) less h u a le =
    let parts = and_parts (no_later x y) (list_all (no_later x) ys) h in
    let after : x.start ≤ y.start = leb-true x.start y.start parts.0 in
    let idle : runs_of u a y ≡ false = and_right (y.action == a) (runs_at u y) (and_left (nat_le y.start u) (nat_lt u (y.start + y.length)) (lt-leb y.start u (omega (arith, less, le, after)))) in
    (λ k. idle k || all_later t x ys less parts.1 u a le k)

later_idle : (t a : ℕ) (xs : List Timed) → each_pair no_later xs ≡ true → list_any (runs_of t a) (later_at t xs) ≡ false
later_idle t a [] up = refl
later_idle t a (x ∷ xs) up = by_test (nat_le x.start t) (later_idle t a xs parts.1) (λ other. first (leb-false x.start t other)) where
  parts : (list_all (no_later x) xs ≡ true) × (each_pair no_later xs ≡ true)
  parts = and_parts (list_all (no_later x) xs) (each_pair no_later xs) up

  first : t < x.start → list_any (runs_of t a) (x ∷ xs) ≡ false
  first less =
      let idle : runs_of t a x ≡ false = and_right (x.action == a) (runs_at t x) (and_left (nat_le x.start t) (nat_lt t (x.start + x.length)) (lt-leb x.start t less)) in
      λ k. idle k || all_later t x xs less parts.0 t a (omega arith) k

  by_test : (b : Bool) → list_any (runs_of t a) (later_at t xs) ≡ false → (b ≡ false → list_any (runs_of t a) (x ∷ xs) ≡ false) → list_any (runs_of t a) (if b then later_at t xs else x ∷ xs) ≡ false
  by_test true rest all = rest
  by_test false rest all = all refl

later_rises : (t : ℕ) (xs : List Timed) → each_next act_before xs ≡ true → each_next act_before (later_at t xs) ≡ true
later_rises t [] up = refl
later_rises t (x ∷ []) up = by_test (nat_le x.start t) where
  by_test : (b : Bool) → each_next act_before (if b then [] else x ∷ []) ≡ true
  by_test true = refl
  by_test false = refl
later_rises t (x ∷ y ∷ ys) up = by_test (nat_le x.start t) (later_rises t (y ∷ ys) (and_parts (act_before x y) (each_next act_before (y ∷ ys)) up).1) where
  by_test : (b : Bool) → each_next act_before (later_at t (y ∷ ys)) ≡ true → each_next act_before (if b then later_at t (y ∷ ys) else x ∷ y ∷ ys) ≡ true
  by_test true rest = rest
  by_test false rest = up

-- two tests of which the second one decides where it is false
where_fails : (m n v : Bool) → (v ≡ true → m ≡ n) → (m && v) ≡ (n && v)
where_fails m n true e = ap (λ b. b && true) (e refl)
where_fails m n false e = and_right m false refl ∙ sym (and_right n false refl)

regroup_more : (r b l c : Bool) → (b || l) ≡ c → ((r || b) || l) ≡ (r || c)
regroup_more true b l c e = refl
regroup_more false b l c e = e

abbrev pub moved : Problem → ℕ → List Timed → List Timed → List Timed
moved p t running coming = filter (λ x. not (is_over t x)) running ++ filter (is_watched p) (begun_at t coming)

-- a tick further, the same runs from then on
moved_same : (p : Problem) (running coming : List Timed) (t u : ℕ) → t ≤ u → (s : State) (a : ℕ) → is_broken_in p (moved p t running coming ++ later_at t coming) u s a ≡ is_broken_in p (running ++ coming) u s a
moved_same p running coming t u le s a =
    where_fails (list_any (runs_of u a) (moved p t running coming ++ later_at t coming)) (list_any (runs_of u a) (running ++ coming)) (fails p s a)
    (λ bad.
    list_any-append (runs_of u a) (moved p t running coming) (later_at t coming)
    ∙ ap (λ b. b || list_any (runs_of u a) (later_at t coming))
    (list_any-append (runs_of u a) (filter (λ x. not (is_over t x)) running) (filter (is_watched p) (begun_at t coming))
    ∙ (λ k. drop_ended_same t u a le running k || watched_same p s u a bad (begun_at t coming) k))
    ∙ regroup_more (list_any (runs_of u a) running) (list_any (runs_of u a) (begun_at t coming)) (list_any (runs_of u a) (later_at t coming)) (list_any (runs_of u a) coming) (split_any (runs_of u a) t coming)
    ∙ sym (list_any-append (runs_of u a) running coming))

right_false : (b : Bool) → (b || false) ≡ b
right_false true = refl
right_false false = refl

-- what comes later does not run yet
later_apart : (p : Problem) (xs coming : List Timed) (t : ℕ) → each_next act_before coming ≡ true → (s : State) (a : ℕ) → is_broken_in p (xs ++ later_at t coming) t s a ≡ is_broken_in p xs t s a
later_apart p xs coming t up s a =
    ap (λ b. b && fails p s a)
    (list_any-append (runs_of t a) xs (later_at t coming)
    ∙ ap (λ b. list_any (runs_of t a) xs || b) (later_idle t a coming (starts_rise coming up))
    ∙ right_false (list_any (runs_of t a) xs))

-- at a happening: those that run, and what is kept for the next one
pub runs_here : (p : Problem) (acts running coming : List Timed) (rest : List Standing) (n : ℕ) (w : AreWatched p acts running coming rest) → w.tick ≤ n
    → AreRunning p acts n (moved p n running coming)
runs_here p acts running coming rest n w le s a =
    sym (later_apart p (moved p n running coming) coming n w.rising s a)
    ∙ moved_same p running coming n n (omega arith) s a
    ∙ w.same n le s a

pub watched_more : (p : Problem) (acts running coming : List Timed) (rest : List Standing) (n : ℕ) (w : AreWatched p acts running coming rest) → w.tick ≤ n
    → each_pair standing_before rest ≡ true → AllFrom n rest → AreWatched p acts (moved p n running coming) (later_at n coming) (behind_at n rest)
watched_more p acts running coming rest n w le up from = record {
  tick = n;
  late = later_all n (suc n) (omega arith) (behind_at n rest) (behind_late n rest up from);
  rising = later_rises n coming w.rising;
  same = λ u late s a. moved_same p running coming n u late s a ∙ w.same u (omega (arith, le, late)) s a;
}

-- the first that breaks by the running acts is the first by all
pub broken_by_all : (p : Problem) (acts running : List Timed) (t : ℕ) (s : State) (action : ℕ) → AreRunning p acts t running → IsFirstBroken p running t s action → IsFirstBroken p acts t s action
broken_by_all p acts running t s action same h = record {
  broken = sym (same s action) ∙ h.broken;
  first = λ a less. sym (same s a) ∙ h.first a less;
}

-- the first happening that is left, by what is lent of it and of the acts
module _ (p : Problem) (acts : List Timed) (inside : list_all (is_of (length p.actions)) acts ≡ true) (end : ℕ) (s : StateView) (rest : List Standing) (d : Standing)
    (some : 1 ≤ length rest) (reached : IsReached p acts end s rest) (here : List Item) (lent : here ≡ front_at (get_or rest 0 d).tick rest) where
  is_here : here ≡ happening p acts (get_or rest 0 d).tick
  is_here = lent ∙ here_is p acts inside end s rest (get_or rest 0 d).tick reached (first_late reached.tick rest d some reached.left.late) (first_from rest d some reached.left.rising)

  pub inside_here : IsTrue (list_all (is_item_of p) here)
  inside_here = subst (λ xs. IsTrue (list_all (is_item_of p) xs)) (sym is_here) (some_items_fit p (stands p acts (get_or rest 0 d).tick)).0

  pub different_here : IsTrue (each_pair (λ i j. not (same_item i j)) here)
  different_here = subst (λ xs. IsTrue (each_pair (λ i j. not (same_item i j)) xs)) (sym is_here) (some_items_fit p (stands p acts (get_or rest 0 d).tick)).1

  pub judged_here : (running coming ran : List Timed) → AreWatched p acts running coming rest → ran ≡ moved p (get_or rest 0 d).tick running coming → (j k : Judged) → j ≡ k
      → ((all : List Timed) → here ≡ happening p all (get_or rest 0 d).tick → AreRunning p all (get_or rest 0 d).tick ran → state_before p all (get_or rest 0 d).tick ≡ Some (meaning s) → IsJudged p all (get_or rest 0 d).tick j)
      → IsJudged p acts (get_or rest 0 d).tick k
  judged_here running coming ran w are j k is judged =
      subst (IsJudged p acts (get_or rest 0 d).tick) is
      (judged acts is_here
      (subst (AreRunning p acts (get_or rest 0 d).tick) (sym are) (runs_here p acts running coming rest (get_or rest 0 d).tick w (first_late w.tick rest d some w.late)))
      (reach p acts inside end s rest (get_or rest 0 d).tick reached (first_late reached.tick rest d some reached.left.late) (first_from rest d some reached.left.rising)).1)
