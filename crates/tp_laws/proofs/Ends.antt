-- The end of a plan and the groups of its word.
use Rattle.std.proofs.Common.{◌≡◌, refl, sym, ap, subst, ◌∙◌, ℕ, zero, suc, ◌+◌, ◌<◌, ◌≤◌, List, [], ◌∷◌, ◌++◌, map, length, Some, arith, length-append, inl, inr}
use Rattle.std.specs.Prelude.{◌-◌, cond, Bool, true, false, not, ◌||◌, ◌==◌, Option, if◌then◌else◌}
use Rattle.std.specs.List.{last_or}
use Rattle.std.proofs.lemmas.Bool.{eqb-true, cases_order}
use Rattle.tp_spec.specs.declared.plan.Item.{Item}
use Rattle.tp_spec.specs.declared.plan.Mark.{Mark}
use Rattle.tp_spec.specs.declared.plan.Timed.{Timed}
use Rattle.tp_spec.specs.declared.problem.Problem.{Problem}
use Rattle.tp_spec.specs.Lists.{is_empty}
use Rattle.tp_spec.specs.Courses.{happening}
use Rattle.tp_spec.specs.Words.{Act, acts_from, groups, joining, marked, spelled, with_act}
use Rattle.tp_laws.specs.Laws.{happening_ticks}
use Rattle.tp_spec.proofs.Ticks.{le_suc}

pub groups-append : (u v : List Mark) → groups (u ++ v) ≡ groups u + groups v
groups-append [] v = omega arith
groups-append (m ∷ u) v = let ih = groups-append u v in omega arith

-- what is read behind a front adds to the front's acts
pub acts-append : (p : Problem) (n : ℕ) (u v : List Mark) (xs : List Act) → acts_from p n (u ++ v) xs ≡ acts_from p (n + groups u) v (acts_from p n u xs)
acts-append p n [] v xs = let e : n ≡ n + 0 = omega arith in ap (λ k. acts_from p k v xs) e
acts-append p n (m ∷ u) v xs =
    let k : ℕ = cond m.fresh (n + 1) n in
    let e : k + groups u ≡ n + (cond m.fresh 1 0 + groups u) = elim m.fresh as (λ b. cond b (n + 1) n + groups u ≡ n + (cond b 1 0 + groups u)) [ true ↦ omega arith | false ↦ omega arith ] in
    acts-append p k u v (with_act p (k - 1) m.item xs) ∙ ap (λ j. acts_from p j v (acts_from p k u (with_act p (k - 1) m.item xs))) e

pub groups-joining : (is : List Item) → groups (map joining is) ≡ 0
groups-joining [] = refl
groups-joining (i ∷ is) = let ih = groups-joining is in omega arith

groups-marked : (is : List Item) (t : ℕ) → groups (marked is) ≡ length (if is_empty is then [] else t ∷ [])
groups-marked [] t = refl
groups-marked (i ∷ is) t = let h = groups-joining is in omega arith

pub groups-spelled : (p : Problem) (acts : List Timed) (t : ℕ) → groups (spelled p acts t) ≡ length (happening_ticks p acts t)
groups-spelled p acts zero = refl
groups-spelled p acts (suc t) =
    let ticks : List ℕ = if is_empty (happening p acts t) then [] else t ∷ [] in
    groups-append (spelled p acts t) (marked (happening p acts t))
    ∙ (λ k. groups-spelled p acts t k + groups-marked (happening p acts t) t k)
    ∙ sym (length-append (happening_ticks p acts t) ticks)

-- what is asked of the end
abbrev Closes : ℕ → Bool → Type 0
Closes n quiet = ((n == 0) || not quiet) ≡ true

zero-closing : (n : ℕ) → Closes n true → n ≡ 0
zero-closing n h = eqb-true n 0 (either (n == 0) h) where
  either : (b : Bool) → (b || false) ≡ true → b ≡ true
  either true h = refl
  either false h = h

last_or-append : {A : Type 0} (o : Option A) (xs : List A) (x : A) → last_or o (xs ++ x ∷ []) ≡ Some x
last_or-append o [] x = refl
last_or-append o (y ∷ xs) x = last_or-append (Some y) xs x

pub last-tick : (p : Problem) (acts : List Timed) (n : ℕ) → Closes n (is_empty (happening p acts n)) → last_or (Some 0) (happening_ticks p acts (suc n)) ≡ Some n
last-tick p acts n h = by_test (is_empty (happening p acts n)) h where
  by_test : (b : Bool) → Closes n b → last_or (Some 0) (happening_ticks p acts n ++ (if b then [] else n ∷ [])) ≡ Some n
  by_test true h = subst (λ m. last_or (Some 0) (happening_ticks p acts m ++ []) ≡ Some m) (sym (zero-closing n h)) refl
  by_test false h = last_or-append (Some 0) (happening_ticks p acts n) n

-- the groups grow with the ticks
pub groups-rise : (p : Problem) (acts : List Timed) (m n : ℕ) → m ≤ n → groups (spelled p acts m) ≤ groups (spelled p acts n)
groups-rise p acts m zero h = let e : 0 ≡ m = omega (arith, h) in subst (λ k. groups (spelled p acts k) ≤ groups (spelled p acts zero)) e (omega arith)
groups-rise p acts m (suc n) h = elim (le_suc m n h) [
  | inl b ↦
      let ih = groups-rise p acts m n b in
      let more = groups-append (spelled p acts n) (marked (happening p acts n)) in
      omega arith
  | inr e ↦ subst (λ k. groups (spelled p acts k) ≤ groups (spelled p acts (suc n))) e (omega arith)
]

one-group : (n : ℕ) (is : List Item) → 0 < n → Closes n (is_empty is) → 1 ≤ groups (marked is)
one-group n [] b h = let e = zero-closing n h in omega (arith, b, e)
one-group n (i ∷ is) b h = omega arith

-- a later end has more groups
groups-later : (p : Problem) (acts : List Timed) (m n : ℕ) → m < n → Closes n (is_empty (happening p acts n)) → groups (spelled p acts (suc m)) < groups (spelled p acts (suc n))
groups-later p acts m n b h =
    let rise = groups-rise p acts (suc m) n (omega (arith, b)) in
    let more = groups-append (spelled p acts n) (marked (happening p acts n)) in
    let one = one-group n (happening p acts n) (omega (arith, b)) h in
    omega arith

pub same-end : (p : Problem) (acts : List Timed) (m n : ℕ) → Closes m (is_empty (happening p acts m)) → Closes n (is_empty (happening p acts n))
    → spelled p acts (suc m) ≡ spelled p acts (suc n) → m ≡ n
same-end p acts m n h k same = elim (cases_order m n) [
  | inl e ↦ e
  | inr o ↦ elim o [
    | inl b ↦ let less = groups-later p acts m n b k in let alike = ap groups same in absurd (omega arith)
    | inr b ↦ let less = groups-later p acts n m b h in let alike = ap groups same in absurd (omega arith)
  ]
]
