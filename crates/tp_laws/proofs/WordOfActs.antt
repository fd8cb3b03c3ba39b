-- The acts of a valid plan: which action runs after the happenings before a tick.
use Rattle.std.proofs.Common.{◌≡◌, refl, sym, ap, subst, ◌∙◌, ◌⊎◌, inl, inr, ℕ, zero, suc, ◌+◌, ◌<◌, ◌≤◌, ◌==◌, Bool, true, false, not, ◌&&◌, ◌||◌, List, [], ◌∷◌, length, arith, nat_lt, nat_le, slice_get}
use Rattle.std.specs.List.{list_any, list_all}
use Rattle.std.proofs.lemmas.Bool.{and_parts, and_from, or_cases, or_left, or_right, false≢true, eqb-true, eq-eqb, ltb-true, lt-ltb, leb-true, le-leb, false_from_ne_true, cases_lt, not_from_false, not-true}
use Rattle.tp_spec.specs.declared.plan.Limits.{Limits}
use Rattle.tp_spec.specs.declared.plan.Plan.{Plan}
use Rattle.tp_spec.specs.declared.plan.Timed.{Timed}
use Rattle.tp_spec.specs.declared.plan.Item.TheVariants.{End, Start}
use Rattle.tp_spec.specs.declared.problem.Action.{Action}
use Rattle.tp_spec.specs.declared.problem.Kind.{Kind}
use Rattle.tp_spec.specs.declared.problem.Kind.TheVariants.{Instant, Durative}
use Rattle.tp_spec.specs.declared.problem.Problem.{Problem}
use Rattle.tp_spec.specs.Lists.{IsIn, some_and}
use Rattle.tp_spec.specs.WellFormed.{IsWellFormed, is_action, is_kind}
use Rattle.tp_spec.specs.Items.{is_durative, is_durative_kind}
use Rattle.tp_spec.specs.Courses.{Valid, stands, in_range, allows_length}
use Rattle.tp_laws.proofs.WordOfLists.{same-tests, any-in, in-any, all-in, pair-in, some-below}

-- A plan's acts: of the problem's actions, an instant one of length 0, a durative one of length 1 at
-- least, and no two of one action overlap.
pub record AreApart (p : Problem) (acts : List Timed) : Type 0 where
  pub there : (x : Timed) → IsIn x acts → x.action < length p.actions
  pub at_once : (x : Timed) → IsIn x acts → is_durative p x.action ≡ false → x.length ≡ 0
  pub lasting : (x : Timed) → IsIn x acts → is_durative p x.action ≡ true → 1 ≤ x.length
  pub in_turn : (x y : Timed) → IsIn x acts → IsIn y acts → x.action ≡ y.action → (x ≡ y) ⊎ ((x.start + x.length ≤ y.start) ⊎ (y.start + y.length ≤ x.start))

-- a length that a kind allows
abbrev IsLength : Bool → ℕ → Type 0
IsLength durative n = (durative ≡ false → n ≡ 0) × (durative ≡ true → 1 ≤ n)

kind-length : (k : Kind) (a : Action) (n : ℕ) → is_kind k a ≡ true → allows_length k n ≡ true → IsLength (is_durative_kind k) n
kind-length Instant a n h r = (λ e. eqb-true n 0 r, λ e. absurd (false≢true e))
kind-length (Durative least most) a n h r =
    let one : 1 ≤ least = leb-true 1 least (and_parts _ _ (and_parts _ _ h).0).0 in
    let more : least ≤ n = leb-true least n (and_parts _ _ r).0 in
    (λ e. absurd (false≢true (sym e)), λ e. omega (arith, one, more))

action-length : (f n : ℕ) (xs : List Action) (a m : ℕ) → list_all (is_action f n) xs ≡ true → some_and (slice_get xs a) (λ x. allows_length x.kind m) ≡ true → IsLength (some_and (slice_get xs a) (λ x. is_durative_kind x.kind)) m
action-length f n [] a m h r = absurd (false≢true r)
action-length f n (x ∷ xs) zero m h r = kind-length x.kind x m (and_parts _ _ (and_parts _ _ (and_parts _ _ (and_parts _ _ (and_parts _ _ (and_parts _ _ (and_parts _ _ h).0).0).0).0).0).0).1 r
action-length f n (x ∷ xs) (suc a) m h r = action-length f n xs a m (and_parts _ _ h).1 r

apart : (x y : Timed) → x.action ≡ y.action → (not (x.action == y.action) || nat_le (x.start + x.length) y.start) ≡ true → x.start + x.length ≤ y.start
apart x y e h = leb-true (x.start + x.length) y.start (subst (λ b. (not b || nat_le (x.start + x.length) y.start) ≡ true) (eq-eqb x.action y.action e) h)

pub acts-apart : (p : Problem) (l : Limits) (plan : Plan) → IsWellFormed p → Valid p l plan → AreApart p plan.acts
acts-apart p l plan formed valid = record {
  there = λ x i. some-below (λ a. allows_length a.kind x.length) p.actions x.action (ranged x i);
  at_once = λ x i. (lengths x i).0;
  lasting = λ x i. (lengths x i).1;
  in_turn = λ x y i j e. by_order x y e (pair-in (λ x y. not (x.action == y.action) || nat_le (x.start + x.length) y.start) plan.acts x y valid.in_turn i j);
}
  where
    ranged : (x : Timed) → IsIn x plan.acts → in_range p x.action x.length ≡ true
    ranged x i = all-in (λ x. in_range p x.action x.length) plan.acts x valid.lengths i

    lengths : (x : Timed) → IsIn x plan.acts → IsLength (is_durative p x.action) x.length
    lengths x i = action-length (length p.facts) (length p.fluents) p.actions x.action x.length (and_parts (nat_le (length p.actions) 4096) (list_all (is_action (length p.facts) (length p.fluents)) p.actions) formed.acting).1 (ranged x i)

    by_order : (x y : Timed) → x.action ≡ y.action → (x ≡ y) ⊎ (((not (x.action == y.action) || nat_le (x.start + x.length) y.start) ≡ true) ⊎ ((not (y.action == x.action) || nat_le (y.start + y.length) x.start) ≡ true)) → (x ≡ y) ⊎ ((x.start + x.length ≤ y.start) ⊎ (y.start + y.length ≤ x.start))
    by_order x y e (inl same) = inl same
    by_order x y e (inr (inl h)) = inr (inl (apart x y e h))
    by_order x y e (inr (inr h)) = inr (inr (apart y x (sym e) h))

-- whether an action runs after the happenings before a tick
abbrev pub runs_to : List Timed → ℕ → ℕ → Bool
runs_to acts t a = list_any (λ x. x.action == a && (nat_lt x.start t && nat_le t (x.start + x.length))) acts

-- an act of an action that began before a tick, and did not end before it
pub record RunsTo (acts : List Timed) (t a : ℕ) : Type 0 where
  pub act : Timed
  pub there : IsIn act acts
  pub of : act.action ≡ a
  pub begun : act.start < t
  pub unended : t ≤ act.start + act.length

pub to-runs : (acts : List Timed) (t a : ℕ) → runs_to acts t a ≡ true → RunsTo acts t a
to-runs acts t a h =
    let r = any-in (λ x. x.action == a && (nat_lt x.start t && nat_le t (x.start + x.length))) acts h in
    let x : Timed = r.0 in
    let e = and_parts (x.action == a) (nat_lt x.start t && nat_le t (x.start + x.length)) r.2 in
    let f = and_parts (nat_lt x.start t) (nat_le t (x.start + x.length)) e.1 in
    record { act = x; there = r.1; of = eqb-true x.action a e.0; begun = ltb-true x.start t f.0; unended = leb-true t (x.start + x.length) f.1 }

pub runs-to : (acts : List Timed) (t a : ℕ) → RunsTo acts t a → runs_to acts t a ≡ true
runs-to acts t a r = in-any (λ x. x.action == a && (nat_lt x.start t && nat_le t (x.start + x.length))) acts r.act r.there
    (and_from _ _ (eq-eqb (r.act).action a r.of) (and_from _ _ (lt-ltb (r.act).start t r.begun) (le-leb t ((r.act).start + (r.act).length) r.unended)))

-- an act that starts at a tick
pub record StartsAt (acts : List Timed) (t a : ℕ) : Type 0 where
  pub act : Timed
  pub there : IsIn act acts
  pub of : act.action ≡ a
  pub at : act.start ≡ t

pub starts-at : (p : Problem) (acts : List Timed) (t a : ℕ) → stands p acts t (Start a) ≡ true → StartsAt acts t a
starts-at p acts t a h =
    let r = any-in (λ x. x.action == a && x.start == t) acts h in
    let x : Timed = r.0 in
    let e = and_parts (x.action == a) (x.start == t) r.2 in
    record { act = x; there = r.1; of = eqb-true x.action a e.0; at = eqb-true x.start t e.1 }

pub at-starts : (p : Problem) (acts : List Timed) (t a : ℕ) → StartsAt acts t a → stands p acts t (Start a) ≡ true
at-starts p acts t a r = in-any (λ x. x.action == a && x.start == t) acts r.act r.there (and_from _ _ (eq-eqb (r.act).action a r.of) (eq-eqb (r.act).start t r.at))

-- an act of a durative action that ends at a tick
pub record EndsAt (p : Problem) (acts : List Timed) (t a : ℕ) : Type 0 where
  pub act : Timed
  pub there : IsIn act acts
  pub of : act.action ≡ a
  pub at : act.start + act.length ≡ t
  pub durative : is_durative p a ≡ true

pub ends-at : (p : Problem) (acts : List Timed) (t a : ℕ) → stands p acts t (End a) ≡ true → EndsAt p acts t a
ends-at p acts t a h =
    let d = and_parts (is_durative p a) (list_any (λ x. x.action == a && x.start + x.length == t) acts) h in
    let r = any-in (λ x. x.action == a && x.start + x.length == t) acts d.1 in
    let x : Timed = r.0 in
    let e = and_parts (x.action == a) (x.start + x.length == t) r.2 in
    record { act = x; there = r.1; of = eqb-true x.action a e.0; at = eqb-true (x.start + x.length) t e.1; durative = d.0 }

pub at-ends : (p : Problem) (acts : List Timed) (t a : ℕ) → EndsAt p acts t a → stands p acts t (End a) ≡ true
at-ends p acts t a r = and_from _ _ r.durative (in-any (λ x. x.action == a && x.start + x.length == t) acts r.act r.there (and_from _ _ (eq-eqb (r.act).action a r.of) (eq-eqb ((r.act).start + (r.act).length) t r.at)))

module _ (p : Problem) (acts : List Timed) (fine : AreApart p acts) where
  -- what has a length is durative
  pub lasts : (x : Timed) → IsIn x acts → 1 ≤ x.length → is_durative p x.action ≡ true
  lasts x i le = by_test (is_durative p x.action) refl where
    by_test : (b : Bool) → is_durative p x.action ≡ b → is_durative p x.action ≡ true
    by_test true e = e
    by_test false e = absurd (omega (arith, le, fine.at_once x i e))

  -- an act that began before a tick and ends after it, and one that ends at it, are of two actions
  never-both : (x y : Timed) (t : ℕ) → IsIn x acts → IsIn y acts → x.action ≡ y.action → x.start < t → suc t ≤ x.start + x.length → y.start < t → y.start + y.length ≡ t → ⊥
  never-both x y t i j e begun unended before ends = by_order (fine.in_turn x y i j e) where
    by_order : (x ≡ y) ⊎ ((x.start + x.length ≤ y.start) ⊎ (y.start + y.length ≤ x.start)) → ⊥
    by_order (inl same) = let alike : x.start + x.length ≡ y.start + y.length = ap (λ z. z.start + z.length) same in omega (arith, alike, unended, ends)
    by_order (inr (inl le)) = omega (arith, le, unended, before)
    by_order (inr (inr le)) = omega (arith, le, begun, ends)

  -- an end that stands at a tick is of an act that began before it
  pub end-runs : (t a : ℕ) → stands p acts t (End a) ≡ true → runs_to acts t a ≡ true
  end-runs t a h =
      let e : EndsAt p acts t a = ends-at p acts t a h in
      let x : Timed = e.act in
      let one : 1 ≤ x.length = fine.lasting x e.there (ap (is_durative p) e.of ∙ e.durative) in
      runs-to acts t a (record { act = x; there = e.there; of = e.of; begun = omega (arith, one, e.at); unended = omega (arith, e.at) })

  -- an action that runs, and of which a start stands at a tick, ends there
  pub start-ends : (t a : ℕ) → stands p acts t (Start a) ≡ true → runs_to acts t a ≡ true → stands p acts t (End a) ≡ true
  start-ends t a h k =
      let s : StartsAt acts t a = starts-at p acts t a h in
      let r : RunsTo acts t a = to-runs acts t a k in
      by_order r s (fine.in_turn r.act s.act r.there s.there (r.of ∙ sym s.of))
    where
      by_order : (r : RunsTo acts t a) (s : StartsAt acts t a) → (r.act ≡ s.act) ⊎ (((r.act).start + (r.act).length ≤ (s.act).start) ⊎ ((s.act).start + (s.act).length ≤ (r.act).start)) → stands p acts t (End a) ≡ true
      by_order r s (inl same) = let alike : (r.act).start ≡ (s.act).start = ap (λ z. z.start) same in absurd (omega (arith, alike, r.begun, s.at))
      by_order r s (inr (inl le)) =
          let one : 1 ≤ (r.act).length = omega (arith, r.begun, r.unended) in
          at-ends p acts t a (record {
            act = r.act;
            there = r.there;
            of = r.of;
            at = omega (arith, le, r.unended, s.at);
            durative = ap (is_durative p) (sym r.of) ∙ lasts r.act r.there one;
          })
      by_order r s (inr (inr le)) = absurd (omega (arith, le, r.begun, s.at))

  -- what runs after a tick, by what stands at it
  pub runs-step : (t a : ℕ) → ((stands p acts t (Start a) && is_durative p a) || (runs_to acts t a && not (stands p acts t (End a)))) ≡ runs_to acts (suc t) a
  runs-step t a = same-tests _ _ onward back where
    of_start : StartsAt acts t a → is_durative p a ≡ true → runs_to acts (suc t) a ≡ true
    of_start s d =
        let one : 1 ≤ (s.act).length = fine.lasting s.act s.there (ap (is_durative p) s.of ∙ d) in
        runs-to acts (suc t) a (record { act = s.act; there = s.there; of = s.of; begun = omega (arith, s.at); unended = omega (arith, one, s.at) })

    of_running : RunsTo acts t a → stands p acts t (End a) ≡ false → runs_to acts (suc t) a ≡ true
    of_running r none = runs-to acts (suc t) a (record { act = r.act; there = r.there; of = r.of; begun = omega (arith, r.begun); unended = elim (cases_lt t ((r.act).start + (r.act).length)) [ inl b ↦ omega (arith, b) | inr b ↦ absurd (false≢true (sym none ∙ ended (omega (arith, b, r.unended)))) ] }) where
      ended : (r.act).start + (r.act).length ≡ t → stands p acts t (End a) ≡ true
      ended e =
          let one : 1 ≤ (r.act).length = omega (arith, r.begun, e) in
          at-ends p acts t a (record { act = r.act; there = r.there; of = r.of; at = e; durative = ap (is_durative p) (sym r.of) ∙ lasts r.act r.there one })

    onward : ((stands p acts t (Start a) && is_durative p a) || (runs_to acts t a && not (stands p acts t (End a)))) ≡ true → runs_to acts (suc t) a ≡ true
    onward h = elim (or_cases (stands p acts t (Start a) && is_durative p a) (runs_to acts t a && not (stands p acts t (End a))) h) [
      | inl e ↦ of_start (starts-at p acts t a (and_parts (stands p acts t (Start a)) (is_durative p a) e).0) (and_parts (stands p acts t (Start a)) (is_durative p a) e).1
      | inr e ↦ of_running (to-runs acts t a (and_parts (runs_to acts t a) (not (stands p acts t (End a))) e).0) (not-true (stands p acts t (End a)) (and_parts (runs_to acts t a) (not (stands p acts t (End a))) e).1)
    ]

    unended : (r : RunsTo acts (suc t) a) → (r.act).start < t → stands p acts t (End a) ≡ true → ⊥
    unended r begun h =
        let e : EndsAt p acts t a = ends-at p acts t a h in
        let one : 1 ≤ (e.act).length = fine.lasting e.act e.there (ap (is_durative p) e.of ∙ e.durative) in
        never-both r.act e.act t r.there e.there (r.of ∙ sym e.of) begun r.unended (omega (arith, one, e.at)) e.at

    back : runs_to acts (suc t) a ≡ true → ((stands p acts t (Start a) && is_durative p a) || (runs_to acts t a && not (stands p acts t (End a)))) ≡ true
    back h = by_begin (to-runs acts (suc t) a h) where
      by_begin : RunsTo acts (suc t) a → ((stands p acts t (Start a) && is_durative p a) || (runs_to acts t a && not (stands p acts t (End a)))) ≡ true
      by_begin r = elim (cases_lt (r.act).start t) [
        | inl b ↦ or_right (stands p acts t (Start a) && is_durative p a) (runs_to acts t a && not (stands p acts t (End a))) (and_from _ _ (runs-to acts t a (record { act = r.act; there = r.there; of = r.of; begun = b; unended = omega (arith, r.unended) })) (not_from_false _ (false_from_ne_true _ (unended r b))))
        | inr b ↦
            let at : (r.act).start ≡ t = omega (arith, b, r.begun) in
            let one : 1 ≤ (r.act).length = omega (arith, r.unended, at) in
            or_left (stands p acts t (Start a) && is_durative p a) (runs_to acts t a && not (stands p acts t (End a))) (and_from _ _ (at-starts p acts t a (record { act = r.act; there = r.there; of = r.of; at = at })) (ap (is_durative p) (sym r.of) ∙ lasts r.act r.there one))
      ]
