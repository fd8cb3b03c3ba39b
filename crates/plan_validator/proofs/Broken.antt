-- A part that is broken makes a plan invalid.
use Rattle.std.proofs.Common.{◌≡◌, refl, sym, ap, subst, ◌∙◌, ℕ, ◌+◌, ◌<◌, ◌≤◌, Bool, true, false, not, ◌&&◌, ◌||◌, ◌==◌, nat_le, List, [], ◌∷◌, ◌++◌, cond, map, length, get_or, arith, inl, inr, ◌⊎◌, IsTrue, Option, Some, None, is_some}
use Rattle.std.specs.Prelude.{IsSome}
use Rattle.std.specs.List.{list_any, list_all, find, position}
use Rattle.std.specs.Option.{option_and_then, option_map, option_or}
use Rattle.std.proofs.lemmas.Bool.{and_parts, and_from, or_cases, false≢true, true≢false, both_ways, le-leb, eqb-true, not-true, cases_Bool, false_from_ne_true}
use Rattle.std.proofs.lemmas.List.Quantifiers.{position-Some}
use Rattle.tp_spec.specs.declared.plan.Item.{Item}
use Rattle.tp_spec.specs.declared.plan.Limits.{Limits}
use Rattle.tp_spec.specs.declared.plan.Plan.{Plan}
use Rattle.tp_spec.specs.declared.plan.Timed.{Timed}
use Rattle.tp_spec.specs.declared.problem.Cond.{Cond}
use Rattle.tp_spec.specs.declared.problem.Cond.TheVariants.{Lit}
use Rattle.tp_spec.specs.declared.problem.Problem.{Problem}
use Rattle.tp_spec.specs.Lists.{is_empty, each_pair, some_and}
use Rattle.tp_spec.specs.States.{State, holds}
use Rattle.tp_spec.specs.Items.{own, invariants}
use Rattle.tp_spec.specs.Interference.{interfere}
use Rattle.tp_spec.specs.Courses.{in_range, happening, runs_at, keeps_invariants, state_before, state_after, Passes}
use Rattle.tp_spec.specs.Courses as course
use Rattle.world_state.proofs.After.{list_all_get}
use Rattle.plan_validator.specs.declared.verdict.Verdict.{Verdict}
use Rattle.plan_validator.specs.declared.verdict.Verdict.TheVariants.{Valid, TooLong, TwiceAt, LengthOut, Overlap, EndOff, Clash, Unmet, Overflow, Broken, GoalUnmet}
use Rattle.plan_validator.specs.Verdicts.{starts_apart, in_turn, IsFirstOut, IsLengthOut, ends_well, IsClash, IsUnmet, IsOverflow, is_broken_in, IsBroken, IsGoalUnmet, IsVerdict}
use Rattle.plan_validator.proofs.Lists.{pairs_parts}
use Rattle.plan_validator.proofs.Ticks.{clash_in, clash_split}

some_none : {A : Type 0} {x : A} → ◌≡◌ {A = Option A} (Some x) None → ⊥
some_none e = true≢false (ap is_some e)

-- where all pass there is no first one that fails
none_fails : {A : Type 0} (test : A → Bool) (xs : List A) → list_all test xs ≡ true → find (λ x. not (test x)) xs ≡ None
none_fails test [] h = refl
none_fails {A} test (x ∷ xs) h =
    let parts = and_parts (test x) (list_all test xs) h in
    ap (λ b. cond (not b) (Some x) (find (λ y. not (test y)) xs)) parts.0 ∙ none_fails test xs parts.1

none_passes : {A : Type 0} (test : A → Bool) (xs : List A) → list_all (λ x. not (test x)) xs ≡ true → find test xs ≡ None
none_passes test [] h = refl
none_passes {A} test (x ∷ xs) h =
    let parts = and_parts (not (test x)) (list_all (λ y. not (test y)) xs) h in
    ap (λ b. cond b (Some x) (find test xs)) (not-true (test x) parts.0) ∙ none_passes test xs parts.1

no_clash : (p : Problem) (is : List Item) → each_pair (λ i j. not (interfere p i j)) is ≡ true → clash_in p is ≡ None
no_clash p [] h = refl
no_clash p (i ∷ is) h =
    let parts = and_parts (list_all (λ j. not (interfere p i j)) is) (each_pair (λ i j. not (interfere p i j)) is) h in
    clash_split p i is
    ∙ (λ k. option_or (option_map (λ j. (i, j)) (none_passes (interfere p i) is parts.0 k)) (clash_in p is))
    ∙ no_clash p is parts.1

first_breaks : (keeps : Timed → Timed → Bool) (acts : List Timed) (start action : ℕ) → IsFirstOut keeps acts start action → each_pair keeps acts ≡ true → ⊥
first_breaks keeps acts start action out h =
    let parts = pairs_parts keeps out.before out.act out.behind (subst (λ xs. each_pair keeps xs ≡ true) out.split h) in
    both_ways (list_all (λ x. keeps x out.act) out.before) (not-true (list_all (λ x. keeps x out.act) out.before) out.broken) parts.1

-- where invariants are kept no action is broken
held_by : (p : Problem) (t : ℕ) (s : State) (a : ℕ) (acts : List Timed) → keeps_invariants p acts t s ≡ true → list_any (λ x. x.action == a && runs_at t x) acts ≡ true
    → list_all (holds s) (invariants p a) ≡ true
held_by p t s a [] kept some = absurd (false≢true some)
held_by p t s a (x ∷ xs) kept some =
    let parts = and_parts (not (runs_at t x) || list_all (holds s) (invariants p x.action)) (keeps_invariants p xs t s) kept in
    elim (or_cases (x.action == a && runs_at t x) (list_any (λ y. y.action == a && runs_at t y) xs) some) [
      | inl here ↦
          let both = and_parts (x.action == a) (runs_at t x) here in
          subst (λ b. list_all (holds s) (invariants p b) ≡ true) (eqb-true x.action a both.0) (running (runs_at t x) (list_all (holds s) (invariants p x.action)) both.1 parts.0)
      | inr there ↦ held_by p t s a xs parts.1 there
    ]
  where
    running : (r v : Bool) → r ≡ true → (not r || v) ≡ true → v ≡ true
    running true v e h = h
    running false v e h = absurd (false≢true e)

not_broken : (p : Problem) (acts : List Timed) (t : ℕ) (s : State) (a : ℕ) → keeps_invariants p acts t s ≡ true → is_broken_in p acts t s a ≡ true → ⊥
not_broken p acts t s a kept broken =
    let parts = and_parts (list_any (λ x. x.action == a && runs_at t x) acts) (not (list_all (holds s) (invariants p a))) broken in
    both_ways (list_all (holds s) (invariants p a)) (not-true (list_all (holds s) (invariants p a)) parts.1) (held_by p t s a acts kept parts.0)

clash_fails : (p : Problem) (acts : List Timed) (t : ℕ) (a b : Item) → IsClash p acts t a b → Passes p acts t → ⊥
clash_fails p acts t a b h passes = some_none (sym h.first ∙ no_clash p (happening p acts t) passes.apart)

unmet_fails : (p : Problem) (acts : List Timed) (t : ℕ) (i : Item) → IsUnmet p acts t i → Passes p acts t → ⊥
unmet_fails p acts t i h passes =
    let met : list_all (own p h.state) (happening p acts t) ≡ true = subst (λ o. some_and o (λ s. list_all (own p s) (happening p acts t)) ≡ true) h.before passes.met in
    some_none (sym h.first ∙ none_fails (own p h.state) (happening p acts t) met)

overflow_fails : (p : Problem) (acts : List Timed) (t x : ℕ) → IsOverflow p acts t x → Passes p acts t → ⊥
overflow_fails p acts t x h passes = false≢true (subst IsSome h.none passes.exists)

broken_fails : (p : Problem) (acts : List Timed) (t a : ℕ) → IsBroken p acts t a → Passes p acts t → ⊥
broken_fails p acts t a h passes =
    not_broken p acts t h.next a (subst (λ o. some_and o (keeps_invariants p acts t) ≡ true) h.behind passes.kept) h.broken

ends_valid : (p : Problem) (l : Limits) (plan : Plan) → course.Valid p l plan → ends_well p l plan ≡ true
ends_valid p l plan valid =
    and_from ((plan.end == 0 || not (is_empty (happening p plan.acts plan.end))) && nat_le plan.end l.horizon) (list_all (λ x. nat_le (x.start + x.length) plan.end) plan.acts)
    (and_from (plan.end == 0 || not (is_empty (happening p plan.acts plan.end))) (nat_le plan.end l.horizon) valid.closing (le-leb plan.end l.horizon valid.within))
    valid.all_ended

goal_fails : (p : Problem) (plan : Plan) (part : ℕ) → IsGoalUnmet p plan part → IsTrue (some_and (state_after p plan.acts plan.end) (λ s. list_all (holds s) p.goal)) → ⊥
goal_fails p plan part h goal =
    let held : list_all (holds h.state) p.goal ≡ true = subst (λ o. some_and o (λ s. list_all (holds s) p.goal) ≡ true) h.at_end goal in
    let found = position-Some (λ c. not (holds h.state c)) p.goal part (Lit 0 true) h.first in
    both_ways (holds h.state (get_or p.goal part (Lit 0 true))) (not-true (holds h.state (get_or p.goal part (Lit 0 true))) found.1) (list_all_get (holds h.state) p.goal part (Lit 0 true) held found.0)

pub only_valid : (p : Problem) (l : Limits) (plan : Plan) (v : Verdict) → IsVerdict p l plan v → course.Valid p l plan → v ≡ Valid
only_valid p l plan Valid h valid = refl
only_valid p l plan (TooLong count) h valid = let few = valid.few in let counted = h.counted in let over = h.over in absurd (omega arith)
only_valid p l plan (TwiceAt start action) h valid = absurd (first_breaks starts_apart plan.acts start action h.out valid.once)
only_valid p l plan (LengthOut start action) h valid = absurd (some_none (sym h.out.first ∙ none_fails (λ x. in_range p x.action x.length) plan.acts valid.lengths))
only_valid p l plan (Overlap start action) h valid = absurd (first_breaks in_turn plan.acts start action h.out valid.in_turn)
only_valid p l plan (EndOff end) h valid = absurd (both_ways (ends_well p l plan) (not-true (ends_well p l plan) h.broken) (ends_valid p l plan valid))
only_valid p l plan (Clash tick a b) h valid = absurd (clash_fails p plan.acts h.tick a b h.fault.1 (valid.course h.tick h.in_time))
only_valid p l plan (Unmet tick item) h valid = absurd (unmet_fails p plan.acts h.tick item h.fault.1 (valid.course h.tick h.in_time))
only_valid p l plan (Overflow tick fluent) h valid = absurd (overflow_fails p plan.acts h.tick fluent h.fault.1 (valid.course h.tick h.in_time))
only_valid p l plan (Broken tick action) h valid = absurd (broken_fails p plan.acts h.tick action h.fault.1 (valid.course h.tick h.in_time))
only_valid p l plan (GoalUnmet part) h valid = absurd (goal_fails p plan part h.fault valid.goal)
