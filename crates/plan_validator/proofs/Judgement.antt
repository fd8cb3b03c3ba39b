-- What the parts of the judgement say together.
use Rattle.std.proofs.Common.{◌≡◌, refl, sym, ap, subst, ◌∙◌, ℕ, suc, ◌+◌, ◌<◌, ◌≤◌, Bool, true, false, not, ◌&&◌, ◌||◌, ◌==◌, nat_lt, nat_le, List, [], ◌∷◌, map, cond, length, get_or, take, arith, IsTrue, Option, Some, None}
use Rattle.std.specs.List.{list_any, list_all, filter, position, position_or_len}
use Rattle.std.specs.Option.{MatchOption}
use Rattle.std.proofs.lemmas.Bool.{and_parts, and_from, le-leb, leb-true, lt-ltb, cond-true, not_from_true, not_from_false}
use Rattle.std.proofs.lemmas.List.{get_or-take, length-take-le}
use Rattle.std.proofs.lemmas.List.Sums.{position_or_len_is}
use Rattle.std.proofs.lemmas.Option.{MatchOption-at_none}
use Rattle.tp_spec.specs.declared.plan.Limits.{Limits}
use Rattle.tp_spec.specs.declared.plan.Plan.{Plan}
use Rattle.tp_spec.specs.declared.plan.Timed.{Timed}
use Rattle.tp_spec.specs.declared.problem.Cond.{Cond}
use Rattle.tp_spec.specs.declared.problem.Problem.{Problem}
use Rattle.tp_spec.specs.Lists.{is_empty, each_next, some_and}
use Rattle.tp_spec.specs.States.{State, holds}
use Rattle.tp_spec.specs.Courses.{act_before, happening, state_after, Passes}
use Rattle.tp_spec.specs.Courses as course
use Rattle.world_state.specs.View.{StateView, meaning}
use Rattle.world_state.proofs.After.{list_all_get}
use Rattle.plan_validator.specs.declared.standings.Standing.{Standing}
use Rattle.plan_validator.specs.declared.verdict.Verdict.{Verdict}
use Rattle.plan_validator.specs.declared.verdict.Verdict.TheVariants.{Valid, TooLong, TwiceAt, LengthOut, Overlap, EndOff, Clash, Unmet, Overflow, Broken, GoalUnmet}
use Rattle.plan_validator.specs.Standings.{item_of, items_at, AreStandings}
use Rattle.plan_validator.specs.Course.{IsFaultUpTo, IsThrough}
use Rattle.plan_validator.specs.Verdicts.{ends_well, AreActsWhole, IsActsFault, IsWholeTo, IsEndOff, IsGoalFault, IsVerdict}

-- whether something stands at a tick
happens_or_not : (t : ℕ) (xs : List Standing) → list_any (λ x. x.tick == t) xs ≡ not (is_empty (items_at t xs))
happens_or_not t [] = refl
happens_or_not t (x ∷ xs) = by_test (x.tick == t) (happens_or_not t xs) where
  by_test : (b : Bool) → list_any (λ z. z.tick == t) xs ≡ not (is_empty (items_at t xs))
      → (b || list_any (λ z. z.tick == t) xs) ≡ not (is_empty (map (λ z. item_of z.place) (cond b (x ∷ filter (λ z. z.tick == t) xs) (filter (λ z. z.tick == t) xs))))
  by_test true rest = refl
  by_test false rest = rest

pub ends_same : (p : Problem) (l : Limits) (plan : Plan) (xs : List Standing) → AreStandings p plan.acts 0 xs
    → ((plan.end == 0 || list_any (λ x. x.tick == plan.end) xs) && nat_le plan.end l.horizon && list_all (λ x. nat_le (x.start + x.length) plan.end) plan.acts) ≡ ends_well p l plan
ends_same p l plan xs are =
    let there : list_any (λ x. x.tick == plan.end) xs ≡ not (is_empty (happening p plan.acts plan.end)) =
    happens_or_not plan.end xs ∙ ap (λ is. not (is_empty is)) (are.are plan.end (omega arith)) in
    λ k. (plan.end == 0 || there k) && nat_le plan.end l.horizon && list_all (λ x. nat_le (x.start + x.length) plan.end) plan.acts

-- a fault of a tick is the verdict where all before is whole
pub tick_verdict : (p : Problem) (l : Limits) (plan : Plan) (v : Verdict) → AreActsWhole p l plan.acts → IsTrue (ends_well p l plan) → IsFaultUpTo p plan.acts plan.end v → IsVerdict p l plan v
tick_verdict p l plan Valid acts ends h = absurd h.fault
tick_verdict p l plan (TooLong count) acts ends h = absurd h.fault
tick_verdict p l plan (TwiceAt start action) acts ends h = absurd h.fault
tick_verdict p l plan (LengthOut start action) acts ends h = absurd h.fault
tick_verdict p l plan (Overlap start action) acts ends h = absurd h.fault
tick_verdict p l plan (EndOff end) acts ends h = absurd h.fault
tick_verdict p l plan (Clash tick a b) acts ends h = record { tick = h.tick; in_time = h.in_time; before = record { acts = acts; ends = ends; ticks = h.passed }; fault = h.fault }
tick_verdict p l plan (Unmet tick item) acts ends h = record { tick = h.tick; in_time = h.in_time; before = record { acts = acts; ends = ends; ticks = h.passed }; fault = h.fault }
tick_verdict p l plan (Overflow tick fluent) acts ends h = record { tick = h.tick; in_time = h.in_time; before = record { acts = acts; ends = ends; ticks = h.passed }; fault = h.fault }
tick_verdict p l plan (Broken tick action) acts ends h = record { tick = h.tick; in_time = h.in_time; before = record { acts = acts; ends = ends; ticks = h.passed }; fault = h.fault }
tick_verdict p l plan (GoalUnmet part) acts ends h = absurd h.fault

pub goal_verdict : (p : Problem) (l : Limits) (plan : Plan) (s : StateView) (part : ℕ) → AreActsWhole p l plan.acts → IsTrue (ends_well p l plan) → IsThrough p plan.acts plan.end s
    → position (λ c. not (holds (meaning s) c)) p.goal ≡ Some part → IsGoalFault p l plan part
goal_verdict p l plan s part acts ends h first = record {
  before = record { acts = acts; ends = ends; ticks = h.passed };
  fault = record { state = meaning s; at_end = h.leads; first = first };
}

pub valid_verdict : (p : Problem) (l : Limits) (plan : Plan) (s : StateView) → IsTrue (each_next act_before plan.acts) → AreActsWhole p l plan.acts → IsTrue (ends_well p l plan)
    → IsThrough p plan.acts plan.end s → IsTrue (list_all (holds (meaning s)) p.goal) → course.Valid p l plan
valid_verdict p l plan s order acts ends h held =
    let outer = and_parts ((plan.end == 0 || not (is_empty (happening p plan.acts plan.end))) && nat_le plan.end l.horizon) (list_all (λ x. nat_le (x.start + x.length) plan.end) plan.acts) ends in
    let inner = and_parts (plan.end == 0 || not (is_empty (happening p plan.acts plan.end))) (nat_le plan.end l.horizon) outer.0 in
    record {
      in_order = order;
      few = acts.few;
      once = acts.once;
      lengths = acts.lengths;
      in_turn = acts.turns;
      closing = inner.0;
      within = leb-true plan.end l.horizon inner.1;
      all_ended = outer.1;
      course = λ t le. h.passed t (omega (arith, le));
      goal = subst (λ o. some_and o (λ s. list_all (holds s) p.goal) ≡ true) (sym h.leads) held;
    }

-- the first member that fails
pub first_failing : (test : Cond → Bool) (xs : List Cond) (i : ℕ) (d : Cond) → i < length xs → list_all test (take i xs) ≡ true → test (get_or xs i d) ≡ false
    → position (λ c. not (test c)) xs ≡ Some i
first_failing test xs i d inside before here =
    let at : position_or_len (λ c. not (test c)) xs ≡ i =
    position_or_len_is (λ c. not (test c)) xs i d (omega (arith, inside))
    (λ k less. ap not (sym (ap test (get_or-take i xs k d less)) ∙ list_all_get test (take i xs) k d before (short k less)))
    (λ _. ap not here) in
    (λ k. cond (nat_lt (at k) (length xs)) (Some (at k)) None) ∙ cond-true (nat_lt i (length xs)) (Some i) None (lt-ltb i (length xs) inside)
  where
    short : (k : ℕ) → k < i → k < length (take i xs)
    short k less = let is : length (take i xs) ≡ i = length-take-le i xs (omega (arith, inside)) in omega (arith, is, less)

-- what the calls answer, of the acts as they were lent
pub acts_whole : (p : Problem) (l : Limits) (lent acts : List Timed) (o : Option Verdict) → lent ≡ acts → o ≡ None
    → MatchOption o (AreActsWhole p l lent) (IsActsFault p l lent) → AreActsWhole p l acts
acts_whole p l lent acts o e none h = subst (AreActsWhole p l) e (MatchOption-at_none (AreActsWhole p l lent) (IsActsFault p l lent) none h)

pub ends_from : (p : Problem) (l : Limits) (plan : Plan) (lent : List Timed) (xs ys : List Standing) (r : Bool) → lent ≡ plan.acts → ys ≡ xs → AreStandings p lent 0 xs
    → r ≡ ((plan.end == 0 || list_any (λ x. x.tick == plan.end) ys) && nat_le plan.end l.horizon && list_all (λ x. nat_le (x.start + x.length) plan.end) lent) → r ≡ ends_well p l plan
ends_from p l plan lent xs ys r e f are is =
    is
    ∙ (λ k. (plan.end == 0 || list_any (λ x. x.tick == plan.end) (f k)) && nat_le plan.end l.horizon && list_all (λ x. nat_le (x.start + x.length) plan.end) (e k))
    ∙ ends_same p l plan xs (subst (λ acts. AreStandings p acts 0 xs) e are)
