-- What the definitions say of small cases, both where a thing holds and where it does not.
use Rattle.std.specs.Prelude.{◌≡◌, ℕ, ◌+◌, ◌^◌, ◌-◌, ◌<◌, ◌≤◌, ◌==◌, nat_lt, Bool, true, false, not, List, [], ◌∷◌, ◌++◌, length, map, Option, Some, None, ℤ, pos, negsuc}
use Rattle.std.specs.Option.{option_map}
use Rattle.tp_spec.specs.declared.event.Cause.TheVariants.{Script}
use Rattle.tp_spec.specs.declared.event.Event.{Event}
use Rattle.tp_spec.specs.declared.event.Event.TheVariants.{Tick, Drop, Dispatch, Take, Expand, Publish, Limit, Exhaust, Halt}
use Rattle.tp_spec.specs.declared.expr.Expr.{Expr}
use Rattle.tp_spec.specs.declared.expr.Expr.TheVariants.{Fluent, Difference}
use Rattle.tp_spec.specs.declared.expr.Expr.TheOpen.{Expr-F}
use Rattle.tp_spec.specs.declared.plan.Item.{Item}
use Rattle.tp_spec.specs.declared.plan.Item.TheVariants.{TimedAt, Start, End}
use Rattle.tp_spec.specs.declared.plan.Limits.{Limits}
use Rattle.tp_spec.specs.declared.plan.Mark.{Mark}
use Rattle.tp_spec.specs.declared.plan.Plan.{Plan}
use Rattle.tp_spec.specs.declared.plan.Timed.{Timed}
use Rattle.tp_spec.specs.declared.problem.Problem.{Problem}
use Rattle.tp_spec.specs.declared.problem.TimedItem.{TimedItem}
use Rattle.tp_spec.specs.declared.problem.Cond.TheVariants.{Lit, Compare}
use Rattle.tp_spec.specs.declared.problem.Effect.{Effect}
use Rattle.tp_spec.specs.declared.problem.Effect.TheVariants.{Add, Delete, Change}
use Rattle.tp_spec.specs.declared.problem.How.{How}
use Rattle.tp_spec.specs.declared.problem.How.TheVariants.{Increase, Decrease, Assign}
use Rattle.tp_spec.specs.declared.problem.Op.{Op}
use Rattle.tp_spec.specs.declared.problem.Op.TheVariants.{Less, LessEq, Equal, MoreEq, More}
use Rattle.tp_spec.specs.States.{State, initial, value, value_at, compares, holds}
use Rattle.tp_spec.specs.Items.{all_items, item_before, is_durative, effects, conditions, invariants, is_defined, own, next, fits, has_after}
use Rattle.tp_spec.specs.Interference.{reads_at, disturbs, collides, interfere}
use Rattle.tp_spec.specs.Courses.{in_range, happening, runs_at, act_before, state_before, state_after, Passes, Valid, has_act, Possible}
use Rattle.tp_spec.specs.Lists.{IsIn, BeginsWith, each_pair, each_next}
use Rattle.tp_spec.specs.Words.{spell, runs_after, in_turn, may_join, closes, may_follow, at_start, progress, Sound, groups, Act, acts_of, timed_of}
use Rattle.tp_spec.specs.Schedules.{Schedule, finish, awaited, IsSchedule, Live, IsGreatest, IsLeast, timed_act, plan_of}
use Rattle.tp_spec.specs.Machine.{IsQuiet, IsSettled, IsRun, IsWholeRun, IsCovered, candidate, unmet_goals, no_worse, mark_before, open_nodes, IsBest, AreLiveMarks, TakeIsLegal, Machine, Node, first, step, readings, ticks, Legal, IsDue, ExpandIsLegal, PublishIsLegal, LimitIsLegal, DropIsLegal, ExhaustIsLegal}
use Rattle.tp_spec.specs.Following.{turn_events, last_take, rests_in, most_rests, is_busy_turn, IsBusy}
use Rattle.tp_spec.specs.Samples.{sample, two, problem, instant, mixed, sharing, raising, act, plan, limits, guarded, opens, joins, reading, timings, at_five, schedule, word_act, node}

-- 1 compared with 2, with 1, and 2 with 1
abbrev pub outcomes : Op → List Bool
outcomes op = compares op (pos 1) (pos 2) ∷ compares op (pos 1) (pos 1)
    ∷ compares op (pos 2) (pos 1) ∷ []

-- Each comparison has the left side first.
abbrev pub Comparisons : Type 0
Comparisons = (outcomes Less ≡ true ∷ false ∷ false ∷ [])
    × (outcomes LessEq ≡ true ∷ true ∷ false ∷ [])
    × (outcomes Equal ≡ false ∷ true ∷ false ∷ [])
    × (outcomes MoreEq ≡ false ∷ true ∷ true ∷ [])
    × (outcomes More ≡ false ∷ false ∷ true ∷ [])

-- A sum and a difference of parts, each undefined where a part is.
abbrev pub Operations : Type 0
Operations = (s : State) → (value_at s (Expr-F.Sum (Some (pos 5)) (Some (pos 2))) ≡ Some (pos 7))
    × (value_at s (Expr-F.Difference (Some (pos 5)) (Some (pos 2))) ≡ Some (pos 3))
    × (value_at s (Expr-F.Difference (Some (pos 2)) (Some (pos 5))) ≡ Some (negsuc 2))
    × (value_at s (Expr-F.Sum (Some (pos 5)) None) ≡ None)
    × (value_at s (Expr-F.Difference None (Some (pos 2))) ≡ None)

-- A fluent less a number.
abbrev pub Values : Type 0
Values = value (sample (Some (pos 5)) None) (Difference (Fluent 0) two) ≡ Some (pos 3)

-- A literal by membership, a negated one by its absence.
abbrev pub Literals : Type 0
Literals = map (holds (sample None None)) (Lit 0 true ∷ Lit 0 false ∷ Lit 1 true ∷ Lit 1 false ∷ [])
    ≡ true ∷ false ∷ false ∷ true ∷ []

-- No comparison holds where a side is undefined.
abbrev pub UndefinedCompares : Type 0
UndefinedCompares = (op : Op) (e : Expr) → holds (sample None None) (Compare op (Fluent 0) e)
    ≡ false

-- A comparison has its left side first.
abbrev pub ComparedSides : Type 0
ComparedSides = (holds (sample (Some (pos 5)) None) (Compare More (Fluent 0) two) ≡ true)
    × (holds (sample (Some (pos 5)) None) (Compare Less (Fluent 0) two) ≡ false)

-- The facts of `init` are true at the start, and a fluent has its value there, or none.
abbrev pub StartStates : Type 0
StartStates = (map (initial (raising (Some (pos 5) ∷ None ∷ []))).fact (0 ∷ 1 ∷ [])
    ≡ true ∷ false ∷ [])
    × (map (initial (raising (Some (pos 5) ∷ None ∷ []))).fluent (0 ∷ 1 ∷ 2 ∷ [])
    ≡ Some (pos 5) ∷ None ∷ None ∷ [])

-- Timed items come first, then ends, then starts, each by number; no item is before itself.
abbrev pub ItemOrder : Type 0
ItemOrder = (all_items mixed ≡ TimedAt 0 ∷ TimedAt 1 ∷ End 0 ∷ End 1 ∷ Start 0 ∷ Start 1 ∷ [])
    × (map (item_before (End 0)) (all_items mixed) ≡ false ∷ false ∷ false ∷ true ∷ true ∷ true
    ∷ [])
    × (map (item_before (Start 0)) (all_items mixed)
    ≡ false ∷ false ∷ false ∷ false ∷ false ∷ true ∷ [])
    × (map (item_before (TimedAt 1)) (all_items mixed)
    ≡ false ∷ false ∷ true ∷ true ∷ true ∷ true ∷ [])

-- What each item does and asks, what is asked while an action runs, and which actions last.
abbrev pub Parts : Type 0
Parts = (effects mixed (TimedAt 0) ≡ Add 17 ∷ Delete 18 ∷ [])
    × (effects mixed (Start 0) ≡ Add 13 ∷ [])
    × (effects mixed (End 0) ≡ Add 14 ∷ [])
    × (conditions mixed (TimedAt 0) ≡ [])
    × (conditions mixed (Start 0) ≡ Lit 10 true ∷ [])
    × (conditions mixed (End 0) ≡ Lit 12 true ∷ [])
    × (invariants mixed 0 ≡ Lit 11 true ∷ [])
    × (map (is_durative mixed) (0 ∷ 1 ∷ 2 ∷ []) ≡ true ∷ false ∷ false ∷ [])

-- An undefined fluent is neither increased nor decreased, but may be assigned.
abbrev pub Undefined : Type 0
Undefined = (e : Expr) → (is_defined (sample None None) (Change Increase 0 e) ≡ false)
    × (is_defined (sample None None) (Change Decrease 0 e) ≡ false)
    × (is_defined (sample None None) (Change Assign 0 two) ≡ true)

-- An increase, a decrease and an assignment need a right side that is defined.
abbrev pub UndefinedRight : Type 0
UndefinedRight = (is_defined (sample (Some (pos 5)) None) (Change Increase 0 (Fluent 1)) ≡ false)
    × (is_defined (sample (Some (pos 5)) None) (Change Decrease 0 (Fluent 1)) ≡ false)
    × (is_defined (sample (Some (pos 5)) None) (Change Assign 0 (Fluent 1)) ≡ false)

-- An item can happen where its condition holds and its effects are defined, and not where one of
-- them fails.
abbrev pub Own : Type 0
Own = (own (raising []) (sample (Some (pos 5)) None) (Start 0) ≡ true)
    × (own (raising []) (sample None None) (Start 0) ≡ false)
    × (own mixed (sample None None) (Start 1) ≡ false)

-- the value of fluent 0, which is 5, after these effects
abbrev pub five_after : List Effect → Option ℤ
five_after es = (next (sample (Some (pos 5)) (Some (pos 3))) es).fluent 0

-- An increase adds and a decrease subtracts, two of them together; an assignment forgets the old
-- value; a change of another fluent leaves this one; a right side is read before.
abbrev pub Changes : Type 0
Changes = (five_after (Change Increase 0 two ∷ []) ≡ Some (pos 7))
    × (five_after (Change Decrease 0 two ∷ []) ≡ Some (pos 3))
    × (five_after (Change Decrease 0 two ∷ Change Increase 0 two ∷ []) ≡ Some (pos 5))
    × (five_after (Change Assign 0 two ∷ []) ≡ Some (pos 2))
    × (five_after (Change Assign 1 two ∷ Change Increase 0 (Fluent 1) ∷ Change Assign 1 two ∷ [])
    ≡ Some (pos 8))
    × (five_after (Change Increase 1 two ∷ Change Decrease 1 two ∷ Change Assign 1 two ∷ [])
    ≡ Some (pos 5))

-- whether facts 0 and 1 are true after these effects, where 0 was before
abbrev pub facts_after : List Effect → List Bool
facts_after es = map (next (sample None None) es).fact (0 ∷ 1 ∷ [])

-- What is added is true, also where it is deleted too; what is deleted is false; all else stays.
abbrev pub Facts : Type 0
Facts = (facts_after [] ≡ true ∷ false ∷ [])
    × (facts_after (Delete 0 ∷ Add 1 ∷ []) ≡ false ∷ true ∷ [])
    × (facts_after (Add 0 ∷ Delete 0 ∷ []) ≡ true ∷ false ∷ [])
    × (facts_after (Delete 1 ∷ Add 1 ∷ []) ≡ true ∷ true ∷ [])

-- The numbers of 64 bits.
abbrev pub Fits : Type 0
Fits = map fits (Some (pos (2 ^ 63 - 1)) ∷ Some (pos (2 ^ 63)) ∷ Some (negsuc (2 ^ 63 - 1))
    ∷ Some (negsuc (2 ^ 63)) ∷ [])
    ≡ true ∷ false ∷ true ∷ false ∷ []

-- whether there is a state after the start of an action that raises fluent 0 by 2 from this value
abbrev pub can_rise : ℤ → Bool
can_rise z = has_after (raising []) (sample (Some z) None) (Start 0 ∷ [])

-- There is a state after a change up to the greatest number, and none past it.
abbrev pub StatesAfter : Type 0
StatesAfter = (can_rise (pos (2 ^ 63 - 3)) ≡ true) × (can_rise (pos (2 ^ 63 - 2)) ≡ false)

-- Effects on one fact disturb a condition on it, be it negated or not, and no other.
abbrev pub LiteralsDisturbed : Type 0
LiteralsDisturbed = (map (disturbs (Add 0)) (Lit 0 true ∷ Lit 0 false ∷ Lit 1 true ∷ [])
    ≡ true ∷ true ∷ false ∷ [])
    × (map (disturbs (Delete 0)) (Lit 0 true ∷ Lit 0 false ∷ Lit 1 false ∷ [])
    ≡ true ∷ true ∷ false ∷ [])

-- A change of a fluent disturbs a comparison that reads it on either side, and no other.
abbrev pub ComparisonsDisturbed : Type 0
ComparisonsDisturbed = (how : How) (op : Op) (e : Expr)
    → (disturbs (Change how 0 e) (Compare op (Fluent 0) two) ≡ true)
    × (disturbs (Change how 0 e) (Compare op two (Fluent 0)) ≡ true)
    × (disturbs (Change how 0 e) (Compare op (Fluent 1) two) ≡ false)
    × (disturbs (Change how 0 e) (Lit 0 true) ≡ false)

-- An add and a delete of one fact collide, two adds or two deletes don't.
abbrev pub FactsCollide : Type 0
FactsCollide = (map (collides (Add 0)) (Add 0 ∷ Delete 0 ∷ Delete 1 ∷ [])
    ≡ false ∷ true ∷ false ∷ [])
    × (map (collides (Delete 0)) (Delete 0 ∷ Add 0 ∷ Add 1 ∷ []) ≡ false ∷ true ∷ false ∷ [])

-- Two increases or decreases of one fluent don't collide, also where the other reads its own fluent
-- alone; an assignment collides with each; so does what the other reads.
abbrev pub ChangesCollide : Type 0
ChangesCollide = (e : Expr) → (collides (Change Increase 0 e) (Change Increase 0 two) ≡ false)
    × (collides (Change Increase 0 e) (Change Decrease 0 two) ≡ false)
    × (collides (Change Decrease 0 e) (Change Decrease 0 two) ≡ false)
    × (collides (Change Assign 0 e) (Change Increase 0 two) ≡ true)
    × (collides (Change Decrease 0 e) (Change Assign 0 two) ≡ true)
    × (collides (Change Assign 0 e) (Change Assign 0 two) ≡ true)
    × (collides (Change Assign 0 e) (Change Assign 1 two) ≡ false)
    × (collides (Change Increase 0 e) (Change Increase 1 (Fluent 0)) ≡ true)

-- Items interfere in both directions: an add with each condition on its fact, and with a delete of
-- it.
abbrev pub Interferences : Type 0
Interferences = (map (interfere sharing (Start 0)) (Start 1 ∷ Start 2 ∷ Start 3 ∷ Start 4 ∷ [])
    ≡ true ∷ true ∷ true ∷ false ∷ [])
    × (map (λ i. interfere sharing i (Start 0)) (Start 1 ∷ Start 2 ∷ Start 3 ∷ Start 4 ∷ [])
    ≡ true ∷ true ∷ true ∷ false ∷ [])
    × (interfere sharing (Start 1) (Start 2) ≡ false)

-- A sum and a difference read what either part reads.
abbrev pub Reads : Type 0
Reads = (map (λ b. reads_at 0 (Expr-F.Sum b true)) (true ∷ false ∷ []) ≡ true ∷ true ∷ [])
    × (map (λ b. reads_at 0 (Expr-F.Sum b false)) (true ∷ false ∷ []) ≡ true ∷ false ∷ [])
    × (map (λ b. reads_at 0 (Expr-F.Difference b true)) (true ∷ false ∷ []) ≡ true ∷ true ∷ [])
    × (map (λ b. reads_at 0 (Expr-F.Difference b false)) (true ∷ false ∷ []) ≡ true ∷ false ∷ [])

-- Pairs are all pairs, neighbours are neighbours alone.
abbrev pub PairsAndNeighbours : Type 0
PairsAndNeighbours = (map (each_pair nat_lt) ((1 ∷ 2 ∷ 3 ∷ []) ∷ (1 ∷ 3 ∷ 3 ∷ []) ∷ (2 ∷ 3 ∷ 1 ∷ [])
    ∷ [])
    ≡ true ∷ false ∷ false ∷ [])
    × (map (each_next nat_lt) ((1 ∷ 2 ∷ 3 ∷ []) ∷ (1 ∷ 3 ∷ 3 ∷ []) ∷ (3 ∷ 1 ∷ 2 ∷ []) ∷ [])
    ≡ true ∷ false ∷ false ∷ [])
    × (each_next (λ a b. not (a == b)) (1 ∷ 2 ∷ 1 ∷ []) ≡ true)
    × (each_pair (λ a b. not (a == b)) (1 ∷ 2 ∷ 1 ∷ []) ≡ false)

-- A list begins with its first member, and not with its second.
abbrev pub Fronts : Type 0
Fronts = BeginsWith {A = ℕ} (1 ∷ 2 ∷ []) (1 ∷ []) × ¬ (BeginsWith {A = ℕ} (1 ∷ 2 ∷ []) (2 ∷ []))

-- A length is 0 of an instant action, from the least to the most of one that lasts, and none of
-- what is no action.
abbrev pub Lengths : Type 0
Lengths = (map (in_range mixed 0) (1 ∷ 2 ∷ 3 ∷ 4 ∷ 5 ∷ [])
    ≡ false ∷ true ∷ true ∷ true ∷ false ∷ [])
    × (map (in_range mixed 1) (0 ∷ 1 ∷ []) ≡ true ∷ false ∷ [])
    × (map (in_range mixed 2) (0 ∷ 1 ∷ []) ≡ false ∷ false ∷ [])

-- action 0 from 1 to 3, and action 1 at 3
abbrev pub mixed_acts : List Timed
mixed_acts = act 0 1 2 ∷ act 1 3 0 ∷ []

-- What stands at a tick, in item order: timed items, ends of what lasts, and starts.
abbrev pub Happenings : Type 0
Happenings = (happening mixed mixed_acts 1 ≡ Start 0 ∷ [])
    × (happening mixed mixed_acts 2 ≡ [])
    × (happening mixed mixed_acts 3 ≡ TimedAt 0 ∷ End 0 ∷ Start 1 ∷ [])
    × (happening mixed mixed_acts 5 ≡ TimedAt 1 ∷ [])

-- An act runs from its start on, and not at its end.
abbrev pub Running : Type 0
Running = map (λ t. runs_at t (act 0 2 3)) (1 ∷ 2 ∷ 4 ∷ 5 ∷ 6 ∷ [])
    ≡ false ∷ true ∷ true ∷ false ∷ false ∷ []

-- Acts are in order by start, then action, then length.
abbrev pub ActOrder : Type 0
ActOrder = (map (act_before (act 1 1 1)) (act 1 1 1 ∷ act 1 1 2 ∷ act 2 1 0 ∷ act 0 2 0 ∷ [])
    ≡ true ∷ true ∷ true ∷ true ∷ [])
    × (map (act_before (act 1 1 1)) (act 1 1 0 ∷ act 0 1 2 ∷ act 2 0 2 ∷ [])
    ≡ false ∷ false ∷ false ∷ [])

-- whether fact 0 is true in a state, none where there is no state
abbrev pub known : Option State → Option Bool
known s = option_map (λ s. s.fact 0) s

-- A state is that before the first tick with what happened at each tick since; none stays none.
abbrev pub Courses : Type 0
Courses = (known (state_before sharing (act 0 1 0 ∷ []) 1) ≡ Some false)
    × (known (state_after sharing (act 0 1 0 ∷ []) 1) ≡ Some true)
    × (known (state_after sharing (act 0 1 0 ∷ []) 2) ≡ Some true)
    × (known (state_after (raising (Some (pos (2 ^ 63 - 2)) ∷ [])) (act 0 0 0 ∷ []) 1) ≡ None)

-- No two items of a tick interfere.
abbrev pub Apart : Type 0
Apart = ¬ (Passes sharing (act 0 0 0 ∷ act 3 0 0 ∷ []) 0)

-- What an item asks is met before its tick, so not by another item of it.
abbrev pub Met : Type 0
Met = ¬ (Passes (guarded []) (act 4 0 0 ∷ []) 0)

-- An invariant is asked from the start tick on, after what happens there, so an own start may give
-- it.
abbrev pub KeptByStart : Type 0
KeptByStart = Passes (guarded []) (act 0 0 2 ∷ []) 0

-- Another start may give it too.
abbrev pub KeptByOther : Type 0
KeptByOther = Passes (guarded []) (act 0 0 2 ∷ act 2 0 2 ∷ []) 0

-- Where nothing gives it, the start tick fails.
abbrev pub KeptByNone : Type 0
KeptByNone = ¬ (Passes (guarded []) (act 2 0 2 ∷ []) 0)

-- It is asked while the act runs.
abbrev pub KeptOnWay : Type 0
KeptOnWay = ¬ (Passes (guarded []) (act 0 0 2 ∷ act 1 1 0 ∷ []) 1)

-- It is not asked at the end tick.
abbrev pub KeptToEnd : Type 0
KeptToEnd = Passes (guarded []) (act 0 0 2 ∷ act 1 2 0 ∷ []) 2

-- an action that asks fact 0 and has this effect, where fact 0 holds at the start or not
abbrev pub asking : Effect → List ℕ → Problem
asking effect init = problem (instant (Lit 0 true ∷ []) (effect ∷ []) ∷ []) [] init [] []

-- An item may take away what it asks.
abbrev pub MetBefore : Type 0
MetBefore = Passes (asking (Delete 0) (0 ∷ [])) (act 0 0 0 ∷ []) 0

-- An item does not meet its own condition.
abbrev pub NotMetByItself : Type 0
NotMetByItself = ¬ (Passes (asking (Add 0) []) (act 0 0 0 ∷ []) 0)

-- Two acts of one action that touch, as many acts as allowed, and an end at the horizon: valid.
abbrev pub AllValid : Type 0
AllValid = Valid (guarded (Lit 0 true ∷ [])) (limits 2 4) (plan (act 0 0 2 ∷ act 0 2 2 ∷ []) 4)

-- Not valid: one act more than allowed.
abbrev pub NotFew : Type 0
NotFew = ¬ (Valid (guarded (Lit 0 true ∷ [])) (limits 1 4) (plan (act 0 0 2 ∷ act 0 2 2 ∷ []) 4))

-- Not valid: an end past the horizon.
abbrev pub NotWithin : Type 0
NotWithin = ¬ (Valid (guarded (Lit 0 true ∷ [])) (limits 2 3) (plan (act 0 0 2 ∷ act 0 2 2 ∷ []) 4))

-- Not valid: acts out of order.
abbrev pub NotInOrder : Type 0
NotInOrder = ¬ (Valid (guarded []) (limits 2 4) (plan (act 3 1 0 ∷ act 0 0 2 ∷ []) 2))

-- Not valid: two starts of an action at one tick.
abbrev pub NotOnce : Type 0
NotOnce = ¬ (Valid (guarded []) (limits 2 4) (plan (act 3 0 0 ∷ act 3 0 0 ∷ []) 0))

-- Not valid: a length above the most.
abbrev pub NotInLength : Type 0
NotInLength = ¬ (Valid (guarded []) (limits 2 4) (plan (act 0 0 3 ∷ []) 3))

-- Not valid: an act that starts before the one before it of its action ends.
abbrev pub NotInTurn : Type 0
NotInTurn = ¬ (Valid (guarded []) (limits 2 4) (plan (act 0 0 2 ∷ act 0 1 2 ∷ []) 3))

-- Not valid: an end where nothing happens.
abbrev pub NotClosing : Type 0
NotClosing = ¬ (Valid (guarded []) (limits 2 4) (plan (act 0 0 2 ∷ []) 3))

-- Not valid: an act that ends after the plan.
abbrev pub NotEnded : Type 0
NotEnded = ¬ (Valid (guarded []) (limits 2 4) (plan (act 0 0 2 ∷ []) 0))

-- Not valid: what is asked at the end tick is not met.
abbrev pub NotMetAtEnd : Type 0
NotMetAtEnd = ¬ (Valid (guarded []) (limits 2 4) (plan (act 0 0 2 ∷ act 4 2 0 ∷ []) 2))

-- Not valid: a goal that is not reached.
abbrev pub NotReached : Type 0
NotReached = ¬ (Valid (guarded (Lit 1 true ∷ [])) (limits 2 4) (plan [] 0))

-- A goal that is reached at the end tick is reached.
abbrev pub ReachedAtEnd : Type 0
ReachedAtEnd = Valid (record sharing {
  goal = Lit 0 true
      ∷ [];
}) (limits 1 0) (plan (act 0 0 0 ∷ []) 0)

-- The empty plan, whose end is 0, where nothing happens.
abbrev pub EmptyPlan : Type 0
EmptyPlan = Valid (guarded []) (limits 0 0) (plan [] 0)

-- Acts are the same where action, start and length are.
abbrev pub SameActs : Type 0
SameActs = map (has_act (act 0 1 2 ∷ [])) (act 0 1 2 ∷ act 1 1 2 ∷ act 0 2 2 ∷ act 0 1 3 ∷ [])
    ≡ true ∷ false ∷ false ∷ false ∷ []

-- which commitments and clock leave the plan possible that does action 3 at 1 and at 3
abbrev pub StaysPossible : ℕ → List Timed → Type 0
StaysPossible now commits = Possible (guarded []) (limits 2 4) now commits (plan (act 3 1 0
    ∷ act 3 3 0 ∷ []) 3)

-- Possible: a commitment before the clock, and another act at the clock.
abbrev pub AtClock : Type 0
AtClock = StaysPossible 3 (act 3 1 0 ∷ [])

-- Not possible: an act that is no commitment before the clock.
abbrev pub NotAtClock : Type 0
NotAtClock = ¬ (StaysPossible 4 (act 3 1 0 ∷ []))

-- Not possible: an act before a committed start of its action.
abbrev pub NotLater : Type 0
NotLater = ¬ (StaysPossible 0 (act 3 3 0 ∷ []))

-- Not possible: a commitment that the plan does not have.
abbrev pub NotCommitted : Type 0
NotCommitted = ¬ (StaysPossible 0 (act 3 0 0 ∷ []))

-- The word of a plan has each happening up to its end: the first item of each opens a group, the
-- others join it.
abbrev pub Spelled : Type 0
Spelled = (spell mixed (plan mixed_acts 2) ≡ opens (Start 0) ∷ [])
    × (spell mixed (plan mixed_acts 3) ≡ opens (Start 0) ∷ opens (TimedAt 0) ∷ joins (End 0)
    ∷ joins (Start 1) ∷ [])

-- An action runs after a group in which it starts, if it lasts, and after one in which it does not
-- end.
abbrev pub RunsAfter : Type 0
RunsAfter = (runs_after mixed (reading (Start 0 ∷ []) false 0) 0 ≡ true)
    × (runs_after mixed (reading (Start 1 ∷ []) false 0) 1 ≡ false)
    × (runs_after mixed (reading [] true 0) 0 ≡ true)
    × (runs_after mixed (reading (End 0 ∷ []) true 0) 0 ≡ false)
    × (runs_after mixed (reading (End 0 ∷ Start 0 ∷ []) true 0) 0 ≡ true)

-- Timed items come in order without omission.
abbrev pub TimedInTurn : Type 0
TimedInTurn = (map (in_turn mixed (reading [] false 0)) (TimedAt 0 ∷ TimedAt 1 ∷ [])
    ≡ true ∷ false ∷ [])
    × (map (in_turn mixed (reading [] false 1)) (TimedAt 0 ∷ TimedAt 1 ∷ []) ≡ false ∷ true ∷ [])
    × (in_turn mixed (reading [] false 2) (TimedAt 2) ≡ false)

-- What ends started in an earlier group, and has not ended in this one.
abbrev pub EndsInTurn : Type 0
EndsInTurn = (in_turn mixed (reading [] true 0) (End 0) ≡ true)
    × (in_turn mixed (reading [] false 0) (End 0) ≡ false)
    × (in_turn mixed (reading (Start 0 ∷ []) false 0) (End 0) ≡ false)
    × (in_turn mixed (reading (End 0 ∷ []) true 0) (End 0) ≡ false)

-- What starts is an action that does not run, or ended earlier in this group.
abbrev pub StartsInTurn : Type 0
StartsInTurn = (map (in_turn mixed (reading [] false 0)) (Start 0 ∷ Start 1 ∷ Start 2 ∷ [])
    ≡ true ∷ true ∷ false ∷ [])
    × (in_turn mixed (reading [] true 0) (Start 0) ≡ false)
    × (in_turn mixed (reading (End 0 ∷ []) true 0) (Start 0) ≡ true)

-- An item joins a group behind the last one in item order, with its conditions met before the
-- group, and interferes with none of it.
abbrev pub Joins : Type 0
Joins = (map (may_join sharing (reading (Start 1 ∷ []) false 0)) (Start 0 ∷ Start 1 ∷ Start 2
    ∷ Start 3 ∷ Start 4 ∷ [])
    ≡ false ∷ false ∷ false ∷ false ∷ true ∷ [])
    × (map (may_join sharing (reading [] false 0)) (Start 0 ∷ Start 1 ∷ Start 2 ∷ [])
    ≡ true ∷ true ∷ false ∷ [])

-- whether a group may be closed that is the first of the guarded problem
abbrev pub closes_first : List Item → Bool
closes_first group = closes (guarded []) (record (at_start (guarded [])) { group = group })

-- A group is closed where the invariants of all that runs after it hold in the state after it.
abbrev pub Closed : Type 0
Closed = (closes_first [] ≡ true)
    × (closes_first (Start 0 ∷ []) ≡ true)
    × (closes_first (Start 2 ∷ []) ≡ false)
    × (closes_first (Start 0 ∷ Start 2 ∷ []) ≡ true)
    × (closes (guarded []) (reading (Start 1 ∷ []) true 0) ≡ false)
    × (closes (guarded []) (reading (End 0 ∷ Start 1 ∷ []) true 0) ≡ true)

-- A group is not closed where there is no state after it.
abbrev pub NotClosed : Type 0
NotClosed = closes (raising []) (record {
  before = sample (Some (pos
      (2 ^ 63 - 2))) None;
  group = Start 0 ∷ [];
  timed = 0;
  running = λ a. false;
}) ≡ false

-- The last group is judged when the next one opens, and not when it is joined; there is none at the
-- start.
abbrev pub Follows : Type 0
Follows = (map (may_follow (guarded []) (at_start (guarded []))) (opens (Start 2) ∷ joins (Start 2)
    ∷ []) ≡ true ∷ false ∷ [])
    × (map (may_follow (guarded []) (progress (guarded []) (opens (Start 2) ∷ []))) (opens (Start 3)
    ∷ joins (Start 3) ∷ [])
    ≡ false ∷ true ∷ [])

-- An act that ends in the group in which the next one of its action starts.
abbrev pub IsSoundWord : Type 0
IsSoundWord = Sound (guarded []) (opens (Start 0) ∷ opens (End 0) ∷ joins (Start 0) ∷ [])

-- An invariant that does not hold where a group is closed.
abbrev pub NotSoundWord : Type 0
NotSoundWord = ¬ (Sound (guarded []) (opens (Start 2) ∷ opens (End 2) ∷ []))

-- a word in which action 0 ends and starts again at a timed item, where action 1 starts too
abbrev pub long_word : List Mark
long_word = opens (Start 0) ∷ opens (TimedAt 0) ∷ joins (End 0) ∷ joins (Start 0) ∷ joins (Start 1)
    ∷ []

-- The groups of a word, those of its timed items, and its acts with the groups of their starts and
-- ends.
abbrev pub WordParts : Type 0
WordParts = (groups long_word ≡ 2)
    × (timed_of long_word ≡ 1 ∷ [])
    × (acts_of mixed long_word ≡ word_act 0 0 (Some 1) ∷ word_act 0 1 None ∷ word_act 1 1 (Some 1)
    ∷ [])

-- A condition that an earlier group gives, and timed items one after the other.
abbrev pub SoundByBefore : Type 0
SoundByBefore = Sound sharing (opens (Start 0) ∷ opens (Start 1) ∷ [])
    × Sound mixed (opens (TimedAt 0) ∷ opens (TimedAt 1) ∷ [])

-- An end closes the act that runs.
abbrev pub TwoActs : Type 0
TwoActs = acts_of mixed (opens (Start 0) ∷ opens (End 0) ∷ opens (Start 0) ∷ opens (End 0) ∷ [])
    ≡ word_act 0 0 (Some 1) ∷ word_act 0 2 (Some 3) ∷ []

-- An act ends at the tick of the group that closes it, or at an end of its own.
abbrev pub Finishes : Type 0
Finishes = (finish (schedule 3 4 9) (word_act 0 0 (Some 1)) ≡ 4)
    × (finish (schedule 3 4 9) (word_act 0 0 None) ≡ 9)
    × (timed_act (schedule 3 4 9) (word_act 7 0 None) ≡ act 7 3 6)

-- The commitments of an action behind as many as a word has starts of it.
abbrev pub Awaited : Type 0
Awaited = awaited (word_act 0 0 (Some 1) ∷ word_act 1 1 None ∷ []) (act 0 1 2 ∷ act 0 4 2
    ∷ act 2 5 0 ∷ [])
    ≡ act 0 4 2 ∷ act 2 5 0 ∷ []

-- The plan of a word: its acts, and an end at its last group.
abbrev pub Plans : Type 0
Plans = (plan_of mixed (opens (Start 0) ∷ opens (End 0) ∷ []) (schedule 3 5 9)
    ≡ plan (act 0 3 2 ∷ []) 5)
    × (plan_of mixed (opens (Start 1) ∷ []) (schedule 3 5 9) ≡ plan (act 1 3 0 ∷ []) 3)
    × (plan_of mixed [] (schedule 3 5 9) ≡ plan [] 0)

-- which schedules there are with at most 2 acts, up to tick 9
abbrev pub Fitting : List TimedItem → ℕ → List Timed → List Mark → Schedule → Type 0
Fitting timed now commits w x = IsSchedule (timings timed) (limits 2 9) now commits w x

-- action 1 twice, one group after the other
abbrev pub twice : List Mark
twice = opens (Start 1) ∷ opens (Start 1) ∷ []

-- action 0 from one group to the next
abbrev pub whole : List Mark
whole = opens (Start 0) ∷ opens (End 0) ∷ []

-- action 0, which still runs when action 1 is done
abbrev pub begun : List Mark
begun = opens (Start 0) ∷ opens (Start 1) ∷ []

-- A schedule: the first start of an action is its first commitment, also before the clock, the
-- second one at the clock.
abbrev pub Punctual : Type 0
Punctual = Fitting at_five 4 (act 1 3 0 ∷ []) twice (schedule 3 4 0)

-- A schedule: a length at the least, and an end at the horizon.
abbrev pub Shortest : Type 0
Shortest = Fitting [] 0 [] whole (schedule 7 9 0)

-- A schedule: a running act of the greatest length, which ends at the last group, and a timed item
-- at its tick.
abbrev pub Longest : Type 0
Longest = Fitting at_five 0 [] (opens (Start 0) ∷ opens (TimedAt 0) ∷ []) (schedule 2 5 5)

-- A schedule: a commitment that is not in the word starts at its last group.
abbrev pub Owing : Type 0
Owing = Fitting [] 0 (act 0 3 0 ∷ []) (opens (Start 1) ∷ []) (schedule 3 3 0)

-- No schedule: two groups at one tick.
abbrev pub NotRising : Type 0
NotRising = ¬ (Fitting [] 0 [] twice (schedule 3 3 0))

-- No schedule: a group past the horizon.
abbrev pub NotWithinHorizon : Type 0
NotWithinHorizon = ¬ (IsSchedule (timings at_five) (limits 2 4) 0 [] (opens (TimedAt 0)
    ∷ []) (schedule 5 5 0))

-- No schedule: a timed item at another tick than its own.
abbrev pub NotTimed : Type 0
NotTimed = ¬ (Fitting at_five 0 [] (opens (TimedAt 0) ∷ []) (schedule 4 4 0))

-- No schedule: a group at the tick of the next timed item.
abbrev pub NotBeforeNext : Type 0
NotBeforeNext = ¬ (Fitting at_five 0 [] (opens (Start 1) ∷ []) (schedule 5 5 0))

-- No schedule: a length below the least.
abbrev pub TooShort : Type 0
TooShort = ¬ (Fitting [] 0 [] whole (schedule 3 4 0))

-- No schedule: a running act longer than the most.
abbrev pub TooLong : Type 0
TooLong = ¬ (Fitting [] 0 [] (opens (Start 0) ∷ []) (schedule 3 3 7))

-- No schedule: a running act that ends past the horizon.
abbrev pub NotEndingWithin : Type 0
NotEndingWithin = ¬ (Fitting [] 0 [] (opens (Start 0) ∷ []) (schedule 8 8 10))

-- No schedule: a running act that ends before the last group.
abbrev pub NotOpenLate : Type 0
NotOpenLate = ¬ (Fitting [] 0 [] begun (schedule 3 6 5))

-- No schedule: a start before the clock.
abbrev pub NotAtClockYet : Type 0
NotAtClockYet = ¬ (Fitting [] 4 [] (opens (Start 1) ∷ []) (schedule 3 3 0))

-- No schedule: the second start of an action before the clock, and the first one as it was
-- committed.
abbrev pub SecondTooEarly : Type 0
SecondTooEarly = ¬ (Fitting [] 5 (act 1 3 0 ∷ []) twice (schedule 3 4 0))

-- No schedule: the second start of an action at its first commitment.
abbrev pub WrongCommitment : Type 0
WrongCommitment = ¬ (Fitting [] 0 (act 1 4 0 ∷ []) twice (schedule 3 4 0))

-- No schedule: a committed act of another length.
abbrev pub WrongLength : Type 0
WrongLength = ¬ (Fitting [] 0 (act 0 3 2 ∷ []) whole (schedule 3 6 0))

-- No schedule: a commitment that is not in the word and starts before a group.
abbrev pub NotOwing : Type 0
NotOwing = ¬ (Fitting [] 0 (act 0 3 0 ∷ []) (opens (Start 1) ∷ []) (schedule 4 4 0))

-- No schedule: more starts and commitments than the limit allows.
abbrev pub TooMany : Type 0
TooMany = ¬ (Fitting [] 0 (act 0 8 2 ∷ []) twice (schedule 3 4 0))

-- No schedule has a later group than the greatest one, nor a later end of what runs.
abbrev pub GreatestIsLast : Type 0
GreatestIsLast = (p : Problem) (l : Limits) (now : ℕ) (commits : List Timed) (w : List Mark)
    (x y : Schedule)
    → IsGreatest p l now commits w x → IsSchedule p l now commits w y
    → ((g : ℕ) → g < groups w → y.tick g ≤ x.tick g)
    × ((a : Act) → IsIn a (acts_of p w) → a.closes ≡ None → y.end a.action ≤ x.end a.action)

-- No schedule has an earlier group than the least one, nor an earlier end of what runs.
abbrev pub LeastIsFirst : Type 0
LeastIsFirst = (p : Problem) (l : Limits) (now : ℕ) (commits : List Timed) (w : List Mark)
    (x y : Schedule)
    → IsLeast p l now commits w x → IsSchedule p l now commits w y
    → ((g : ℕ) → g < groups w → x.tick g ≤ y.tick g)
    × ((a : Act) → IsIn a (acts_of p w) → a.closes ≡ None → x.end a.action ≤ y.end a.action)

-- The greatest schedule of one start stands at the horizon.
abbrev pub GreatestOfOne : Type 0
GreatestOfOne = IsGreatest (timings []) (limits 2 9) 4 [] (opens (Start 1) ∷ []) (schedule 9 9 0)

-- The least one stands at the clock.
abbrev pub LeastOfOne : Type 0
LeastOfOne = IsLeast (timings []) (limits 2 9) 4 [] (opens (Start 1) ∷ []) (schedule 4 4 0)

-- A live word is sound and has a schedule.
abbrev pub LiveParts : Type 0
LiveParts = (p : Problem) (l : Limits) (now : ℕ) (commits : List Timed) (w : List Mark)
    → Live p l now commits w
    → Sound p w × ((x : Schedule) × IsSchedule p l now commits w x)

-- The candidate is the first start behind as many of its action as are committed.
abbrev pub Candidates : Type 0
Candidates = (candidate [] [] (acts_of mixed long_word) ≡ Some (word_act 0 0 (Some 1)))
    × (candidate [] (act 0 1 2 ∷ []) (acts_of mixed long_word) ≡ Some (word_act 0 1 None))
    × (candidate [] (act 0 1 2 ∷ act 0 3 2 ∷ []) (acts_of mixed long_word)
    ≡ Some (word_act 1 1 (Some 1)))
    × (candidate [] (act 1 3 0 ∷ act 0 1 2 ∷ act 0 3 2 ∷ []) (acts_of mixed long_word) ≡ None)

-- The rank counts the goal parts that do not hold, and all of them where there is no state after
-- the last group.
abbrev pub Ranks : Type 0
Ranks = (unmet_goals (guarded (Lit 0 true ∷ Lit 1 true ∷ Lit 1 false ∷ [])) (reading [] false 0)
    ≡ 1)
    × (unmet_goals (guarded (Lit 0 true ∷ Lit 1 true ∷ Lit 1 false ∷ [])) (reading (Start 1
    ∷ []) false 0) ≡ 2)
    × (unmet_goals (record (raising []) { goal = Lit 0 true ∷ Lit 1 true ∷ [] })
    (record {
      before = sample (Some (pos (2 ^ 63 - 2))) None;
      group = Start 0
          ∷ [];
      timed = 0;
      running = λ a. false;
    }) ≡ 2)

-- The best node has the least rank, and of those the least id.
abbrev pub BestNodes : Type 0
BestNodes = map (no_worse (guarded (Lit 0 true ∷ [])) (node 3 [] None))
    (node 3 [] None ∷ node 2 [] None ∷ node 4 [] None ∷ node 4 (opens (Start 0) ∷ []) None
    ∷ node 2 (opens (Start 1) ∷ []) None ∷ [])
    ≡ true ∷ false ∷ true ∷ false ∷ false ∷ []

-- The best of two nodes is the one of less rank, though its id is greater.
abbrev pub BestOfTwo : Type 0
BestOfTwo = IsBest (guarded (Lit 0 true ∷ [])) (node 3 [] None
    ∷ node 4 (opens (Start 0) ∷ []) (Some 1) ∷ []) (node 4 (opens (Start 0) ∷ []) (Some 1))

-- The open nodes are those that nobody took.
abbrev pub OpenNodes : Type 0
OpenNodes = open_nodes (node 4 [] None ∷ node 6 [] (Some 2) ∷ []) ≡ node 4 [] None ∷ []

-- Marks that join come before marks that open, each kind in item order.
abbrev pub MarkOrder : Type 0
MarkOrder = (map (mark_before (joins (Start 0))) (joins (Start 0) ∷ joins (Start 1) ∷ joins (End 1)
    ∷ opens (End 0) ∷ []) ≡ false ∷ true ∷ false ∷ true ∷ [])
    × (map (mark_before (opens (Start 0))) (opens (Start 0) ∷ opens (Start 1) ∷ opens (End 1)
    ∷ joins (Start 1) ∷ []) ≡ false ∷ true ∷ false ∷ false ∷ [])

-- two nodes of a turn of actor 2, who took the second one; 7 ids were given
abbrev pub amid : Machine
amid = record {
  now = 3;
  commits = act 0 1 2 ∷ [];
  nodes = node 4 [] None ∷ node 6 (opens (Start 0) ∷ []) (Some 2) ∷ [];
  made = 7;
  turn = Some (record { actor = 2; acted = false });
  over = false;
}

-- The machine at the start: the open root with id 0 and the empty word, and nothing else.
abbrev pub FirstState : Type 0
FirstState = first ≡ record {
  now = 0;
  commits = [];
  nodes = node 0 [] None
      ∷ [];
  made = 1;
  turn = None;
  over = false;
}

-- A Tick gives the turn to its actor, with no deed made. The clock, which stands at 3, does not go
-- back, and it stops one tick behind the horizon, which is 9.
abbrev pub TickStep : Type 0
TickStep = ((step (limits 2 9) amid (Tick 5 2)).turn ≡ Some (record { actor = 5; acted = false }))
    × ((step (limits 2 9) amid (Tick 5 2)).now ≡ 3)
    × ((step (limits 2 9) amid (Tick 5 4)).now ≡ 4)
    × ((step (limits 2 9) amid (Tick 5 9)).now ≡ 9)
    × ((step (limits 2 9) amid (Tick 5 10)).now ≡ 10)
    × ((step (limits 2 9) amid (Tick 5 30)).now ≡ 10)

-- A Drop takes its node out, and a Dispatch puts its act behind the others.
abbrev pub SettlingSteps : Type 0
SettlingSteps = (step (limits 2 9) amid (Drop 6) ≡ record amid { nodes = node 4 [] None ∷ [] })
    × (step (limits 2 9) amid (Dispatch (act 1 5 0))
    ≡ record amid { commits = act 0 1 2 ∷ act 1 5 0 ∷ [] })

-- A Take marks its node alone, and is a deed.
abbrev pub TakeStep : Type 0
TakeStep = step (limits 2 9) amid (Take 2 4) ≡ record amid {
  nodes = node 4 [] (Some 2) ∷ node 6 (opens (Start 0) ∷ []) (Some 2) ∷ [];
  turn = Some (record { actor = 2; acted = true });
}

-- An Expand replaces its node by open ones with the next ids, behind the others, one for each mark.
abbrev pub ExpandStep : Type 0
ExpandStep = step (limits 2 9) amid (Expand 2 6 (joins (Start 1) ∷ opens (End 0) ∷ []))
    ≡ record amid {
      nodes = node 4 [] None ∷ node 7 (opens (Start 0) ∷ joins (Start 1) ∷ []) None
          ∷ node 8 (opens (Start 0) ∷ opens (End 0) ∷ []) None ∷ [];
      made = 9;
      turn = Some (record { actor = 2; acted = true });
    }

-- An outcome stands after a Publish, a Limit, an Exhaust and a Halt, and after no other event.
abbrev pub Outcomes : Type 0
Outcomes = (map (λ e. (step (limits 2 9) amid e).over) (Publish 2 6 (plan [] 0) ∷ Limit 2 6 7 9
    ∷ Exhaust ∷ Halt Script ∷ [])
    ≡ true ∷ true ∷ true ∷ true ∷ [])
    × (map (λ e. (step (limits 2 9) amid e).over) (Tick 1 4 ∷ Drop 4 ∷ Dispatch (act 1 5 0)
    ∷ Take 2 4 ∷ Expand 2 6 [] ∷ [])
    ≡ false ∷ false ∷ false ∷ false ∷ false ∷ [])

-- The readings of a history are those of its Ticks, in order.
abbrev pub Readings : Type 0
Readings = (readings (Tick 1 8 ∷ Take 1 0 ∷ Tick 0 3 ∷ []) ≡ 8 ∷ 3 ∷ [])
    × (ticks (Tick 1 8 ∷ Take 1 0 ∷ Tick 0 3 ∷ []) ≡ 2)

-- No event is legal where an outcome stands.
abbrev pub NoneAfterOutcome : Type 0
NoneAfterOutcome = (p : Problem) (l : Limits) (m : Machine) (e : Event) → m.over ≡ true
    → ¬ (Legal p l m e)

-- a node of this id that this actor took
abbrev pub HasTaken : Machine → ℕ → ℕ → Type 0
HasTaken m actor id = (n : Node) × IsIn n m.nodes × (n.id ≡ id) × (n.taker ≡ Some actor)

-- Who expands, publishes or ends by the limit has the turn, has made no deed in it, and took the
-- node.
abbrev pub OfTakers : Type 0
OfTakers = (p : Problem) (l : Limits) (m : Machine) (actor id made : ℕ) (marks : List Mark)
    (plan : Plan)
    → (ExpandIsLegal p l m actor id marks → (m.turn
    ≡ Some (record { actor = actor; acted = false })) × HasTaken m actor id)
    × (PublishIsLegal p l m actor id plan → (m.turn
    ≡ Some (record { actor = actor; acted = false })) × HasTaken m actor id)
    × (LimitIsLegal p l m actor id made made → (m.turn
    ≡ Some (record { actor = actor; acted = false })) × HasTaken m actor id)

-- An Expand gives at most as many ids as may be given, and a Limit stands where the marks would
-- give more.
abbrev pub AtLimit : Type 0
AtLimit = (p : Problem) (l : Limits) (m : Machine) (actor id made n : ℕ) (marks : List Mark)
    → (ExpandIsLegal p l m actor id marks → m.made + length marks ≤ l.nodes)
    × (LimitIsLegal p l m actor id made n → l.nodes < m.made + n)

-- A dropped word begins the word of no possible plan.
abbrev pub Dropped : Type 0
Dropped = (p : Problem) (l : Limits) (m : Machine) (id : ℕ) → DropIsLegal p l m id
    → (n : Node) × IsIn n m.nodes × (n.id ≡ id)
    × ((plan : Plan) → Possible p l m.now m.commits plan → ¬ (BeginsWith (spell p plan) n.word))

-- A published plan is possible.
abbrev pub Published : Type 0
Published = (p : Problem) (l : Limits) (m : Machine) (actor id : ℕ) (plan : Plan)
    → PublishIsLegal p l m actor id plan
    → Possible p l m.now m.commits plan

-- An Exhaust stands where no node is left and no plan is possible.
abbrev pub Exhausted : Type 0
Exhausted = (p : Problem) (l : Limits) (m : Machine) → ExhaustIsLegal p l m
    → (m.nodes ≡ []) × ((plan : Plan) → ¬ (Possible p l m.now m.commits plan))

-- An act that is due starts at the clock plus the lead, or before.
abbrev pub DueSoon : Type 0
DueSoon = (p : Problem) (l : Limits) (m : Machine) (act : Timed) → IsDue p l m act
    → act.start ≤ m.now + l.lead

-- A mark is among the live marks just where it makes a live word.
abbrev pub MarksAreLive : Type 0
MarksAreLive = (p : Problem) (l : Limits) (m : Machine) (w marks : List Mark)
    → AreLiveMarks p l m w marks
    → (a : Mark) → (IsIn a marks → Live p l m.now m.commits (w ++ a ∷ []))
    × (Live p l m.now m.commits (w ++ a ∷ []) → IsIn a marks)

-- An Expand of a node is by the live marks of its word, which is no possible plan's word.
abbrev pub Expanded : Type 0
Expanded = (p : Problem) (l : Limits) (m : Machine) (actor id : ℕ) (marks : List Mark)
    → ExpandIsLegal p l m actor id marks
    → (n : Node) × (n.id ≡ id) × AreLiveMarks p l m n.word marks
    × ((plan : Plan) → Possible p l m.now m.commits plan → ¬ (spell p plan ≡ n.word))

-- The node that is taken is the best of the open ones, and live.
abbrev pub Taken : Type 0
Taken = (p : Problem) (l : Limits) (m : Machine) (actor id : ℕ) → TakeIsLegal p l m actor id
    → (n : Node) × (n.id ≡ id) × IsBest p (open_nodes m.nodes) n × Live p l m.now m.commits n.word

-- A published plan has its node's word, and the times of its least schedule.
abbrev pub PublishedLeast : Type 0
PublishedLeast = (p : Problem) (l : Limits) (m : Machine) (actor id : ℕ) (plan : Plan)
    → PublishIsLegal p l m actor id plan
    → (n : Node) × (n.id ≡ id) × (spell p plan ≡ n.word)
    × ((x : Schedule) × IsLeast p l m.now m.commits n.word x × (plan ≡ plan_of p n.word x))

-- An act that is due is the next start of the best node, by its greatest schedule.
abbrev pub DueAct : Type 0
DueAct = (p : Problem) (l : Limits) (m : Machine) (act : Timed) → IsDue p l m act
    → (n : Node) × IsBest p m.nodes n
    × ((x : Schedule) × IsGreatest p l m.now m.commits n.word x
    × ((a : Act) × (candidate [] m.commits (acts_of p n.word) ≡ Some a) × (act ≡ timed_act x a)))

-- A machine is settled where an outcome stands or it is quiet, and no other is.
abbrev pub Settled : Type 0
Settled = (p : Problem) (l : Limits) (m : Machine)
    → (m.over ≡ true → IsSettled p l m)
    × (IsQuiet p l m → IsSettled p l m)
    × (IsSettled p l m → m.over ≡ false → IsQuiet p l m)

-- Where the machine is quiet the best node is live, and no act is due.
abbrev pub Quiet : Type 0
Quiet = (p : Problem) (l : Limits) (m : Machine) → IsQuiet p l m
    → ((n : Node) × IsBest p m.nodes n × Live p l m.now m.commits n.word)
    × ((act : Timed) → ¬ (IsDue p l m act))

-- In a run each event is legal after those before it, and a whole run ends settled.
abbrev pub Runs : Type 0
Runs = (p : Problem) (l : Limits) (e f : Event)
    → (IsRun p l (e ∷ f ∷ []) → Legal p l first e × Legal p l (step l first e) f)
    × (IsWholeRun p l (e ∷ f ∷ []) → IsSettled p l (step l (step l first e) f))

-- A covered plan's word begins with the word of a node of the frontier.
abbrev pub Covered : Type 0
Covered = (p : Problem) (m : Machine) (plan : Plan) → IsCovered p m plan
    → (n : Node) × IsIn n m.nodes × BeginsWith (spell p plan) n.word

-- The events of a turn end before the next Tick or Halt.
abbrev pub TurnEvents : Type 0
TurnEvents = (turn_events (Drop 4 ∷ Take 2 4 ∷ Tick 1 3 ∷ Drop 5 ∷ []) ≡ Drop 4 ∷ Take 2 4 ∷ [])
    × (turn_events (Drop 4 ∷ Halt Script ∷ []) ≡ Drop 4 ∷ [])

-- What an actor took in its last turn.
abbrev pub LastTakes : Type 0
LastTakes = (last_take 1 (Tick 1 0 ∷ Take 1 5 ∷ Tick 2 0 ∷ Take 2 6 ∷ []) ≡ Some 5)
    × (last_take 1 (Tick 1 0 ∷ Take 1 5 ∷ Tick 1 0 ∷ []) ≡ None)
    × (last_take 1 (Tick 2 0 ∷ Take 2 6 ∷ []) ≡ None)

-- The turns after the last deed.
abbrev pub Rests : Type 0
Rests = (rests_in (Tick 0 0 ∷ Tick 0 0 ∷ []) ≡ 2)
    × (rests_in (Tick 0 0 ∷ Tick 1 0 ∷ Take 1 0 ∷ Drop 7 ∷ Tick 0 0 ∷ []) ≡ 1)
    × (most_rests ≡ 10000)

-- whether a turn behind these events is busy with two workers, where the root is the first node
abbrev pub busy : List Event → ℕ → List Event → Bool
busy before actor events = is_busy_turn (limits 2 9) 2 before actor 0 events

-- The dispatcher makes no deed, nobody is behind the workers, and a worker that took nothing takes
-- an open node.
abbrev pub BusyTakes : Type 0
BusyTakes = (busy [] 0 [] ≡ true)
    × (busy [] 0 (Take 0 0 ∷ []) ≡ false)
    × (busy [] 3 (Take 3 0 ∷ []) ≡ false)
    × (busy [] 2 (Take 2 0 ∷ []) ≡ true)
    × (busy [] 2 [] ≡ false)
    × (busy [] 2 (Drop 0 ∷ []) ≡ true)
    × (busy [] 2 (Exhaust ∷ []) ≡ true)
    × (busy (Tick 1 0 ∷ Take 1 0 ∷ []) 2 [] ≡ false)

-- A worker that took a node makes its deed on it, unless an outcome stands or the node is gone.
abbrev pub BusyMerges : Type 0
BusyMerges = (busy (Tick 1 0 ∷ Take 1 0 ∷ []) 1 (Expand 1 0 [] ∷ []) ≡ true)
    × (busy (Tick 1 0 ∷ Take 1 0 ∷ []) 1 [] ≡ false)
    × (busy (Tick 1 0 ∷ Take 1 0 ∷ []) 1 (Expand 1 3 [] ∷ []) ≡ false)
    × (busy (Tick 1 0 ∷ Take 1 0 ∷ []) 1 (Drop 0 ∷ []) ≡ true)
    × (busy (Tick 1 0 ∷ Take 1 0 ∷ []) 1 (Exhaust ∷ []) ≡ true)

-- A worker takes the root, and expands it.
abbrev pub expands_root : List Event
expands_root = Tick 1 0 ∷ Take 1 0 ∷ Tick 1 0 ∷ Expand 1 0 (opens (Start 0) ∷ []) ∷ []

-- It is busy where it takes the new node next, and not where it takes nothing, nor is a worker too
-- many.
abbrev pub BusyHistories : Type 0
BusyHistories = IsBusy (limits 2 9) 1 (expands_root ++ Tick 1 0 ∷ Take 1 1 ∷ [])
    × ¬ (IsBusy (limits 2 9) 1 (expands_root ++ Tick 1 0 ∷ []))
    × ¬ (IsBusy (limits 2 9) 1 (Tick 2 0 ∷ Take 2 0 ∷ []))
