-- Small states, problems and plans against which the definitions are pinned.
use Rattle.std.specs.Prelude.{ℕ, Bool, true, false, List, [], ◌∷◌, Option, None, ℤ, pos, ◌==◌, ◌&&◌, if◌then◌else◌, slice_get}
use Rattle.std.specs.Option.{option_and_then}
use Rattle.tp_spec.specs.declared.expr.Expr.{Expr}
use Rattle.tp_spec.specs.declared.expr.Expr.TheVariants.{Number}
use Rattle.tp_spec.specs.declared.plan.Item.{Item}
use Rattle.tp_spec.specs.declared.plan.Limits.{Limits}
use Rattle.tp_spec.specs.declared.plan.Mark.{Mark}
use Rattle.tp_spec.specs.declared.plan.Plan.{Plan}
use Rattle.tp_spec.specs.declared.plan.Timed.{Timed}
use Rattle.tp_spec.specs.declared.problem.Action.{Action}
use Rattle.tp_spec.specs.declared.problem.Cond.{Cond}
use Rattle.tp_spec.specs.declared.problem.Cond.TheVariants.{Lit}
use Rattle.tp_spec.specs.declared.problem.Effect.{Effect}
use Rattle.tp_spec.specs.declared.problem.Effect.TheVariants.{Add, Delete, Change}
use Rattle.tp_spec.specs.declared.problem.How.TheVariants.{Increase}
use Rattle.tp_spec.specs.declared.problem.Kind.TheVariants.{Instant, Durative}
use Rattle.tp_spec.specs.declared.problem.TimedItem.{TimedItem}
use Rattle.tp_spec.specs.States.{State}
use Rattle.tp_spec.specs.Words.{Progress, Act}
use Rattle.tp_spec.specs.Schedules.{Schedule}
use Rattle.tp_spec.specs.Machine.{Node}
use Rattle.tp_spec.specs.WellFormed.{Ground}

-- fact 0 alone is true, and fluents 0 and 1 have these values
abbrev pub sample : Option ℤ → Option ℤ → State
sample a b = record {
  fact = λ f. f == 0;
  fluent = λ x. option_and_then (λ v. v) (slice_get (a ∷ b
      ∷ []) x);
}

abbrev pub two : Expr
two = Number (pos 2)

abbrev pub problem : List Action → List TimedItem → List ℕ → List (Option ℤ) → List Cond → Ground
problem actions timed init values goal = record {
  scale = 1;
  facts = [];
  fluents = [];
  actions = actions;
  timed = timed;
  init = init;
  values = values;
  goal = goal;
}

abbrev pub instant : List Cond → List Effect → Action
instant conds effects = record {
  name = [];
  kind = Instant;
  start_conds = conds;
  all_conds = [];
  end_conds = [];
  start_effects = effects;
  end_effects = [];
}

-- an action with a range of lengths, invariants, and what its start and its end do
abbrev pub lasting : ℕ → ℕ → List Cond → List Effect → List Effect → Action
lasting least most invariants opening closing = record {
  name = [];
  kind = Durative least most;
  start_conds = [];
  all_conds = invariants;
  end_conds = [];
  start_effects = opening;
  end_effects = closing;
}

-- action 0 lasts, with a condition and an effect at each of its ends, action 1 is instant, and
-- timed items are at 3 and 5
abbrev pub mixed : Ground
mixed = problem (
    record {
      name = [];
      kind = Durative 2 4;
      start_conds = Lit 10 true ∷ [];
      all_conds = Lit 11 true ∷ [];
      end_conds = Lit 12 true ∷ [];
      start_effects = Add 13 ∷ [];
      end_effects = Add 14 ∷ [];
    } ∷ instant (Lit 15 true ∷ []) (Add 16 ∷ []) ∷ []
    ) (record { tick = 3; adds = 17 ∷ []; deletes = 18 ∷ [] } ∷ record {
      tick = 5;
      adds = 19
          ∷ [];
      deletes = [];
    } ∷ []) [] [] []

-- action 0 adds fact 0, action 1 asks it, action 2 asks that it does not hold, action 3 deletes it,
-- action 4 does nothing
abbrev pub sharing : Ground
sharing = problem (
    instant [] (Add 0 ∷ []) ∷ instant (Lit 0 true ∷ []) [] ∷ instant (Lit 0 false ∷ []) []
    ∷ instant [] (Delete 0 ∷ [])
    ∷ instant [] [] ∷ []
    ) [] [] [] []

-- action 0 raises fluent 0 by 2, where fact 0 holds
abbrev pub raising : List (Option ℤ) → Ground
raising values = problem (instant (Lit 0 true ∷ []) (Change Increase 0 two ∷ []) ∷ []) [] (0
    ∷ []) values []

abbrev pub act : ℕ → ℕ → ℕ → Timed
act action start length = record { action = action; start = start; length = length }

abbrev pub plan : List Timed → ℕ → Plan
plan acts end = record { acts = acts; end = end }

-- at most so many acts, and a horizon
abbrev pub limits : ℕ → ℕ → Limits
limits actions horizon = record { actions = actions; horizon = horizon; lead = 0; nodes = 10 }

abbrev pub opens : Item → Mark
opens i = record { fresh = true; item = i }

abbrev pub joins : Item → Mark
joins i = record { fresh = false; item = i }

-- Action 0 lasts 2 ticks and needs fact 0 while it runs, which its start gives; action 1 deletes
-- it. Action 2 is as 0, but gives nothing. Actions 3 and 4 do nothing, and action 4 asks fact 1.
abbrev pub guarded : List Cond → Ground
guarded goal = problem (
    lasting 2 2 (Lit 0 true ∷ []) (Add 0 ∷ []) [] ∷ instant [] (Delete 0 ∷ [])
    ∷ lasting 2 2 (Lit 0 true ∷ []) [] []
    ∷ instant [] [] ∷ instant (Lit 1 true ∷ []) [] ∷ []
    ) [] [] [] goal

-- how far a word was read: fact 0 alone is true, action 0 may run, and so many timed items came
abbrev pub reading : List Item → Bool → ℕ → Progress
reading group running timed = record {
  before = sample None None;
  group = group;
  timed = timed;
  running = λ a. a == 0 && running;
}

-- action 0 lasts 2 or 3 ticks, action 1 is instant, and these are the timed items
abbrev pub timings : List TimedItem → Ground
timings timed = problem (lasting 2 3 [] [] [] ∷ instant [] [] ∷ []) timed [] [] []

abbrev pub at_five : List TimedItem
at_five = record { tick = 5; adds = 0 ∷ []; deletes = [] } ∷ []

-- group 0 and all later ones at two ticks, and what runs ends at a third
abbrev pub schedule : ℕ → ℕ → ℕ → Schedule
schedule first second end = record { tick = λ g. if g == 0 then first else second; end = λ a. end }

abbrev pub word_act : ℕ → ℕ → Option ℕ → Act
word_act action opens closes = record { action = action; opens = opens; closes = closes }

abbrev pub node : ℕ → List Mark → Option ℕ → Node
node id word taker = record { id = id; word = word; taker = taker }
