-- Small problems and plans against which the definitions are checked.
use Rattle.std.specs.Prelude.{ℕ, ◌^◌, true, false, List, [], ◌∷◌, Some, ℤ, pos, codes}
use Rattle.tp_spec.specs.WellFormed.{Ground}
use Rattle.tp_spec.specs.declared.event.Event.{Event}
use Rattle.tp_spec.specs.declared.event.Event.TheVariants.{Tick, Take, Expand, Publish}
use Rattle.tp_spec.specs.declared.plan.Limits.{Limits}
use Rattle.tp_spec.specs.declared.plan.Mark.{Mark}
use Rattle.tp_spec.specs.declared.plan.Item.{Item}
use Rattle.tp_spec.specs.declared.plan.Item.TheVariants.{Start}
use Rattle.tp_spec.specs.declared.plan.Plan.{Plan}
use Rattle.tp_spec.specs.declared.plan.Timed.{Timed}
use Rattle.tp_spec.specs.declared.expr.Expr.TheVariants.{Number, Fluent}
use Rattle.tp_spec.specs.declared.problem.Action.{Action}
use Rattle.tp_spec.specs.declared.problem.Cond.{Cond}
use Rattle.tp_spec.specs.declared.problem.Cond.TheVariants.{Lit, Compare}
use Rattle.tp_spec.specs.declared.problem.Effect.{Effect}
use Rattle.tp_spec.specs.declared.problem.Effect.TheVariants.{Add, Delete, Change}
use Rattle.tp_spec.specs.declared.problem.How.TheVariants.{Increase}
use Rattle.tp_spec.specs.declared.problem.Kind.TheVariants.{Instant, Durative}
use Rattle.tp_spec.specs.declared.problem.Op.TheVariants.{MoreEq}

abbrev pub wide : Limits
wide = record { actions = 64; horizon = 2 ^ 40; lead = 0; nodes = 50000 }

abbrev pub truth : ℕ → Cond
truth f = Lit f true

abbrev pub instant : List ℕ → List Cond → List Effect → Action
instant name conds effects = record {
  name = name;
  kind = Instant;
  start_conds = conds;
  all_conds = [];
  end_conds = [];
  start_effects = effects;
  end_effects = [];
}

-- the goal p holds at the start
abbrev pub reached : Ground
reached = record {
  scale = 1;
  facts = codes "p" ∷ [];
  fluents = [];
  actions = [];
  timed = [];
  init = 0 ∷ [];
  values = [];
  goal = truth 0 ∷ [];
}

-- one button, which lights a lamp
abbrev pub lamp : Ground
lamp = record {
  scale = 1;
  facts = codes "lit" ∷ [];
  fluents = [];
  actions = instant (codes "press") [] (Add 0 ∷ []) ∷ [];
  timed = [];
  init = [];
  values = [];
  goal = truth 0 ∷ [];
}

-- a switch that is put on and off
abbrev pub switch : Ground
switch = record {
  scale = 1;
  facts = codes "on" ∷ [];
  fluents = [];
  actions = instant (codes "off") [] (Delete 0 ∷ []) ∷ instant (codes "on") [] (Add 0 ∷ []) ∷ [];
  timed = [];
  init = [];
  values = [];
  goal = truth 0 ∷ [];
}

-- an action of 4 ticks that needs one fact while it runs, gives another at its start, and reaches a
-- goal at its end
abbrev pub supported : List ℕ → ℕ → ℕ → ℕ → Action
supported name needs gives reaches = record {
  name = name;
  kind = Durative 4 4;
  start_conds = [];
  all_conds = truth needs ∷ [];
  end_conds = [];
  start_effects = Add gives ∷ [];
  end_effects = Add reaches ∷ [];
}

-- two actions, each of which gives the other's invariant
abbrev pub arch : Ground
arch = record {
  scale = 1;
  facts = codes "done l" ∷ codes "done r" ∷ codes "l" ∷ codes "r" ∷ [];
  fluents = [];
  actions = supported (codes "left") 3 2 0 ∷ supported (codes "right") 2 3 1 ∷ [];
  timed = [];
  init = [];
  values = [];
  goal = truth 0 ∷ truth 1 ∷ [];
}

-- a drive of 5 ticks from a to b, past a gate that closes at a tick; the gate is asked while it
-- runs, or at its end
abbrev pub gated : List Cond → List Cond → ℕ → Ground
gated throughout last closing = record {
  scale = 1;
  facts = codes "at a" ∷ codes "at b" ∷ codes "open" ∷ [];
  fluents = [];
  actions = record {
    name = codes "go a b";
    kind = Durative 5 5;
    start_conds = truth 0 ∷ [];
    all_conds = throughout;
    end_conds = last;
    start_effects = Delete 0 ∷ [];
    end_effects = Add 1 ∷ [];
  } ∷ [];
  timed = record { tick = closing; adds = []; deletes = 2 ∷ [] } ∷ [];
  init = 0 ∷ 2 ∷ [];
  values = [];
  goal = truth 1 ∷ [];
}

-- a pump that raises a level by 1
abbrev pub tank : ℤ → Ground
tank level = record {
  scale = 1;
  facts = [];
  fluents = codes "level" ∷ [];
  actions = record {
    name = codes "pump";
    kind = Durative 2 2;
    start_conds = [];
    all_conds = [];
    end_conds = [];
    start_effects = [];
    end_effects = Change Increase 0 (Number (pos 1)) ∷ [];
  } ∷ [];
  timed = [];
  init = [];
  values = Some level ∷ [];
  goal = Compare MoreEq (Fluent 0) (Number (pos 2)) ∷ [];
}

abbrev pub act : ℕ → ℕ → ℕ → Timed
act action start length = record { action = action; start = start; length = length }

abbrev pub plan : List Timed → ℕ → Plan
plan acts end = record { acts = acts; end = end }

abbrev pub opens : Item → Mark
opens i = record { fresh = true; item = i }

abbrev pub joins : Item → Mark
joins i = record { fresh = false; item = i }

-- the search for a plan of the lamp: the root is expanded by its one mark, and the child is
-- published
abbrev pub pressed : List Event
pressed =
    Tick 1 0 ∷ Take 1 0 ∷ Tick 1 0 ∷ Expand 1 0 (opens (Start 0) ∷ [])
    ∷ Tick 1 0 ∷ Take 1 1 ∷ Tick 1 0 ∷ Publish 1 1 (plan (act 0 0 0 ∷ []) 0) ∷ []
