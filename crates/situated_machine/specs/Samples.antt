-- A drive, the runs of its search, and machines in the midst of one, against which the rules are
-- checked.
use Rattle.std.specs.Prelude.{ℕ, ◌+◌, false, List, [], ◌∷◌, ◌++◌, Option, Some, codes}
use Rattle.tp_spec.specs.declared.event.Event.{Event}
use Rattle.tp_spec.specs.declared.event.Event.TheVariants.{Tick, Take, Expand, Publish}
use Rattle.tp_spec.specs.declared.plan.Item.TheVariants.{End, Start}
use Rattle.tp_spec.specs.declared.plan.Limits.{Limits}
use Rattle.tp_spec.specs.declared.plan.Mark.{Mark}
use Rattle.tp_spec.specs.declared.plan.Plan.{Plan}
use Rattle.tp_spec.specs.declared.problem.Effect.TheVariants.{Add, Delete}
use Rattle.tp_spec.specs.declared.problem.Kind.TheVariants.{Durative}
use Rattle.tp_spec.specs.Machine.{Machine, Node}
use Rattle.tp_spec.specs.WellFormed.{Ground}
use Rattle.tp_laws.specs.Examples.{act, plan, truth, opens}

-- a drive of 5 ticks from a to b
abbrev pub drive : Ground
drive = record {
  scale = 1;
  facts = codes "at a" ∷ codes "at b" ∷ [];
  fluents = [];
  actions = record {
    name = codes "go a b";
    kind = Durative 5 5;
    start_conds = truth 0 ∷ [];
    all_conds = [];
    end_conds = [];
    start_effects = Delete 0 ∷ [];
    end_effects = Add 1 ∷ [];
  } ∷ [];
  timed = [];
  init = 0 ∷ [];
  values = [];
  goal = truth 1 ∷ [];
}

-- Plans end by tick 20, so the drive starts by 15; acts are committed 3 ticks ahead.
abbrev pub narrow : Limits
narrow = record { actions = 2; horizon = 20; lead = 3; nodes = 10 }

-- the words of one that drives, and of one that has arrived
abbrev pub driving : List Mark
driving = opens (Start 0) ∷ []

abbrev pub arrived : List Mark
arrived = opens (Start 0) ∷ opens (End 0) ∷ []

-- the root is taken and expanded
abbrev pub expands_root : List Event
expands_root = Tick 1 0 ∷ Take 1 0 ∷ Tick 1 0 ∷ Expand 1 0 driving ∷ []

-- its child too, and the child of that is taken
abbrev pub takes_arrived : List Event
takes_arrived = Tick 1 0 ∷ Take 1 1 ∷ Tick 1 0 ∷ Expand 1 1 (opens (End 0) ∷ []) ∷ Tick 1 0
    ∷ Take 1 2 ∷ Tick 1 0 ∷ []

-- a plan that drives at this tick
abbrev pub drives_at : ℕ → Plan
drives_at start = plan (act 0 start 5 ∷ []) (start + 5)

-- the whole search for a plan of the drive
abbrev pub drive_run : List Event
drive_run = expands_root ++ takes_arrived ++ Publish 1 2 (drives_at 0) ∷ []

abbrev pub node : ℕ → List Mark → Option ℕ → Node
node id word taker = record { id = id; word = word; taker = taker }

-- a machine in a turn of actor 1 that had no deed, with nothing committed
abbrev pub amid : ℕ → List Node → ℕ → Machine
amid now nodes made = record {
  now = now;
  commits = [];
  nodes = nodes;
  made = made;
  turn = Some (record { actor = 1; acted = false });
  over = false;
}
