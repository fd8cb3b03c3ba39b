-- The machine that a replay keeps as it goes.
use Rattle.std.specs.Prelude.{◌≡◌, ◌<◌, ℕ, Bool, List, Option, Some, None, map, length}
use Rattle.tp_spec.specs.declared.plan.Limits.{Limits}
use Rattle.tp_spec.specs.declared.plan.Timed.{Timed}
use Rattle.tp_spec.specs.declared.problem.Problem.{Problem}
use Rattle.tp_spec.specs.Machine.{Machine, Turn}
use Rattle.tp_spec.specs.WellFormed.{IsWellFormed}
use Rattle.word_frontier.specs.Nodes.{FrontierView}
use Rattle.word_network.specs.Conditions.{AreLimits}
use Rattle.machine_run.specs.Frontiers.{IsFrontierOf, plain_node}
use Rattle.situated_machine.specs.Laws.{IsOrderly}

-- what contracts see of it: its problem and limits, and its state
pub record ReplayView : Type 0 where
  pub problem : Problem
  pub limits : Limits
  pub machine : Machine

-- what it is made of
pub record ReplayParts : Type 0 where
  pub problem : Problem
  pub walked : Problem
  pub limits : Limits
  pub frontier : FrontierView
  pub commits : List Timed
  pub clock : ℕ
  pub actor : Option ℕ
  pub acted : Bool
  pub over : Bool

-- the turn of this actor, if there is one
abbrev pub turn_of : Option ℕ → Bool → Option Turn
turn_of None acted = None
turn_of (Some a) acted = Some (record { actor = a; acted = acted })

abbrev pub machine_of : ReplayParts → Machine
machine_of t = record {
  now = t.clock;
  commits = t.commits;
  nodes = map plain_node t.frontier.nodes;
  made = t.frontier.made;
  turn = turn_of t.actor t.acted;
  over = t.over;
}

abbrev pub view_of : ReplayParts → ReplayView
view_of t = record { problem = t.problem; limits = t.limits; machine = machine_of t }

-- The problem is well formed and the limits are in range; the nodes have their ranks, and deadlines
-- under as many commitments as is told; the state is one to which a history leads that breaks no
-- rule.
pub record IsKept (t : ReplayParts) : Type 0 where
  pub formed : IsWellFormed t.problem
  pub walks : t.walked ≡ t.problem
  pub limited : AreLimits t.limits
  pub queued : length t.problem.goal < t.frontier.ranks
  pub frontier : IsFrontierOf t.problem t.limits t.frontier (machine_of t)
  pub orderly : IsOrderly t.problem t.limits (machine_of t)

-- the same problem, limits and state
abbrev pub SameMachine : ReplayView → ReplayView → Type 0
SameMachine old new = new ≡ old
