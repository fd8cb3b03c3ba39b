-- How a turn settles, step by step.
use Rattle.std.specs.Prelude.{◌≡◌, ◌<◌, ◌≤◌, ℕ, ◌+◌, ◌-◌, Bool, true, false, List, [], length, Option, Some, None}
use Rattle.tp_spec.specs.Lists.{IsIn}
use Rattle.tp_spec.specs.Machine.{IsSettled}
use Rattle.tp_spec.specs.Machine as machine
use Rattle.tp_spec.specs.Schedules.{Live}
use Rattle.tp_laws.specs.Clocks.{IsDeadline}
use Rattle.word_frontier.specs.declared.frontier.Standing.{Standing}
use Rattle.word_frontier.specs.Nodes.{RankedNode, IsLeast, Tells, open_nodes}
use Rattle.machine_run.specs.Deeds.{SameTask}
use Rattle.machine_run.specs.Turns.{Settles, has_outcome}
use Rattle.machine_run.specs.Views.{RunView, state}

-- the same run, and its history grew by settling alone
pub record SettlesOn (old new : RunView) : Type 0 where
  pub task : SameTask old new
  pub events : Settles old.history new.history

-- how often a run may still drop a node or commit an act while it settles
abbrev pub unsettled : RunView → ℕ
unsettled r = length r.frontier.nodes + (r.limits.actions - length (state r).commits)

-- no outcome came, and a node left or an act was committed
pub record LeavesOne (old new : RunView) : Type 0 where
  pub standing : has_outcome new.history ≡ false
  pub fewer : unsettled new < unsettled old

-- a step of settling after which there may be more, or with which it is done
abbrev pub StepsOn : RunView → RunView → Bool → Type 0
StepsOn old new true = LeavesOne old new
StepsOn old new false = IsSettled new.problem new.limits (state new)

-- the least node of some has this id
pub record LeastIs (nodes : List RankedNode) (id : ℕ) : Type 0 where
  pub node : RankedNode
  pub least : IsLeast nodes node
  pub id_is : node.id ≡ id

-- a node of the frontier is as it is told
pub record IsToldOf (r : RunView) (found : Standing) : Type 0 where
  pub node : RankedNode
  pub there : IsIn node r.frontier.nodes
  pub tells : Tells found node

-- the same run and the same nodes; only their deadlines may be other ones
pub record Renews (old new : RunView) : Type 0 where
  pub task : SameTask old new
  pub history : new.history ≡ old.history
  pub count : length new.frontier.nodes ≡ length old.frontier.nodes
  pub best : (id : ℕ) → LeastIs old.frontier.nodes id → LeastIs new.frontier.nodes id
  pub least_open : (id : ℕ) → LeastIs (open_nodes old.frontier.nodes) id
      → LeastIs (open_nodes new.frontier.nodes) id

-- the deadline of the word of the node of this id, under all commitments
abbrev pub IsDeadlineIn : RunView → ℕ → ℕ → Type 0
IsDeadlineIn r id deadline = (n : RankedNode) → IsIn n r.frontier.nodes → n.id ≡ id
    → IsDeadline r.problem r.limits (state r).commits n.word deadline

-- the word of the node of this id is dead at the run's clock
abbrev pub IsDead : RunView → ℕ → Type 0
IsDead r id = (n : RankedNode) → IsIn n r.frontier.nodes → n.id ≡ id
    → ¬ (Live r.problem r.limits (state r).now (state r).commits n.word)

-- what is kept of a node is this deadline, which was found under all commitments
pub record IsCurrent (r : RunView) (deadline : ℕ) (n : RankedNode) : Type 0 where
  pub known : n.known ≡ length (state r).commits
  pub deadline_is : n.deadline ≡ deadline

-- so it is of the node of this id
abbrev pub KeepsDeadline : RunView → ℕ → ℕ → Type 0
KeepsDeadline r id deadline = (n : RankedNode) → IsIn n r.frontier.nodes → n.id ≡ id
    → IsCurrent r deadline n

-- .. and the deadline has not passed
pub record IsLiveUntil (r : RunView) (id deadline : ℕ) : Type 0 where
  pub kept : KeepsDeadline r id deadline
  pub early : (state r).now ≤ deadline

-- the least open node, if one is open; its deadline under all commitments has not passed
abbrev pub FindsOpen : RunView → Option ℕ → Type 0
FindsOpen r None = machine.open_nodes (state r).nodes ≡ []
FindsOpen r (Some id) =
    LeastIs (open_nodes r.frontier.nodes) id × ((deadline : ℕ) × IsLiveUntil r id deadline)
