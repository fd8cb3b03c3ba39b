-- The frontier that is kept, and the machine's.
use Rattle.std.specs.Prelude.{◌≡◌, ◌<◌, ◌≤◌, length, map, take, false}
use Rattle.tp_spec.specs.declared.plan.Limits.{Limits}
use Rattle.tp_spec.specs.declared.plan.Plan.{Plan}
use Rattle.tp_spec.specs.declared.problem.Problem.{Problem}
use Rattle.tp_spec.specs.Courses.{Possible}
use Rattle.tp_spec.specs.Lists.{IsIn}
use Rattle.tp_spec.specs.Machine.{Machine, Node, IsCovered, IsRun, rank}
use Rattle.tp_spec.specs.WellFormed.{IsWellFormed}
use Rattle.tp_laws.specs.Clocks.{IsDeadline}
use Rattle.word_frontier.specs.Nodes.{RankedNode, FrontierView}
use Rattle.word_network.specs.Conditions.{AreLimits}
use Rattle.machine_run.specs.Turns.{has_outcome}
use Rattle.machine_run.specs.Views.{RunView, state}

-- a node of the frontier as the machine has it, without its rank and deadline
abbrev pub plain_node : RankedNode → Node
plain_node n = record { id = n.id; word = n.word; taker = n.taker }

-- The nodes and the number of ids are the machine's; each kept rank is the rank of the word, and
-- each kept deadline is the word's under the first so many of the machine's commitments as it was
-- found under.
pub record IsFrontierOf (p : Problem) (l : Limits) (f : FrontierView) (m : Machine)
    : Type 0 where
  pub nodes : map plain_node f.nodes ≡ m.nodes
  pub made : f.made ≡ m.made
  pub ranked : (n : RankedNode) → IsIn n f.nodes → n.rank ≡ rank p n.word
  pub known : (n : RankedNode) → IsIn n f.nodes → n.known ≤ length m.commits
  pub timely : (n : RankedNode) → IsIn n f.nodes
      → IsDeadline p l (take n.known m.commits) n.word n.deadline

-- The problem is well formed and the limits are in range; the history is a run; there is a queue
-- for each rank; and while no outcome stands the frontier is that of the state to which the history
-- leads.
pub record Stands (r : RunView) : Type 0 where
  pub formed : IsWellFormed r.problem
  pub limited : AreLimits r.limits
  pub run : IsRun r.problem r.limits r.history
  pub queued : length r.problem.goal < r.frontier.ranks
  pub frontier : has_outcome r.history ≡ false
      → IsFrontierOf r.problem r.limits r.frontier (state r)

-- each plan that is still possible begins with the word of a node
abbrev pub CoversAll : Problem → Limits → Machine → Type 0
CoversAll p l m = (plan : Plan) → Possible p l m.now m.commits plan → IsCovered p m plan
