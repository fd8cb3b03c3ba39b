-- What contracts see of a run of the machine.
use Rattle.std.specs.Prelude.{ℕ, List}
use Rattle.tp_spec.specs.declared.event.Event.{Event}
use Rattle.tp_spec.specs.declared.plan.Limits.{Limits}
use Rattle.tp_spec.specs.declared.plan.Mark.{Mark}
use Rattle.tp_spec.specs.declared.problem.Problem.{Problem}
use Rattle.tp_spec.specs.Machine.{Machine, state_of}
use Rattle.word_frontier.specs.Nodes.{FrontierView, word_at}

-- its problem and limits, its history, and the frontier as it is kept
pub record RunView : Type 0 where
  pub problem : Problem
  pub limits : Limits
  pub history : List Event
  pub frontier : FrontierView

-- the state to which its history leads
abbrev pub state : RunView → Machine
state r = state_of r.limits r.history

-- the word of a node that stands
abbrev pub word_in : RunView → ℕ → List Mark
word_in r id = word_at id r.frontier.nodes
