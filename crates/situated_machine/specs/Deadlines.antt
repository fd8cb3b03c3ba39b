-- Deadlines of nodes by their ids, and the best of some nodes.
use Rattle.std.specs.Prelude.{◌≡◌, ◌≤◌, ℕ, List, [], length, Option, Some, None, IsTrue}
use Rattle.tp_spec.specs.declared.plan.Mark.{Mark}
use Rattle.tp_spec.specs.Machine.{Node, word_of}
use Rattle.tp_spec.specs.Schedules.{Live}
use Rattle.tp_laws.specs.Clocks.{IsDeadline}
use Rattle.word_frontier.specs.declared.frontier.Standing.{Standing}
use Rattle.situated_machine.specs.Keeping.{ReplayView}
use Rattle.situated_machine.specs.Rules.{IsOfBest, has_id}

-- the word of the node of this id
abbrev pub word_in : ReplayView → ℕ → List Mark
word_in r id = word_of id r.machine.nodes

-- the deadline of this word, under all commitments
abbrev pub IsDeadlineIn : ReplayView → ℕ → ℕ → Type 0
IsDeadlineIn r id deadline =
    IsDeadline r.problem r.limits r.machine.commits (word_in r id) deadline

-- this word is live at the machine's clock
abbrev pub IsLiveIn : ReplayView → ℕ → Type 0
IsLiveIn r id = Live r.problem r.limits r.machine.now r.machine.commits (word_in r id)

-- its deadline is this one, and has not passed
pub record IsLiveUntil (r : ReplayView) (id deadline : ℕ) : Type 0 where
  pub timely : IsDeadlineIn r id deadline
  pub early : r.machine.now ≤ deadline

-- A node of this id stands; if the deadline that is told was found under all commitments, it is the
-- deadline of the node's word.
pub record IsToldOf (r : ReplayView) (found : Standing) : Type 0 where
  pub there : IsTrue (has_id found.id r.machine.nodes)
  pub timely : found.known ≡ length r.machine.commits → IsDeadlineIn r found.id found.deadline

-- what is told is of the best of these nodes
pub record TellsBest (r : ReplayView) (nodes : List Node) (found : Standing) : Type 0 where
  pub best : IsOfBest r.problem nodes found.id
  pub told : IsToldOf r found

-- nothing where there is no node, else what is told of the best one
abbrev pub FindsBest : ReplayView → List Node → Option Standing → Type 0
FindsBest r nodes None = nodes ≡ []
FindsBest r nodes (Some found) = TellsBest r nodes found
