-- What the deeds of a run need, and what they do.
use Rattle.std.specs.Prelude.{◌≡◌, ℕ, false, List, [], ◌∷◌, ◌++◌, length, Option, Some, None, IsTrue, All}
use Rattle.tp_spec.specs.declared.event.Event.{Event}
use Rattle.tp_spec.specs.declared.event.Event.TheVariants.{Take, Expand}
use Rattle.tp_spec.specs.Machine.{Node, IsSettled, IsTaken, MayAct, SpellsNone, open_nodes, rank, state_of}
use Rattle.tp_spec.specs.Schedules.{Live}
use Rattle.tp_laws.specs.Clocks.{IsDeadline}
use Rattle.word_frontier.specs.declared.child.Child.{Child}
use Rattle.word_frontier.specs.Nodes.{NodeView, is_taken, live_at}
use Rattle.machine_run.specs.Children.{AreChildren, IsChild, marks_of}
use Rattle.machine_run.specs.Turns.{Settles, IsTurn, has_outcome}
use Rattle.machine_run.specs.Views.{RunView, state, word_in}

-- the same problem and limits
pub record SameTask (old new : RunView) : Type 0 where
  pub problem : new.problem ≡ old.problem
  pub limits : new.limits ≡ old.limits

-- no outcome stands, and the run is settled
pub record IsRested (r : RunView) : Type 0 where
  pub standing : has_outcome r.history ≡ false
  pub settled : IsSettled r.problem r.limits (state r)

-- Behind its Tick and settling a turn's actor may act, where no outcome stands. An outcome is that
-- no node was left.
pub record Begins (old new : RunView) (actor reading : ℕ) : Type 0 where
  pub turn : IsTurn old.history new.history actor reading None
  pub settled : IsSettled new.problem new.limits (state new)
  pub may : has_outcome new.history ≡ false → MayAct new.problem new.limits (state new) actor

-- this actor may act, and took a node of this id
pub record Holds (r : RunView) (actor id : ℕ) : Type 0 where
  pub may : MayAct r.problem r.limits (state r) actor
  pub taken : IsTrue (is_taken actor id r.frontier.nodes)

-- No possible plan has the word of this node, and among these are its children: those that are live
-- at the run's clock. (A word that may be a whole plan's may be dead by now: it is expanded too.)
-- The ranks and the deadlines of the others are told too.
pub record AreOffspring (r : RunView) (id : ℕ) (children : List Child) : Type 0 where
  pub incomplete : SpellsNone r.problem r.limits (state r) (word_in r id)
  pub exact : AreChildren r.problem r.limits (state r).now (state r).commits (word_in r id)
      (live_at (state r).now children)
  pub each : All (IsChild r.problem r.limits (state r).commits (word_in r id)) children

-- the node of this id was taken by this actor, and is as it is told; its word is live
pub record TookNode (r : RunView) (actor id : ℕ) (v : NodeView) : Type 0 where
  pub node : Node
  pub taken : IsTaken (state r) actor id node
  pub word : v.word ≡ node.word
  pub ranked : v.rank ≡ rank r.problem v.word
  pub timely : IsDeadline r.problem r.limits (state r).commits v.word v.deadline
  pub live : Live r.problem r.limits (state r).now (state r).commits v.word

-- settling and a Take as the last event
pub record EndsWithTake (old new : List Event) (actor id : ℕ) : Type 0 where
  pub middle : List Event
  pub settling : Settles old middle
  pub took : new ≡ middle ++ Take actor id ∷ []

-- nothing where no node is open, else the least open one was taken; no outcome came
pub record Takes (old new : RunView) (actor : ℕ) (id : ℕ) (v : NodeView) : Type 0 where
  pub events : EndsWithTake old.history new.history actor id
  pub node : TookNode new actor id v
  pub rested : IsRested new

pub record FindsNone (old new : RunView) : Type 0 where
  pub events : Settles old.history new.history
  pub none_open : open_nodes (state new).nodes ≡ []
  pub rested : IsRested new

abbrev pub GivesTake : RunView → RunView → ℕ → Option (ℕ × NodeView) → Type 0
GivesTake old new actor None = FindsNone old new
GivesTake old new actor (Some found) = Takes old new actor found.0 found.1

-- an Expand with the live ones of these children, and settling
pub record Expands (old new : RunView) (actor id : ℕ) (children : List Child) : Type 0 where
  pub middle : List Event
  pub deed : middle ≡ old.history
      ++ Expand actor id (marks_of (live_at (state old).now children)) ∷ []
  pub settling : Settles middle new.history
  pub settled : IsSettled new.problem new.limits (state new)

-- the history began with a settled run without an outcome, of so many events and commitments
pub record HasStart (r : RunView) (start held : ℕ) : Type 0 where
  pub front : List Event
  pub rest : List Event
  pub grown : r.history ≡ front ++ rest
  pub counted : length front ≡ start
  pub committed : length (state_of r.limits front).commits ≡ held
  pub standing : has_outcome front ≡ false
  pub settled : IsSettled r.problem r.limits (state_of r.limits front)
