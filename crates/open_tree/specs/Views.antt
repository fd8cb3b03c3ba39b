-- What contracts see of a job, sprouts and a tree.
use Rattle.std.specs.Prelude.{ℕ, Bool, List}
use Rattle.tp_spec.specs.declared.event.Event.{Event}
use Rattle.tp_spec.specs.declared.plan.Limits.{Limits}
use Rattle.tp_spec.specs.declared.plan.Timed.{Timed}
use Rattle.tp_spec.specs.declared.problem.Problem.{Problem}
use Rattle.word_frontier.specs.declared.child.Child.{Child}
use Rattle.word_frontier.specs.Nodes.{NodeView}

-- a job: the node that was taken, and the view under which it was
pub record JobView : Type 0 where
  pub problem : Problem
  pub limits : Limits
  pub id : ℕ
  pub node : NodeView
  pub clock : ℕ
  pub commits : List Timed

-- a job, the children of its word, and whether the word may be a whole plan's
pub record SproutsView : Type 0 where
  pub job : JobView
  pub children : List Child
  pub whole : Bool

-- a tree: its problem and limits, its clock now and as it was at the start, and its history
pub record TreeView (C : Type 0) : Type 0 where
  pub problem : Problem
  pub limits : Limits
  pub clock : C
  pub opened : C
  pub history : List Event
