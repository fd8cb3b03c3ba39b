-- A search by one worker, actor 1: it takes a node and merges it, again and again.
use Rattle.std.specs.Prelude.{◌≡◌, ◌⊎◌, ◌<◌, ℕ, suc, ◌+◌, ◌-◌, max, Bool, true, false, ◌||◌, ◌==◌, ◌≤◌, List, length, Some, None, Result, Ok, Err, IsTrue}
use Rattle.std.specs.List.{list_all}
use Rattle.tp_spec.specs.declared.event.Event.{Event}
use Rattle.tp_spec.specs.declared.event.Event.TheVariants.{Tick}
use Rattle.tp_spec.specs.declared.plan.Limits.{Limits}
use Rattle.tp_spec.specs.declared.problem.Problem.{Problem}
use Rattle.tp_spec.specs.Following.{IsBusy, last_take}
use Rattle.tp_spec.specs.Machine.{Machine, Node, IsWholeRun, is_open, state_of, without}
use Rattle.tp_spec.specs.Schedules.{Live}
use Rattle.tp_spec.specs.WellFormed.{IsWellFormed}
use Rattle.tp_laws.specs.Clocks.{IsDeadline}
use Rattle.machine_run.specs.Turns.{has_outcome}
use Rattle.open_tree.specs.Charter.{SameCharter}
use Rattle.open_tree.specs.Jobs.{IsJobOf}
use Rattle.open_tree.specs.declared.job.Merged.{Merged}
use Rattle.open_tree.specs.declared.job.Merged.TheVariants as merged
use Rattle.open_tree.specs.Views.{JobView, TreeView}
use Rattle.tp_world.specs.declared.sink.SendFault.{SendFault}
use Rattle.word_network.specs.Conditions.{AreLimits}
use Rattle.serial_runs.specs.Endings.{Ends, HasResult}

abbrev pub is_open_or : ℕ → Node → Bool
is_open_or id n = is_open n || n.id == id

-- whether an event begins no turn of another actor than this one
abbrev pub is_turn_of : ℕ → Event → Bool
is_turn_of actor (Tick other reading) = other == actor
is_turn_of actor _ = true

-- A history is busy for one worker, and each of its turns is that worker's, actor 1.
pub record IsWorked (l : Limits) (history : List Event) : Type 0 where
  pub busy : IsBusy l 1 history
  pub own : IsTrue (list_all (is_turn_of 1) history)

-- between a merge and the next take: nothing is taken
pub record IsRested (l : Limits) (history : List Event) : Type 0 where
  pub busy : IsWorked l history
  pub free : last_take 1 history ≡ None
  pub all_open : IsTrue (list_all is_open (state_of l history).nodes)

-- between a take and its merge: no other node is taken
pub record HasTaken (l : Limits) (history : List Event) (id : ℕ) : Type 0 where
  pub busy : IsWorked l history
  pub took : last_take 1 history ≡ Some id
  pub rest_open : IsTrue (list_all (is_open_or id) (state_of l history).nodes)

-- how many nodes more could be expanded at most
abbrev pub left_of : Limits → Machine → ℕ
left_of l m = (suc (max 1 l.nodes) + length m.nodes) - m.made

-- the same where the node of an id is held: it counts whether it stands or was dropped
abbrev pub left_beside : ℕ → Limits → Machine → ℕ
left_beside id l m = (suc (max 1 l.nodes) + suc (length (without id m.nodes))) - m.made

-- the problem is well formed, and the limits are in range
pub record IsBounded (p : Problem) (l : Limits) : Type 0 where
  pub formed : IsWellFormed p
  pub limited : AreLimits l

-- the search goes on, and nothing is taken
pub record IsSearching (p : Problem) (l : Limits) (history : List Event) : Type 0 where
  pub bounded : IsBounded p l
  pub rested : IsRested l history
  pub whole : IsWholeRun p l history
  pub standing : has_outcome history ≡ false

-- A job of this problem and these limits, whose node an actor of this history took. Its word was
-- live then, and its deadline is the word's.
pub record HasJob (p : Problem) (l : Limits) (history : List Event) (actor : ℕ) (j : JobView) :
    Type 0 where
  pub job : IsJobOf l history actor j
  pub problem : j.problem ≡ p
  pub limits : j.limits ≡ l
  pub live : Live p l j.clock j.commits j.node.word
  pub timely : IsDeadline p l j.commits j.node.word j.node.deadline

-- the search goes on, and the node of this job is taken, or was and is dropped
pub record IsHolding (p : Problem) (l : Limits) (history : List Event) (j : JobView) : Type 0 where
  pub bounded : IsBounded p l
  pub taken : HasTaken l history j.id
  pub whole : IsWholeRun p l history
  pub standing : has_outcome history ≡ false
  pub held : HasJob p l history 1 j

-- the search goes on in a tree of this problem that began as another one
pub record IsGoing {C : Type 0} (p : Problem) (began now : TreeView C) : Type 0 where
  pub charter : SameCharter began now
  pub problem : now.problem ≡ p
  pub searching : IsSearching p now.limits now.history

-- a turn took a node, and no more is left than was
pub record TakesOn (p : Problem) (l : Limits) (old new : List Event) (j : JobView) : Type 0 where
  pub holding : IsHolding p l new j
  pub less : left_beside j.id l (state_of l new) ≤ left_of l (state_of l old)

-- from a take of this id to the next
pub record GoesOn (p : Problem) (l : Limits) (id : ℕ) (old new : List Event) : Type 0 where
  pub searching : IsSearching p l new
  pub less : left_of l (state_of l new) < left_beside id l (state_of l old)

-- An outcome stands, and the history ends as the answer says. Where it ends with a result, it is
-- busy, and the worker's alone.
pub record HasSearched (l : Limits) (history : List Event) (answer : Result Unit SendFault) :
    Type 0 where
  pub outcome : has_outcome history ≡ true
  pub ends : Ends history answer
  pub busy : HasResult history → IsWorked l history

-- whether a search goes on behind a merge with this answer
abbrev pub goes_on : {E : Type 0} → Result Merged E → Bool
goes_on (Ok merged.Done) = true
goes_on (Ok merged.Stale) = true
goes_on (Ok merged.Over) = false
goes_on (Err x) = false
