-- What each rule asks of an event in a state of the machine, by the definitions of the machine.
use Rattle.std.specs.Prelude.{◌≡◌, ℕ, ◌+◌, ◌<◌, ◌≤◌, Bool, false, ◌==◌, List, [], length, Some, IsTrue, IsSome}
use Rattle.std.specs.List.{list_any, filter}
use Rattle.tp_spec.specs.declared.event.Event.{Event}
use Rattle.tp_spec.specs.declared.event.Event.TheVariants.{Tick, Drop, Dispatch, Take, Expand, Publish, Limit, Exhaust, Halt}
use Rattle.tp_spec.specs.declared.plan.Limits.{Limits}
use Rattle.tp_spec.specs.declared.plan.Mark.{Mark}
use Rattle.tp_spec.specs.declared.plan.Plan.{Plan}
use Rattle.tp_spec.specs.declared.problem.Problem.{Problem}
use Rattle.tp_spec.specs.Lists.{some_and}
use Rattle.tp_spec.specs.Courses.{Possible}
use Rattle.tp_spec.specs.Machine.{Machine, Node, IsBest, IsDue, IsSettled, AreLiveMarks, SpellsNone, open_nodes, word_of}
use Rattle.tp_spec.specs.Schedules.{Schedule, IsLeast, Live, plan_of}
use Rattle.tp_spec.specs.Words.{spell}
use Rattle.situated_machine.specs.declared.replayed.Rule.{Rule}
use Rattle.situated_machine.specs.declared.replayed.Rule.TheVariants as rules

-- it is an actor's turn, and no deed was made in it
abbrev pub MayMakeDeed : Machine → ℕ → Type 0
MayMakeDeed m actor = m.turn ≡ Some (record { actor = actor; acted = false })

-- what settles needs a turn, a deed its actor's turn without a deed so far
abbrev pub HasTurn : Machine → Event → Type 0
HasTurn m (Tick actor reading) = Unit {0}
HasTurn m (Drop id) = IsSome m.turn
HasTurn m (Dispatch act) = IsSome m.turn
HasTurn m (Take actor id) = MayMakeDeed m actor
HasTurn m (Expand actor id marks) = MayMakeDeed m actor
HasTurn m (Publish actor id plan) = MayMakeDeed m actor
HasTurn m (Limit actor id made marks) = MayMakeDeed m actor
HasTurn m Exhaust = IsSome m.turn
HasTurn m (Halt cause) = Unit {0}

-- whether one of these nodes has this id
abbrev pub has_id : ℕ → List Node → Bool
has_id id nodes = list_any (λ n. n.id == id) nodes

abbrev pub is_taken_by : ℕ → Node → Bool
is_taken_by actor n = some_and n.taker (λ a. a == actor)

-- the nodes that an actor took
abbrev pub taken_nodes : ℕ → List Node → List Node
taken_nodes actor nodes = filter (is_taken_by actor) nodes

-- a Drop is of a node that stands, a Take of an open one, the other deeds of one that the actor
-- took
abbrev pub HasNode : Machine → Event → Type 0
HasNode m (Tick actor reading) = Unit {0}
HasNode m (Drop id) = IsTrue (has_id id m.nodes)
HasNode m (Dispatch act) = Unit {0}
HasNode m (Take actor id) = IsTrue (has_id id (open_nodes m.nodes))
HasNode m (Expand actor id marks) = IsTrue (has_id id (taken_nodes actor m.nodes))
HasNode m (Publish actor id plan) = IsTrue (has_id id (taken_nodes actor m.nodes))
HasNode m (Limit actor id made marks) = IsTrue (has_id id (taken_nodes actor m.nodes))
HasNode m Exhaust = Unit {0}
HasNode m (Halt cause) = Unit {0}

-- an id is that of the best of these nodes
pub record IsOfBest (p : Problem) (nodes : List Node) (id : ℕ) : Type 0 where
  pub node : Node
  pub best : IsBest p nodes node
  pub named : node.id ≡ id

abbrev pub TakesLeast : Problem → Machine → Event → Type 0
TakesLeast p m (Take actor id) = IsOfBest p (open_nodes m.nodes) id
TakesLeast p m other = Unit {0}

abbrev pub TakesLive : Problem → Limits → Machine → Event → Type 0
TakesLive p l m (Take actor id) = Live p l m.now m.commits (word_of id m.nodes)
TakesLive p l m other = Unit {0}

-- no possible plan has the word of what is expanded, and its marks are the live ones
abbrev pub HasMarks : Problem → Limits → Machine → Event → Type 0
HasMarks p l m (Expand actor id marks) =
    SpellsNone p l m (word_of id m.nodes) × AreLiveMarks p l m (word_of id m.nodes) marks
HasMarks p l m (Limit actor id made marks) = SpellsNone p l m (word_of id m.nodes)
HasMarks p l m other = Unit {0}

abbrev pub CommitsDue : Problem → Limits → Machine → Event → Type 0
CommitsDue p l m (Dispatch act) = IsDue p l m act
CommitsDue p l m other = Unit {0}

-- a possible plan that has this word and the times of its least schedule
pub record IsPlanOf (p : Problem) (l : Limits) (m : Machine) (w : List Mark) (plan : Plan) : Type 0
  where
    pub possible : Possible p l m.now m.commits plan
    pub spells : spell p plan ≡ w
    pub schedule : Schedule
    pub least : IsLeast p l m.now m.commits w schedule
    pub is : plan ≡ plan_of p w schedule

abbrev pub HasPlan : Problem → Limits → Machine → Event → Type 0
HasPlan p l m (Publish actor id plan) = IsPlanOf p l m (word_of id m.nodes) plan
HasPlan p l m other = Unit {0}

-- so many ids were given, so many marks make a word live, and there are no ids for all of them
pub record IsFull (p : Problem) (l : Limits) (m : Machine) (w : List Mark) (made marks : ℕ) : Type 0
  where
    pub live_marks : List Mark
    pub exact : AreLiveMarks p l m w live_marks
    pub counted : marks ≡ length live_marks
    pub given : made ≡ m.made
    pub full : l.nodes < made + marks

abbrev pub HasNumber : Problem → Limits → Machine → Event → Type 0
HasNumber p l m (Expand actor id marks) = m.made + length marks ≤ l.nodes
HasNumber p l m (Limit actor id made marks) = IsFull p l m (word_of id m.nodes) made marks
HasNumber p l m other = Unit {0}

-- a turn, a deed and a Halt begin where the machine is settled, an Exhaust where no node is left
abbrev pub IsInTime : Problem → Limits → Machine → Event → Type 0
IsInTime p l m (Tick actor reading) = IsSettled p l m
IsInTime p l m (Drop id) = Unit {0}
IsInTime p l m (Dispatch act) = Unit {0}
IsInTime p l m (Take actor id) = IsSettled p l m
IsInTime p l m (Expand actor id marks) = IsSettled p l m
IsInTime p l m (Publish actor id plan) = IsSettled p l m
IsInTime p l m (Limit actor id made marks) = IsSettled p l m
IsInTime p l m Exhaust = m.nodes ≡ []
IsInTime p l m (Halt cause) = IsSettled p l m

-- What a rule asks of an event in a state of the machine. This project's own.
abbrev pub Keeps : Problem → Limits → Machine → Event → Rule → Type 0
Keeps p l m e rules.Outcome = m.over ≡ false
Keeps p l m e rules.Turn = HasTurn m e
Keeps p l m e rules.Id = HasNode m e
Keeps p l m e rules.Least = TakesLeast p m e
Keeps p l m e rules.Live = TakesLive p l m e
Keeps p l m e rules.Marks = HasMarks p l m e
Keeps p l m e rules.Commit = CommitsDue p l m e
Keeps p l m e rules.Plan = HasPlan p l m e
Keeps p l m e rules.Number = HasNumber p l m e
Keeps p l m e rules.Early = IsInTime p l m e

-- the place of a rule in the order in which rules are judged
abbrev pub place : Rule → ℕ
place rules.Outcome = 0
place rules.Turn = 1
place rules.Id = 2
place rules.Least = 3
place rules.Live = 4
place rules.Marks = 5
place rules.Commit = 6
place rules.Plan = 7
place rules.Number = 8
place rules.Early = 9

-- an event breaks no rule
abbrev pub KeepsAll : Problem → Limits → Machine → Event → Type 0
KeepsAll p l m e = (r : Rule) → Keeps p l m e r

-- The first rule that an event breaks in a state of the machine.
pub record BreaksFirst (p : Problem) (l : Limits) (m : Machine) (e : Event) (rule : Rule) : Type 0
  where
    pub before : (r : Rule) → place r < place rule → Keeps p l m e r
    pub broken : ¬ (Keeps p l m e rule)
