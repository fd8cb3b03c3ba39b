-- The situated machine: its states, which events are legal, and runs.
use Rattle.std.specs.Prelude.{◌≡◌, ◌⊎◌, ℕ, suc, ◌+◌, ◌<◌, ◌≤◌, min, max, Bool, true, false, not, ◌&&◌, ◌||◌, ◌==◌, nat_le, nat_lt, List, [], ◌∷◌, ◌++◌, length, map, Option, Some, None, IsTrue, IsSome, count_by, if◌then◌else◌, is_some}
use Rattle.std.specs.List.{list_all, filter, flat_map}
use Rattle.tp_spec.specs.declared.event.Event.{Event}
use Rattle.tp_spec.specs.declared.event.Event.TheVariants.{Tick, Drop, Dispatch, Take, Expand, Publish, Limit, Exhaust, Halt}
use Rattle.tp_spec.specs.declared.plan.Limits.{Limits}
use Rattle.tp_spec.specs.declared.plan.Mark.{Mark}
use Rattle.tp_spec.specs.declared.plan.Plan.{Plan}
use Rattle.tp_spec.specs.declared.plan.Timed.{Timed}
use Rattle.tp_spec.specs.declared.problem.Problem.{Problem}
use Rattle.tp_spec.specs.Lists.{IsIn, BeginsWith, each_next}
use Rattle.tp_spec.specs.States.{holds}
use Rattle.tp_spec.specs.Items.{item_before, has_after}
use Rattle.tp_spec.specs.Courses.{Possible}
use Rattle.tp_spec.specs.Words.{spell, progress, state_past, Progress, Act, acts_of}
use Rattle.tp_spec.specs.Schedules.{Schedule, Live, IsGreatest, IsLeast, timed_act, plan_of}

abbrev pub unmet_goals : Problem → Progress → ℕ
unmet_goals p c =
    if has_after p c.before c.group then count_by (λ g. not (holds (state_past p c) g)) p.goal
    else length p.goal

-- How many goal parts do not hold after all groups of a word; all of them where there is no state
-- after the last one. This project's own.
unfoldable pub rank : Problem → List Mark → ℕ
rank p w = unmet_goals p (progress p w)

-- A node of the frontier: a word, and the actor that took it, or none while it is open.
-- This project's own. The code keeps the word's rank with it.
pub record Node : Type 0 where
  pub id : ℕ
  pub word : List Mark
  pub taker : Option ℕ

-- whose turn it is, and whether a deed (a Take, Expand, Publish or Limit) was made in it
pub record Turn : Type 0 where
  pub actor : ℕ
  pub acted : Bool

-- The clock, the commitments in order of dispatch, the frontier in order of ids, how many ids were
-- given, the turn if there is one, and whether an outcome stands.
pub record Machine : Type 0 where
  pub now : ℕ
  pub commits : List Timed
  pub nodes : List Node
  pub made : ℕ
  pub turn : Option Turn
  pub over : Bool

abbrev pub root : Node
root = record { id = 0; word = []; taker = None }

abbrev pub first : Machine
first = record { now = 0; commits = []; nodes = root ∷ []; made = 1; turn = None; over = false }

-- whether a node comes no later than another: by rank, then by id
abbrev pub no_worse : Problem → Node → Node → Bool
no_worse p m n =
    nat_lt (rank p m.word) (rank p n.word) || (rank p m.word == rank p n.word && nat_le m.id n.id)

-- the node of the least rank and id of a frontier
pub record IsBest (p : Problem) (nodes : List Node) (n : Node) : Type 0 where
  pub there : IsIn n nodes
  pub least : IsTrue (list_all (no_worse p n) nodes)

abbrev pub is_open : Node → Bool
is_open n = not (is_some n.taker)

abbrev pub open_nodes : List Node → List Node
open_nodes nodes = filter is_open nodes

-- the first start of a word that is no commitment: the k-th start of an action is its k-th
-- commitment
abbrev pub candidate : List Act → List Timed → List Act → Option Act
candidate before commits [] = None
candidate before commits (x ∷ xs) =
    if nat_lt (count_by (λ y. y.action == x.action) before)
    (count_by (λ c. c.action == x.action) commits)
    then candidate (before ++ x ∷ []) commits xs
    else Some x

-- The commit rule: the best node is urgent where it is live and its candidate's tick in the
-- greatest schedule is at most the clock plus the lead; the act that is due has this tick and the
-- length that this schedule gives. This project's own.
pub record IsDue (p : Problem) (l : Limits) (m : Machine) (act : Timed) : Type 0 where
  pub node : Node
  pub best : IsBest p m.nodes node
  pub live : Live p l m.now m.commits node.word
  pub schedule : Schedule
  pub greatest : IsGreatest p l m.now m.commits node.word schedule
  pub next : Act
  pub is_next : candidate [] m.commits (acts_of p node.word) ≡ Some next
  pub soon : schedule.tick next.opens ≤ m.now + l.lead
  pub is : act ≡ timed_act schedule next

-- the best node stands, is live, and is not urgent
pub record IsQuiet (p : Problem) (l : Limits) (m : Machine) : Type 0 where
  pub node : Node
  pub best : IsBest p m.nodes node
  pub live : Live p l m.now m.commits node.word
  pub not_urgent : (act : Timed) → ¬ (IsDue p l m act)

-- an outcome stands, or the best node needs nothing at once
abbrev pub IsSettled : Problem → Limits → Machine → Type 0
IsSettled p l m = (m.over ≡ true) ⊎ IsQuiet p l m

-- no outcome stands, and the machine is settled
pub record IsBetween (p : Problem) (l : Limits) (m : Machine) : Type 0 where
  pub standing : m.over ≡ false
  pub quiet : IsQuiet p l m

-- a turn in which settling goes on: no outcome stands
pub record IsInTurn (m : Machine) : Type 0 where
  pub standing : m.over ≡ false
  pub turn : IsSome m.turn

-- an actor may make the deed of its turn
pub record MayAct (p : Problem) (l : Limits) (m : Machine) (actor : ℕ) : Type 0 where
  pub between : IsBetween p l m
  pub turn : m.turn ≡ Some (record { actor = actor; acted = false })

-- a node of this id that this actor took
pub record IsTaken (m : Machine) (actor id : ℕ) (n : Node) : Type 0 where
  pub there : IsIn n m.nodes
  pub named : n.id ≡ id
  pub taken : n.taker ≡ Some actor

-- marks that are not fresh come first, then each kind in item order
abbrev pub mark_before : Mark → Mark → Bool
mark_before a b =
    if a.fresh then b.fresh && item_before a.item b.item else b.fresh || item_before a.item b.item

-- Exactly the marks that make a word a live word, in order. This project's own. The definition
-- speaks of all marks, the code tries those of the problem's items.
pub record AreLiveMarks (p : Problem) (l : Limits) (m : Machine) (w : List Mark) (marks : List Mark)
    : Type 0 where
  pub in_order : IsTrue (each_next mark_before marks)
  pub live : (a : Mark) → IsIn a marks → Live p l m.now m.commits (w ++ a ∷ [])
  pub all : (a : Mark) → Live p l m.now m.commits (w ++ a ∷ []) → IsIn a marks

-- no possible plan has this very word
abbrev pub SpellsNone : Problem → Limits → Machine → List Mark → Type 0
SpellsNone p l m w = (plan : Plan) → Possible p l m.now m.commits plan → ¬ (spell p plan ≡ w)

pub record DropIsLegal (p : Problem) (l : Limits) (m : Machine) (id : ℕ) : Type 0 where
  pub in_turn : IsInTurn m
  pub node : Node
  pub there : IsIn node m.nodes
  pub named : node.id ≡ id
  pub hopeless : (plan : Plan) → Possible p l m.now m.commits plan
      → ¬ (BeginsWith (spell p plan) node.word)

pub record DispatchIsLegal (p : Problem) (l : Limits) (m : Machine) (act : Timed) : Type 0 where
  pub in_turn : IsInTurn m
  pub due : IsDue p l m act

pub record TakeIsLegal (p : Problem) (l : Limits) (m : Machine) (actor id : ℕ) : Type 0 where
  pub may : MayAct p l m actor
  pub node : Node
  pub least : IsBest p (open_nodes m.nodes) node
  pub named : node.id ≡ id
  pub live : Live p l m.now m.commits node.word

pub record ExpandIsLegal (p : Problem) (l : Limits) (m : Machine) (actor id : ℕ) (marks : List Mark)
    : Type 0 where
  pub may : MayAct p l m actor
  pub node : Node
  pub taken : IsTaken m actor id node
  pub incomplete : SpellsNone p l m node.word
  pub exact : AreLiveMarks p l m node.word marks
  pub room : m.made + length marks ≤ l.nodes

pub record PublishIsLegal (p : Problem) (l : Limits) (m : Machine) (actor id : ℕ) (plan : Plan) :
    Type 0 where
  pub may : MayAct p l m actor
  pub node : Node
  pub taken : IsTaken m actor id node
  pub possible : Possible p l m.now m.commits plan
  pub spells : spell p plan ≡ node.word
  pub schedule : Schedule
  pub least : IsLeast p l m.now m.commits node.word schedule
  pub is : plan ≡ plan_of p node.word schedule

pub record LimitIsLegal (p : Problem) (l : Limits) (m : Machine) (actor id made marks : ℕ) :
    Type 0 where
  pub may : MayAct p l m actor
  pub node : Node
  pub taken : IsTaken m actor id node
  pub incomplete : SpellsNone p l m node.word
  pub live_marks : List Mark
  pub exact : AreLiveMarks p l m node.word live_marks
  pub counted : marks ≡ length live_marks
  pub given : made ≡ m.made
  pub full : l.nodes < made + marks

pub record ExhaustIsLegal (p : Problem) (l : Limits) (m : Machine) : Type 0 where
  pub in_turn : IsInTurn m
  pub none_left : m.nodes ≡ []
  pub hopeless : (plan : Plan) → ¬ (Possible p l m.now m.commits plan)

-- Which events are legal. The only free choice is Drop.
-- This project's own. The definition asks about all possible plans, the code about one word.
abbrev pub Legal : Problem → Limits → Machine → Event → Type 0
Legal p l m (Tick actor reading) = IsBetween p l m
Legal p l m (Drop id) = DropIsLegal p l m id
Legal p l m (Dispatch act) = DispatchIsLegal p l m act
Legal p l m (Take actor id) = TakeIsLegal p l m actor id
Legal p l m (Expand actor id marks) = ExpandIsLegal p l m actor id marks
Legal p l m (Publish actor id plan) = PublishIsLegal p l m actor id plan
Legal p l m (Limit actor id made marks) = LimitIsLegal p l m actor id made marks
Legal p l m Exhaust = ExhaustIsLegal p l m
Legal p l m (Halt cause) = IsBetween p l m

abbrev pub with_deed : Machine → Option Turn
with_deed m = elim m.turn [ None ↦ None | Some t ↦ Some (record t { acted = true }) ]

abbrev pub taken_by : ℕ → ℕ → Node → Node
taken_by actor id n = if n.id == id then record n { taker = Some actor } else n

abbrev pub without : ℕ → List Node → List Node
without id nodes = filter (λ n. not (n.id == id)) nodes

abbrev pub word_of : ℕ → List Node → List Mark
word_of id [] = []
word_of id (n ∷ nodes) = if n.id == id then n.word else word_of id nodes

-- one open node for each mark, with the next ids
abbrev pub children : List Mark → ℕ → List Mark → List Node
children w made [] = []
children w made (a ∷ rest) =
    record { id = made; word = w ++ a ∷ []; taker = None } ∷ children w (suc made) rest

-- The clock after a reading: it never goes back, and stops one tick behind the horizon.
abbrev pub now_after : Limits → ℕ → ℕ → ℕ
now_after l now reading = max now (min reading (l.horizon + 1))

-- the state after an event
abbrev pub step : Limits → Machine → Event → Machine
step l m (Tick actor reading) =
    record m {
      now = now_after l m.now reading;
      turn = Some
          (record { actor = actor; acted = false });
    }
step l m (Drop id) = record m { nodes = without id m.nodes }
step l m (Dispatch act) = record m { commits = m.commits ++ act ∷ [] }
step l m (Take actor id) = record m { nodes = map (taken_by actor id) m.nodes; turn = with_deed m }
step l m (Expand actor id marks) =
    record m {
      nodes = without id m.nodes
          ++ children (word_of id m.nodes) m.made marks;
      made = m.made
          + length marks;
      turn = with_deed m;
    }
step l m (Publish actor id plan) = record m { over = true; turn = with_deed m }
step l m (Limit actor id made marks) = record m { over = true; turn = with_deed m }
step l m Exhaust = record m { over = true }
step l m (Halt cause) = record m { over = true }

abbrev pub end_of : Limits → Machine → List Event → Machine
end_of l m [] = m
end_of l m (e ∷ es) = end_of l (step l m e) es

-- the state to which a history leads
abbrev pub state_of : Limits → List Event → Machine
state_of l history = end_of l first history

abbrev pub AreLegal : Problem → Limits → Machine → List Event → Type 0
AreLegal p l m [] = Unit {0}
AreLegal p l m (e ∷ es) = Legal p l m e × AreLegal p l (step l m e) es

-- Each event is legal where it stands.
-- This project's own.
pub record IsRun (p : Problem) (l : Limits) (history : List Event) : Type 0 where
  pub legal : AreLegal p l first history

-- a run that ends settled
pub record IsWholeRun (p : Problem) (l : Limits) (history : List Event) : Type 0 where
  pub run : IsRun p l history
  pub settled : IsSettled p l (state_of l history)

-- the word of a plan begins with the word of a node
pub record IsCovered (p : Problem) (m : Machine) (plan : Plan) : Type 0 where
  pub node : Node
  pub there : IsIn node m.nodes
  pub begins : BeginsWith (spell p plan) node.word

abbrev pub reading_of : Event → List ℕ
reading_of (Tick actor reading) = reading ∷ []
reading_of _ = []

-- the readings of a history's Ticks, in order
abbrev pub readings : List Event → List ℕ
readings history = flat_map reading_of history

-- how many Ticks it has
abbrev pub ticks : List Event → ℕ
ticks history = length (readings history)
