-- Laws on histories of the machine: their parts, and what holds in each state of a run.
use Rattle.std.specs.Prelude.{◌≡◌, ◌↔◌, ℕ, ◌+◌, ◌≤◌, ◌==◌, not, max, Bool, nat_lt, List, [], ◌++◌, length, IsTrue}
use Rattle.std.specs.List.{list_all}
use Rattle.tp_spec.specs.declared.event.Event.{Event}
use Rattle.tp_spec.specs.declared.plan.Limits.{Limits}
use Rattle.tp_spec.specs.declared.plan.Plan.{Plan}
use Rattle.tp_spec.specs.declared.problem.Problem.{Problem}
use Rattle.tp_spec.specs.Courses.{Possible}
use Rattle.tp_spec.specs.Lists.{IsIn, each_pair}
use Rattle.tp_spec.specs.Machine.{Machine, Node, AreLegal, IsRun, IsCovered, end_of, state_of, open_nodes, taken_by}
use Rattle.tp_spec.specs.Schedules.{Live}
use Rattle.run_laws.specs.Commitments.{AreCommitted}

-- A history in two parts leads where its second part leads from the state behind the first.
abbrev pub EndsInParts : Type 0
EndsInParts = (l : Limits) (m : Machine) (es fs : List Event)
    → end_of l m (es ++ fs) ≡ end_of l (end_of l m es) fs

-- Its events are legal exactly where those of the first part are, and those of the second are in
-- the state behind it.
abbrev pub LegalInParts : Type 0
LegalInParts = (p : Problem) (l : Limits) (m : Machine) (es fs : List Event)
    → AreLegal p l m (es ++ fs) ↔ (AreLegal p l m es × AreLegal p l (end_of l m es) fs)

-- whether the id of a node was given, where so many were
abbrev pub is_below : ℕ → Node → Bool
is_below made n = nat_lt n.id made

-- What each state of a run keeps: its commitments are in turn, in range and few, the clock is at
-- most one tick past the horizon, and ids tell nodes apart; each node's id was given, and its word
-- is no longer than its id and was live when the clock began; each plan that is still possible
-- begins with the word of a node; and no more ids were given than there may be.
pub record IsTree (p : Problem) (l : Limits) (m : Machine) : Type 0 where
  pub committed : AreCommitted p l m.commits
  pub clocked : m.now ≤ l.horizon + 1
  pub told_apart : IsTrue (each_pair (λ a b. not (a.id == b.id)) m.nodes)
  pub below : IsTrue (list_all (is_below m.made) m.nodes)
  pub live : (n : Node) → IsIn n m.nodes → Live p l 0 [] n.word
  pub covers : (plan : Plan) → Possible p l m.now m.commits plan → IsCovered p m plan
  pub few : m.made ≤ max 1 l.nodes
  pub short : (n : Node) → IsIn n m.nodes → length n.word ≤ n.id

-- Each run leads to such a state.
abbrev pub RunsLeadToTrees : Problem → Limits → Type 0
RunsLeadToTrees p l = (history : List Event) → IsRun p l history → IsTree p l (state_of l history)

-- An open node stands.
abbrev pub OpenNodesStand : Type 0
OpenNodesStand = (n : Node) (nodes : List Node) → IsIn n (open_nodes nodes) → IsIn n nodes

-- A Take changes no id.
abbrev pub TakesKeepIds : Type 0
TakesKeepIds = (actor id : ℕ) (n : Node) → (taken_by actor id n).id ≡ n.id
