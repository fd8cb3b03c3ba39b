-- What a run of the machine keeps between two calls.
use Rattle.std.specs.Prelude.{◌≡◌, ℕ, ◌+◌, ◌<◌, Bool, false, List, [], ◌∷◌, ◌++◌, length, None}
use Rattle.tp_spec.specs.declared.event.Event.{Event}
use Rattle.tp_spec.specs.declared.plan.Timed.{Timed}
use Rattle.tp_spec.specs.declared.problem.Problem.{Problem}
use Rattle.tp_spec.specs.Machine.{rank}
use Rattle.tp_spec.specs.WellFormed.{IsWellFormed}
use Rattle.word_frontier.specs.Nodes.{FrontierView}
use Rattle.machine_run.specs.Deeds.{SameTask}
use Rattle.machine_run.specs.Frontiers.{Stands}
use Rattle.machine_run.specs.Turns.{has_outcome}
use Rattle.machine_run.specs.Views.{RunView, state}

-- a run with its commitments, the length of its history and the room for it, the clock, and
-- whether it is over
pub record RunParts : Type 0 where
  pub run : RunView
  pub commits : List Timed
  pub len : ℕ
  pub capacity : ℕ
  pub clock : ℕ
  pub over : Bool

-- The run stands, the commitments are the machine's, and it is over where an outcome stands. While
-- none does, the clock is the machine's, and there is room for a halt.
pub record IsKept (t : RunParts) : Type 0 where
  pub stands : Stands t.run
  pub committed : t.commits ≡ (state t.run).commits
  pub told : t.over ≡ has_outcome t.run.history
  pub clocked : t.over ≡ false → t.clock ≡ (state t.run).now
  pub room : t.over ≡ false → t.len < t.capacity

-- a frontier of a problem's root alone, which is open, with a queue for each rank
pub record IsRoot (p : Problem) (horizon : ℕ) (f : FrontierView) : Type 0 where
  pub formed : IsWellFormed p
  pub nodes : f.nodes ≡ record {
    id = 0;
    word = [];
    rank = rank p [];
    deadline = horizon + 1;
    known = 0;
    taker = None;
  } ∷ []
  pub made : f.made ≡ 1
  pub ranks : length p.goal < f.ranks

-- one event was written
pub record Writes (old new : RunView) (e : Event) : Type 0 where
  pub task : SameTask old new
  pub history : new.history ≡ old.history ++ e ∷ []
