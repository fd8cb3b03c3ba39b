-- What a tree keeps between two calls.
use Rattle.std.specs.Prelude.{◌≡◌, ℕ, Bool, false, List, Option}
use Rattle.tp_spec.specs.declared.event.Event.{Event}
use Rattle.machine_run.specs.Turns.{has_outcome}
use Rattle.open_tree.specs.Turns.{IsClocked, IsLatest}

-- The parts of a tree beside its run: the clock's rate and the problem's scale; how often the clock
-- was read, its last reading and the list that it tells, each as it was at the start and as it is
-- now; the history; and whether a reading was made that no Tick holds.
pub record TreeParts : Type 0 where
  pub rate : ℕ
  pub scale : ℕ
  pub began : ℕ
  pub count : ℕ
  pub first : ℕ
  pub last : ℕ
  pub opened : Option (List ℕ)
  pub given : Option (List ℕ)
  pub history : List Event
  pub spare : Bool

-- The clock has the problem's rate; the history holds its readings, and each of them while no
-- outcome stands.
pub record Keeps (t : TreeParts) : Type 0 where
  pub rated : t.rate ≡ t.scale
  pub clocked : IsClocked t.began t.count t.opened t.given t.history t.spare
  pub exact : has_outcome t.history ≡ false → t.spare ≡ false
  pub recent : IsLatest t.first t.last t.history t.spare
