-- What a judge of marks keeps, and what its loops go over.
use Rattle.std.specs.Prelude.{◌≡◌, ℕ, Bool, true, false}
use Rattle.tp_spec.specs.declared.plan.Item.{Item}
use Rattle.tp_spec.specs.declared.plan.Item.TheVariants.{End, Start}
use Rattle.tp_spec.specs.declared.problem.Problem.{Problem}
use Rattle.tp_spec.specs.Words.{Progress, may_join}
use Rattle.snap_actions.specs.declared.tables.Items.{Items}
use Rattle.snap_actions.specs.Tables.{AreTables}
use Rattle.world_state.specs.declared.rows.BitRow.{BitRow}
use Rattle.world_state.specs.Rows.{is_in_row}
use Rattle.node_state.specs.declared.reading.Reading.{Reading}
use Rattle.node_state.specs.declared.wants.Wants.{Wants}
use Rattle.node_state.specs.Candidates.{AreWants}
use Rattle.node_state.specs.Readings.{IsStartOf}
use Rattle.node_state.specs.Ranks.{IsFree}
use Rattle.node_state.specs.declared.footprints.Footprints.{Footprints}
use Rattle.node_state.specs.Footprints.{AreFootprints}

-- the tables of a problem, the reading of its empty word, and facts of which its goal does not
-- speak
pub record IsJudgeOf (p : Problem) (items : Items) (wants : Wants) (start : Reading)
    (free : BitRow) (footprints : Footprints) : Type 0 where
  pub tables : AreTables p items
  pub wanting : AreWants p wants
  pub begun : IsStartOf p start
  pub goal_free : IsFree p free
  pub footing : AreFootprints p free footprints

-- the start or the end of an action
abbrev pub item_of : Bool → ℕ → Item
item_of true a = Start a
item_of false a = End a

-- each action whose start, or else whose end, may join is in the row
abbrev pub IsCover : Problem → Progress → Bool → BitRow → Type 0
IsCover p c starts row =
    (a : ℕ) → may_join p c (item_of starts a) ≡ true → is_in_row row a ≡ true
