-- What the tables of a problem's items stand for.
use Rattle.std.specs.Prelude.{◌≡◌, ℕ, zero, suc, Bool, false, not, ◌&&◌, ◌||◌, ◌==◌, ◌*◌, List, length, Option, Some, slice_get}
use Rattle.std.specs.List.{list_any}
use Rattle.tp_spec.specs.declared.plan.Item.{Item}
use Rattle.tp_spec.specs.declared.plan.Item.TheVariants.{TimedAt, End, Start}
use Rattle.tp_spec.specs.declared.problem.Cond.{Cond}
use Rattle.tp_spec.specs.declared.problem.Effect.{Effect}
use Rattle.tp_spec.specs.declared.problem.Effect.TheVariants.{Add, Delete, Change}
use Rattle.tp_spec.specs.declared.problem.Problem.{Problem}
use Rattle.tp_spec.specs.Interference.{asks, cond_reads, effect_reads}
use Rattle.tp_spec.specs.Items.{adds, deletes, conditions, effects}
use Rattle.tp_spec.specs.WellFormed.{IsWellFormed, is_relative}
use Rattle.world_state.specs.declared.rows.BitRow.{BitRow}
use Rattle.world_state.specs.Rows.{has_bit, has_place, words_for, IsRowOf, Takes}
use Rattle.snap_actions.specs.declared.tables.ItemRows.{ItemRows}
use Rattle.snap_actions.specs.declared.tables.Items.{Items}

-- whether an effect increases or decreases fluent x
abbrev pub steps : ℕ → Effect → Bool
steps x (Add f) = false
steps x (Delete f) = false
steps x (Change how y e) = x == y && is_relative how

-- whether an effect assigns fluent x
abbrev pub assigns : ℕ → Effect → Bool
assigns x (Add f) = false
assigns x (Delete f) = false
assigns x (Change how y e) = x == y && not (is_relative how)

-- what conditions ask and read, and what effects add, delete, read, increase or decrease, and
-- assign, among the facts and the fluents for which so many words have a place
pub record AreRowsWithin (fact_words fluent_words : ℕ) (rows : ItemRows) (conds : List Cond)
    (does : List Effect) : Type 0 where
  pub asked : IsRowOf rows.asked fact_words (λ f. has_place fact_words f && list_any (asks f) conds)
  pub added : IsRowOf rows.added fact_words (λ f. has_place fact_words f && list_any (adds f) does)
  pub deleted : IsRowOf rows.deleted fact_words
      (λ f. has_place fact_words f && list_any (deletes f) does)
  pub read : IsRowOf rows.read fluent_words
      (λ x. has_place fluent_words x
      && (list_any (cond_reads x) conds || list_any (effect_reads x) does))
  pub stepped : IsRowOf rows.stepped fluent_words
      (λ x. has_place fluent_words x && list_any (steps x) does)
  pub assigned : IsRowOf rows.assigned fluent_words
      (λ x. has_place fluent_words x && list_any (assigns x) does)

-- rows of so many words with nothing in them
pub record AreEmpty (fact_words fluent_words : ℕ) (rows : ItemRows) : Type 0 where
  pub asked : IsRowOf rows.asked fact_words (λ f. false)
  pub added : IsRowOf rows.added fact_words (λ f. false)
  pub deleted : IsRowOf rows.deleted fact_words (λ f. false)
  pub read : IsRowOf rows.read fluent_words (λ x. false)
  pub stepped : IsRowOf rows.stepped fluent_words (λ x. false)
  pub assigned : IsRowOf rows.assigned fluent_words (λ x. false)

-- rows that took in what conditions ask and read
pub record TookConds (old new : ItemRows) (asking reading : ℕ → Bool) : Type 0 where
  pub asked : Takes old.asked new.asked asking
  pub read : Takes old.read new.read reading
  pub added : new.added ≡ old.added
  pub deleted : new.deleted ≡ old.deleted
  pub stepped : new.stepped ≡ old.stepped
  pub assigned : new.assigned ≡ old.assigned

-- rows that took in what effects add, delete, read and change
pub record TookEffects (old new : ItemRows) (does : List Effect) : Type 0 where
  pub added : Takes old.added new.added (λ f. list_any (adds f) does)
  pub deleted : Takes old.deleted new.deleted (λ f. list_any (deletes f) does)
  pub read : Takes old.read new.read (λ x. list_any (effect_reads x) does)
  pub stepped : Takes old.stepped new.stepped (λ x. list_any (steps x) does)
  pub assigned : Takes old.assigned new.assigned (λ x. list_any (assigns x) does)
  pub asked : new.asked ≡ old.asked

-- the rows of an item of a problem
abbrev pub AreItemRows : Problem → Item → ItemRows → Type 0
AreItemRows p i rows =
    AreRowsWithin (words_for (length p.facts)) (words_for (length p.fluents)) rows (conditions p i)
    (effects p i)

-- the rows of each timed item, of each end and of each start, by its number
pub record AreTables (p : Problem) (items : Items) : Type 0 where
  pub formed : IsWellFormed p
  pub timed_count : length items.timed.items ≡ length p.timed
  pub end_count : length items.ends.items ≡ length p.actions
  pub start_count : length items.starts.items ≡ length p.actions
  pub timed : (k : ℕ) (rows : ItemRows) → slice_get items.timed.items k ≡ Some rows
      → AreItemRows p (TimedAt k) rows
  pub ends : (a : ℕ) (rows : ItemRows) → slice_get items.ends.items a ≡ Some rows
      → AreItemRows p (End a) rows
  pub starts : (a : ℕ) (rows : ItemRows) → slice_get items.starts.items a ≡ Some rows
      → AreItemRows p (Start a) rows

-- the rows of an item
abbrev pub table_get : Items → Item → Option ItemRows
table_get items (TimedAt k) = slice_get items.timed.items k
table_get items (End a) = slice_get items.ends.items a
table_get items (Start a) = slice_get items.starts.items a

-- whether some number below a bound passes a test
abbrev pub some_below : ℕ → (ℕ → Bool) → Bool
some_below zero test = false
some_below (suc n) test = test n || some_below n test

-- whether two rows of words have a number in common
unfoldable pub rows_meet : List ℕ → List ℕ → Bool
rows_meet a b = some_below (64 * length a) (λ f. has_bit a f && has_bit b f)

abbrev pub meets : BitRow → BitRow → Bool
meets a b = rows_meet a.words.items b.words.items

-- whether the first item's effects disturb the second one's conditions or collide with its effects,
-- by their rows
abbrev pub touch_facts : ItemRows → ItemRows → Bool
touch_facts a b =
    meets a.added b.asked || meets a.deleted b.asked || meets a.added b.deleted
    || meets a.deleted b.added

abbrev pub touch_fluents : ItemRows → ItemRows → Bool
touch_fluents a b =
    meets a.stepped b.read || meets a.assigned b.read || meets a.stepped b.assigned
    || meets a.assigned b.stepped || meets a.assigned b.assigned
