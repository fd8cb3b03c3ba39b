-- What items ask and write, as bits of a word.
use Rattle.std.specs.Prelude.{◌≡◌, ℕ, ◌%◌, Bool, true, false, ◌==◌, bit_and, List, Option, Some, None, slice_get}
use Rattle.std.specs.Int.{bit_at}
use Rattle.std.specs.List.{list_any, list_all}
use Rattle.tp_spec.specs.declared.plan.Item.{Item}
use Rattle.tp_spec.specs.declared.plan.Item.TheVariants.{TimedAt, End, Start}
use Rattle.tp_spec.specs.declared.problem.Cond.{Cond}
use Rattle.tp_spec.specs.declared.problem.Effect.{Effect}
use Rattle.tp_spec.specs.declared.problem.Effect.TheVariants.{Add, Delete, Change}
use Rattle.tp_spec.specs.declared.problem.Problem.{Problem}
use Rattle.tp_spec.specs.Interference.{asks}
use Rattle.tp_spec.specs.Items.{conditions, effects}
use Rattle.node_state.specs.declared.footprints.Footprint.{Footprint}
use Rattle.node_state.specs.declared.footprints.Footprints.{Footprints}
use Rattle.node_state.specs.Ranks.{is_of_fact, writes_in}
use Rattle.tp_spec.specs.Lists.{some_and}
use Rattle.world_state.specs.declared.rows.BitRow.{BitRow}

-- whether an effect adds or deletes a fact
abbrev pub writes : ℕ → Effect → Bool
writes f (Add g) = f == g
writes f (Delete g) = f == g
writes f (Change how x e) = false

-- a word has the bit of each number of a set, modulo 64
abbrev pub Covers : ℕ → (ℕ → Bool) → Type 0
Covers w set = (f : ℕ) → set f ≡ true → bit_at w (f % 64) ≡ 1

-- the footprint of an item with these conditions and effects, by a row of facts
pub record IsFootprintOn (free : BitRow) (conds : List Cond) (es : List Effect) (q : Footprint)
    : Type 0 where
  pub asked : Covers q.asked (λ f. list_any (asks f) conds)
  pub written : Covers q.written (λ f. list_any (writes f) es)
  pub plain : q.plain ≡ true → list_all is_of_fact es ≡ true
  pub quiet : q.quiet ≡ true → list_all (writes_in free) es ≡ true

-- the footprints of the items of a kind by their numbers
abbrev pub AreFootprintsOf : Problem → BitRow → (ℕ → Item) → List Footprint → Type 0
AreFootprintsOf p free kind qs = (a : ℕ) (q : Footprint) → slice_get qs a ≡ Some q
    → IsFootprintOn free (conditions p (kind a)) (effects p (kind a)) q

pub record AreFootprints (p : Problem) (free : BitRow) (t : Footprints) : Type 0 where
  pub ends : AreFootprintsOf p free (λ a. End a) t.ends.items
  pub starts : AreFootprintsOf p free (λ a. Start a) t.starts.items

abbrev pub footprint_get : Footprints → Item → Option Footprint
footprint_get t (TimedAt k) = None
footprint_get t (End a) = slice_get t.ends.items a
footprint_get t (Start a) = slice_get t.starts.items a

-- whether the footprint of an item says that the goal speaks of nothing that it writes
abbrev pub quiet_by : Footprints → Item → Bool
quiet_by t i = some_and (footprint_get t i) (λ q. q.quiet)

-- neither changes a fluent or writes what the other asks or writes
pub record AreApart (a b : Footprint) : Type 0 where
  pub first : a.plain ≡ true
  pub second : b.plain ≡ true
  pub asked : bit_and a.written b.asked ≡ 0
  pub written : bit_and a.written b.written ≡ 0
  pub asking : bit_and b.written a.asked ≡ 0
