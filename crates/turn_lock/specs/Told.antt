-- What each step tells the seat that makes it.
use Rattle.std.specs.Prelude.{◌≡◌, ◌≢◌, ℕ, ◌+◌, ◌-◌, ◌%◌, ◌<◌, List, [], ◌∷◌, ◌++◌, length, Option, Some, None, nat_le, if◌then◌else◌}
use mathlib.Core.List.{IsPrefix}
use Rattle.atomic_table.specs.Table.{Me, rest}
use Rattle.turn_lock.specs.declared.rule.Stage.{Stage}
use Rattle.turn_lock.specs.declared.rule.Stage.TheVariants.{Idle, Waiting, Serving}
use Rattle.turn_lock.specs.declared.rule.View.{View}
use Rattle.turn_lock.specs.Turns.{with_turn}

-- the ticket of a seat that has one
abbrev pub ticket_of : Stage → ℕ
ticket_of Idle = 0
ticket_of (Waiting t) = t
ticket_of (Serving t) = t

-- a word holds a number modulo 2^64
abbrev pub word_of : ℕ → ℕ
word_of t = t % 18446744073709551616

-- the stage waits with a ticket whose word is r
abbrev pub IsWaiting : ℕ → Stage → Type 0
IsWaiting r st = (t : ℕ) × (st ≡ Waiting t) × (r ≡ word_of t)

-- the turn of the seat has come
abbrev pub IsServing : Stage → Type 0
IsServing st = (t : ℕ) × (st ≡ Serving t)

-- the longer of two lists
abbrev pub longer : {E : Type 0} → List E → List E → List E
longer xs ys = if nat_le (length ys) (length xs) then xs else ys

-- the other of the two
abbrev pub shorter : {E : Type 0} → List E → List E → List E
shorter xs ys = if nat_le (length ys) (length xs) then ys else xs

module _ {V E : Type 0} where
  -- what is left of a seat's view once it gave parts away
  abbrev pub less : ℕ → View V E → View V E
  less parts v = record v { parts = v.parts - parts }

  -- the view of the seat that was given them
  abbrev pub given : ℕ → View V E → View V E
  given parts v =
      record {
        opened = v.opened;
        parts = parts;
        stage = Idle;
        seen = v.seen;
        joined = [];
        made = [] ∷ [];
      }

  -- the view of two seats joined
  abbrev pub both : View V E → View V E → View V E
  both v w =
      record v {
        parts = v.parts + w.parts;
        seen = longer v.seen w.seen;
        joined = shorter v.seen w.seen;
        made = v.made ++ w.made;
      }

  -- the view at another stage
  abbrev pub at_stage : View V E → Stage → View V E
  at_stage v st = record v { stage = st }

  -- the view of a seat whose turn begins and which has seen all entries
  abbrev pub served : View V E → List E → View V E
  served v all = record v { stage = Serving (ticket_of v.stage); seen = all }

  -- the view with the turn made that leads from what it has seen to all entries
  abbrev pub turned : View V E → List E → View V E
  turned v all = record v { seen = all; made = with_turn v.made (length v.seen) (length all) }

  -- a ticket was drawn
  abbrev pub Draws : Me (Option V) (View V E) → ℕ → Me (Option V) (View V E) → Type 0
  Draws m r n = (t : ℕ) × (r ≡ word_of t) × (n ≡ (at_stage m.0 (Waiting t), m.1))

  -- the turn has begun: the seat holds the slot with a value that goes on from what it had seen,
  -- under the charter that the lock was opened with
  pub record Taken (entries : V → List E) (same : V → V → Type 0) (m n : Me (Option V) (View V E)) :
      Type 0 where
    pub value : V
    pub me : n ≡ (served m.0 (entries value), (0, Some value) ∷ m.1)
    pub longer : IsPrefix m.0.seen (entries value)
    pub charter : (o : V) → m.0.opened ≡ Some o → same o value

  -- the turn has begun where the ticket served is the seat's, otherwise nothing changed
  abbrev pub Looks : (V → List E) → (V → V → Type 0) → Me (Option V) (View V E) → ℕ
      → Me (Option V) (View V E) → Type 0
  Looks entries same m r n =
      (r ≡ word_of (ticket_of m.0.stage) → Taken entries same m n)
      × (r ≢ word_of (ticket_of m.0.stage) → n ≡ m)

  -- the count is the number of entries seen
  abbrev pub Counts : Me (Option V) (View V E) → ℕ → Me (Option V) (View V E) → Type 0
  Counts m r n = (r ≡ length m.0.seen) × (n ≡ m)

  -- the entries of the value in the slot that was taken
  abbrev pub in_slot : (V → List E) → List (ℕ × Option V) → List E
  in_slot entries [] = []
  in_slot entries (c ∷ cs) = elim (c.1) [ None ↦ [] | Some v ↦ entries v ]

  -- the turn is made
  abbrev pub Adds : (V → List E) → Me (Option V) (View V E) → Me (Option V) (View V E) → Type 0
  Adds entries m n = n ≡ (turned m.0 (in_slot entries m.1), m.1)

  -- the slot is given back, and the turn is over
  abbrev pub Ends : Me (Option V) (View V E) → Me (Option V) (View V E) → Type 0
  Ends m n = n ≡ (at_stage m.0 Idle, rest m.1)

  -- of two seats joined, the one has seen a beginning of what the other has, and together they have
  -- fewer than 2^32 parts
  abbrev pub Agrees : Me (Option V) (View V E) → Me (Option V) (View V E) → Type 0
  Agrees m n =
      IsPrefix m.0.joined m.0.seen × (m.0.parts < 4294967296)
      × (n ≡ (record m.0 { joined = [] }, m.1))
