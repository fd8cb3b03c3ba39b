-- The rule between two steps of the lock.
use Rattle.std.specs.Prelude.{◌≡◌, ℕ, ◌+◌, ◌%◌, ◌<◌, ◌≤◌, List, [], ◌∷◌, length, slice_index, Option, Some, None, IfSome, IsSome}
use Rattle.std.specs.List.{sum_by}
use mathlib.Core.List.{IsPrefix}
use mathlib.Core.Option as maybe
use lib.ListN.{get_elem?}
use Rattle.atomic_table.specs.Table.{State}
use Rattle.turn_lock.specs.declared.rule.Stage.{Stage}
use Rattle.turn_lock.specs.declared.rule.Stage.TheVariants.{Idle, Waiting, Serving}
use Rattle.turn_lock.specs.declared.rule.View.{View}
use Rattle.turn_lock.specs.Turns.{stands_in, FollowEach, once}

-- 1 for a seat that has a ticket
abbrev pub busy : Stage → ℕ
busy Idle = 0
busy (Waiting t) = 1
busy (Serving t) = 1

-- the slot: at home with a value, or out
abbrev pub slot_of : {V : Type 0} → Option V → maybe.Option (Option V)
slot_of None = maybe.none
slot_of (Some v) = maybe.some (Some v)

module _ {V E : Type 0} where
  -- the view of the first seat
  abbrev pub first_view : (V → List E) → V → ℕ → View V E
  first_view entries v parts =
      record {
        opened = Some v;
        parts = parts;
        stage = Idle;
        seen = entries v;
        joined = [];
        made = [] ∷ [];
      }

  -- the view of a seat that was joined to another
  abbrev pub spent_view : View V E
  spent_view = record { opened = None; parts = 0; stage = Idle; seen = []; joined = []; made = [] }

  -- what a stage says of the seat: `done` is the ticket served, `drawn` the next one, and `holder`
  -- says which seat has a ticket
  abbrev pub StageKept : (List E) → ℕ → ℕ → (ℕ → ℕ) → Option V → ℕ → View V E → Stage → Type 0
  StageKept log done drawn holder home seat v Idle = Unit {0}
  StageKept log done drawn holder home seat v (Waiting t) =
      (done ≤ t) × (t < drawn) × (holder t ≡ seat) × (0 < v.parts) × (t ≡ done → IsSome home)
  StageKept log done drawn holder home seat v (Serving t) =
      (t ≡ done) × (t < drawn) × (holder t ≡ seat) × (0 < v.parts) × (home ≡ None) × (v.seen ≡ log)

  -- what each seat knows is so
  pub record Knows (opened : V) (log : List E) (done drawn : ℕ) (holder : ℕ → ℕ) (home : Option V)
      (seat : ℕ) (v : View V E) : Type 0 where
    pub of : (o : V) → v.opened ≡ Some o → o ≡ opened
    pub seen : IsPrefix v.seen log
    pub joined : IsPrefix v.joined log
    pub made : FollowEach (length log) v.made
    pub none : v.parts ≡ 0 → v.made ≡ []
    pub stage : StageKept log done drawn holder home seat v v.stage

  -- the words, the slot and the views between two steps: `log` is the one list that every seat has
  -- seen a beginning of, and word 0 its length. Tickets are counted without end, words 1 and 2
  -- modulo 2^64. Each position behind the entries at the opening stands in one stretch of one seat
  pub record Kept (entries : V → List E) (same : V → V → Type 0) (opened : V) (parts : ℕ)
      (s : State (Option V) (View V E)) : Type 0 where
    pub log : List E
    pub done : ℕ
    pub drawn : ℕ
    pub holder : ℕ → ℕ
    pub home : Option V
    pub wide : length s.words ≡ 3
    pub count : slice_index s.words 0 ≡ length log
    pub next : slice_index s.words 1 ≡ drawn % 18446744073709551616
    pub served : slice_index s.words 2 ≡ done % 18446744073709551616
    pub few : parts < 4294967296
    pub slot : s.homes ≡ slot_of home ∷ []
    pub value : IfSome home (λ v. (entries v ≡ log) × same opened v)
    pub lent : home ≡ None → done < drawn
    pub waits : drawn ≡ done + sum_by (λ v. busy v.stage) s.views
    pub whole : sum_by (λ v. v.parts) s.views ≡ parts
    pub covered : (x : ℕ) → sum_by (λ v. stands_in x v.made) s.views
        ≡ once (length (entries opened)) (length log) x
    pub longer : length (entries opened) ≤ length log
    pub each : (seat : ℕ) (v : View V E) → get_elem? s.views seat ≡ maybe.some v
        → Knows opened log done drawn holder home seat v
