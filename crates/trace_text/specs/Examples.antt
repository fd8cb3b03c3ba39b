-- Small histories, and their texts by the rules of the format.
use Rattle.std.specs.Prelude.{◌≡◌, ℕ, true, false, List, [], ◌∷◌, ◌++◌, codes, ◌^◌, ◌-◌}
use Rattle.tp_spec.specs.declared.event.Cause.TheVariants.{Out, Script, Memory}
use Rattle.tp_spec.specs.declared.event.Event.{Event}
use Rattle.tp_spec.specs.declared.event.Event.TheVariants.{Tick, Drop, Dispatch, Take, Expand, Publish, Limit, Exhaust, Halt}
use Rattle.tp_spec.specs.declared.plan.Item.{Item}
use Rattle.tp_spec.specs.declared.plan.Item.TheVariants.{TimedAt, End, Start}
use Rattle.tp_spec.specs.declared.plan.Mark.{Mark}
use Rattle.tp_spec.specs.declared.plan.Timed.{Timed}
use Rattle.trace_text.specs.Traces.{trace_text}
use Rattle.trace_text.specs.Grammar.{fits_event}

abbrev pub opens : Item → Mark
opens item = record { fresh = true; item = item }

abbrev pub joins : Item → Mark
joins item = record { fresh = false; item = item }

abbrev pub act : ℕ → ℕ → ℕ → Timed
act action start length = record { action = action; start = start; length = length }

-- the search for a drive of five ticks: one worker, and the clock at 0 all along
abbrev pub drive : List Event
drive = Tick 1 0 ∷ Take 1 0 ∷ Tick 1 0 ∷ Expand 1 0 (opens (Start 0) ∷ [])
    ∷ Tick 1 0 ∷ Take 1 1 ∷ Tick 1 0 ∷ Expand 1 1 (opens (End 0) ∷ [])
    ∷ Tick 1 0 ∷ Take 1 2
    ∷ Tick 1 0 ∷ Publish 1 2 (record { acts = act 0 0 5 ∷ []; end = 5 }) ∷ []

abbrev pub drive_text : List ℕ
drive_text =
    codes "trace 1 12\ntick 1 0\ntake 1 0\ntick 1 0\nexpand 1 0 +S0\n"
    ++ codes "tick 1 0\ntake 1 1\ntick 1 0\nexpand 1 1 +E0\n"
    ++ codes "tick 1 0\ntake 1 2\ntick 1 0\npublish 1 2 5 0:0:5\n"

-- Nothing happened.
abbrev pub TracesNothing : Type 0
TracesNothing = trace_text [] ≡ codes "trace 1 0\n"

abbrev pub TracesDrive : Type 0
TracesDrive = trace_text drive ≡ drive_text

-- A mark that joins and one that opens, a commitment, and a node that is dropped.
abbrev pub TracesTurns : Type 0
TracesTurns =
    trace_text (Tick 2 17 ∷ Drop 31 ∷ Dispatch (act 3 20 45)
    ∷ Expand 2 14 (joins (Start 1) ∷ opens (TimedAt 0) ∷ opens (End 12) ∷ []) ∷ [])
    ≡ codes "trace 1 4\ntick 2 17\ndrop 31\ndo 3 20 45\nexpand 2 14 .S1 +T0 +E12\n"

-- Plans of no act and of two, a node without marks, and what else ends a run.
abbrev pub TracesOutcomes : Type 0
TracesOutcomes =
    (trace_text (Publish 1 7 (record { acts = []; end = 0 }) ∷ [])
    ≡ codes "trace 1 1\npublish 1 7 0\n")
    × (trace_text (Publish 1 7 (record { acts = act 0 3 5 ∷ act 1 8 0 ∷ []; end = 9 }) ∷ [])
    ≡ codes "trace 1 1\npublish 1 7 9 0:3:5 1:8:0\n")
    × (trace_text (Expand 8 0 [] ∷ []) ≡ codes "trace 1 1\nexpand 8 0\n")
    × (trace_text (Limit 1 3 4 2 ∷ []) ≡ codes "trace 1 1\nlimit 1 3 4 2\n")
    × (trace_text (Exhaust ∷ []) ≡ codes "trace 1 1\nexhaust\n")
    × (trace_text (Halt Out ∷ []) ≡ codes "trace 1 1\nhalt out\n")
    × (trace_text (Halt Script ∷ []) ≡ codes "trace 1 1\nhalt script\n")
    × (trace_text (Halt Memory ∷ []) ≡ codes "trace 1 1\nhalt memory\n")

-- Actors, ids and indices have 32 bits, ticks have 64.
abbrev pub Ranges : Type 0
Ranges =
    (fits_event (Tick (2 ^ 32 - 1) (2 ^ 64 - 1)) ≡ true)
    × (fits_event (Tick (2 ^ 32) 0) ≡ false)
    × (fits_event (Tick 0 (2 ^ 64)) ≡ false)
    × (fits_event (Drop (2 ^ 32)) ≡ false)
    × (fits_event (Dispatch (act 0 (2 ^ 64) 0)) ≡ false)
    × (fits_event (Expand 0 0 (opens (Start (2 ^ 32)) ∷ [])) ≡ false)
    × (fits_event (Publish 0 0 (record { acts = act 0 0 (2 ^ 64) ∷ []; end = 0 })) ≡ false)
    × (fits_event (Limit 0 0 (2 ^ 32) 0) ≡ false)
