-- What the definitions say of small scripts and histories, both where a thing holds and where it
-- does not.
use Rattle.std.specs.Prelude.{◌≡◌, ℕ, ◌^◌, ◌-◌, Bool, true, false, List, [], ◌∷◌, codes, Ok, Err, map}
use Rattle.tp_spec.specs.declared.event.Cause.TheVariants.{Out, Script, Memory}
use Rattle.tp_spec.specs.declared.event.Event.{Event}
use Rattle.tp_spec.specs.declared.event.Event.TheVariants.{Tick, Drop, Dispatch, Take, Expand, Exhaust, Halt}
use Rattle.tp_spec.specs.declared.plan.Item.TheVariants.{Start}
use Rattle.tp_spec.specs.Samples.{act, limits, opens}
use Rattle.tp_spec.specs.Machine.{first}
use Rattle.script_text.specs.declared.script.ScriptLine.{ScriptLine}
use Rattle.script_text.specs.declared.script.Verb.{Verb}
use Rattle.script_text.specs.declared.script.Verb.TheVariants as verbs
use Rattle.script_text.specs.declared.script.ScriptFault.TheVariants as faults
use Rattle.script_text.specs.Scripts.{script_of}
use Rattle.script_text.specs.Playable.{nobody, are_in_turn, has_actor}
use Rattle.script_text.specs.Follows.{follow, nothing}

abbrev pub line : ℕ → Verb → ℕ → ScriptLine
line reading verb actor = record { reading = reading; verb = verb; actor = actor }

-- The empty text is a script. Two takes are one where each is merged before the next.
abbrev pub Scripts : Type 0
Scripts = (script_of [] ≡ Ok [])
    × (script_of (codes "5 take 1\n7 merge 1\n7 take 2\n9 look 0\n")
    ≡ Ok (line 5 verbs.Take 1 ∷ line 7 verbs.Merge 1 ∷ line 7 verbs.Take 2
    ∷ line 9 verbs.Look 0 ∷ []))
    × (script_of (codes "1 take 8\n2 look 8\n3 merge 8\n4 take 8\n")
    ≡ Ok (line 1 verbs.Take 8 ∷ line 2 verbs.Look 8 ∷ line 3 verbs.Merge 8
    ∷ line 4 verbs.Take 8 ∷ []))

-- A take by who has one out is a fault, whatever others do between; one by another actor is none.
abbrev pub TwoTakes : Type 0
TwoTakes = (script_of (codes "1 take 1\n2 take 1\n") ≡ Err (faults.Holding 2))
    × (script_of (codes "1 take 1\n2 take 2\n3 merge 2\n4 take 1\n") ≡ Err (faults.Holding 4))
    × (script_of (codes "1 take 1\n2 look 0\n3 take 2\n")
    ≡ Ok (line 1 verbs.Take 1 ∷ line 2 verbs.Look 0 ∷ line 3 verbs.Take 2 ∷ []))
    × (script_of (codes "1 take 2\n2 take 1\n3 merge 2\n4 take 2\n5 merge 1\n")
    ≡ Ok (line 1 verbs.Take 2 ∷ line 2 verbs.Take 1 ∷ line 3 verbs.Merge 2
    ∷ line 4 verbs.Take 2 ∷ line 5 verbs.Merge 1 ∷ []))

-- A merge by who has no take out.
abbrev pub IdleMerges : Type 0
IdleMerges = (script_of (codes "1 merge 1\n") ≡ Err (faults.Idle 1))
    × (script_of (codes "1 take 1\n2 merge 1\n3 merge 1\n") ≡ Err (faults.Idle 3))
    × (script_of (codes "1 take 1\n2 merge 2\n") ≡ Err (faults.Idle 2))
    × (script_of (codes "1 take 1\n2 take 2\n3 merge 1\n4 merge 1\n") ≡ Err (faults.Idle 4))

-- A last piece without a line feed is no line, whatever it says.
abbrev pub NoFeeds : Type 0
NoFeeds = (script_of (codes "1 take 1") ≡ Err (faults.Line 1))
    × (script_of (codes "1 take 1\n2 merge 1") ≡ Err (faults.Line 2))
    × (script_of (codes "1 take 1\n2 take 1") ≡ Err (faults.Line 2))

-- The dispatcher only looks, and there are at most 8 workers.
abbrev pub Actors : Type 0
Actors = (script_of (codes "1 look 0\n2 look 8\n")
    ≡ Ok (line 1 verbs.Look 0 ∷ line 2 verbs.Look 8 ∷ []))
    × (script_of (codes "1 look 9\n") ≡ Err (faults.Line 1))
    × (script_of (codes "1 take 9\n") ≡ Err (faults.Line 1))
    × (script_of (codes "1 take 0\n") ≡ Err (faults.Line 1))
    × (script_of (codes "1 merge 0\n") ≡ Err (faults.Line 1))
    × (script_of (codes "1 take 01\n") ≡ Err (faults.Line 1))

-- A reading is below 2 ^ 64, in at most 20 digits.
abbrev pub ReadingTexts : Type 0
ReadingTexts = (script_of (codes "18446744073709551615 look 0\n")
    ≡ Ok (line (2 ^ 64 - 1) verbs.Look 0 ∷ []))
    × (script_of (codes "18446744073709551616 look 0\n") ≡ Err (faults.Line 1))
    × (script_of (codes "00000000000000000005 look 0\n") ≡ Ok (line 5 verbs.Look 0 ∷ []))
    × (script_of (codes "000000000000000000005 look 0\n") ≡ Err (faults.Line 1))
    × (script_of (codes "+5 look 0\n") ≡ Err (faults.Line 1))

-- Three words with one space between, and nothing else.
abbrev pub Forms : Type 0
Forms = (script_of (codes "\n") ≡ Err (faults.Line 1))
    × (script_of (codes "1 look\n") ≡ Err (faults.Line 1))
    × (script_of (codes "1  look 0\n") ≡ Err (faults.Line 1))
    × (script_of (codes " 1 look 0\n") ≡ Err (faults.Line 1))
    × (script_of (codes "1 look 0 \n") ≡ Err (faults.Line 1))
    × (script_of (codes "1 Look 0\n") ≡ Err (faults.Line 1))
    × (script_of (codes " look 0\n") ≡ Err (faults.Line 1))

-- The first line that has a fault counts.
abbrev pub FirstLines : Type 0
FirstLines = (script_of (codes "1 merge 1\n2 look 9\n") ≡ Err (faults.Idle 1))
    × (script_of (codes "1 take 1\n2 look 9\n3 take 1\n") ≡ Err (faults.Line 2))

-- Each actor takes and merges in turn, while others do the same; the dispatcher only looks.
abbrev pub Playables : Type 0
Playables = (are_in_turn nobody (line 1 verbs.Take 1 ∷ line 2 verbs.Look 2
    ∷ line 3 verbs.Merge 1 ∷ line 4 verbs.Take 2 ∷ []) ≡ true)
    × (are_in_turn nobody (line 1 verbs.Take 1 ∷ line 2 verbs.Take 2 ∷ line 3 verbs.Merge 1
    ∷ line 4 verbs.Take 1 ∷ line 5 verbs.Merge 2 ∷ []) ≡ true)
    × (are_in_turn nobody (line 1 verbs.Take 1 ∷ line 2 verbs.Merge 2 ∷ []) ≡ false)
    × (are_in_turn nobody (line 1 verbs.Merge 1 ∷ []) ≡ false)
    × (are_in_turn nobody (line 1 verbs.Take 1 ∷ line 2 verbs.Take 2 ∷ line 3 verbs.Take 1
    ∷ []) ≡ false)
    × (map has_actor (line 1 verbs.Look 0 ∷ line 1 verbs.Take 0 ∷ line 1 verbs.Take 8
    ∷ line 1 verbs.Look 9 ∷ []) ≡ true ∷ false ∷ true ∷ false ∷ [])

-- whether a history follows a script
abbrev pub follows : List ScriptLine → List Event → Bool
follows script history = follow (limits 2 9) first nothing script history

abbrev pub takes_root : List ScriptLine
takes_root = line 5 verbs.Take 1 ∷ []

-- A take line is a turn of its actor with its reading, in which a node is taken or none is left
-- open, or an outcome stands.
abbrev pub TakeLines : Type 0
TakeLines = (follows takes_root (Tick 1 5 ∷ Take 1 0 ∷ []) ≡ true)
    × (follows takes_root (Tick 1 5 ∷ []) ≡ false)
    × (follows takes_root (Tick 2 5 ∷ Take 2 0 ∷ []) ≡ false)
    × (follows takes_root (Tick 1 6 ∷ Take 1 0 ∷ []) ≡ false)
    × (follows takes_root (Tick 1 5 ∷ Drop 0 ∷ []) ≡ true)
    × (follows takes_root (Tick 1 5 ∷ Exhaust ∷ []) ≡ true)

-- behind a line by which the root is taken, one by which it is merged
abbrev pub merges_root : List ScriptLine
merges_root = line 5 verbs.Take 1 ∷ line 6 verbs.Merge 1 ∷ []

-- A merge line is a turn with a deed on what was taken, unless that is gone. Where nothing was
-- taken it has no deed.
abbrev pub MergeLines : Type 0
MergeLines = (follows merges_root (Tick 1 5 ∷ Take 1 0 ∷ Tick 1 6
    ∷ Expand 1 0 (opens (Start 0) ∷ []) ∷ []) ≡ true)
    × (follows merges_root (Tick 1 5 ∷ Take 1 0 ∷ Tick 1 6 ∷ []) ≡ false)
    × (follows merges_root (Tick 1 5 ∷ Take 1 0 ∷ Tick 1 6 ∷ Expand 1 3 [] ∷ []) ≡ false)
    × (follows merges_root (Tick 1 5 ∷ Take 1 0 ∷ Tick 1 6 ∷ Drop 0 ∷ []) ≡ true)
    × (follows merges_root (Tick 1 5 ∷ Drop 0 ∷ Tick 1 6 ∷ []) ≡ true)
    × (follows merges_root (Tick 1 5 ∷ Drop 0 ∷ Tick 1 6 ∷ Take 1 0 ∷ []) ≡ false)

-- A look line is a turn without a deed.
abbrev pub LookLines : Type 0
LookLines = (follows (line 5 verbs.Look 0 ∷ []) (Tick 0 5 ∷ []) ≡ true)
    × (follows (line 5 verbs.Look 0 ∷ []) (Tick 0 5 ∷ Dispatch (act 0 8 2) ∷ []) ≡ true)
    × (follows (line 5 verbs.Look 2 ∷ []) (Tick 2 5 ∷ Take 2 0 ∷ []) ≡ false)

-- Each merge line is judged by what its own actor took, whatever others took since.
abbrev pub TwoOut : Type 0
TwoOut = (follows (line 5 verbs.Take 1 ∷ line 5 verbs.Take 2 ∷ line 6 verbs.Merge 1 ∷ [])
    (Tick 1 5 ∷ Take 1 0 ∷ Tick 2 5 ∷ Tick 1 6 ∷ Expand 1 0 [] ∷ []) ≡ true)
    × (follows (line 5 verbs.Take 1 ∷ line 5 verbs.Take 2 ∷ line 6 verbs.Merge 2 ∷ [])
    (Tick 1 5 ∷ Take 1 0 ∷ Tick 2 5 ∷ Tick 2 6 ∷ []) ≡ true)
    × (follows (line 5 verbs.Take 1 ∷ line 5 verbs.Take 2 ∷ line 6 verbs.Merge 2 ∷ [])
    (Tick 1 5 ∷ Take 1 0 ∷ Tick 2 5 ∷ Tick 2 6 ∷ Expand 2 0 [] ∷ []) ≡ false)

-- What a worker took stays its own while others look.
abbrev pub LooksBetween : Type 0
LooksBetween = (follows (line 5 verbs.Take 1 ∷ line 5 verbs.Look 0 ∷ line 6 verbs.Merge 1 ∷ [])
    (Tick 1 5 ∷ Take 1 0 ∷ Tick 0 5 ∷ Tick 1 6 ∷ Expand 1 0 [] ∷ []) ≡ true)
    × (follows (line 5 verbs.Take 1 ∷ line 5 verbs.Look 0 ∷ line 6 verbs.Merge 1 ∷ [])
    (Tick 1 5 ∷ Take 1 0 ∷ Tick 0 5 ∷ Tick 1 6 ∷ []) ≡ false)

-- A history ends with its script, by a Halt or without one, and has no turn more. It ends before a
-- line only where an outcome stands, or by a Halt that is not the script's.
abbrev pub Ends : Type 0
Ends = (follows [] [] ≡ true)
    × (follows [] (Halt Script ∷ []) ≡ true)
    × (follows [] (Halt Script ∷ Halt Script ∷ []) ≡ false)
    × (follows [] (Tick 1 5 ∷ []) ≡ false)
    × (follows takes_root (Tick 1 5 ∷ Take 1 0 ∷ Halt Script ∷ []) ≡ true)
    × (follows takes_root [] ≡ false)
    × (follows takes_root (Halt Script ∷ []) ≡ false)
    × (follows takes_root (Halt Out ∷ []) ≡ true)
    × (follows takes_root (Halt Memory ∷ Tick 1 5 ∷ Take 1 0 ∷ []) ≡ false)
    × (follows merges_root (Tick 1 5 ∷ Exhaust ∷ []) ≡ true)
    × (follows merges_root (Tick 1 5 ∷ Take 1 0 ∷ []) ≡ false)
