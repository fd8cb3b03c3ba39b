-- What the rules say of small histories, worked out by hand.
use Rattle.std.specs.Prelude.{List, [], ◌∷◌, ◌++◌, None}
use Rattle.tp_spec.specs.declared.event.Cause.TheVariants.{Script}
use Rattle.tp_spec.specs.declared.event.Event.{Event}
use Rattle.tp_spec.specs.declared.event.Event.TheVariants.{Tick, Dispatch, Take, Expand, Publish, Limit, Exhaust, Halt}
use Rattle.tp_laws.specs.Examples.{act}
use Rattle.situated_machine.specs.declared.replayed.Replayed.{Replayed}
use Rattle.situated_machine.specs.declared.replayed.Replayed.TheVariants.{Run, Broken}
use Rattle.situated_machine.specs.declared.replayed.Rule.TheVariants as rules
use Rattle.situated_machine.specs.Rules.{BreaksFirst}
use Rattle.situated_machine.specs.Replays.{IsReplay}
use Rattle.situated_machine.specs.Samples.{drive, narrow, driving, arrived, expands_root, takes_arrived, drives_at, drive_run, node, amid}

-- the answer to a history of the drive
abbrev pub Answers : List Event → Replayed → Type 0
Answers history answer = IsReplay drive narrow history answer

-- The search for a plan of the drive is a run of 12 events.
abbrev pub WholeRun : Type 0
WholeRun = Answers drive_run (Run 12)

-- A history of no events is a run.
abbrev pub EmptyRun : Type 0
EmptyRun = Answers [] (Run 0)

-- At 12, with a lead of 3, the drive is due: it starts at 15.
abbrev pub DueRun : Type 0
DueRun = Answers (expands_root ++ Tick 0 12 ∷ Dispatch (act 0 15 5) ∷ []) (Run 6)

-- Behind a Halt nothing comes.
abbrev pub AfterOutcome : Type 0
AfterOutcome = Answers (Halt Script ∷ Tick 1 0 ∷ []) (Broken 1 rules.Outcome)

-- No node is taken before the first turn, nor by another actor than the turn's.
abbrev pub OutOfTurn : Type 0
OutOfTurn = Answers (Take 1 0 ∷ []) (Broken 0 rules.Turn)
    × Answers (Tick 2 0 ∷ Take 1 0 ∷ []) (Broken 1 rules.Turn)

-- Node 1 is not there while only the root is, whatever comes behind that.
abbrev pub NoSuchNode : Type 0
NoSuchNode = Answers (Tick 1 0 ∷ Take 1 1 ∷ Tick 1 0 ∷ Expand 1 0 driving ∷ takes_arrived
    ++ Publish 1 2 (drives_at 0) ∷ []) (Broken 1 rules.Id)

-- An open node is expanded by nobody, and one that is taken is not taken again.
abbrev pub OthersNode : Type 0
OthersNode = Answers (Tick 1 0 ∷ Expand 1 0 driving ∷ []) (Broken 1 rules.Id)
    × Answers (Tick 1 0 ∷ Take 1 0 ∷ Tick 2 0 ∷ Take 2 0 ∷ []) (Broken 3 rules.Id)

-- The least open node is the one that has arrived, though its id is greater.
abbrev pub NotLeast : Type 0
NotLeast = BreaksFirst drive narrow (amid 0 (node 3 driving None ∷ node 4 arrived None ∷ []) 5)
    (Take 1 3) rules.Least

-- At 16 the drive can no longer end by 20.
abbrev pub TooLate : Type 0
TooLate = Answers (expands_root ++ Tick 1 16 ∷ Take 1 1 ∷ []) (Broken 5 rules.Live)

-- The root has one live mark, the start of the drive.
abbrev pub MissingMark : Type 0
MissingMark = Answers (Tick 1 0 ∷ Take 1 0 ∷ Tick 1 0 ∷ Expand 1 0 [] ∷ []) (Broken 3 rules.Marks)

-- At 11 the drive is not due, and at the root nothing is.
abbrev pub NothingDue : Type 0
NothingDue = Answers (expands_root ++ Tick 0 11 ∷ Dispatch (act 0 15 5) ∷ [])
    (Broken 5 rules.Commit)
    × Answers (Tick 0 0 ∷ Dispatch (act 0 15 5) ∷ []) (Broken 1 rules.Commit)

-- The plan to publish is that of the least schedule.
abbrev pub LaterPlan : Type 0
LaterPlan = Answers (expands_root ++ takes_arrived ++ Publish 1 2 (drives_at 1) ∷ [])
    (Broken 11 rules.Plan)

-- There are ids enough for one child.
abbrev pub NotFull : Type 0
NotFull = Answers (Tick 1 0 ∷ Take 1 0 ∷ Tick 1 0 ∷ Limit 1 0 1 1 ∷ []) (Broken 3 rules.Number)

-- An Exhaust waits for an empty frontier, and a Tick for what is due.
abbrev pub TooEarly : Type 0
TooEarly = Answers (Tick 1 0 ∷ Exhaust ∷ []) (Broken 1 rules.Early)
    × Answers (expands_root ++ Tick 0 12 ∷ Tick 1 12 ∷ []) (Broken 5 rules.Early)
