-- What the trace file of a run gets: it is saved behind all that is put, and only where all of that
-- is there.
use Rattle.std.specs.Prelude.{◌≡◌, ◌⊎◌, ℕ, Bool, true, false, ◌||◌, nat_lt, nat_eq, List, [], ◌∷◌, ◌++◌, Option, Some, None}
use Rattle.tp_spec.specs.declared.event.Event.{Event}
use Rattle.tp_spec.specs.declared.plan.Limits.{Limits}
use Rattle.tp_world.specs.Contents.{Contents, FilesView, KeepsOthers, Stores}
use Rattle.tp_world.specs.Counts.{Rose}
use Rattle.tp_world.specs.Requests.{Request, Save}
use Rattle.tp_world.specs.Views.{Outside}
use Rattle.trace_text.specs.Traces.{trace_text}
use Rattle.run_cli.specs.Runs.{EndingView}
use Rattle.run_cli.specs.Simulating.{EndsSimulate}
use Rattle.run_cli.specs.Solving.{EndsSolve}
use Rattle.run_cli.specs.declared.words.Source.{Source}

-- whether a status says that a run has its result, and that all of it is put
abbrev pub is_said : ℕ → Bool
is_said status = nat_lt status 3 || nat_eq status 8

-- the trace was saved once, and nothing else was asked for
abbrev pub AsksSave : List ℕ → List Event → FilesView → FilesView → Type 0
AsksSave name history before after =
    after.requests ≡ before.requests ++ Save name (trace_text history) ∷ []

-- the file has the trace of the history, and every other file what it had
pub record IsKept (name : List ℕ) (history : List Event) (first : ℕ) (before after : FilesView)
    (status : ℕ) : Type 0 where
  pub status_is : status ≡ first
  pub asked : AsksSave name history before after
  pub stored : Stores before.contents after.contents name (trace_text history)
  pub unfailed : after.save_faults ≡ before.save_faults

-- the save failed: 6; every other file has what it had
pub record IsUnkept (name : List ℕ) (history : List Event) (before after : FilesView) (status : ℕ) :
    Type 0 where
  pub status_is : status ≡ 6
  pub asked : AsksSave name history before after
  pub others : KeepsOthers before.contents after.contents name
  pub failed : Rose before.save_faults after.save_faults

-- memory was refused, at the latest by the save: 7; every file has what it had
pub record IsHalfKept (name : List ℕ) (history : List Event) (before after : FilesView)
    (status : ℕ) : Type 0 where
  pub status_is : status ≡ 7
  pub asked : (after.requests ≡ before.requests) ⊎ AsksSave name history before after
  pub contents : after.contents ≡ before.contents
  pub unfailed : after.save_faults ≡ before.save_faults

-- the trace of a history is saved, where the status was the first one until then
abbrev pub SavesTrace : List ℕ → List Event → ℕ → FilesView → FilesView → ℕ → Type 0
SavesTrace name history first before after status =
    IsKept name history first before after status
    ⊎ (IsUnkept name history before after status ⊎ IsHalfKept name history before after status)

-- nothing is saved
abbrev pub SavesNothing : ℕ → FilesView → FilesView → ℕ → Type 0
SavesNothing first before after status = (after ≡ before) × (status ≡ first)

-- the trace is saved, where all that the run puts is there
abbrev pub SavesSaid : Bool → List ℕ → List Event → ℕ → FilesView → FilesView → ℕ → Type 0
SavesSaid true name history first before after status =
    SavesTrace name history first before after status
SavesSaid false name history first before after status = SavesNothing first before after status

-- what comes behind all that a run puts: its trace is saved, where a file is named
abbrev pub KeepsTrace : Option (List ℕ) → List Event → ℕ → FilesView → FilesView → ℕ → Type 0
KeepsTrace None history first before after status = SavesNothing first before after status
KeepsTrace (Some name) history first before after status =
    SavesSaid (is_said first) name history first before after status

-- every file has what it had, but the one that is named
abbrev pub KeepsAllBut : Option (List ℕ) → Contents → Contents → Type 0
KeepsAllBut None before after = after ≡ before
KeepsAllBut (Some name) before after = KeepsOthers before after name

-- `solve`: a search with all that it puts, at the first status, and then its trace
pub record KeepsSolve (source : Source) (l : Limits) (trace : Option (List ℕ))
    (before after : Outside) (ending : EndingView) : Type 0 where
  pub loaded : FilesView
  pub first : ℕ
  pub ends : EndsSolve source l before (record { files = loaded; sink = after.sink }) (record {
    status = first;
    history = ending.history;
    began = ending.began;
    ended = ending.ended;
  })
  pub unchanged : loaded.contents ≡ before.files.contents
  pub kept : KeepsTrace trace ending.history first loaded after.files ending.status

-- `simulate`: the play of a script with all that it puts, at the first status, and then its trace
pub record KeepsSimulate (source : Source) (script : List ℕ) (l : Limits)
    (trace : Option (List ℕ)) (before after : Outside) (status : ℕ) (history : List Event) :
    Type 0 where
  pub loaded : FilesView
  pub first : ℕ
  pub ends : EndsSimulate source script l before (record { files = loaded; sink = after.sink })
      first history
  pub unchanged : loaded.contents ≡ before.files.contents
  pub kept : KeepsTrace trace history first loaded after.files status
