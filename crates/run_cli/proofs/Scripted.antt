-- Why no script is played, and what is put then.
use Rattle.std.proofs.Common.{◌≡◌, ◌⊎◌, ℕ, inl, inr, List, [], ◌∷◌, ◌++◌, Err}
use Rattle.tp_spec.specs.declared.event.Event.{Event}
use Rattle.tp_spec.specs.declared.plan.Limits.{Limits}
use Rattle.tp_spec.specs.declared.problem.Problem.{Problem}
use Rattle.tp_world.specs.Contents.{FilesView}
use Rattle.tp_world.specs.Loads.{AsksFront}
use Rattle.tp_world.specs.Views.{Outside}
use Rattle.run_cli.specs.Printing.{Prints, PrintsNothing}
use Rattle.run_cli.specs.Simulating.{script_files, HasNoScript, IsScriptStop, IsScriptRefusal, EndsUnplayed, EndsSimulate}
use Rattle.run_cli.specs.Sources.{source_files, HoldsProblem, IsSourceStop}
use Rattle.run_cli.specs.declared.loading.Stop.{Stop}
use Rattle.run_cli.specs.declared.loading.Stop.TheVariants.{Said, NoMemory}
use Rattle.run_cli.specs.declared.words.Source.{Source}
use Rattle.run_cli.proofs.FirstLoads.{all-asked}
use Rattle.run_cli.proofs.Stopping.{unread-front}

module _ (source : Source) (script : List ℕ) where
  -- the source was not read
  pub source-stop : (before after : FilesView) (stop : Stop) → IsSourceStop source (script_files script) before after stop → IsScriptStop source script before after stop
  source-stop before after (Said answer) why = inl why
  source-stop before after NoMemory asked = asked

  -- the script was not
  pub script-stop : {problem : Problem} {text : List ℕ} (before after : FilesView) (stop : Stop) → HoldsProblem source (script_files script) problem (text ∷ []) before after
      → IsScriptRefusal text stop → IsScriptStop source script before after stop
  script-stop {problem} {text} before after (Said answer) holds refused = inr (record { problem = problem; text = text; holds = holds; refuses = refused.1; status_is = refused.0 })
  script-stop {problem} {text} before after NoMemory holds refused = all-asked holds.loaded.asked

  unplayed-front : (before after : FilesView) (status : ℕ) (line : List ℕ) → HasNoScript source script before after status line → AsksFront (source_files source ++ script_files script) before after
  unplayed-front before after status line (inl why) = unread-front source (script_files script) before after status line why
  unplayed-front before after status line (inr misread) = all-asked misread.holds.loaded.asked

  -- the line that says why is put
  pub says-unplayed : (limits : Limits) (before after : Outside) (wanted : ℕ) (line : List ℕ) (status : ℕ) (history : List Event) → HasNoScript source script before.files after.files wanted line
      → Prints line wanted before.sink after.sink status ⊎ PrintsNothing before.sink after.sink status → history ≡ [] → EndsSimulate source script limits before after status history
  says-unplayed limits before after wanted line status history why (inl printed) none = inr (inl (record { wanted = wanted; line = line; why = why; printed = printed }), none)
  says-unplayed limits before after wanted line status history why (inr nothing) none =
      inr (inr (record { asked = unplayed-front before.files after.files wanted line why; printed = nothing }), none)
