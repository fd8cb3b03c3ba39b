-- Why a command ends before its work, and what is put then.
use Rattle.std.proofs.Common.{◌≡◌, ◌⊎◌, ◌∙◌, ap, sym, refl, subst, ℕ, inl, inr, Bool, true, false, List, [], ◌∷◌, ◌++◌, Option, Some, None, Result, Ok, Err}
use Rattle.std.proofs.KnownBytes.{Keeps-refl}
use Rattle.std.proofs.lemmas.Bool.{false≢true}
use Rattle.tp_spec.specs.declared.event.Event.{Event}
use Rattle.tp_spec.specs.declared.plan.Limits.{Limits}
use Rattle.tp_spec.specs.declared.problem.Problem.{Problem}
use Rattle.tp_world.specs.Loads.{Wanted, AreLoaded, AsksFront}
use Rattle.tp_world.specs.Contents.{FilesView}
use Rattle.tp_world.specs.Sinks.{SinkView}
use Rattle.tp_world.specs.Views.{Outside, ClockView}
use Rattle.ground_text.specs.Texts.{problem_text}
use Rattle.run_cli.specs.Orders.{Answers, fault_text, is_memory}
use Rattle.run_cli.specs.Printing.{Prints, PrintsNothing}
use Rattle.run_cli.specs.Sources.{source_files, HoldsProblem, HasNoProblem}
use Rattle.run_cli.specs.Simulating.{script_files, EndsUnplayed}
use Rattle.run_cli.specs.Solving.{EndsBefore}
use Rattle.run_cli.specs.Statuses.{EndsLocal, EndsRun, EndsSummarized, EndsValidate, EndsReplay, EndsGround}
use Rattle.run_cli.specs.Runs.{EndingView, IsIdle}
use Rattle.run_cli.specs.Stopping.{file_of}
use Rattle.run_cli.specs.Replaying.{IsAnswer as IsTraceAnswered}
use Rattle.run_cli.specs.Validating.{IsAnswer}
use Rattle.run_cli.specs.declared.loading.Role.TheVariants as roles
use Rattle.run_cli.specs.declared.words.Order.{Order}
use Rattle.run_cli.specs.declared.words.Order.TheVariants.{Solve, Simulate, Validate, Ground, Replay, Summary, Help}
use Rattle.run_cli.specs.declared.words.Source.{Source}
use Rattle.run_cli.specs.declared.words.Source.TheVariants.{GroundText, Pddl}
use Rattle.run_cli.specs.declared.words.WordFault.{WordFault}
use Rattle.run_cli.specs.declared.words.WordFault.TheVariants as faults
use Rattle.run_cli.specs.Tracing.{KeepsSolve, KeepsSimulate}
use Rattle.run_cli.proofs.FirstLoads.{all-asked, none-asked, stopped-front}
use Rattle.run_cli.proofs.Traced.{seven-keeps}

-- there is no problem: a front of the files was asked for
pub unread-front : (source : Source) (further : List Wanted) (before after : FilesView) (status : ℕ) (line : List ℕ) → HasNoProblem source further before after status line
    → AsksFront (source_files source ++ further) before after
unread-front source further before after status line (inl w) = stopped-front w
unread-front source further before after status line (inr w) = all-asked w.loaded.asked

-- the line that says why is put
pub says-why : (source : Source) (further : List Wanted) (before after : Outside) (wanted : ℕ) (line : List ℕ) (status : ℕ) → HasNoProblem source further before.files after.files wanted line
    → Prints line wanted before.sink after.sink status ⊎ PrintsNothing before.sink after.sink status → EndsBefore source further before after status
says-why source further before after wanted line status why (inl printed) = inl (record { wanted = wanted; line = line; why = why; printed = printed })
says-why source further before after wanted line status why (inr nothing) = inr (record { asked = unread-front source further before.files after.files wanted line why; printed = nothing })

-- nothing is put
pub unput : (sink : SinkView) (status : ℕ) → status ≡ 7 → PrintsNothing sink sink status
unput sink status is = record { status_is = is; kept = Keeps-refl sink.held; unfailed = refl; puts = inl refl }

answer-front : (limits : Limits) (source : Source) (plan : Wanted) (before after : FilesView) (status : ℕ) (line : List ℕ) → IsAnswer limits source plan before after status line
    → AsksFront (source_files source ++ plan ∷ []) before after
answer-front limits source plan before after status line (inl w) = unread-front source (plan ∷ []) before after status line w
answer-front limits source plan before after status line (inr w) = all-asked w.holds.loaded.asked

-- the line of an answer is put
pub answer-put : (limits : Limits) (source : Source) (plan : List ℕ) (before after : Outside) (wanted : ℕ) (line : List ℕ) (status : ℕ)
    → IsAnswer limits source (file_of roles.PlanFile plan) before.files after.files wanted line
    → Prints line wanted before.sink after.sink status ⊎ PrintsNothing before.sink after.sink status → EndsValidate limits source plan before after status
answer-put limits source plan before after wanted line status answer (inl printed) = inl (record { wanted = wanted; line = line; answer = answer; printed = printed })
answer-put limits source plan before after wanted line status answer (inr nothing) =
    inr (record { asked = answer-front limits source (file_of roles.PlanFile plan) before.files after.files wanted line answer; printed = nothing })

trace-front : (limits : Limits) (source : Source) (trace : Wanted) (before after : FilesView) (status : ℕ) (line : List ℕ) → IsTraceAnswered limits source trace before after status line
    → AsksFront (source_files source ++ trace ∷ []) before after
trace-front limits source trace before after status line (inl w) = unread-front source (trace ∷ []) before after status line w
trace-front limits source trace before after status line (inr w) = all-asked w.holds.loaded.asked

-- the line of what a trace gives is put
pub replay-put : (limits : Limits) (source : Source) (trace : List ℕ) (before after : Outside) (wanted : ℕ) (line : List ℕ) (status : ℕ)
    → IsTraceAnswered limits source (file_of roles.Trace trace) before.files after.files wanted line
    → Prints line wanted before.sink after.sink status ⊎ PrintsNothing before.sink after.sink status → EndsReplay limits source trace before after status
replay-put limits source trace before after wanted line status answer (inl printed) = inl (record { wanted = wanted; line = line; answer = answer; printed = printed })
replay-put limits source trace before after wanted line status answer (inr nothing) =
    inr (record { asked = trace-front limits source (file_of roles.Trace trace) before.files after.files wanted line answer; printed = nothing })

-- the ground text of a problem is put
pub ground-put : (source : Source) (p : Problem) (before after : Outside) (status : ℕ) → HoldsProblem source [] p [] before.files after.files
    → Prints (problem_text p) 0 before.sink after.sink status ⊎ PrintsNothing before.sink after.sink status → EndsGround source before after status
ground-put source p before after status holds (inl printed) = inl (record { problem = p; holds = holds; printed = printed })
ground-put source p before after status holds (inr nothing) = inr (inr (record { asked = all-asked holds.loaded.asked; printed = nothing }))

-- the same clock, as clauses see it
pub same-clock : {C : Type 0} (count last rate : C → ℕ) (given : C → Option (List ℕ)) (begun : C → List ℕ) (x y : C) → x ≡ y
    → (let view : C → ClockView = λ c. record { count = count c; last = last c; rate = rate c; given = given c; begun = begun c } in view x ≡ view y)
same-clock count last rate given begun x y same = λ i. record { count = count (same i); last = last (same i); rate = rate (same i); given = given (same i); begun = begun (same i) }

-- memory was refused where no file was asked for
module _ (before after : Outside) (unasked : after.files ≡ before.files) where
  memory-before : (source : Source) (further : List Wanted) (status : ℕ) → PrintsNothing before.sink after.sink status → EndsBefore source further before after status
  memory-before source further status nothing = inr (record { asked = none-asked (source_files source ++ further) unasked; printed = nothing })

  memory-validate : (limits : Limits) (source : Source) (plan : List ℕ) (status : ℕ) → PrintsNothing before.sink after.sink status → EndsValidate limits source plan before after status
  memory-validate limits source plan status nothing = inr (record { asked = none-asked (source_files source ++ file_of roles.PlanFile plan ∷ []) unasked; printed = nothing })

  memory-replay : (limits : Limits) (source : Source) (trace : List ℕ) (status : ℕ) → PrintsNothing before.sink after.sink status → EndsReplay limits source trace before after status
  memory-replay limits source trace status nothing = inr (record { asked = none-asked (source_files source ++ file_of roles.Trace trace ∷ []) unasked; printed = nothing })

  memory-summary : (seed status : ℕ) (history : List Event) → PrintsNothing before.sink after.sink status → history ≡ [] → EndsSummarized seed before after status history
  memory-summary seed status history nothing none = record { unasked = unasked; ends = inr (record { none = none; nothing = nothing }) }

  memory-script : (source : Source) (script : List ℕ) (status : ℕ) → PrintsNothing before.sink after.sink status → EndsUnplayed source script before after status
  memory-script source script status nothing = inr (record { asked = none-asked (source_files source ++ script_files script) unasked; printed = nothing })

  memory-simulate : (source : Source) (script : List ℕ) (limits : Limits) (trace : Option (List ℕ)) (status : ℕ) (history : List Event) → PrintsNothing before.sink after.sink status → history ≡ []
      → KeepsSimulate source script limits trace before after status history
  memory-simulate source script limits trace status history nothing none = record {
    loaded = after.files;
    first = status;
    ends = inr (memory-script source script status nothing, none);
    unchanged = λ i. (unasked i).contents;
    kept = seven-keeps trace history after.files status nothing.status_is;
  }

  memory-solve : (source : Source) (limits : Limits) (trace : Option (List ℕ)) (ending : EndingView) → PrintsNothing before.sink after.sink ending.status → IsIdle ending
      → KeepsSolve source limits trace before after ending
  memory-solve source limits trace ending nothing idle = record {
    loaded = after.files;
    first = ending.status;
    ends = inr (memory-before source [] ending.status nothing, record { none = idle.none; same = idle.same });
    unchanged = λ i. (unasked i).contents;
    kept = seven-keeps trace ending.history after.files ending.status nothing.status_is;
  }

  memory-local : (wanted : Result Order WordFault) (status : ℕ) (history : List Event) → PrintsNothing before.sink after.sink status → history ≡ [] → EndsLocal wanted before after status history
  memory-local (Err fault) status history nothing none = record { unasked = unasked; ends = inr nothing }
  memory-local (Ok (Solve source limits trace)) status history nothing none = inr (memory-before source [] status nothing)
  memory-local (Ok (Simulate source script limits trace)) status history nothing none = memory-simulate source script limits trace status history nothing none
  memory-local (Ok (Validate source plan limits)) status history nothing none = memory-validate limits source plan status nothing
  memory-local (Ok (Ground domain problem scale)) status history nothing none = inr (memory-before (Pddl domain problem scale) [] status nothing)
  memory-local (Ok (Replay source trace limits)) status history nothing none = memory-replay limits source trace status nothing
  memory-local (Ok (Summary seed)) status history nothing none = memory-summary seed status history nothing none
  memory-local (Ok Help) status history nothing none = record { unasked = unasked; ends = inr nothing }

  memory-run : (wanted : Result Order WordFault) (ending : EndingView) → PrintsNothing before.sink after.sink ending.status → IsIdle ending → EndsRun wanted before after ending
  memory-run (Err fault) ending nothing idle = (record { unasked = unasked; ends = inr nothing }, idle)
  memory-run (Ok (Solve source limits trace)) ending nothing idle = memory-solve source limits trace ending nothing idle
  memory-run (Ok (Simulate source script limits trace)) ending nothing idle = (memory-simulate source script limits trace ending.status ending.history nothing idle.none, idle.same)
  memory-run (Ok (Validate source plan limits)) ending nothing idle = (memory-validate limits source plan ending.status nothing, idle)
  memory-run (Ok (Ground domain problem scale)) ending nothing idle = (inr (memory-before (Pddl domain problem scale) [] ending.status nothing), idle)
  memory-run (Ok (Replay source trace limits)) ending nothing idle = (memory-replay limits source trace ending.status nothing, idle)
  memory-run (Ok (Summary seed)) ending nothing idle = (memory-summary seed ending.status ending.history nothing idle.none, idle.same)
  memory-run (Ok Help) ending nothing idle = (record { unasked = unasked; ends = inr nothing }, idle)

refused-words : (fault : WordFault) (wanted : Result Order WordFault) → Answers (Err fault) wanted → is_memory fault ≡ false → wanted ≡ Err fault
refused-words (faults.NoCommand at) wanted answers known = answers
refused-words (faults.UnknownCommand at) wanted answers known = answers
refused-words (faults.UnknownOption at) wanted answers known = answers
refused-words (faults.Twice at) wanted answers known = answers
refused-words (faults.NoValue at) wanted answers known = answers
refused-words (faults.BadNumber at) wanted answers known = answers
refused-words (faults.FileCount at) wanted answers known = answers
refused-words (faults.ScaleOfGround at) wanted answers known = answers
refused-words (faults.Missing at) wanted answers known = answers
refused-words faults.NoMemory wanted answers known = absurd (false≢true (sym known))

-- what the words' fault, or a refusal of memory, gives
module _ (fault : WordFault) (wanted : Result Order WordFault) (answers : Answers (Err fault) wanted) (before after : Outside) (unasked : after.files ≡ before.files) where
  at-local : (b : Bool) (status : ℕ) (history : List Event) → is_memory fault ≡ b → Prints (fault_text fault) 3 before.sink after.sink status ⊎ PrintsNothing before.sink after.sink status
      → (is_memory fault ≡ true → PrintsNothing before.sink after.sink status) → history ≡ [] → EndsLocal wanted before after status history
  at-local true status history is printed nothing none = memory-local before after unasked wanted status history (nothing is) none
  at-local false status history is printed nothing none =
      subst (λ (r : Result Order WordFault). EndsLocal r before after status history) (sym (refused-words fault wanted answers is)) (record { unasked = unasked; ends = printed })

  pub fault-local : (status : ℕ) (history : List Event) → Prints (fault_text fault) 3 before.sink after.sink status ⊎ PrintsNothing before.sink after.sink status
      → (is_memory fault ≡ true → PrintsNothing before.sink after.sink status) → history ≡ [] → EndsLocal wanted before after status history
  fault-local status history printed nothing none = at-local (is_memory fault) status history refl printed nothing none

  at-run : (b : Bool) (ending : EndingView) → is_memory fault ≡ b → Prints (fault_text fault) 3 before.sink after.sink ending.status ⊎ PrintsNothing before.sink after.sink ending.status
      → (is_memory fault ≡ true → PrintsNothing before.sink after.sink ending.status) → IsIdle ending → EndsRun wanted before after ending
  at-run true ending is printed nothing idle = memory-run before after unasked wanted ending (nothing is) idle
  at-run false ending is printed nothing idle =
      subst (λ (r : Result Order WordFault). EndsRun r before after ending) (sym (refused-words fault wanted answers is)) (record { unasked = unasked; ends = printed }, idle)

  pub fault-run : (ending : EndingView) → Prints (fault_text fault) 3 before.sink after.sink ending.status ⊎ PrintsNothing before.sink after.sink ending.status
      → (is_memory fault ≡ true → PrintsNothing before.sink after.sink ending.status) → IsIdle ending → EndsRun wanted before after ending
  fault-run ending printed nothing idle = at-run (is_memory fault) ending refl printed nothing idle
