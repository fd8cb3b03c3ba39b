-- What stands at the end of a script's run.
use Rattle.std.proofs.Common.{◌≡◌, ◌⊎◌, refl, sym, ap, subst, ◌∙◌, ℕ, inl, inr, false, List, [], ◌∷◌, ◌++◌}
use Rattle.std.specs.Prelude.{Result, Ok, Err}
use Rattle.std.specs.List.{flat_map}
use Rattle.std.proofs.lemmas.Bool.{false≢true}
use Rattle.tp_spec.specs.declared.event.Cause.TheVariants.{Out, Script, Memory}
use Rattle.tp_spec.specs.declared.event.Event.{Event}
use Rattle.tp_spec.specs.declared.event.Event.TheVariants.{Halt}
use Rattle.tp_spec.specs.declared.plan.Limits.{Limits}
use Rattle.tp_spec.specs.declared.plan.Timed.{Timed}
use Rattle.tp_spec.specs.declared.problem.Problem.{Problem}
use Rattle.tp_spec.specs.Machine.{IsRun, IsWholeRun}
use Rattle.tp_spec.specs.Texts.{command_of}
use Rattle.tp_world.specs.Counts.{Rose}
use Rattle.tp_world.specs.Sinks.{SinkView}
use Rattle.tp_world.specs.declared.sink.SendFault.{SendFault}
use Rattle.tp_world.specs.declared.sink.SendFault.TheVariants.{Failed, NoMemory}
use Rattle.dispatcher.specs.Sending.{commands}
use Rattle.run_laws.specs.Commitments.{CommitsGrow}
use Rattle.script_text.specs.Follows.{Follows}
use Rattle.script_text.specs.declared.script.ScriptLine.{ScriptLine}
use Rattle.serial_runs.specs.Commands.{committed, GivesCommands, PutsAll, PutsUntil, PutsSome}
use Rattle.serial_runs.specs.Endings.{EndsScript, HasResult, IsHaltedBy}
use Rattle.run_cli.specs.Outcomes.{is_end, EndsAs, GivesEnd, PrintsFront, PutsEnd, WithholdsEnd}
use Rattle.run_cli.specs.Simulating.{EndsPlay}
use Rattle.run_cli.proofs.Ended.{appends-none, prints-commands, prints-front, prints-none, prints-some, prints-whole}
use Rattle.run_cli.proofs.Solved.{one-last}

-- a result, the script's end, or a halt for this cause
abbrev Stopped : List Event → Type 0
Stopped h = HasResult h ⊎ IsHaltedBy Script h

-- where all commands were put and the end is printed the run was not halted for want of memory
ended-of : (h : List Event) (status : ℕ) → EndsAs h status → EndsScript h (Ok tt) → Stopped h
ended-of h status ends (inl result) = inl result
ended-of h status ends (inr (inr script)) = inr script
ended-of h status ends (inr (inl halted)) = absurd (false≢true (sym (ap is_end (one-last h ends.front halted.front ends.last (Halt Memory) ends.is halted.is)) ∙ ends.ended))

module _ (p : Problem) (l : Limits) (script : List ScriptLine) (h : List Event) where
  -- nothing was made
  pub unplayed : (sink : SinkView) (status : ℕ) → h ≡ [] → status ≡ 7 → EndsPlay p l script h sink sink status
  unplayed sink status none seven = inr (inr (record {
    follows = inl none;
    stopped = inl none;
    half = record {
      status_is = seven;
      run = inl none;
      front = prints-none p l h sink none (appends-none sink.held);
      unfailed = refl;
    };
  }))

  module _ (whole : IsWholeRun p l h) (follows : Follows l script h) (s t : SinkView)
      (said : flat_map (command_of p) h ≡ commands p (committed l h))
      (growth : CommitsGrow p l) where
    grows : (front rest : List Event) → h ≡ front ++ rest → (more : List Timed) × (committed l h ≡ committed l front ++ more)
    grows front rest is =
        let grown = growth front rest (subst (IsRun p l) is whole.run) in
        (grown.0, ap (committed l) is ∙ grown.1)

    -- a put failed
    unsaid : (u : SinkView) (status : ℕ) → status ≡ 6 → HasResult h ⊎ (IsHaltedBy Script h ⊎ IsHaltedBy Out h) → PrintsFront p l h s u → Rose s.faults u.faults → EndsPlay p l script h s u status
    unsaid u status six stopped front failed = inr (inl (record {
      follows = follows;
      stopped = stopped;
      broken = record { status_is = six; whole = whole; front = front; failed = failed };
    }))

    -- memory was refused
    half : (u : SinkView) (status : ℕ) → status ≡ 7 → HasResult h ⊎ (IsHaltedBy Script h ⊎ IsHaltedBy Memory h) → PrintsFront p l h s u → u.faults ≡ s.faults → EndsPlay p l script h s u status
    half u status seven stopped front unfailed = inr (inr (record {
      follows = inr follows;
      stopped = inr stopped;
      half = record { status_is = seven; run = inr whole; front = front; unfailed = unfailed };
    }))

    with-script : Stopped h → HasResult h ⊎ (IsHaltedBy Script h ⊎ IsHaltedBy Out h)
    with-script (inl result) = inl result
    with-script (inr ended) = inr (inl ended)

    of-script : EndsScript h (Ok tt) → HasResult h ⊎ (IsHaltedBy Script h ⊎ IsHaltedBy Memory h)
    of-script (inl result) = inl result
    of-script (inr (inl memory)) = inr (inr memory)
    of-script (inr (inr ended)) = inr (inl ended)

    of-failed : EndsScript h (Err Failed) → HasResult h ⊎ (IsHaltedBy Script h ⊎ IsHaltedBy Out h)
    of-failed (inl result) = inl result
    of-failed (inr out) = inr (inr out)

    of-refused : EndsScript h (Err NoMemory) → HasResult h ⊎ (IsHaltedBy Script h ⊎ IsHaltedBy Memory h)
    of-refused (inl result) = inl result
    of-refused (inr memory) = inr (inr memory)

    -- all commands were put
    all-put : (u : SinkView) (status : ℕ) → PutsAll p l h s t → EndsScript h (Ok tt) → PutsEnd p h t u status ⊎ WithholdsEnd p h t u status → EndsPlay p l script h s u status
    all-put u status all ends (inr none) =
        half u status none.status_is (of-script ends) (prints-commands p l h said grows s t u status all none) (none.unfailed ∙ all.unfailed)
    all-put u status all ends (inl e) = elim e.printed.ends [
      | inl done ↦ inl (record {
        whole = whole;
        follows = follows;
        played = record { ends = subst (EndsAs h) (sym done.status_is) e.ends; ended = ended-of h e.wanted e.ends ends };
        printed = prints-whole p l h said grows s t u e.wanted status all (sym e.printed.once) done;
      })
      | inr part ↦
          unsaid u status part.status_is (with-script (ended-of h e.wanted e.ends ends))
          (prints-front p l h said grows s t u part.printed.0 all (sym e.printed.once) part.printed.1)
          (subst (λ n. Rose n u.faults) all.unfailed part.failed)
    ]

    -- the run, its commands, and what came behind them
    pub play-ends : (sent : Result Unit SendFault) (u : SinkView) (status : ℕ) → EndsScript h sent → GivesCommands p l h s t sent → GivesEnd p h sent t u status → EndsPlay p l script h s u status
    play-ends (Ok done) u status ends put end = all-put u status put ends end
    play-ends (Err Failed) u status ends put end =
        subst (λ v. EndsPlay p l script h s v status) (sym end.1) (unsaid t status end.0 (of-failed ends) (prints-some p l h said grows s t put.front) put.failed)
    play-ends (Err NoMemory) u status ends put end =
        subst (λ v. EndsPlay p l script h s v status) (sym end.1) (half t status end.0 (of-refused ends) (prints-some p l h said grows s t put.front) put.unfailed)
