-- What stands at the end of a search.
use Rattle.std.proofs.Common.{◌≡◌, ◌⊎◌, refl, sym, ap, subst, ◌∙◌, ℕ, ◌<◌, inl, inr, Option, Some, None, IfSome, true, false, List, [], ◌∷◌, ◌++◌, fold, length, length-append, arith}
use Rattle.std.specs.Prelude.{Result, Ok, Err}
use Rattle.std.specs.List.{flat_map}
use Rattle.std.proofs.lemmas.Bool.{false≢true}
use Rattle.std.proofs.lemmas.List.Sums.{fold-append}
use Rattle.tp_spec.specs.declared.event.Cause.TheVariants.{Out, Memory}
use Rattle.tp_spec.specs.declared.event.Event.{Event}
use Rattle.tp_spec.specs.declared.event.Event.TheVariants.{Tick, Drop, Dispatch, Take, Expand, Publish, Limit, Exhaust, Halt}
use Rattle.tp_spec.specs.declared.plan.Limits.{Limits}
use Rattle.tp_spec.specs.declared.plan.Timed.{Timed}
use Rattle.tp_spec.specs.declared.problem.Problem.{Problem}
use Rattle.serial_runs.specs.OneWorker.{IsWorked}
use Rattle.tp_spec.specs.Following.{IsBusy}
use Rattle.tp_spec.specs.Machine.{IsRun, IsWholeRun}
use Rattle.tp_spec.specs.Texts.{command_of}
use Rattle.tp_world.specs.Counts.{count_after}
use Rattle.tp_world.specs.Readings.{AreNext}
use Rattle.open_tree.specs.Charter.{SameCharter}
use Rattle.open_tree.specs.Turns.{IsTold}
use Rattle.open_tree.specs.Views.{TreeView}
use Rattle.tp_world.specs.Counts.{Rose}
use Rattle.tp_world.specs.Sinks.{SinkView}
use Rattle.tp_world.specs.Views.{ClockView}
use Rattle.tp_world.specs.declared.sink.SendFault.{SendFault}
use Rattle.tp_world.specs.declared.sink.SendFault.TheVariants.{Failed, NoMemory}
use Rattle.dispatcher.specs.Sending.{commands}
use Rattle.run_laws.specs.Commitments.{CommitsGrow}
use Rattle.serial_runs.specs.Commands.{committed, GivesCommands, PutsAll, PutsUntil, PutsSome}
use Rattle.serial_runs.specs.Endings.{is_result, Ends, HasResult, IsHaltedBy}
use Rattle.run_cli.specs.Outcomes.{is_end, status_of, EndsAs, GivesEnd, PrintsFront, PutsEnd, WithholdsEnd}
use Rattle.run_cli.proofs.Ended.{appends-none, prints-commands, prints-front, prints-none, prints-some, prints-whole}
use Rattle.run_cli.specs.Runs.{EndingView, HasReadings, IsBegun}
use Rattle.run_cli.specs.Solving.{EndsSearch}

-- a result ends a run, with a status below 3
result-ends : (e : Event) → is_result e ≡ true → status_of e < 3
result-ends (Tick actor reading) r = absurd (false≢true r)
result-ends (Drop id) r = absurd (false≢true r)
result-ends (Dispatch act) r = absurd (false≢true r)
result-ends (Take actor id) r = absurd (false≢true r)
result-ends (Expand actor id marks) r = absurd (false≢true r)
result-ends (Publish actor id plan) r = omega arith
result-ends (Limit actor id made marks) r = omega arith
result-ends Exhaust r = omega arith
result-ends (Halt cause) r = absurd (false≢true r)

-- two last events are one
abbrev last_of : Event → List Event → Event
last_of first h = fold (λ earlier e. e) first h

last-is : (first : Event) (front : List Event) (e : Event) → last_of first (front ++ e ∷ []) ≡ e
last-is first front e = fold-append (λ earlier x. x) first front (e ∷ [])

pub one-last : (h front other : List Event) (e f : Event) → h ≡ front ++ e ∷ [] → h ≡ other ++ f ∷ [] → e ≡ f
one-last h front other e f is also = sym (last-is e front e) ∙ ap (last_of e) (sym is ∙ also) ∙ last-is e other f

-- a history that ends with a result, or was halted for want of memory, and has a printed end
pub result-of : (h : List Event) (status : ℕ) → EndsAs h status → Ends h (Ok tt) → HasResult h
result-of h status ends (inl result) = result
result-of h status ends (inr halted) = absurd (false≢true (sym (ap is_end (one-last h ends.front halted.front ends.last (Halt Memory) ends.is halted.is)) ∙ ends.ended))

pub below-of : (h : List Event) (status : ℕ) → EndsAs h status → HasResult h → status < 3
below-of h status ends r =
    let same : ends.last ≡ r.last = one-last h ends.front r.front ends.last r.last ends.is r.is in
    omega (arith, ends.gives ∙ ap status_of same, result-ends r.last r.result)

-- where the clock was not read and the history is empty
pub told-unread : (count count' last last' : ℕ) (given : Option (List ℕ)) (h : List Event) → count' ≡ count → last' ≡ last → h ≡ [] → IsTold count count' last last' given h
told-unread count count' last last' given h counts lasts none = subst (IsTold count count' last last' given) (sym none) (record {
  spare = false;
  counted = counts ∙ still count;
  latest = λ _. lasts;
  behind = λ more. absurd (false≢true more);
  next = none_read given;
}) where
  still : (n : ℕ) → n ≡ count_after n 0
  still n = omega arith

  none_read : (o : Option (List ℕ)) → IfSome o (λ xs. AreNext xs count [])
  none_read None = tt
  none_read (Some xs) = λ k below. absurd (omega (arith, below))

-- a search, from its clock as it came in to its parts at the end
module _ {C : Type 0} (count last rate : C → ℕ) (given : C → Option (List ℕ)) (begun : C → List ℕ) (p : Problem) (l : Limits) where
  abbrev pub clock-view : C → ClockView
  clock-view c = record { count = count c; last = last c; rate = rate c; given = given c; begun = begun c }

  abbrev pub ending-of : ℕ → List Event → C → C → EndingView
  ending-of status h x z = record { status = status; history = h; began = clock-view x; ended = clock-view z }

  -- the clock `x` was begun, which made it `y`
  module _ (x y : C) (counts : count y ≡ count x) (lasts : last y ≡ last x) (givens : given y ≡ given x)
      (begins : begun y ≡ begun x ++ p.scale ∷ []) (rates : rate y ≡ p.scale) where
    -- no tree was made
    pub unmade : (sink : SinkView) (status : ℕ) (h : List Event) (z : C) → z ≡ y → h ≡ [] → status ≡ 7
        → EndsSearch p l sink sink (ending-of status h x z)
    unmade sink status h z same none seven = inr (inr (record {
      begun = record { begun = ap begun same ∙ begins; rated = ap rate same ∙ rates };
      readings = record {
        given = ap given same ∙ givens;
        ticks = told-unread (count x) (count z) (last x) (last z) (given x) h (ap count same ∙ counts) (ap last same ∙ lasts) none;
      };
      stopped = inl none;
      half = record {
        status_is = seven;
        run = inl none;
        front = prints-none p l h sink none (appends-none sink.held);
        unfailed = refl;
      };
    }))

    module _ (made new : TreeView C) (h : List Event) (z : C)
        (problem : made.problem ≡ p) (limits : made.limits ≡ l) (opened : made.opened ≡ y) (same : SameCharter made new) (history : h ≡ new.history) (ends : z ≡ new.clock)
        (whole : IsWholeRun new.problem new.limits h) (rated : rate z ≡ new.problem.scale) (begun-kept : begun z ≡ begun new.opened) (given-kept : given z ≡ given new.opened)
        (told : IsTold (count new.opened) (count new.clock) (last new.opened) (last new.clock) (given new.opened) new.history)
        (sent : Result Unit SendFault) (s t : SinkView)
        (ended : Ends new.history sent) (is_busy : HasResult new.history → IsWorked new.limits new.history)
        (put : GivesCommands p new.limits new.history s t sent)
        (said : flat_map (command_of p) h ≡ commands p (committed l h))
        (growth : CommitsGrow p l) where
      problem-kept : new.problem ≡ p
      problem-kept = sym same.problem ∙ problem

      limits-kept : new.limits ≡ l
      limits-kept = sym same.limits ∙ limits

      at-start : new.opened ≡ y
      at-start = sym same.opened ∙ opened

      whole-of : IsWholeRun p l h
      whole-of = subst (λ q. IsWholeRun q l h) problem-kept (subst (λ m. IsWholeRun new.problem m h) limits-kept whole)

      ended-of : Ends h sent
      ended-of = subst (λ k. Ends k sent) (sym history) ended

      busy-of : HasResult h → IsBusy l 1 h
      busy-of result = subst (λ m. IsBusy m 1 h) limits-kept (subst (IsBusy new.limits 1) (sym history) (is_busy (subst HasResult history result)).busy)

      put-of : GivesCommands p l h s t sent
      put-of = subst (λ m. GivesCommands p m h s t sent) limits-kept (subst (λ k. GivesCommands p new.limits k s t sent) (sym history) put)

      told-of : IsTold (count x) (count z) (last x) (last z) (given x) h
      told-of =
          let first : IsTold (count y) (count new.clock) (last y) (last new.clock) (given y) new.history = subst (λ w. IsTold (count w) (count new.clock) (last w) (last new.clock) (given w) new.history) at-start told in
          let second : IsTold (count y) (count z) (last y) (last z) (given y) new.history = subst (λ w. IsTold (count y) (count w) (last y) (last w) (given y) new.history) (sym ends) first in
          let third : IsTold (count y) (count z) (last y) (last z) (given y) h = subst (IsTold (count y) (count z) (last y) (last z) (given y)) (sym history) second in
          subst (λ n. IsTold n (count z) (last x) (last z) (given x) h) counts
          (subst (λ n. IsTold (count y) (count z) n (last z) (given x) h) lasts
          (subst (λ o. IsTold (count y) (count z) (last y) (last z) o h) givens third))

      readings-of : (status : ℕ) → HasReadings (ending-of status h x z)
      readings-of status = record { given = given-kept ∙ ap given at-start ∙ givens; ticks = told-of }

      begun-of : (status : ℕ) → IsBegun p.scale (ending-of status h x z)
      begun-of status = record {
        begun = begun-kept ∙ ap begun at-start ∙ begins;
        rated = rated ∙ ap (λ (q : Problem). q.scale) problem-kept;
      }

      grows : (front rest : List Event) → h ≡ front ++ rest → (more : List Timed) × (committed l h ≡ committed l front ++ more)
      grows front rest is =
          let grown = growth front rest (subst (IsRun p l) is whole-of.run) in
          (grown.0, ap (committed l) is ∙ grown.1)

      -- a put failed
      unsaid : (u : SinkView) (status : ℕ) → status ≡ 6 → HasResult h ⊎ IsHaltedBy Out h → PrintsFront p l h s u → Rose s.faults u.faults
          → EndsSearch p l s u (ending-of status h x z)
      unsaid u status six stopped front failed = inr (inl (record {
        begun = begun-of status;
        readings = readings-of status;
        stopped = stopped;
        broken = record { status_is = six; whole = whole-of; front = front; failed = failed };
      }))

      -- memory was refused
      half : (u : SinkView) (status : ℕ) → status ≡ 7 → HasResult h ⊎ IsHaltedBy Memory h → PrintsFront p l h s u → u.faults ≡ s.faults
          → EndsSearch p l s u (ending-of status h x z)
      half u status seven stopped front unfailed = inr (inr (record {
        begun = begun-of status;
        readings = readings-of status;
        stopped = inr stopped;
        half = record { status_is = seven; run = inr whole-of; front = front; unfailed = unfailed };
      }))

      -- all commands were put
      all-put : (u : SinkView) (status : ℕ) → PutsAll p l h s t → Ends h (Ok tt) → PutsEnd p h t u status ⊎ WithholdsEnd p h t u status
          → EndsSearch p l s u (ending-of status h x z)
      all-put u status all ends (inr none) =
          half u status none.status_is ends (prints-commands p l h said grows s t u status all none) (none.unfailed ∙ all.unfailed)
      all-put u status all ends (inl e) = elim e.printed.ends [
        | inl whole ↦
            let result : HasResult h = result-of h e.wanted e.ends ends in
            let same : status ≡ e.wanted = whole.status_is in
            inl (record {
              solution = record {
                below = omega (arith, same, below-of h e.wanted e.ends result);
                ends = subst (EndsAs h) (sym same) e.ends;
                whole = whole-of;
                busy = busy-of result;
                begun = begun-of status;
                readings = readings-of status;
              };
              printed = prints-whole p l h said grows s t u e.wanted status all (sym e.printed.once) whole;
            })
        | inr part ↦
            unsaid u status part.status_is (inl (result-of h e.wanted e.ends ends))
            (prints-front p l h said grows s t u part.printed.0 all (sym e.printed.once) part.printed.1)
            (subst (λ n. Rose n u.faults) all.unfailed part.failed)
      ]

      -- the search, its commands, and what came behind them
      pub search-ends : (u : SinkView) (status : ℕ) → GivesEnd p h sent t u status → EndsSearch p l s u (ending-of status h x z)
      search-ends u status end = by_sent sent refl where
        by_sent : (r : Result Unit SendFault) → sent ≡ r → EndsSearch p l s u (ending-of status h x z)
        by_sent (Ok done) is =
            all-put u status (subst (GivesCommands p l h s t) is put-of) (subst (Ends h) is ended-of) (subst (λ r. GivesEnd p h r t u status) is end)
        by_sent (Err Failed) is =
            let puts : PutsUntil p l h s t = subst (GivesCommands p l h s t) is put-of in
            let stays : (status ≡ 6) × (u ≡ t) = subst (λ r. GivesEnd p h r t u status) is end in
            subst (λ v. EndsSearch p l s v (ending-of status h x z)) (sym stays.1)
            (unsaid t status stays.0 (subst (Ends h) is ended-of) (prints-some p l h said grows s t puts.front) puts.failed)
        by_sent (Err NoMemory) is =
            let puts : PutsSome p l h s t = subst (GivesCommands p l h s t) is put-of in
            let stays : (status ≡ 7) × (u ≡ t) = subst (λ r. GivesEnd p h r t u status) is end in
            subst (λ v. EndsSearch p l s v (ending-of status h x z)) (sym stays.1)
            (half t status stays.0 (subst (Ends h) is ended-of) (prints-some p l h said grows s t puts.front) puts.unfailed)
