-- What the turn of a script's line is.
use Rattle.std.proofs.Common.{◌≡◌, refl, sym, ap, subst, ◌∙◌, ℕ, inl, inr, Bool, true, false, not, ◌&&◌, ◌||◌, ◌==◌, List, [], ◌∷◌, ◌++◌, Option, Some, None, ◌⊎◌, Result, Ok, Err, IfOk, OnErr, IfSome}
use Rattle.std.proofs.lemmas.Bool.{and_parts, and_from, eq-eqb, false≢true}
use Rattle.std.proofs.lemmas.List.Folds.{list_all-append, list_any-append}
use Rattle.std.specs.List.{list_all, list_any}
use Rattle.tp_spec.specs.declared.event.Cause.TheVariants.{Memory}
use Rattle.tp_spec.specs.declared.event.Event.{Event}
use Rattle.tp_spec.specs.declared.event.Event.TheVariants.{Tick, Drop, Dispatch, Take, Expand, Publish, Limit, Exhaust, Halt}
use Rattle.tp_spec.specs.declared.plan.Limits.{Limits}
use Rattle.tp_spec.specs.declared.problem.Problem.{Problem}
use Rattle.tp_spec.specs.Following.{is_deed, is_take, is_deed_on, serves_take, serves_merge}
use Rattle.tp_spec.specs.Machine.{Machine, IsWholeRun, is_open, state_of}
use Rattle.machine_run.specs.Turns.{IsTurn, event_list, is_settling, has_outcome}
use Rattle.machine_run.proofs.Outcomes.{over-of}
use Rattle.open_tree.specs.Answers.{GivesJob, GivesNothing, GivesMerged, FindsOutcome, IsExpanded, IsStale, EndsSearch}
use Rattle.open_tree.specs.declared.job.Merged.{Merged}
use Rattle.open_tree.specs.declared.job.Merged.TheVariants as merged
use Rattle.open_tree.specs.Views.{JobView}
use Rattle.script_text.specs.declared.script.ScriptLine.{ScriptLine}
use Rattle.script_text.specs.declared.script.Verb.TheVariants as verbs
use Rattle.script_text.specs.Follows.{serves, taken_id}
use Rattle.serial_runs.specs.Playing.{GoesOnBehind, IsIdle, Leaves, PlaysLine, StopsAtLine, id_of, is_inside}
use Rattle.serial_runs.proofs.OneWorker.{any-mid, or-mid, or-last}
use Rattle.serial_runs.proofs.OneJob.{any-filter, deed-inside, halt-over, job-held, turn-result}
use Rattle.serial_runs.specs.OneWorker.{goes_on}
use Rattle.script_text.specs.declared.script.Verb.{Verb}
use Rattle.serial_runs.proofs.Puts.{turned, turn-inside}

-- settling has no deed

pub settling-idle : (es : List Event) → list_all is_settling es ≡ true → list_any is_deed es ≡ false
settling-idle [] h = refl
settling-idle (Tick a r ∷ es) h = absurd (false≢true h)
settling-idle (Drop id ∷ es) h = settling-idle es h
settling-idle (Dispatch act ∷ es) h = settling-idle es h
settling-idle (Take a id ∷ es) h = absurd (false≢true h)
settling-idle (Expand a id marks ∷ es) h = absurd (false≢true h)
settling-idle (Publish a id plan ∷ es) h = absurd (false≢true h)
settling-idle (Limit a id made marks ∷ es) h = absurd (false≢true h)
settling-idle (Exhaust ∷ es) h = settling-idle es h
settling-idle (Halt cause ∷ es) h = absurd (false≢true h)

settling-none : (es : List Event) → list_all is_settling es ≡ true → taken_id es ≡ None
settling-none [] h = refl
settling-none (Tick a r ∷ es) h = absurd (false≢true h)
settling-none (Drop id ∷ es) h = settling-none es h
settling-none (Dispatch act ∷ es) h = settling-none es h
settling-none (Take a id ∷ es) h = absurd (false≢true h)
settling-none (Expand a id marks ∷ es) h = absurd (false≢true h)
settling-none (Publish a id plan ∷ es) h = absurd (false≢true h)
settling-none (Limit a id made marks ∷ es) h = absurd (false≢true h)
settling-none (Exhaust ∷ es) h = settling-none es h
settling-none (Halt cause ∷ es) h = absurd (false≢true h)

settling-taken : (es after : List Event) (actor id : ℕ) → list_all is_settling es ≡ true → taken_id (es ++ (Take actor id ∷ after)) ≡ Some id
settling-taken [] after actor id h = refl
settling-taken (Tick a r ∷ es) after actor id h = absurd (false≢true h)
settling-taken (Drop other ∷ es) after actor id h = settling-taken es after actor id h
settling-taken (Dispatch act ∷ es) after actor id h = settling-taken es after actor id h
settling-taken (Take a other ∷ es) after actor id h = absurd (false≢true h)
settling-taken (Expand a other marks ∷ es) after actor id h = absurd (false≢true h)
settling-taken (Publish a other plan ∷ es) after actor id h = absurd (false≢true h)
settling-taken (Limit a other made marks ∷ es) after actor id h = absurd (false≢true h)
settling-taken (Exhaust ∷ es) after actor id h = settling-taken es after actor id h
settling-taken (Halt cause ∷ es) after actor id h = absurd (false≢true h)

-- the turn of a line
abbrev pub plays : (l : Limits) (line : ScriptLine) (took : Option ℕ) (reading : ℕ) (old new : List Event) (deed : Option Event) → list_all is_inside (event_list deed) ≡ true → (t : IsTurn old new line.actor reading deed)
    → serves line.verb took (state_of l new) (t.before ++ (event_list deed ++ t.after)) ≡ true → PlaysLine l line took reading old new
plays l line took reading old new deed d t served = record {
  events = t.before ++ (event_list deed ++ t.after);
  grown = t.grown;
  inside = turn-inside old new line.actor reading deed d t;
  serves = served;
}

pub quiet : (es fs : List Event) → list_all is_settling es ≡ true → list_all is_settling fs ≡ true → list_all is_settling (es ++ fs) ≡ true
quiet es fs h k = list_all-append is_settling es fs ∙ and_from _ _ h k

-- a take line
module _ (p : Problem) (l : Limits) (line : ScriptLine) (reading : ℕ) (old new : List Event) (take : line.verb ≡ verbs.Take) where
  as-take : (took : Option ℕ) (end : Machine) (events : List Event) → serves_take end events ≡ true → serves line.verb took end events ≡ true
  as-take took end events h = ap (λ v. serves v took end events) take ∙ h

  as-leaves : (events : List Event) (before behind : Option JobView) → taken_id events ≡ id_of behind → Leaves line.verb events before behind
  as-leaves events before behind h = subst (λ v. Leaves v events before behind) (sym take) h

  pub take-goes : (job : JobView) → GivesJob p l old new line.actor reading job → GoesOnBehind p l line reading old new None (Some job)
  take-goes job g = record {
    standing = g.standing;
    turn = plays l line None reading old new (Some (Take line.actor job.id)) refl g.turn
        (as-take None (state_of l new) (g.turn.before ++ (Take line.actor job.id ∷ g.turn.after))
        (ap (λ b. (b || (state_of l new).over) || not (list_any is_open (state_of l new).nodes)) (any-mid is_take g.turn.before g.turn.after (Take line.actor job.id) refl)));
    leaves = as-leaves (g.turn.before ++ (Take line.actor job.id ∷ g.turn.after)) None (Some job) (settling-taken g.turn.before g.turn.after line.actor job.id g.turn.first_settling);
    job = λ e. job-held p l old new line.actor reading job g;
  }

  pub take-finds : GivesNothing l old new line.actor reading → GoesOnBehind p l line reading old new None None
  take-finds g = record {
    standing = g.standing;
    turn = plays l line None reading old new None refl g.turn
        (as-take None (state_of l new) (g.turn.before ++ g.turn.after)
        (ap (λ b. (list_any is_take (g.turn.before ++ g.turn.after) || (state_of l new).over) || not b) (any-filter is_open (state_of l new).nodes g.none_open) ∙ or-last (list_any is_take (g.turn.before ++ g.turn.after)) (state_of l new).over));
    leaves = as-leaves (g.turn.before ++ g.turn.after) None None (settling-none (g.turn.before ++ g.turn.after) (quiet g.turn.before g.turn.after g.turn.first_settling g.turn.last_settling));
    job = λ e. tt;
  }

  pub take-stops : has_outcome old ≡ false → IsWholeRun p l new → FindsOutcome old new line.actor reading → StopsAtLine l line None reading old new
  take-stops none whole g = record {
    outcome = g.outcome;
    how = inl (
      turn-result p l old new (turned old new line.actor reading None refl g.turn) none g.outcome whole.run,
      plays l line None reading old new None refl g.turn
          (as-take None (state_of l new) (g.turn.before ++ g.turn.after)
          (ap (λ o. (list_any is_take (g.turn.before ++ g.turn.after) || o) || not (list_any is_open (state_of l new).nodes)) (over-of l new ∙ g.outcome) ∙ or-mid (list_any is_take (g.turn.before ++ g.turn.after)) (not (list_any is_open (state_of l new).nodes)))),
    );
  }

look-take : verbs.Look ≡ verbs.Take → ⊥
look-take e = false≢true (ap is_taking e) where
  is_taking : Verb → Bool
  is_taking verbs.Take = true
  is_taking verbs.Merge = false
  is_taking verbs.Look = false

-- A line without a deed: a look, or a merge whose actor holds nothing.
abbrev pub idle-events : (es : List Event) → list_all is_settling es ≡ true → not (list_any is_deed es) ≡ true
idle-events es h = ap not (settling-idle es h)

module _ (p : Problem) (l : Limits) (line : ScriptLine) (reading : ℕ) (old new : List Event) (g : IsTurn old new line.actor reading None) where
  abbrev pub idle-served : (took : Option ℕ) → (line.verb ≡ verbs.Look) ⊎ ((line.verb ≡ verbs.Merge) × (took ≡ None)) → serves line.verb took (state_of l new) (g.before ++ g.after) ≡ true
  idle-served took (inl look) = ap (λ v. serves v took (state_of l new) (g.before ++ g.after)) look ∙ idle-events (g.before ++ g.after) (quiet g.before g.after g.first_settling g.last_settling)
  idle-served took (inr (merge, none)) = (λ i. serves (merge i) (none i) (state_of l new) (g.before ++ g.after)) ∙ idle-events (g.before ++ g.after) (quiet g.before g.after g.first_settling g.last_settling)

  abbrev pub idle-plays : (took : Option ℕ) → (line.verb ≡ verbs.Look) ⊎ ((line.verb ≡ verbs.Merge) × (took ≡ None)) → PlaysLine l line took reading old new
  idle-plays took kind = plays l line took reading old new None refl g (idle-served took kind)

  pub idle-stops : (took : Option ℕ) → (line.verb ≡ verbs.Look) ⊎ ((line.verb ≡ verbs.Merge) × (took ≡ None)) → has_outcome old ≡ false → has_outcome new ≡ true → IsWholeRun p l new → StopsAtLine l line took reading old new
  idle-stops took kind none over whole = record {
    outcome = over;
    how = inl (turn-result p l old new (turned old new line.actor reading None refl g) none over whole.run, idle-plays took kind);
  }

  pub look-goes : (held : Option JobView) → line.verb ≡ verbs.Look → has_outcome new ≡ false → GoesOnBehind p l line reading old new held held
  look-goes held look standing = record {
    standing = standing;
    turn = idle-plays (id_of held) (inl look);
    leaves = subst (λ v. Leaves v (g.before ++ g.after) held held) (sym look) refl;
    job = λ e. absurd (look-take (sym look ∙ e));
  }

  pub merge-idles : line.verb ≡ verbs.Merge → has_outcome new ≡ false → GoesOnBehind p l line reading old new None None
  merge-idles merge standing = record {
    standing = standing;
    turn = idle-plays None (inr (merge, refl));
    leaves = subst (λ v. Leaves v (g.before ++ g.after) None None) (sym merge) refl;
    job = λ e. tt;
  }

-- an outcome stands behind such a turn
pub idle-over : (p : Problem) (l : Limits) (line : ScriptLine) (reading : ℕ) (old new : List Event) (took : Option ℕ) → (line.verb ≡ verbs.Look) ⊎ ((line.verb ≡ verbs.Merge) × (took ≡ None)) → has_outcome old ≡ false → IsWholeRun p l new
    → IsIdle line.actor reading old new true ⊎ (new ≡ old ++ Halt Memory ∷ []) → StopsAtLine l line took reading old new
idle-over p l line reading old new took kind none whole (inl i) = idle-stops p l line reading old new i.turn took kind none i.outcome whole
idle-over p l line reading old new took kind none whole (inr e) = record { outcome = halt-over old new Memory e; how = inr e }

pub on-err : {T E : Type 0} {P : Type 0} (r : Result T E) → P → OnErr r P
on-err (Ok x) h = tt
on-err (Err e) h = h

-- A merge line whose actor holds a job.
module _ (p : Problem) (l : Limits) (line : ScriptLine) (reading : ℕ) (old new : List Event) (job : JobView) (merge : line.verb ≡ verbs.Merge) where
  as-merge : (end : Machine) (events : List Event) → serves_merge job.id end events ≡ true → serves line.verb (Some job.id) end events ≡ true
  as-merge end events h = ap (λ v. serves v (Some job.id) end events) merge ∙ h

  merge-goes : (t : PlaysLine l line (Some job.id) reading old new) → has_outcome new ≡ false → GoesOnBehind p l line reading old new (Some job) None
  merge-goes t standing = record {
    standing = standing;
    turn = t;
    leaves = subst (λ v. Leaves v t.events (Some job) None) (sym merge) refl;
    job = λ e. tt;
  }

  expand-plays : (g : IsExpanded old new line.actor reading job.id) → PlaysLine l line (Some job.id) reading old new
  expand-plays g = plays l line (Some job.id) reading old new (Some (Expand line.actor job.id g.marks)) refl g.turn
      (as-merge (state_of l new) (g.turn.before ++ (Expand line.actor job.id g.marks ∷ g.turn.after))
      (ap (λ b. (b || (state_of l new).over) || not (list_any (λ n. n.id == job.id) (state_of l new).nodes)) (any-mid (is_deed_on job.id) g.turn.before g.turn.after (Expand line.actor job.id g.marks) (eq-eqb job.id job.id refl))))

  stale-plays : (g : IsStale l old new line.actor reading job.id) → PlaysLine l line (Some job.id) reading old new
  stale-plays g = plays l line (Some job.id) reading old new None refl g.turn
      (as-merge (state_of l new) (g.turn.before ++ g.turn.after)
      (ap (λ b. (list_any (is_deed_on job.id) (g.turn.before ++ g.turn.after) || (state_of l new).over) || b) g.left ∙ or-last (list_any (is_deed_on job.id) (g.turn.before ++ g.turn.after)) (state_of l new).over))

  over-plays : (g : EndsSearch old new line.actor reading job.id) → PlaysLine l line (Some job.id) reading old new
  over-plays g = plays l line (Some job.id) reading old new g.deed (deed-inside line.actor job.id g.deed g.on) g.turn
      (as-merge (state_of l new) (g.turn.before ++ (event_list g.deed ++ g.turn.after))
      (ap (λ o. (list_any (is_deed_on job.id) (g.turn.before ++ (event_list g.deed ++ g.turn.after)) || o) || not (list_any (λ n. n.id == job.id) (state_of l new).nodes)) (over-of l new ∙ g.outcome) ∙ or-mid (list_any (is_deed_on job.id) (g.turn.before ++ (event_list g.deed ++ g.turn.after))) (not (list_any (λ n. n.id == job.id) (state_of l new).nodes))))

  -- what a merge gives
  pub merge-goes-on : {E : Type 0} (m : Result Merged E) → IfOk m (GivesMerged l old new line.actor reading job.id) → goes_on m ≡ true → GoesOnBehind p l line reading old new (Some job) None
  merge-goes-on (Ok merged.Done) g e = merge-goes (expand-plays g) g.standing
  merge-goes-on (Ok merged.Stale) g e = merge-goes (stale-plays g) g.standing
  merge-goes-on (Ok merged.Over) g e = absurd (false≢true e)
  merge-goes-on (Err x) g e = absurd (false≢true e)

  pub merge-stops : {E : Type 0} (m : Result Merged E) → IfOk m (GivesMerged l old new line.actor reading job.id) → OnErr m (new ≡ old ++ Halt Memory ∷ []) → goes_on m ≡ false → has_outcome old ≡ false → IsWholeRun p l new → StopsAtLine l line (Some job.id) reading old new
  merge-stops (Ok merged.Done) g r e none whole = absurd (false≢true (sym e))
  merge-stops (Ok merged.Stale) g r e none whole = absurd (false≢true (sym e))
  merge-stops (Ok merged.Over) g r e none whole = record {
    outcome = g.outcome;
    how = inl (turn-result p l old new (turned old new line.actor reading g.deed (deed-inside line.actor job.id g.deed g.on) g.turn) none g.outcome whole.run, over-plays g);
  }
  merge-stops (Err x) g r e none whole = record { outcome = halt-over old new Memory r; how = inr r }
