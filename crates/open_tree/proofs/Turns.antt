-- Turns and settling put together, their readings and outcomes, and the end of a history.
use Rattle.std.proofs.Common.{◌≡◌, refl, sym, ap, ◌∙◌, ℕ, Bool, true, false, ◌||◌, List, [], ◌∷◌, ◌++◌, append_assoc, append-nil, Option, Some, None, inl}
use Rattle.std.specs.List.{list_all}
use Rattle.std.proofs.lemmas.Bool.{and_from, false≢true}
use Rattle.std.proofs.lemmas.List.Folds.{list_any-append, list_all-append}
use Rattle.std.proofs.lemmas.Grind.{flat_map-append}
use Rattle.tp_spec.specs.declared.event.Cause.{Cause}
use Rattle.tp_spec.specs.declared.event.Event.{Event}
use Rattle.tp_spec.specs.declared.event.Event.TheVariants.{Tick, Drop, Dispatch, Take, Expand, Publish, Limit, Exhaust, Halt}
use Rattle.tp_spec.specs.declared.plan.Limits.{Limits}
use Rattle.tp_spec.specs.declared.problem.Problem.{Problem}
use Rattle.tp_spec.specs.Machine.{IsSettled, IsWholeRun, state_of, readings, reading_of}
use Rattle.machine_run.specs.Frontiers.{Stands}
use Rattle.machine_run.specs.Turns.{is_outcome, has_outcome, is_settling, Settles, Grows, IsTurn, event_list}
use Rattle.machine_run.specs.Views.{RunView}
use Rattle.machine_run.proofs.Outcomes.{over-of}

or-true : (b : Bool) → true ≡ (b || true)
or-true true = refl
or-true false = refl

-- settled behind an outcome
pub settled-over : (p : Problem) (l : Limits) (h : List Event) → has_outcome h ≡ true → IsSettled p l (state_of l h)
settled-over p l h e = inl (over-of l h ∙ e)

pub outcome-behind : (front : List Event) (e : Event) → is_outcome e ≡ true → has_outcome (front ++ e ∷ []) ≡ true
outcome-behind front e is = list_any-append is_outcome front (e ∷ []) ∙ ap (λ b. has_outcome front || (b || false)) is ∙ sym (or-true (has_outcome front))

-- settling

pub settles-none : (h : List Event) → Settles h h
settles-none h = record { events = []; grown = sym (append-nil h); settling = refl }

settles-readings : (es : List Event) → list_all is_settling es ≡ true → readings es ≡ []
settles-readings [] h = refl
settles-readings (Tick actor reading ∷ es) h = absurd (false≢true h)
settles-readings (Drop id ∷ es) h = settles-readings es h
settles-readings (Dispatch act ∷ es) h = settles-readings es h
settles-readings (Take actor id ∷ es) h = absurd (false≢true h)
settles-readings (Expand actor id marks ∷ es) h = absurd (false≢true h)
settles-readings (Publish actor id plan ∷ es) h = absurd (false≢true h)
settles-readings (Limit actor id made marks ∷ es) h = absurd (false≢true h)
settles-readings (Exhaust ∷ es) h = settles-readings es h
settles-readings (Halt cause ∷ es) h = absurd (false≢true h)

pub readings-append : (es fs : List Event) → readings (es ++ fs) ≡ readings es ++ readings fs
readings-append es fs = flat_map-append reading_of es fs

-- a deed holds no reading
abbrev pub HoldsNone : Option Event → Type 0
HoldsNone deed = readings (event_list deed) ≡ []

pub readings-turn : {old new : List Event} {actor r : ℕ} {deed : Option Event} → HoldsNone deed → IsTurn old new actor r deed → readings new ≡ readings old ++ r ∷ []
readings-turn {old} {new} {actor} {r} {deed} none t =
    ap readings t.grown ∙ readings-append old (Tick actor r ∷ (t.before ++ (event_list deed ++ t.after)))
    ∙ ap (λ rs. readings old ++ r ∷ rs)
    (readings-append t.before (event_list deed ++ t.after)
    ∙ (λ i. settles-readings t.before t.first_settling i ++ readings-append (event_list deed) t.after i)
    ∙ (λ i. none i ++ settles-readings t.after t.last_settling i))

-- a turn with no deed, and settling
pub turn-settles : {old mid new : List Event} {actor r : ℕ} → IsTurn old mid actor r None → Settles mid new → IsTurn old new actor r None
turn-settles {old} {mid} {new} {actor} {r} t s = record {
  before = t.before ++ t.after;
  after = s.events;
  grown = s.grown ∙ ap (λ x. x ++ s.events) t.grown ∙ append_assoc old (Tick actor r ∷ (t.before ++ t.after)) s.events;
  first_settling = list_all-append is_settling t.before t.after ∙ and_from _ _ t.first_settling t.last_settling;
  last_settling = s.settling;
}

-- a turn with no deed, a deed, and settling
pub turn-deed : {old mid new : List Event} {actor r : ℕ} (deed : Event) → IsTurn old mid actor r None → Settles (mid ++ deed ∷ []) new → IsTurn old new actor r (Some deed)
turn-deed {old} {mid} {new} {actor} {r} deed t s = record {
  before = t.before ++ t.after;
  after = s.events;
  grown = s.grown ∙ append_assoc mid (deed ∷ []) s.events ∙ ap (λ x. x ++ deed ∷ s.events) t.grown
      ∙ append_assoc old (Tick actor r ∷ (t.before ++ t.after)) (deed ∷ s.events);
  first_settling = list_all-append is_settling t.before t.after ∙ and_from _ _ t.first_settling t.last_settling;
  last_settling = s.settling;
}

pub turn-grows : {old new : List Event} {actor r : ℕ} {deed : Option Event} → IsTurn old new actor r deed → Grows old new
turn-grows {old} {new} {actor} {r} {deed} t = record { more = Tick actor r ∷ (t.before ++ (event_list deed ++ t.after)); grown = t.grown }

-- behind a halt a history is settled, and whole where it is a run
pub halted-settled : (p : Problem) (l : Limits) (front new : List Event) (cause : Cause) → new ≡ front ++ Halt cause ∷ [] → IsSettled p l (state_of l new)
halted-settled p l front new cause is = settled-over p l new (ap has_outcome is ∙ outcome-behind front (Halt cause) refl)

pub halted-whole : (r : RunView) (front : List Event) (cause : Cause) → Stands r → r.history ≡ front ++ Halt cause ∷ [] → IsWholeRun r.problem r.limits r.history
halted-whole r front cause s is = record { run = s.run; settled = halted-settled r.problem r.limits front r.history cause is }
