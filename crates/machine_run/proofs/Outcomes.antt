-- Whether an outcome stands, by the history and by the state.
use Rattle.std.proofs.Common.{◌≡◌, refl, sym, ap, ◌∙◌, ◌||◌, Bool, true, false, List, [], ◌∷◌, ◌++◌, Result, Ok, Err, OnErr}
use Rattle.std.specs.List.{list_any}
use Rattle.std.proofs.lemmas.List.Folds.{list_any-append}
use Rattle.tp_spec.specs.declared.event.Event.{Event}
use Rattle.tp_spec.specs.declared.event.Event.TheVariants.{Tick, Drop, Dispatch, Take, Expand, Publish, Limit, Exhaust, Halt}
use Rattle.tp_spec.specs.declared.plan.Limits.{Limits}
use Rattle.tp_spec.specs.Machine.{Machine, first, step, end_of, state_of}
use Rattle.machine_run.specs.Turns.{is_outcome, has_outcome}

or-false : (b : Bool) → b ≡ (b || false)
or-false true = refl
or-false false = refl

or-true : (b : Bool) → true ≡ (b || true)
or-true true = refl
or-true false = refl

over-run : (l : Limits) (m : Machine) (es : List Event) → (end_of l m es).over ≡ (m.over || list_any is_outcome es)
over-run l m [] = or-false m.over
over-run l m (Tick actor reading ∷ es) = over-run l (step l m (Tick actor reading)) es
over-run l m (Drop id ∷ es) = over-run l (step l m (Drop id)) es
over-run l m (Dispatch act ∷ es) = over-run l (step l m (Dispatch act)) es
over-run l m (Take actor id ∷ es) = over-run l (step l m (Take actor id)) es
over-run l m (Expand actor id marks ∷ es) = over-run l (step l m (Expand actor id marks)) es
over-run l m (Publish actor id plan ∷ es) = over-run l (step l m (Publish actor id plan)) es ∙ or-true m.over
over-run l m (Limit actor id made marks ∷ es) = over-run l (step l m (Limit actor id made marks)) es ∙ or-true m.over
over-run l m (Exhaust ∷ es) = over-run l (step l m Exhaust) es ∙ or-true m.over
over-run l m (Halt cause ∷ es) = over-run l (step l m (Halt cause)) es ∙ or-true m.over

-- the state says whether an outcome stands
pub over-of : (l : Limits) (h : List Event) → (state_of l h).over ≡ has_outcome h
over-of l h = over-run l first h

-- one event more
pub outcome-behind : (h : List Event) (e : Event) (new : List Event) → new ≡ h ++ e ∷ [] → is_outcome e ≡ true → has_outcome new ≡ true
outcome-behind h e new grown is = ap has_outcome grown ∙ list_any-append is_outcome h (e ∷ []) ∙ ap (λ b. has_outcome h || (b || false)) is ∙ sym (or-true (has_outcome h))

pub none-behind : (h : List Event) (e : Event) (new : List Event) → new ≡ h ++ e ∷ [] → has_outcome h ≡ false → is_outcome e ≡ false → has_outcome new ≡ false
none-behind h e new grown none is = ap has_outcome grown ∙ list_any-append is_outcome h (e ∷ []) ∙ (λ i. none i || (is i || false))

-- what holds anyway holds behind an error
pub on-err : {T E P : Type 0} (r : Result T E) → P → OnErr r P
on-err (Ok x) h = tt
on-err (Err e) h = h
