-- The readings of a clock that moves with the turns, and those of a history under it.
use Rattle.std.proofs.Common.{◌≡◌, refl, sym, ap, subst, ◌∙◌, ℕ, suc, ◌+◌, ◌-◌, ◌^◌, ◌<◌, ◌≤◌, ◌/◌, min, List, [], ◌∷◌, ◌++◌, length, map, slice_index, Some, arith}
use Rattle.std.specs.Prelude.{IsTrue}
use Rattle.std.specs.List.{range_with_len}
use Rattle.std.proofs.lemmas.List.FromFn.{get_or-map-range_with_len, length-map-range_with_len}
use Rattle.tp_spec.specs.declared.event.Event.{Event}
use Rattle.tp_spec.specs.declared.event.Event.TheVariants.{Tick, Drop, Dispatch, Take, Expand, Publish, Limit, Exhaust, Halt}
use Rattle.tp_spec.specs.declared.plan.Limits.{Limits}
use Rattle.tp_spec.specs.declared.problem.Problem.{Problem}
use Rattle.tp_spec.specs.Machine.{Machine, IsWholeRun, first, step, end_of, state_of, readings, ticks}
use Rattle.tp_world.specs.Readings.{reading_at, AreNext}
use Rattle.open_tree.specs.Charter.{SameCharter}
use Rattle.open_tree.specs.Views.{TreeView}
use Rattle.serial_runs.specs.Endings.{HasResult}
use Rattle.serial_runs.specs.OneWorker.{IsWorked}
use Rattle.problem_files.specs.Answers.{IsPddlProblem}
use Rattle.workload.specs.Texts.{made_texts}
use Rattle.workload_run.specs.Readings.{TurnState, ReadsByTurns, first_readings, turn_readings}
use Rattle.workload_run.specs.Summaries.{IsSearch, IsSearched, marks_in}

-- a reading of the first n
by-turns : (n k : ℕ) → k < n → n ≤ 2 ^ 64 → reading_at (first_readings n) k ≡ k / 1000
by-turns n k h few =
    let e : length (first_readings n) ≡ n = length-map-range_with_len (λ k. k / 1000) 0 n in
    ap (slice_index (first_readings n)) (omega (arith, h, few, e))
    ∙ get_or-map-range_with_len (λ k. k / 1000) 0 n k k 0 h (omega arith)

pub reads : (k : ℕ) → k < 2 ^ 64 → reading_at turn_readings k ≡ k / 1000
unfolding turn_readings
reads k h = by-turns (2 ^ 64) k h (omega arith)

-- a history has no more Ticks than events
pub few-ticks : (h : List Event) → ticks h ≤ length h
few-ticks [] = omega arith
few-ticks (Tick actor reading ∷ h) = omega (arith, few-ticks h)
few-ticks (Drop id ∷ h) = omega (arith, few-ticks h)
few-ticks (Dispatch act ∷ h) = omega (arith, few-ticks h)
few-ticks (Take actor id ∷ h) = omega (arith, few-ticks h)
few-ticks (Expand actor id marks ∷ h) = omega (arith, few-ticks h)
few-ticks (Publish actor id plan ∷ h) = omega (arith, few-ticks h)
few-ticks (Limit actor id made marks ∷ h) = omega (arith, few-ticks h)
few-ticks (Exhaust ∷ h) = omega (arith, few-ticks h)
few-ticks (Halt cause ∷ h) = omega (arith, few-ticks h)

turned : (h : List Event) → length h < 2 ^ 64 → AreNext turn_readings 0 (readings h) → ReadsByTurns h
turned h few next k below = subst (λ n. slice_index (readings h) k ≡ reading_at turn_readings n) (let e : 0 + k ≡ k = omega arith in e) (next k below) ∙ reads k (omega (arith, few, below, few-ticks h))

pub search-of : (p : Problem) (l : Limits) (y : TurnState) (made new : TreeView TurnState) (h : List Event)
    → made.problem ≡ p → made.limits ≡ l → made.opened ≡ y → y.count ≡ 0 → SameCharter made new → h ≡ new.history
    → IsWholeRun new.problem new.limits h → AreNext turn_readings new.opened.count (readings new.history)
    → (HasResult new.history → IsWorked new.limits new.history) → HasResult h → length h < 2 ^ 64
    → IsSearched p l h
search-of p l y made new h problem limits opened unread same history whole next worked result few = (
  result.last,
  record {
    whole = subst (λ q. IsWholeRun q l h) (sym same.problem ∙ problem) (subst (λ m. IsWholeRun new.problem m h) (sym same.limits ∙ limits) whole);
    worked = subst (λ m. IsWorked m h) (sym same.limits ∙ limits) (subst (IsWorked new.limits) (sym history) (worked (subst HasResult history result)));
    timed = turned h few (subst (λ k. AreNext turn_readings 0 (readings k)) (sym history) (subst (λ n. AreNext turn_readings n (readings new.history)) began next));
    front = result.front;
    ends = result.is;
    result = result.result;
  },
) where
  began : new.opened.count ≡ 0
  began = ap (λ (c : TurnState). c.count) (sym same.opened ∙ opened) ∙ unread

-- ids are given by marks

ids-from : (l : Limits) (m : Machine) (h : List Event) → (end_of l m h).made ≡ m.made + marks_in h
ids-from l m [] = omega arith
ids-from l m (Tick actor reading ∷ h) = ids-from l (step l m (Tick actor reading)) h
ids-from l m (Drop id ∷ h) = ids-from l (step l m (Drop id)) h
ids-from l m (Dispatch act ∷ h) = ids-from l (step l m (Dispatch act)) h
ids-from l m (Take actor id ∷ h) = ids-from l (step l m (Take actor id)) h
ids-from l m (Expand actor id marks ∷ h) = let e = ids-from l (step l m (Expand actor id marks)) h in omega (arith, e)
ids-from l m (Publish actor id plan ∷ h) = ids-from l (step l m (Publish actor id plan)) h
ids-from l m (Limit actor id made marks ∷ h) = ids-from l (step l m (Limit actor id made marks)) h
ids-from l m (Exhaust ∷ h) = ids-from l (step l m Exhaust) h
ids-from l m (Halt cause ∷ h) = ids-from l (step l m (Halt cause)) h

pub ids-by-marks : (l : Limits) (h : List Event) → (state_of l h).made ≡ marks_in h + 1
ids-by-marks l h = let e = ids-from l first h in omega (arith, e)

pub of-made : (seed : ℕ) (domain problem : List ℕ) (p : Problem) → ◌≡◌ {A = List ℕ × List ℕ} (domain, problem) (made_texts seed)
    → IsPddlProblem domain problem 1 p → IsPddlProblem (made_texts seed).0 (made_texts seed).1 1 p
of-made seed domain problem p e is = subst (λ (t : List ℕ × List ℕ). IsPddlProblem t.0 t.1 1 p) e is

-- the first event's marks and those of the others
pub marks-first : (e : Event) (h : List Event) → marks_in (e ∷ h) ≡ marks_in (e ∷ []) + marks_in h
marks-first (Tick actor reading) h = omega arith
marks-first (Drop id) h = omega arith
marks-first (Dispatch act) h = omega arith
marks-first (Take actor id) h = omega arith
marks-first (Expand actor id marks) h = omega arith
marks-first (Publish actor id plan) h = omega arith
marks-first (Limit actor id made marks) h = omega arith
marks-first Exhaust h = omega arith
marks-first (Halt cause) h = omega arith
