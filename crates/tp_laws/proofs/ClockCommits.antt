-- A schedule under more commitments and a later clock.
use Rattle.std.proofs.Common.{◌≡◌, ℕ, zero, suc, ◌+◌, ◌≤◌, Bool, true, false, cond, List, [], ◌∷◌, ◌++◌, length, Option, Some, None, refl, sym, ap, subst, arith, ◌∙◌, ◌⊎◌, inl, inr}
use Rattle.std.specs.Prelude.{IfSome, slice_get, ◌==◌, if◌then◌else◌}
use Rattle.std.specs.List.{list_any, filter}
use Rattle.std.proofs.lemmas.List.{length-append}
use Rattle.std.proofs.lemmas.List.Elements.{filter-append}
use Rattle.tp_spec.specs.declared.plan.Timed.{Timed}
use Rattle.tp_spec.specs.Lists.{IsIn}
use Rattle.tp_spec.specs.Words.{Act, acts_of}
use Rattle.tp_spec.specs.Schedules.{Schedule, IsOnTime, acts_by, commits_by, awaited, without_first}
use Rattle.tp_laws.specs.Clocks.{OfWord, MoreIsFewer, LiveEarlier, StartFrom}
use Rattle.tp_laws.proofs.EarlyLists.{in-left}

pub in_get : {A : Type 0} (xs : List A) (k : ℕ) (x : A) → slice_get xs k ≡ Some x → IsIn x xs
in_get [] k x e = absurd cc
in_get (y ∷ xs) zero x e = inl cc
in_get (y ∷ xs) (suc k) x e = inr (in_get xs k x e)

in_filter : {A : Type 0} (test : A → Bool) (xs : List A) (x : A) → IsIn x (filter test xs) → IsIn x xs
in_filter test [] x h = absurd h
in_filter {A} test (y ∷ xs) x h = by_test (λ i. in_filter test xs x i) (test y) h
  where
    by_test : (IsIn x (filter test xs) → IsIn x xs) → (b : Bool) → IsIn x (cond b (y ∷ filter test xs) (filter test xs)) → (y ≡ x) ⊎ IsIn x xs
    by_test ih true (inl e) = inl e
    by_test ih true (inr i) = inr (ih i)
    by_test ih false i = inr (ih i)

-- an act that was held by an added commitment starts at the clock or later
fewer_none : (x : Schedule) (now later : ℕ) (act : Act) (o : Option Timed) → now ≤ later → ((d : Timed) → o ≡ Some d → now ≤ d.start) → IsOnTime x later act o → now ≤ x.tick act.opens
fewer_none x now later act None le from h = omega arith
fewer_none x now later act (Some d) le from h = omega (arith, h.0, from d refl)

fewer_at : (x : Schedule) (now later : ℕ) (act : Act) (c more : List Timed) (k : ℕ) → now ≤ later → StartFrom now more → IsOnTime x later act (slice_get (c ++ more) k) → IsOnTime x now act (slice_get c k)
fewer_at x now later act [] more k le from h = fewer_none x now later act (slice_get more k) le (λ d e. from d (in_get more k d e)) h
fewer_at x now later act (d ∷ c) more zero le from h = h
fewer_at x now later act (d ∷ c) more (suc k) le from h = fewer_at x now later act c more k le from h

fewer_if : (P Q : Act → Type 0) (o : Option Act) → ((act : Act) → P act → Q act) → IfSome o P → IfSome o Q
fewer_if P Q None f h = h
fewer_if P Q (Some act) f h = f act h

-- what is awaited of the first commitments comes first
awaited_front : (acts : List Act) (c more : List Timed) → (rest : List Timed) × (awaited acts (c ++ more) ≡ awaited acts c ++ rest)
awaited_front acts [] more = (awaited acts more, refl)
awaited_front acts (d ∷ c) more = by_test (awaited_front (without_first d.action acts) c more) (awaited_front acts c more) (list_any (λ x. x.action == d.action) acts)
  where
    by_test : ((rest : List Timed) × (awaited (without_first d.action acts) (c ++ more) ≡ awaited (without_first d.action acts) c ++ rest)) → ((rest : List Timed) × (awaited acts (c ++ more) ≡ awaited acts c ++ rest)) → (b : Bool) → (rest : List Timed) × ((if b then awaited (without_first d.action acts) (c ++ more) else d ∷ awaited acts (c ++ more)) ≡ (if b then awaited (without_first d.action acts) c else d ∷ awaited acts c) ++ rest)
    by_test took left true = took
    by_test took left false = (left.0, ap (λ (ts : List Timed). d ∷ ts) left.1)

pub more-fewer : OfWord MoreIsFewer
more-fewer p l c w now later more x le from is =
    let front = awaited_front (acts_of p w) c more in
    let count : length (awaited (acts_of p w) (c ++ more)) ≡ length (awaited (acts_of p w) c) + length front.0 = ap length front.1 ∙ length-append (awaited (acts_of p w) c) front.0 in
    record {
      rises = is.rises;
      within = is.within;
      timed = is.timed;
      before_next = is.before_next;
      lengths = is.lengths;
      open_late = is.open_late;
      on_time = λ a k. fewer_if (λ act. IsOnTime x later act (slice_get (commits_by a (c ++ more)) k)) (λ act. IsOnTime x now act (slice_get (commits_by a c) k)) (slice_get (acts_by a (acts_of p w)) k)
          (λ act h. fewer_at x now later act (commits_by a c) (commits_by a more) k le (λ d i. from d (in_filter (λ q. q.action == a) more d i)) (subst (λ (ts : List Timed). IsOnTime x later act (slice_get ts k)) (filter-append (λ q. q.action == a) c more) h))
          (is.on_time a k);
      late = λ d g i b. is.late d g (subst (λ (ts : List Timed). IsIn d ts) (sym front.1) (in-left d (awaited (acts_of p w) c) front.0 i)) b;
      few = omega (arith, is.few, count);
    }

pub live-earlier : OfWord LiveEarlier
live-earlier p l c w now later more le from live = record {
  sound = live.sound;
  schedule = live.schedule;
  is = more-fewer p l c w now later more live.schedule le from live.is;
}
