use Rattle.std.proofs.Common.{◌≡◌, refl, arith, ℕ, zero, suc, ◌<◌, ◌≤◌, ◌==◌, Bool, true, false, List, [], ◌∷◌, Some, None}
use Rattle.std.specs.Prelude.{IfSome, IsTrue, slice_get, ◌-◌}
use Rattle.std.specs.List.{filter}
use Rattle.tp_spec.specs.Schedules.{Schedule, IsSchedule, IsOnTime, IsInLength, finish}
use Rattle.tp_spec.specs.Lists.{IsIn}
use Rattle.tp_spec.specs.declared.plan.Item.TheVariants.{Start}
use Rattle.tp_spec.specs.Words.{Act}
use Rattle.tp_spec.specs.declared.plan.Timed.{Timed}
use Rattle.tp_spec.specs.Samples.{opens, act, word_act, schedule, timings, at_five, limits}
use Rattle.tp_spec.proofs.Few.{below_one, below_two, next_below_two, one_in, two_in, some_none}
use Rattle.tp_spec.proofs.examples.schedules.Goals as goal

-- what is asked of the k-th start of an action that has all or none of these acts, and all or none of the commitments
abbrev OnTime : Schedule → ℕ → List Act → List Timed → Bool → Bool → ℕ → Type 0
OnTime x now acts commits b d k = IfSome (slice_get (filter (λ a. b) acts) k) (λ a. IsOnTime x now a (slice_get (filter (λ c. d) commits) k))

abbrev both : List Act
both = word_act 1 0 (Some 0) ∷ word_act 1 1 (Some 1) ∷ []

punctual : (b : Bool) (k : ℕ) → OnTime (schedule 3 4 0) 4 both (act 1 3 0 ∷ []) b b k
punctual true zero = (refl, refl)
punctual true (suc zero) = omega arith
punctual true (suc (suc k)) = tt
punctual false k = tt

pub returns-clause-punctual : goal.returns-clause-punctual
returns-clause-punctual c =
    let x = schedule 3 4 0 in
    record {
      rises = next_below_two (λ g. x.tick g < x.tick (suc g)) (omega arith);
      within = below_two (λ g. x.tick g ≤ 9) (omega arith) (omega arith);
      timed = λ k. tt;
      before_next = below_two (λ g. x.tick g < 5) (omega arith) (omega arith);
      lengths = two_in (IsInLength (timings at_five) (limits 2 9) x) (word_act 1 0 (Some 0)) (word_act 1 1 (Some 1))
          (record { forward = omega arith; allowed = refl; within = omega arith })
          (record { forward = omega arith; allowed = refl; within = omega arith });
      open_late = λ a g i e b. two_in (λ a. a.closes ≡ None → x.tick g ≤ finish x a) (word_act 1 0 (Some 0)) (word_act 1 1 (Some 1))
          (λ e. absurd (some_none 0 e)) (λ e. absurd (some_none 1 e)) a i e;
      on_time = λ a k. punctual (1 == a) k;
      late = λ a g i. absurd i;
      few = omega arith;
    }

shortest : (b d : Bool) (k : ℕ) → OnTime (schedule 7 9 0) 0 (word_act 0 0 (Some 1) ∷ []) [] b d k
shortest true d zero = omega arith
shortest true d (suc k) = tt
shortest false d k = tt

pub returns-clause-shortest : goal.returns-clause-shortest
returns-clause-shortest c =
    let x = schedule 7 9 0 in
    record {
      rises = next_below_two (λ g. x.tick g < x.tick (suc g)) (omega arith);
      within = below_two (λ g. x.tick g ≤ 9) (omega arith) (omega arith);
      timed = λ k. tt;
      before_next = λ g b. tt;
      lengths = one_in (IsInLength (timings []) (limits 2 9) x) (word_act 0 0 (Some 1))
          (record { forward = omega arith; allowed = refl; within = omega arith });
      open_late = λ a g i e b. one_in (λ a. a.closes ≡ None → x.tick g ≤ finish x a) (word_act 0 0 (Some 1)) (λ e. absurd (some_none 1 e)) a i e;
      on_time = λ a k. shortest (0 == a) false k;
      late = λ a g i. absurd i;
      few = omega arith;
    }

longest_timed : (k : ℕ) → IfSome (slice_get (1 ∷ []) k) (λ g. IfSome (slice_get at_five k) (λ i. (schedule 2 5 5).tick g ≡ i.tick))
longest_timed zero = refl
longest_timed (suc k) = tt

longest : (b d : Bool) (k : ℕ) → OnTime (schedule 2 5 5) 0 (word_act 0 0 None ∷ []) [] b d k
longest true d zero = omega arith
longest true d (suc k) = tt
longest false d k = tt

pub returns-clause-longest : goal.returns-clause-longest
returns-clause-longest c =
    let x = schedule 2 5 5 in
    record {
      rises = next_below_two (λ g. x.tick g < x.tick (suc g)) (omega arith);
      within = below_two (λ g. x.tick g ≤ 9) (omega arith) (omega arith);
      timed = longest_timed;
      before_next = λ g b. tt;
      lengths = one_in (IsInLength (timings at_five) (limits 2 9) x) (word_act 0 0 None)
          (record { forward = omega arith; allowed = refl; within = omega arith });
      open_late = λ a g i e b. one_in (λ a. x.tick g ≤ finish x a) (word_act 0 0 None) (below_two (λ g. x.tick g ≤ 5) (omega arith) (omega arith) g b) a i;
      on_time = λ a k. longest (0 == a) false k;
      late = λ a g i. absurd i;
      few = omega arith;
    }

owing : (b d : Bool) (k : ℕ) → OnTime (schedule 3 3 0) 0 (word_act 1 0 (Some 0) ∷ []) (act 0 3 0 ∷ []) b d k
owing true true zero = (refl, refl)
owing true false zero = omega arith
owing true d (suc k) = tt
owing false d k = tt

pub returns-clause-owing : goal.returns-clause-owing
returns-clause-owing c =
    let x = schedule 3 3 0 in
    record {
      rises = λ g b. absurd (omega (arith, b));
      within = below_one (λ g. x.tick g ≤ 9) (omega arith);
      timed = λ k. tt;
      before_next = λ g b. tt;
      lengths = one_in (IsInLength (timings []) (limits 2 9) x) (word_act 1 0 (Some 0))
          (record { forward = omega arith; allowed = refl; within = omega arith });
      open_late = λ a g i e b. one_in (λ a. a.closes ≡ None → x.tick g ≤ finish x a) (word_act 1 0 (Some 0)) (λ e. absurd (some_none 0 e)) a i e;
      on_time = λ a k. owing (1 == a) (0 == a) k;
      late = λ a g i b. one_in (λ a. x.tick g ≤ a.start) (act 0 3 0) (below_one (λ g. x.tick g ≤ 3) (omega arith) g b) a i;
      few = omega arith;
    }

pub returns-clause-greatest : goal.returns-clause-greatest
returns-clause-greatest c p l now commits w x y h s = ((h.last y s).ticks, (h.last y s).ends)

pub returns-clause-least : goal.returns-clause-least
returns-clause-least c p l now commits w x y h s = ((h.first y s).ticks, (h.first y s).ends)

alone : (n : ℕ) → 4 ≤ n → (b d : Bool) (k : ℕ) → OnTime (schedule n n 0) 4 (word_act 1 0 (Some 0) ∷ []) [] b d k
alone n h true d zero = h
alone n h true d (suc k) = tt
alone n h false d k = tt

one_start : (n : ℕ) → 4 ≤ n → n ≤ 9 → IsTrue (n - n == 0) → IsSchedule (timings []) (limits 2 9) 4 [] (opens (Start 1) ∷ []) (schedule n n 0)
one_start n h k e =
    let x = schedule n n 0 in
    record {
      rises = λ g b. absurd (omega (arith, b));
      within = below_one (λ g. x.tick g ≤ 9) k;
      timed = λ k. tt;
      before_next = λ g b. tt;
      lengths = one_in (IsInLength (timings []) (limits 2 9) x) (word_act 1 0 (Some 0))
          (record { forward = omega arith; allowed = e; within = k });
      open_late = λ a g i e b. one_in (λ a. a.closes ≡ None → x.tick g ≤ finish x a) (word_act 1 0 (Some 0)) (λ e. absurd (some_none 0 e)) a i e;
      on_time = λ a k. alone n h (1 == a) false k;
      late = λ a g i. absurd i;
      few = omega arith;
    }

never_runs : (P : Act → Type 0) (a : Act) → IsIn a (word_act 1 0 (Some 0) ∷ []) → a.closes ≡ None → P a
never_runs P a i e = one_in (λ a. a.closes ≡ None → P a) (word_act 1 0 (Some 0)) (λ e. absurd (some_none 0 e)) a i e

pub returns-clause-greatest_of_one : goal.returns-clause-greatest_of_one
returns-clause-greatest_of_one c = record {
  is = one_start 9 (omega arith) (omega arith) refl;
  last = λ y s. record {
    ticks = below_one (λ g. y.tick g ≤ (schedule 9 9 0).tick g) (s.within 0 (omega arith));
    ends = never_runs (λ a. y.end a.action ≤ 0);
  };
}

pub returns-clause-least_of_one : goal.returns-clause-least_of_one
returns-clause-least_of_one c = record {
  is = one_start 4 (omega arith) (omega arith) refl;
  first = λ y s. record {
    ticks = below_one (λ g. (schedule 4 4 0).tick g ≤ y.tick g) (s.on_time 1 0);
    ends = never_runs (λ a. 0 ≤ y.end a.action);
  };
}

pub returns-clause-live : goal.returns-clause-live
returns-clause-live c p l now commits w h = (h.sound, (h.schedule, h.is))
