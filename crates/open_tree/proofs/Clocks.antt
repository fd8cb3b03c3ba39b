-- How a turn and a halt keep a tree's clock and history together.
use Rattle.std.proofs.Common.{◌≡◌, refl, sym, ap, subst, ◌∙◌, ℕ, ◌+◌, Bool, true, false, List, [], ◌∷◌, ◌++◌, length, Option, Some, None, IfSome, append-nil, length-append, arith, if◌then◌else◌, fold}
use Rattle.std.proofs.lemmas.Bool.{false≢true}
use Rattle.std.proofs.lemmas.List.Sums.{fold-append}
use Rattle.tp_spec.specs.declared.event.Event.{Event}
use Rattle.tp_spec.specs.declared.event.Event.TheVariants.{Halt}
use Rattle.tp_spec.specs.declared.event.Cause.{Cause}
use Rattle.tp_spec.specs.declared.event.Cause.TheVariants.{Memory}
use Rattle.tp_spec.specs.Machine.{readings, ticks}
use Rattle.tp_world.specs.Counts.{count_after, one_more}
use Rattle.tp_world.specs.Readings.{reading_at, AreNext}
use Rattle.tp_world.proofs.ReadingsLemmas.{AreNext-read}
use Rattle.open_tree.specs.Turns.{IsClocked, IsLatest}
use Rattle.open_tree.proofs.Turns.{readings-append}

-- a turn whose Tick holds the reading
pub clocked_turn : {b n m : ℕ} {told now now' : Option (List ℕ)} {old new : List Event} (r : ℕ)
    → IsClocked b n told now old false → m ≡ one_more n → now' ≡ now → IfSome now (λ xs. r ≡ reading_at xs n)
    → readings new ≡ readings old ++ r ∷ [] → IsClocked b m told now' new false
clocked_turn {b} {n} {m} {told} {now} {now'} {old} {new} r c more same reading longer =
    let count : ticks new ≡ ticks old + 1 = ap length longer ∙ length-append (readings old) (r ∷ []) in
    record {
      counted = more ∙ ap one_more c.counted ∙ omega (arith, count);
      same = same ∙ c.same;
      next = subst (λ rs. IfSome told (λ xs. AreNext xs b rs)) (sym longer)
          (AreNext-read told now b n (readings old) r c.next c.same reading (c.counted ∙ ap (count_after b) (omega arith)));
    }

-- a reading that no Tick holds, and a halt
pub clocked_halt : {b n m : ℕ} {told now now' : Option (List ℕ)} {old new : List Event} (cause : Cause)
    → IsClocked b n told now old false → m ≡ one_more n → now' ≡ now → new ≡ old ++ Halt cause ∷ [] → IsClocked b m told now' new true
clocked_halt {b} {n} {m} {told} {now} {now'} {old} {new} cause c more same is =
    let kept : readings new ≡ readings old = ap readings is ∙ readings-append old (Halt cause ∷ []) ∙ append-nil (readings old) in
    let count : ticks new ≡ ticks old = ap length kept in
    record {
      counted = more ∙ ap one_more c.counted ∙ omega (arith, count);
      same = same ∙ c.same;
      next = subst (λ rs. IfSome told (λ xs. AreNext xs b rs)) (sym kept) c.next;
    }

-- a halt with no reading
pub clocked_stop : {b n : ℕ} {told now : Option (List ℕ)} {old new : List Event} {spare : Bool} (cause : Cause)
    → IsClocked b n told now old spare → new ≡ old ++ Halt cause ∷ [] → IsClocked b n told now new spare
clocked_stop {b} {n} {told} {now} {old} {new} {spare} cause c is =
    let kept : readings new ≡ readings old = ap readings is ∙ readings-append old (Halt cause ∷ []) ∙ append-nil (readings old) in
    record {
      counted = c.counted ∙ ap (λ k. count_after b (k + (if spare then 1 else 0))) (ap length (sym kept));
      same = c.same;
      next = subst (λ rs. IfSome told (λ xs. AreNext xs b rs)) (sym kept) c.next;
    }

next_none : (o : Option (List ℕ)) (b : ℕ) → IfSome o (λ xs. AreNext xs b [])
next_none None b = tt
next_none (Some xs) b = λ k below. absurd (omega (arith, below))

-- before the first turn
pub clocked_first : (b : ℕ) (told : Option (List ℕ)) {history : List Event} → history ≡ [] → b ≡ count_after b 0 → IsClocked b b told told history false
clocked_first b told {history} none still = subst (λ h. IsClocked b b told told h false) (sym none) (record { counted = still; same = refl; next = next_none told b })

-- the last reading

pub latest_turn : {b last : ℕ} {new : List Event} {spare : Bool} (old : List Event) (r : ℕ) → spare ≡ false → readings new ≡ readings old ++ r ∷ [] → last ≡ r → IsLatest b last new spare
latest_turn {b} {last} {new} old r exact longer is = record {
  latest = λ _. is ∙ sym (ap (fold (λ earlier x. x) b) longer ∙ fold-append (λ earlier x. x) b (readings old) (r ∷ []));
  behind = λ spare. absurd (false≢true (sym exact ∙ spare));
}

pub latest_halt : {b last : ℕ} {new : List Event} (old : List Event) → new ≡ old ++ Halt Memory ∷ [] → IsLatest b last new true
latest_halt {b} {last} {new} old is = record { latest = λ e. absurd (false≢true (sym e)); behind = λ _. (old, is) }

pub latest_stop : {b last : ℕ} {old new : List Event} {spare : Bool} (cause : Cause) → spare ≡ false → IsLatest b last old spare → new ≡ old ++ Halt cause ∷ [] → IsLatest b last new spare
latest_stop {b} {last} {old} {new} {spare} cause exact h is = record {
  latest = λ e. h.latest e ∙ ap (fold (λ earlier x. x) b) (sym (ap readings is ∙ readings-append old (Halt cause ∷ []) ∙ append-nil (readings old)));
  behind = λ more. absurd (false≢true (sym exact ∙ more));
}

pub latest_first : (b : ℕ) {history : List Event} → history ≡ [] → IsLatest b b history false
latest_first b none = record { latest = λ _. sym (ap (λ h. fold (λ earlier x. x) b (readings h)) none); behind = λ more. absurd (false≢true more) }
