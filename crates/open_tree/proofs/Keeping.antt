-- How a turn and a halt keep what a tree keeps.
use Rattle.std.proofs.Common.{◌≡◌, refl, sym, ap, subst, ◌∙◌, ℕ, Bool, true, false, List, [], ◌∷◌, ◌++◌, Option, IfSome}
use Rattle.std.proofs.lemmas.Bool.{false≢true}
use Rattle.tp_spec.specs.declared.event.Event.{Event}
use Rattle.tp_spec.specs.declared.event.Event.TheVariants.{Halt}
use Rattle.tp_spec.specs.declared.event.Cause.{Cause}
use Rattle.tp_spec.specs.declared.event.Cause.TheVariants.{Memory}
use Rattle.tp_spec.specs.Machine.{readings}
use Rattle.tp_world.specs.Counts.{one_more}
use Rattle.tp_world.specs.Readings.{reading_at}
use Rattle.machine_run.specs.Turns.{has_outcome}
use Rattle.open_tree.specs.Turns.{IsTold, IsClocked}
use Rattle.open_tree.specs.Keeps.{TreeParts, Keeps}
use Rattle.open_tree.proofs.Turns.{outcome-behind}
use Rattle.open_tree.proofs.Clocks.{latest_turn, latest_halt, latest_stop, clocked_turn, clocked_halt, clocked_stop}

-- the parts of a tree, by position
abbrev pub parts : (rate scale began count first last : ℕ) (opened given : Option (List ℕ)) (history : List Event) (spare : Bool) → TreeParts
parts rate scale began count first last opened given history spare = record {
  rate = rate;
  scale = scale;
  began = began;
  count = count;
  first = first;
  last = last;
  opened = opened;
  given = given;
  history = history;
  spare = spare;
}

stands-no-more : {new : List Event} {spare : Bool} (old : List Event) (cause : Cause) → new ≡ old ++ Halt cause ∷ [] → has_outcome new ≡ false → spare ≡ false
stands-no-more old cause is none = absurd (false≢true (sym none ∙ ap has_outcome is ∙ outcome-behind old (Halt cause) refl))

pub keeps_turn : {rate rate' scale scale' b n m first last last' : ℕ} {told now now' : Option (List ℕ)} {old new : List Event} {spare : Bool}
    (r : ℕ) → has_outcome old ≡ false → Keeps (parts rate scale b n first last told now old spare)
    → rate' ≡ rate → scale' ≡ scale → m ≡ one_more n → now' ≡ now → IfSome now (λ xs. r ≡ reading_at xs n) → last' ≡ r
    → readings new ≡ readings old ++ r ∷ [] → Keeps (parts rate' scale' b m first last' told now' new spare)
keeps_turn {b = b} {n = n} {m = m} {told = told} {now = now} {now' = now'} {old = old} {new = new} {spare = spare} r none k rated scaled more same reading latest longer =
    let z : spare ≡ false = k.exact none in record {
      rated = rated ∙ k.rated ∙ sym scaled;
      clocked = subst (λ s. IsClocked b m told now' new s) (sym z)
          (clocked_turn r (subst (λ s. IsClocked b n told now old s) z k.clocked) more same reading longer);
      exact = λ _. z;
      recent = latest_turn old r z longer latest;
    }

pub keeps_halt : {rate rate' scale scale' b n m first last last' : ℕ} {told now now' : Option (List ℕ)} {old new : List Event} {spare : Bool}
    → has_outcome old ≡ false → Keeps (parts rate scale b n first last told now old spare)
    → rate' ≡ rate → scale' ≡ scale → m ≡ one_more n → now' ≡ now → new ≡ old ++ Halt Memory ∷ [] → Keeps (parts rate' scale' b m first last' told now' new true)
keeps_halt {b = b} {n = n} {told = told} {now = now} {old = old} none k rated scaled more same whole = record {
  rated = rated ∙ k.rated ∙ sym scaled;
  clocked = clocked_halt Memory (subst (λ s. IsClocked b n told now old s) (k.exact none) k.clocked) more same whole;
  exact = stands-no-more old Memory whole;
  recent = latest_halt old whole;
}

pub keeps_stop : {rate scale scale' b n first last : ℕ} {told now : Option (List ℕ)} {old new : List Event} {spare : Bool}
    (cause : Cause) → has_outcome old ≡ false → Keeps (parts rate scale b n first last told now old spare) → scale' ≡ scale → new ≡ old ++ Halt cause ∷ [] → Keeps (parts rate scale' b n first last told now new spare)
keeps_stop cause none k scaled is = record {
  rated = k.rated ∙ sym scaled;
  clocked = clocked_stop cause k.clocked is;
  exact = λ _. k.exact none;
  recent = latest_stop cause (k.exact none) k.recent is;
}

-- what a tree keeps says how its history and its clock belong together
pub told_of : {rate scale b n first last : ℕ} {told now : Option (List ℕ)} {old : List Event} {spare : Bool} → Keeps (parts rate scale b n first last told now old spare) → IsTold b n first last told old
told_of {spare = spare} k = record { spare = spare; counted = k.clocked.counted; latest = k.recent.latest; behind = k.recent.behind; next = k.clocked.next }
