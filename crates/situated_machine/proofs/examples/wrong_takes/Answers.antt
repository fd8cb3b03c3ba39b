use Rattle.std.proofs.Common.{◌≡◌, refl, sym, ap, subst, ◌∙◌, ℕ, ◌≤◌, inl, inr, true, false, List, [], ◌∷◌, ◌++◌, None, arith}
use Rattle.std.specs.List.{list_all}
use Rattle.std.proofs.lemmas.Bool.{false≢true}
use Rattle.tp_spec.specs.declared.event.Event.TheVariants.{Tick, Take}
use Rattle.tp_spec.specs.Machine.{Node, rank, no_worse}
use Rattle.tp_spec.specs.Schedules.{Live}
use Rattle.situated_machine.specs.declared.replayed.Rule.TheVariants as rules
use Rattle.situated_machine.specs.Rules.{IsOfBest}
use Rattle.situated_machine.specs.Samples.{drive, narrow, driving, arrived, expands_root, node, amid}
use Rattle.situated_machine.proofs.Drives.{best-one, runs, drives_by}
use Rattle.situated_machine.proofs.Firsts.{breaks}
use Rattle.situated_machine.proofs.Histories.{at_driving, turn_of, driving-ticks, expands-kept}
use Rattle.situated_machine.proofs.examples.wrong_takes.Goals as goal

abbrev both : List Node
both = node 3 driving None ∷ node 4 arrived None ∷ []

not-best : list_all (no_worse drive (node 3 driving None)) both ≡ false
unfolding rank
not-best = refl

not-least : IsOfBest drive both 3 → ⊥
not-least h = elim h.best.there [
  | inl e ↦ false≢true (sym not-best ∙ subst (λ (n : Node). list_all (no_worse drive n) both ≡ true) (sym e) h.best.least)
  | inr r ↦ elim r [ inl e ↦ (let same : ◌≡◌ {A = ℕ} 4 3 = ap (λ (n : Node). n.id) e ∙ h.named in omega (arith, same)) | inr none ↦ absurd none ]
]

pub returns-clause-not_least : goal.returns-clause-not_least
returns-clause-not_least c = breaks drive narrow (amid 0 both 5) (Take 1 3) rules.Least (((tt, refl), refl), refl) (λ h. not-least h)

dead : Live drive narrow 16 [] driving → ⊥
dead h =
    let late : 16 ≤ h.schedule.tick 0 = h.is.on_time 0 0 in
    let r = drives_by h.schedule runs refl (h.is.lengths runs (inl refl)) in
    omega (arith, late, r.0, r.1)

pub returns-clause-too_late : goal.returns-clause-too_late
returns-clause-too_late c = record {
  front = expands_root ++ Tick 1 16 ∷ [];
  next = Take 1 1;
  rest = [];
  parts = refl;
  counted = refl;
  kept = expands-kept (Tick 1 16 ∷ []) (driving-ticks None (turn_of 1 true) 1 16, tt);
  breaks = breaks drive narrow (at_driving 16 None (turn_of 1 false)) (Take 1 1) rules.Live
      ((((tt, refl), refl), refl), record { node = node 1 driving None; best = best-one (node 1 driving None); named = refl }) (λ h. dead h);
}
