use Rattle.std.proofs.Common.{◌≡◌, refl, ap, ℕ, ◌≤◌, true, false, List, [], ◌∷◌, ◌++◌, Some, None, arith}
use Rattle.tp_spec.specs.declared.event.Event.TheVariants.{Tick, Dispatch, Take, Expand, Publish, Limit}
use Rattle.tp_spec.specs.declared.plan.Item.TheVariants.{Start}
use Rattle.tp_spec.specs.declared.plan.Plan.{Plan}
use Rattle.tp_spec.specs.declared.plan.Timed.{Timed}
use Rattle.tp_laws.specs.Examples.{act, opens}
use Rattle.situated_machine.specs.declared.replayed.Rule.TheVariants as rules
use Rattle.situated_machine.specs.Rules.{IsPlanOf}
use Rattle.situated_machine.specs.Samples.{drive, narrow, arrived, expands_root, takes_arrived, drives_at}
use Rattle.situated_machine.proofs.Drives.{arriving, least-arrived, live-driving, quiet-root, quiet-driving, root-spells-none}
use Rattle.situated_machine.proofs.Firsts.{breaks}
use Rattle.situated_machine.proofs.Histories.{at_root, at_driving, at_arrived, turn_of, root-ticks, driving-ticks, takes-kept, expands-kept, arrives-kept}
use Rattle.situated_machine.proofs.examples.wrong_deeds.Goals as goal

pub returns-clause-missing_mark : goal.returns-clause-missing_mark
returns-clause-missing_mark c = record {
  front = Tick 1 0 ∷ Take 1 0 ∷ Tick 1 0 ∷ [];
  next = Expand 1 0 [];
  rest = [];
  parts = refl;
  counted = refl;
  kept = takes-kept (Tick 1 0 ∷ []) (root-ticks (Some 1) (turn_of 1 true) 1 0, tt);
  breaks = breaks drive narrow (at_root (Some 1) (turn_of 1 false)) (Expand 1 0 []) rules.Marks
      (((((tt, refl), refl), refl), tt), tt) (λ h. h.1.all (opens (Start 0)) (live-driving 0 (omega arith)));
}

pub returns-clause-nothing_due : goal.returns-clause-nothing_due
returns-clause-nothing_due c = (
  record {
    front = expands_root ++ Tick 0 11 ∷ [];
    next = Dispatch (act 0 15 5);
    rest = [];
    parts = refl;
    counted = refl;
    kept = expands-kept (Tick 0 11 ∷ []) (driving-ticks None (turn_of 1 true) 0 11, tt);
    breaks = breaks drive narrow (at_driving 11 None (turn_of 0 false)) (Dispatch (act 0 15 5)) rules.Commit
        ((((((tt, refl), refl), tt), tt), tt), tt) (λ h. (quiet-driving 11 None 2 (turn_of 0 false) (omega arith)).not_urgent (act 0 15 5) h);
  },
  record {
    front = Tick 0 0 ∷ [];
    next = Dispatch (act 0 15 5);
    rest = [];
    parts = refl;
    counted = refl;
    kept = (root-ticks None None 0 0, tt);
    breaks = breaks drive narrow (at_root None (turn_of 0 false)) (Dispatch (act 0 15 5)) rules.Commit
        ((((((tt, refl), refl), tt), tt), tt), tt) (λ h. (quiet-root 0 None (turn_of 0 false)).not_urgent (act 0 15 5) h);
  },
)

abbrev start_of : List Timed → ℕ
start_of [] = 0
start_of (a ∷ acts) = a.start

later-plan : IsPlanOf drive narrow (at_arrived (Some 1) (turn_of 1 false)) arrived (drives_at 1) → ⊥
later-plan h =
    let start : 1 ≡ h.schedule.tick 0 = ap (λ (q : Plan). start_of q.acts) h.is in
    let least : h.schedule.tick 0 ≤ 0 = (h.least.first (arriving 0) least-arrived.is).ticks 0 (omega arith) in
    omega (arith, start, least)

pub returns-clause-later_plan : goal.returns-clause-later_plan
returns-clause-later_plan c = record {
  front = expands_root ++ takes_arrived;
  next = Publish 1 2 (drives_at 1);
  rest = [];
  parts = refl;
  counted = refl;
  kept = arrives-kept [] tt;
  breaks = breaks drive narrow (at_arrived (Some 1) (turn_of 1 false)) (Publish 1 2 (drives_at 1)) rules.Plan
      (((((((tt, refl), refl), refl), tt), tt), tt), tt) (λ h. later-plan h);
}

pub returns-clause-not_full : goal.returns-clause-not_full
returns-clause-not_full c = record {
  front = Tick 1 0 ∷ Take 1 0 ∷ Tick 1 0 ∷ [];
  next = Limit 1 0 1 1;
  rest = [];
  parts = refl;
  counted = refl;
  kept = takes-kept (Tick 1 0 ∷ []) (root-ticks (Some 1) (turn_of 1 true) 1 0, tt);
  breaks = breaks drive narrow (at_root (Some 1) (turn_of 1 false)) (Limit 1 0 1 1) rules.Number
      ((((((((tt, refl), refl), refl), tt), tt), root-spells-none (at_root (Some 1) (turn_of 1 false))), tt), tt) (λ h. omega (arith, h.full));
}
