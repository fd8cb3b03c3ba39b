use Rattle.std.proofs.Common.{◌≡◌, refl, ap, sym, ℕ, inl, inr, true, false, List, [], ◌∷◌, ◌++◌, Option, Some, None, arith}
use Rattle.std.proofs.lemmas.Bool.{false≢true}
use Rattle.tp_spec.specs.declared.event.Cause.TheVariants.{Script}
use Rattle.tp_spec.specs.declared.event.Event.TheVariants.{Tick, Take, Expand, Publish, Exhaust, Halt}
use Rattle.tp_spec.specs.Machine.{Node, Turn, IsSettled, first}
use Rattle.tp_laws.specs.Examples.{act}
use Rattle.situated_machine.specs.declared.replayed.Rule.TheVariants as rules
use Rattle.situated_machine.specs.Samples.{drive, narrow, driving, expands_root, takes_arrived, drives_at}
use Rattle.situated_machine.proofs.Drives.{due-driving, quiet-root}
use Rattle.situated_machine.proofs.Firsts.{breaks}
use Rattle.situated_machine.proofs.Histories.{at_root, at_driving, turn_of, root-ticks, driving-ticks, takes-kept, expands-kept}
use Rattle.situated_machine.proofs.Judging.{legal-keeps}
use Rattle.situated_machine.proofs.examples.events_out_of_place.Goals as goal

turn-differs : (a b : ℕ) → ◌≡◌ {A = Option Turn} (turn_of a false) (turn_of b false) → a ≡ b
turn-differs a b e = ap (λ (o : Option Turn). elim o [ None ↦ 0 | Some t ↦ t.actor ]) e

no-turn : (a : ℕ) → ◌≡◌ {A = Option Turn} None (turn_of a false) → ⊥
no-turn a e = cc

some-node : (n : Node) (ns : List Node) → ◌≡◌ {A = List Node} (n ∷ ns) [] → ⊥
some-node n ns e = cc

pub returns-clause-after_outcome : goal.returns-clause-after_outcome
returns-clause-after_outcome c = record {
  front = Halt Script ∷ [];
  next = Tick 1 0;
  rest = [];
  parts = refl;
  counted = refl;
  kept = (legal-keeps drive narrow first refl (Halt Script) (record { standing = refl; quiet = quiet-root 0 None None }), tt);
  breaks = breaks drive narrow (record first { over = true }) (Tick 1 0) rules.Outcome tt (λ e. false≢true (sym e));
}

pub returns-clause-out_of_turn : goal.returns-clause-out_of_turn
returns-clause-out_of_turn c = (
  record {
    front = [];
    next = Take 1 0;
    rest = [];
    parts = refl;
    counted = refl;
    kept = tt;
    breaks = breaks drive narrow first (Take 1 0) rules.Turn (tt, refl) (λ e. no-turn 1 e);
  },
  record {
    front = Tick 2 0 ∷ [];
    next = Take 1 0;
    rest = [];
    parts = refl;
    counted = refl;
    kept = (root-ticks None None 2 0, tt);
    breaks = breaks drive narrow (at_root None (turn_of 2 false)) (Take 1 0) rules.Turn (tt, refl) (λ e. let same : ◌≡◌ {A = ℕ} 2 1 = turn-differs 2 1 e in omega (arith, same));
  },
)

pub returns-clause-no_such_node : goal.returns-clause-no_such_node
returns-clause-no_such_node c = record {
  front = Tick 1 0 ∷ [];
  next = Take 1 1;
  rest = Tick 1 0 ∷ Expand 1 0 driving ∷ takes_arrived ++ Publish 1 2 (drives_at 0) ∷ [];
  parts = refl;
  counted = refl;
  kept = (root-ticks None None 1 0, tt);
  breaks = breaks drive narrow (at_root None (turn_of 1 false)) (Take 1 1) rules.Id ((tt, refl), refl) (λ h. false≢true h);
}

pub returns-clause-others_node : goal.returns-clause-others_node
returns-clause-others_node c = (
  record {
    front = Tick 1 0 ∷ [];
    next = Expand 1 0 driving;
    rest = [];
    parts = refl;
    counted = refl;
    kept = (root-ticks None None 1 0, tt);
    breaks = breaks drive narrow (at_root None (turn_of 1 false)) (Expand 1 0 driving) rules.Id ((tt, refl), refl) (λ h. false≢true h);
  },
  record {
    front = Tick 1 0 ∷ Take 1 0 ∷ Tick 2 0 ∷ [];
    next = Take 2 0;
    rest = [];
    parts = refl;
    counted = refl;
    kept = takes-kept (Tick 2 0 ∷ []) (root-ticks (Some 1) (turn_of 1 true) 2 0, tt);
    breaks = breaks drive narrow (at_root (Some 1) (turn_of 2 false)) (Take 2 0) rules.Id ((tt, refl), refl) (λ h. false≢true h);
  },
)

-- what is due keeps the machine from settling
unsettled : (turn : Option Turn) → IsSettled drive narrow (at_driving 12 None turn) → ⊥
unsettled turn (inl over) = false≢true over
unsettled turn (inr quiet) = quiet.not_urgent (act 0 15 5) (due-driving 2 turn)

pub returns-clause-too_early : goal.returns-clause-too_early
returns-clause-too_early c = (
  record {
    front = Tick 1 0 ∷ [];
    next = Exhaust;
    rest = [];
    parts = refl;
    counted = refl;
    kept = (root-ticks None None 1 0, tt);
    breaks = breaks drive narrow (at_root None (turn_of 1 false)) Exhaust rules.Early (((((((((tt, refl), refl), tt), tt), tt), tt), tt), tt), tt) (λ e. some-node _ _ e);
  },
  record {
    front = expands_root ++ Tick 0 12 ∷ [];
    next = Tick 1 12;
    rest = [];
    parts = refl;
    counted = refl;
    kept = expands-kept (Tick 0 12 ∷ []) (driving-ticks None (turn_of 1 true) 0 12, tt);
    breaks = breaks drive narrow (at_driving 12 None (turn_of 0 false)) (Tick 1 12) rules.Early (((((((((tt, refl), tt), tt), tt), tt), tt), tt), tt), tt) (λ s. unsettled (turn_of 0 false) s);
  },
)
