-- Histories of the drive whose events keep every rule.
use Rattle.std.proofs.Common.{◌≡◌, refl, ℕ, inl, ◌==◌, Bool, true, false, not, List, [], ◌∷◌, ◌++◌, Option, Some, None, arith}
use Rattle.tp_spec.specs.declared.event.Event.{Event}
use Rattle.tp_spec.specs.declared.event.Event.TheVariants.{Tick, Dispatch, Take, Expand, Publish}
use Rattle.tp_spec.specs.declared.plan.Item.TheVariants.{End}
use Rattle.tp_spec.specs.Lists.{each_pair}
use Rattle.tp_spec.specs.Machine.{Machine, Legal, Turn, MayAct, first}
use Rattle.tp_laws.specs.Examples.{act, opens}
use Rattle.situated_machine.specs.Rules.{KeepsAll}
use Rattle.situated_machine.specs.Replays.{AreKept}
use Rattle.situated_machine.specs.Samples.{drive, narrow, driving, arrived, expands_root, takes_arrived, drives_at, drive_run, node}
use Rattle.situated_machine.proofs.Judging.{legal-keeps}
use Rattle.situated_machine.proofs.Drives.{mach, live-root, live-driving, live-arrived, arriving, least-arrived, marks-root, marks-driving, root-spells-none, driving-spells-none, possible-drive, best-one, quiet-root, quiet-driving, quiet-arrived, due-driving}

abbrev pub turn_of : ℕ → Bool → Option Turn
turn_of actor acted = Some (record { actor = actor; acted = acted })

-- the machine while only the root is there, while it drives, and when it has arrived
abbrev pub at_root : Option ℕ → Option Turn → Machine
at_root taker turn = mach 0 (node 0 [] taker ∷ []) 1 turn

abbrev pub at_driving : ℕ → Option ℕ → Option Turn → Machine
at_driving now taker turn = mach now (node 1 driving taker ∷ []) 2 turn

abbrev pub at_arrived : Option ℕ → Option Turn → Machine
at_arrived taker turn = mach 0 (node 2 arrived taker ∷ []) 3 turn

kept : (m : Machine) → each_pair (λ a b. not (a.id == b.id)) m.nodes ≡ true → (e : Event) → Legal drive narrow m e → KeepsAll drive narrow m e
kept m apart e h = legal-keeps drive narrow m apart e h

pub root-ticks : (taker : Option ℕ) (turn : Option Turn) (actor reading : ℕ) → KeepsAll drive narrow (at_root taker turn) (Tick actor reading)
root-ticks taker turn actor reading = kept (at_root taker turn) refl (Tick actor reading) (record { standing = refl; quiet = quiet-root 0 taker turn })

pub driving-ticks : (taker : Option ℕ) (turn : Option Turn) (actor reading : ℕ) → KeepsAll drive narrow (at_driving 0 taker turn) (Tick actor reading)
driving-ticks taker turn actor reading = kept (at_driving 0 taker turn) refl (Tick actor reading) (record { standing = refl; quiet = quiet-driving 0 taker 2 turn (omega arith) })

pub arrived-ticks : (taker : Option ℕ) (turn : Option Turn) (actor reading : ℕ) → KeepsAll drive narrow (at_arrived taker turn) (Tick actor reading)
arrived-ticks taker turn actor reading = kept (at_arrived taker turn) refl (Tick actor reading) (record { standing = refl; quiet = quiet-arrived 0 taker 3 turn (omega arith) })

may-root : (taker : Option ℕ) → MayAct drive narrow (at_root taker (turn_of 1 false)) 1
may-root taker = record { between = record { standing = refl; quiet = quiet-root 0 taker (turn_of 1 false) }; turn = refl }

may-driving : (taker : Option ℕ) → MayAct drive narrow (at_driving 0 taker (turn_of 1 false)) 1
may-driving taker = record { between = record { standing = refl; quiet = quiet-driving 0 taker 2 (turn_of 1 false) (omega arith) }; turn = refl }

may-arrived : (taker : Option ℕ) → MayAct drive narrow (at_arrived taker (turn_of 1 false)) 1
may-arrived taker = record { between = record { standing = refl; quiet = quiet-arrived 0 taker 3 (turn_of 1 false) (omega arith) }; turn = refl }

takes-root : KeepsAll drive narrow (at_root None (turn_of 1 false)) (Take 1 0)
takes-root = kept (at_root None (turn_of 1 false)) refl (Take 1 0) (record {
  may = may-root None;
  node = node 0 [] None;
  least = best-one (node 0 [] None);
  named = refl;
  live = live-root 0;
})

expands-it : KeepsAll drive narrow (at_root (Some 1) (turn_of 1 false)) (Expand 1 0 driving)
expands-it = kept (at_root (Some 1) (turn_of 1 false)) refl (Expand 1 0 driving) (record {
  may = may-root (Some 1);
  node = node 0 [] (Some 1);
  taken = record { there = inl refl; named = refl; taken = refl };
  incomplete = root-spells-none (at_root (Some 1) (turn_of 1 false));
  exact = marks-root (node 0 [] (Some 1) ∷ []) 1 (turn_of 1 false);
  room = omega arith;
})

-- the root is taken, in a turn of its actor, and then events that keep the rules come
pub takes-kept : (es : List Event) → AreKept drive narrow (at_root (Some 1) (turn_of 1 true)) es → AreKept drive narrow first (Tick 1 0 ∷ Take 1 0 ∷ es)
takes-kept es k = (root-ticks None None 1 0, (takes-root, k))

-- it is expanded too
pub expands-kept : (es : List Event) → AreKept drive narrow (at_driving 0 None (turn_of 1 true)) es → AreKept drive narrow first (expands_root ++ es)
expands-kept es k = takes-kept (Tick 1 0 ∷ Expand 1 0 driving ∷ es) (root-ticks (Some 1) (turn_of 1 true) 1 0, (expands-it, k))

takes-driving : KeepsAll drive narrow (at_driving 0 None (turn_of 1 false)) (Take 1 1)
takes-driving = kept (at_driving 0 None (turn_of 1 false)) refl (Take 1 1) (record {
  may = may-driving None;
  node = node 1 driving None;
  least = best-one (node 1 driving None);
  named = refl;
  live = live-driving 0 (omega arith);
})

expands-driving : KeepsAll drive narrow (at_driving 0 (Some 1) (turn_of 1 false)) (Expand 1 1 (opens (End 0) ∷ []))
expands-driving = kept (at_driving 0 (Some 1) (turn_of 1 false)) refl (Expand 1 1 (opens (End 0) ∷ [])) (record {
  may = may-driving (Some 1);
  node = node 1 driving (Some 1);
  taken = record { there = inl refl; named = refl; taken = refl };
  incomplete = driving-spells-none (at_driving 0 (Some 1) (turn_of 1 false));
  exact = marks-driving (node 1 driving (Some 1) ∷ []) 2 (turn_of 1 false);
  room = omega arith;
})

takes-last : KeepsAll drive narrow (at_arrived None (turn_of 1 false)) (Take 1 2)
takes-last = kept (at_arrived None (turn_of 1 false)) refl (Take 1 2) (record {
  may = may-arrived None;
  node = node 2 arrived None;
  least = best-one (node 2 arrived None);
  named = refl;
  live = live-arrived 0 (omega arith);
})

-- all but the last event of the search
pub arrives-kept : (es : List Event) → AreKept drive narrow (at_arrived (Some 1) (turn_of 1 false)) es → AreKept drive narrow first (expands_root ++ takes_arrived ++ es)
arrives-kept es k = expands-kept (takes_arrived ++ es) (
  driving-ticks None (turn_of 1 true) 1 0,
  (
    takes-driving,
    (
      driving-ticks (Some 1) (turn_of 1 true) 1 0,
      (
        expands-driving,
        (
          arrived-ticks None (turn_of 1 true) 1 0,
          (takes-last, (arrived-ticks (Some 1) (turn_of 1 true) 1 0, k)),
        ),
      ),
    ),
  ),
)

publishes : KeepsAll drive narrow (at_arrived (Some 1) (turn_of 1 false)) (Publish 1 2 (drives_at 0))
publishes = kept (at_arrived (Some 1) (turn_of 1 false)) refl (Publish 1 2 (drives_at 0)) (record {
  may = may-arrived (Some 1);
  node = node 2 arrived (Some 1);
  taken = record { there = inl refl; named = refl; taken = refl };
  possible = possible-drive;
  spells = refl;
  schedule = arriving 0;
  least = least-arrived;
  is = refl;
})

pub drive-kept : AreKept drive narrow first drive_run
drive-kept = arrives-kept (Publish 1 2 (drives_at 0) ∷ []) (publishes, tt)

dispatches : KeepsAll drive narrow (at_driving 12 None (turn_of 0 false)) (Dispatch (act 0 15 5))
dispatches = kept (at_driving 12 None (turn_of 0 false)) refl (Dispatch (act 0 15 5)) (record {
  in_turn = record { standing = refl; turn = refl };
  due = due-driving 2 (turn_of 0 false);
})

pub due-kept : AreKept drive narrow first (expands_root ++ Tick 0 12 ∷ Dispatch (act 0 15 5) ∷ [])
due-kept = expands-kept (Tick 0 12 ∷ Dispatch (act 0 15 5) ∷ []) (driving-ticks None (turn_of 1 true) 0 12, (dispatches, tt))
