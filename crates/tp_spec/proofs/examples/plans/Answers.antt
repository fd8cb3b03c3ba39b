use Rattle.std.proofs.Common.{refl, arith, [], ◌∷◌, true}
use Rattle.tp_spec.specs.declared.problem.Cond.TheVariants.{Lit}
use Rattle.tp_spec.specs.Courses.{Passes}
use Rattle.tp_spec.specs.Samples.{sharing, guarded, act}
use Rattle.tp_spec.proofs.Ticks.{each_tick}
use Rattle.tp_spec.proofs.examples.plans.Goals as goal

pub returns-clause-valid : goal.returns-clause-valid
returns-clause-valid c = record {
  in_order = refl;
  few = omega arith;
  once = refl;
  lengths = refl;
  in_turn = refl;
  closing = refl;
  within = omega arith;
  all_ended = refl;
  course = each_tick (Passes (guarded (Lit 0 true ∷ [])) (act 0 0 2 ∷ act 0 2 2 ∷ [])) 4 ((
    (
      (
        (
          record { apart = refl; met = refl; exists = refl; kept = refl },
          record { apart = refl; met = refl; exists = refl; kept = refl },
        ),
        record { apart = refl; met = refl; exists = refl; kept = refl },
      ),
      record { apart = refl; met = refl; exists = refl; kept = refl },
    ),
    record { apart = refl; met = refl; exists = refl; kept = refl },
  ));
  goal = refl;
}

pub returns-clause-possible : goal.returns-clause-possible
returns-clause-possible c = record {
  valid = record {
    in_order = refl;
    few = omega arith;
    once = refl;
    lengths = refl;
    in_turn = refl;
    closing = refl;
    within = omega arith;
    all_ended = refl;
    course = each_tick (Passes (guarded []) (act 3 1 0 ∷ act 3 3 0 ∷ [])) 3 ((
      (
        (
          record { apart = refl; met = refl; exists = refl; kept = refl },
          record { apart = refl; met = refl; exists = refl; kept = refl },
        ),
        record { apart = refl; met = refl; exists = refl; kept = refl },
      ),
      record { apart = refl; met = refl; exists = refl; kept = refl },
    ));
    goal = refl;
  };
  committed = refl;
  later = refl;
}

pub returns-clause-reached : goal.returns-clause-reached
returns-clause-reached c = record {
  in_order = refl;
  few = omega arith;
  once = refl;
  lengths = refl;
  in_turn = refl;
  closing = refl;
  within = omega arith;
  all_ended = refl;
  course = each_tick (Passes (record sharing { goal = Lit 0 true ∷ [] }) (act 0 0 0 ∷ [])) 0 (record { apart = refl; met = refl; exists = refl; kept = refl });
  goal = refl;
}

pub returns-clause-empty : goal.returns-clause-empty
returns-clause-empty c = record {
  in_order = refl;
  few = omega arith;
  once = refl;
  lengths = refl;
  in_turn = refl;
  closing = refl;
  within = omega arith;
  all_ended = refl;
  course = each_tick (Passes (guarded []) []) 0 (record { apart = refl; met = refl; exists = refl; kept = refl });
  goal = refl;
}
