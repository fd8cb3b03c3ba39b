use Rattle.std.proofs.Common.{refl, arith, [], ◌∷◌}
use Rattle.tp_spec.specs.Courses.{Passes}
use Rattle.tp_laws.specs.Examples.{gated, truth, act}
use Rattle.tp_spec.proofs.Ticks.{each_tick}
use Rattle.tp_laws.proofs.examples.unsafe_plans.Goals as goal

pub returns-clause-in_time : goal.returns-clause-in_time
returns-clause-in_time c = record {
  in_order = refl;
  few = omega arith;
  once = refl;
  lengths = refl;
  in_turn = refl;
  closing = refl;
  within = omega arith;
  all_ended = refl;
  course = each_tick (Passes (gated [] (truth 2 ∷ []) 6) (act 0 0 5 ∷ [])) 5 ((
    (
      (
        (
          (
            record { apart = refl; met = refl; exists = refl; kept = refl },
            record { apart = refl; met = refl; exists = refl; kept = refl },
          ),
          record { apart = refl; met = refl; exists = refl; kept = refl },
        ),
        record { apart = refl; met = refl; exists = refl; kept = refl },
      ),
      record { apart = refl; met = refl; exists = refl; kept = refl },
    ),
    record { apart = refl; met = refl; exists = refl; kept = refl },
  ));
  goal = refl;
}
