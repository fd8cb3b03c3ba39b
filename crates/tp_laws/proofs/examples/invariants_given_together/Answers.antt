use Rattle.std.proofs.Common.{refl, arith, [], ◌∷◌}
use Rattle.tp_spec.specs.Courses.{Passes}
use Rattle.tp_laws.specs.Examples.{arch, act}
use Rattle.tp_spec.proofs.Ticks.{each_tick}
use Rattle.tp_laws.proofs.examples.invariants_given_together.Goals as goal

pub returns-clause-both : goal.returns-clause-both
returns-clause-both c = record {
  in_order = refl;
  few = omega arith;
  once = refl;
  lengths = refl;
  in_turn = refl;
  closing = refl;
  within = omega arith;
  all_ended = refl;
  course = each_tick (Passes arch (act 0 0 4 ∷ act 1 0 4 ∷ [])) 4 ((
    (
      (
        (
          record { apart = refl; met = refl; exists = refl; kept = refl },
          record { apart = refl; met = refl; exists = refl; kept = refl },
        ),
        record { apart = refl; met = refl; exists = refl; kept = refl },
      ),
      record { apart = refl; met = refl; exists = refl; kept = refl },
    ),
    record { apart = refl; met = refl; exists = refl; kept = refl },
  ));
  goal = refl;
}
