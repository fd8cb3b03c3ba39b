use Rattle.std.proofs.Common.{refl, arith, [], ◌∷◌}
use Rattle.tp_laws.specs.Examples.{act}
use Rattle.plan_validator.proofs.examples.refused_acts.Goals as goal

pub returns-clause-too_long : goal.returns-clause-too_long
returns-clause-too_long c = record { counted = refl; over = omega arith }

pub returns-clause-twice : goal.returns-clause-twice
returns-clause-twice c = record {
  few = omega arith;
  out = record { act = act 0 3 0; before = act 0 3 0 ∷ []; behind = []; split = refl; starts = refl; names = refl; whole = refl; broken = refl };
}

pub returns-clause-length : goal.returns-clause-length
returns-clause-length c = record {
  few = omega arith;
  once = refl;
  out = record { act = act 0 0 4; first = refl; starts = refl; names = refl };
}

pub returns-clause-overlap : goal.returns-clause-overlap
returns-clause-overlap c = record {
  few = omega arith;
  once = refl;
  lengths = refl;
  out = record { act = act 0 4 5; before = act 0 0 5 ∷ []; behind = []; split = refl; starts = refl; names = refl; whole = refl; broken = refl };
}

pub returns-clause-end_off : goal.returns-clause-end_off
returns-clause-end_off c = record {
  acts = record { few = omega arith; once = refl; lengths = refl; turns = refl };
  stated = refl;
  broken = refl;
}
