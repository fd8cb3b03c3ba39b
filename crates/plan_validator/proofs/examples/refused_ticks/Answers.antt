use Rattle.std.proofs.Common.{◌≡◌, refl, ap, sym, ◌∙◌, ◌^◌, ◌-◌, pos, Some, None, arith, [], ◌∷◌, ℕ, zero, suc, ◌<◌, ◌≤◌}
use Rattle.std.specs.Prelude.{List, Option, ℤ, ◌+ℤ◌, true, not, ◌&&◌, is_some, if◌then◌else◌}
use Rattle.tp_spec.specs.declared.expr.Expr.TheVariants.{Number, rolls-Number}
use Rattle.tp_spec.specs.declared.expr.Expr.TheFolds.{fold-roll-Expr}
use Rattle.tp_spec.specs.declared.expr.Expr.TheOpen.{Expr-F}
use Rattle.tp_spec.specs.declared.plan.Item.TheVariants.{End}
use Rattle.tp_spec.specs.declared.plan.Timed.{Timed}
use Rattle.tp_spec.specs.declared.problem.Problem.{Problem}
use Rattle.tp_spec.specs.Courses.{happening, Passes}
use Rattle.tp_spec.specs.Items.{effects_of, next, fits}
use Rattle.tp_spec.specs.States.{State, initial, value, value_at, of_both}
use Rattle.tp_laws.specs.Examples.{gated, tank, truth, act, lamp}
use Rattle.tp_spec.proofs.Ticks.{EachTick, each_tick}
use Rattle.plan_validator.proofs.examples.refused_ticks.Goals as goal
use Rattle.tp_spec.proofs.Leaves.{value_number}

-- each tick below one
below : (P : ℕ → Type 0) (n : ℕ) → EachTick P n → (t : ℕ) → t < suc n → P t
below P n h t less = each_tick P n h t (omega (arith, less))

-- the state before a tick
abbrev reached : Problem → List Timed → ℕ → State
reached p acts zero = initial p
reached p acts (suc n) = next (reached p acts n) (effects_of p (happening p acts n))

pub returns-clause-clash : goal.returns-clause-clash
returns-clause-clash c = record {
  tick = 5;
  in_time = omega arith;
  before = record {
    acts = record { few = omega arith; once = refl; lengths = refl; turns = refl };
    ends = refl;
    ticks = below (Passes (gated [] (truth 2 ∷ []) 5) (act 0 0 5 ∷ [])) 4 ((
      (
        (
          (
            record { apart = refl; met = refl; exists = refl; kept = refl },
            record { apart = refl; met = refl; exists = refl; kept = refl },
          ),
          record { apart = refl; met = refl; exists = refl; kept = refl },
        ),
        record { apart = refl; met = refl; exists = refl; kept = refl },
      ),
      record { apart = refl; met = refl; exists = refl; kept = refl },
    ));
  };
  fault = (refl, record { first = refl });
}

pub returns-clause-starts : goal.returns-clause-starts
returns-clause-starts c = record {
  tick = 0;
  in_time = omega arith;
  before = record {
    acts = record { few = omega arith; once = refl; lengths = refl; turns = refl };
    ends = refl;
    ticks = λ s less. absurd (omega (arith, less));
  };
  fault = (refl, record { first = refl });
}

abbrev closing : Problem
closing = gated (truth 2 ∷ []) [] 4

pub returns-clause-broken : goal.returns-clause-broken
returns-clause-broken c = record {
  tick = 4;
  in_time = omega arith;
  before = record {
    acts = record { few = omega arith; once = refl; lengths = refl; turns = refl };
    ends = refl;
    ticks = below (Passes closing (act 0 0 5 ∷ [])) 3 ((
      (
        (
          record { apart = refl; met = refl; exists = refl; kept = refl },
          record { apart = refl; met = refl; exists = refl; kept = refl },
        ),
        record { apart = refl; met = refl; exists = refl; kept = refl },
      ),
      record { apart = refl; met = refl; exists = refl; kept = refl },
    ));
  };
  fault = (
    refl,
    record {
      apart = refl;
      state = reached closing (act 0 0 5 ∷ []) 4;
      before = refl;
      met = refl;
      next = reached closing (act 0 0 5 ∷ []) 5;
      behind = refl;
      broken = refl;
      first = λ a less. absurd (omega (arith, less));
    },
  );
}

abbrev late : Problem
late = gated (truth 1 ∷ []) [] 9

pub returns-clause-at_once : goal.returns-clause-at_once
returns-clause-at_once c = record {
  tick = 0;
  in_time = omega arith;
  before = record {
    acts = record { few = omega arith; once = refl; lengths = refl; turns = refl };
    ends = refl;
    ticks = λ s less. absurd (omega (arith, less));
  };
  fault = (
    refl,
    record {
      apart = refl;
      state = reached late (act 0 0 5 ∷ []) 0;
      before = refl;
      met = refl;
      next = reached late (act 0 0 5 ∷ []) 1;
      behind = refl;
      broken = refl;
      first = λ a less. absurd (omega (arith, less));
    },
  );
}

pub returns-clause-goal : goal.returns-clause-goal
returns-clause-goal c = record {
  before = record {
    acts = record { few = omega arith; once = refl; lengths = refl; turns = refl };
    ends = refl;
    ticks = below (Passes lamp []) 0 (record { apart = refl; met = refl; exists = refl; kept = refl });
  };
  fault = record { state = reached lamp [] 1; at_end = refl; first = refl };
}

abbrev full : Problem
full = tank (pos (2 ^ 63 - 1))

-- the state in which the pump ends
abbrev at_end : State
at_end = reached full (act 0 0 2 ∷ []) 2

pub returns-clause-overflow : goal.returns-clause-overflow
returns-clause-overflow c = record {
  tick = 2;
  in_time = omega arith;
  before = record {
    acts = record { few = omega arith; once = refl; lengths = refl; turns = refl };
    ends = refl;
    ticks = below (Passes full (act 0 0 2 ∷ [])) 1 (record { apart = refl; met = refl; exists = refl; kept = refl }, record { apart = refl; met = refl; exists = refl; kept = refl });
  };
  fault = (
    refl,
    record {
      apart = refl;
      state = at_end;
      before = refl;
      met = ap (λ v. (true && ((true && is_some v) && true)) && true) (value_number at_end (pos 1));
      none = ap (λ v. if fits (of_both (λ m n. m +ℤ n) (Some (pos (2 ^ 63 - 1))) v) && true then Some (next at_end (effects_of full (End 0 ∷ []))) else None) (value_number at_end (pos 1));
      wide = ap (λ v. not (fits (of_both (λ m n. m +ℤ n) (Some (pos (2 ^ 63 - 1))) v))) (value_number at_end (pos 1));
      first = λ x less. absurd (omega (arith, less));
    },
  );
}
