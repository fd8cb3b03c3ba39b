-- What contracts see of a state, and what it stands for.
use Rattle.std.specs.Prelude.{◌≡◌, ℕ, ℤ, List, length, Option, slice_get}
use Rattle.std.specs.Option.{option_and_then}
use Rattle.tp_spec.specs.declared.problem.Problem.{Problem}
use Rattle.tp_spec.specs.States.{State}
use Rattle.world_state.specs.Rows.{has_bit, words_for}

-- the words of its row of facts, and the value of each fluent, or none
pub record StateView : Type 0 where
  pub words : List ℕ
  pub values : List (Option ℤ)

-- the state that is kept so: no fact behind the last word is true, and no fluent behind the last
-- value is defined
abbrev pub meaning : StateView → State
meaning v = record {
  fact = λ f. has_bit v.words f;
  fluent = λ x. option_and_then (λ n. n) (slice_get v.values x);
}

-- a state of a problem has a place for each of its facts and for each of its fluents
pub record IsStateOf (p : Problem) (v : StateView) : Type 0 where
  pub wide : length v.words ≡ words_for (length p.facts)
  pub valued : length v.values ≡ length p.fluents
