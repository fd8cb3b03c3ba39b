-- What parts of an action, or of a problem, are judged by.
use Rattle.std.specs.Prelude.{ℕ, List}
use Rattle.pddl_parts.specs.declared.scope.Scope.{Scope}
use Rattle.pddl_parts.specs.declared.scope.Place.{Place}
use Rattle.pddl_parts.specs.declared.scope.Place.TheVariants.{Duration, Elsewhere}
use Rattle.pddl_parts.specs.declared.scope.Context.{Context}

-- what may be named, the scale of numbers, and whether this is a duration
pub record Setting : Type 0 where
  pub scope : Scope
  pub variables : List (List ℕ)
  pub scale : ℕ
  pub place : Place

abbrev pub setting_of : Context → Setting
setting_of c =
    record {
      scope = c.scope.now;
      variables = c.variables.now;
      scale = c.scale;
      place = c.place;
    }

-- the same in a duration
abbrev pub in_duration : Setting → Setting
in_duration s =
    record {
      scope = s.scope;
      variables = s.variables;
      scale = s.scale;
      place = Duration;
    }

-- a setting outside durations
abbrev pub outside : Scope → List (List ℕ) → ℕ → Setting
outside scope variables scale =
    record {
      scope = scope;
      variables = variables;
      scale = scale;
      place = Elsewhere;
    }
