-- The range of lengths of a durative action under a substitution.
use Rattle.std.specs.Prelude.{ℕ, ℤ, pos, negsuc, ◌+◌, Bool, true, ◌&&◌, nat_le, min, max, List, [], ◌∷◌, Option, Some, None, is_some}
use Rattle.std.specs.List.{list_all}
use Rattle.tp_spec.specs.declared.problem.Kind.{Kind}
use Rattle.tp_spec.specs.declared.problem.Kind.TheVariants.{Instant, Durative}
use Rattle.tp_spec.specs.WellFormed.{far}
use Rattle.pddl_domain.specs.declared.domain.Bound.{Bound}
use Rattle.pddl_domain.specs.declared.domain.Bound.TheVariants.{Least, Most}
use Rattle.grounder.specs.Sources.{Source}
use Rattle.grounder.specs.Starts.{worth}

-- a number as ticks: one past the last length stands for all that are greater
abbrev pub ticks : ℤ → ℕ
ticks (pos n) = min n (far + 1)
ticks (negsuc n) = 0

abbrev pub raised : ℕ → Option ℤ → ℕ
raised least None = least
raised least (Some z) = max least (ticks z)

abbrev pub lowered : ℕ → Option ℤ → ℕ
lowered most None = most
lowered most (Some z) = min most (ticks z)

-- the least length, raised by each lower bound
abbrev pub least_from : Source → List ℕ → ℕ → List Bound → ℕ
least_from s objects least [] = least
least_from s objects least (Least v ∷ rest) =
    least_from s objects (raised least (worth s objects v)) rest
least_from s objects least (Most v ∷ rest) = least_from s objects least rest

-- the most length, lowered by each upper bound
abbrev pub most_from : Source → List ℕ → ℕ → List Bound → ℕ
most_from s objects most [] = most
most_from s objects most (Least v ∷ rest) = most_from s objects most rest
most_from s objects most (Most v ∷ rest) =
    most_from s objects (lowered most (worth s objects v)) rest

abbrev pub has_worth : Source → List ℕ → Bound → Bool
has_worth s objects (Least v) = is_some (worth s objects v)
has_worth s objects (Most v) = is_some (worth s objects v)

-- whether each bound has a value, and some length from 1 to 2^40 is within all of them
abbrev pub has_length : Source → List ℕ → Option (List Bound) → Bool
has_length s objects None = true
has_length s objects (Some bounds) =
    list_all (has_worth s objects) bounds
    && nat_le (least_from s objects 1 bounds) (most_from s objects far bounds)

abbrev pub kind_of : Source → List ℕ → Option (List Bound) → Kind
kind_of s objects None = Instant
kind_of s objects (Some bounds) =
    Durative (least_from s objects 1 bounds) (most_from s objects far bounds)
