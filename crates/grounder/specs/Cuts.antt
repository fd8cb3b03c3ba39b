-- When the first objects of a substitution already rule it out.
use Rattle.std.specs.Prelude.{ℕ, Bool, true, not, ◌&&◌, ◌||◌, nat_lt, List, length}
use Rattle.std.specs.List.{list_all, list_any}
use Rattle.pddl_meaning.specs.declared.terms.Term.{Term}
use Rattle.pddl_meaning.specs.declared.terms.Term.TheVariants.{Parameter, Object}
use Rattle.pddl_meaning.specs.declared.values.Value.{Value, fold-Value}
use Rattle.pddl_meaning.specs.declared.values.Value.TheOpen.{Value-F}
use Rattle.pddl_meaning.specs.declared.conditions.Condition.{Condition}
use Rattle.pddl_meaning.specs.declared.conditions.Condition.TheVariants.{Lit, Same, Compare}
use Rattle.pddl_domain.specs.declared.domain.Schema.{Schema}
use Rattle.grounder.specs.Sources.{Source}
use Rattle.grounder.specs.Rigid.{is_static, holds}

-- whether a term stands for an object once the first n parameters are bound
abbrev pub is_bound : ℕ → Term → Bool
is_bound n (Parameter k) = nat_lt k n
is_bound n (Object k) = true

abbrev pub is_bound_at : ℕ → Value-F Bool → Bool
is_bound_at n (Value-F.Number z) = true
is_bound_at n (Value-F.Call a) = list_all (is_bound n) a.terms
is_bound_at n (Value-F.Sum a b) = a && b
is_bound_at n (Value-F.Difference a b) = a && b

-- whether each function term of an expression is over bound parameters
abbrev pub is_bound_value : ℕ → Value → Bool
is_bound_value n v = fold-Value Bool (is_bound_at n) v

abbrev pub is_bound_in : ℕ → Condition → Bool
is_bound_in n (Lit positive atom) = list_all (is_bound n) atom.terms
is_bound_in n (Same positive left right) = is_bound n left && is_bound n right
is_bound_in n (Compare op left right) = is_bound_value n left && is_bound_value n right

abbrev pub fails : Source → List ℕ → Condition → Bool
fails s objects c =
    (is_bound_in (length objects) c && is_static s c) && not (holds s objects c)

-- whether some static condition over the parameters that are bound does not hold
abbrev pub has_failed : Source → Schema → List ℕ → Bool
has_failed s a objects =
    list_any (fails s objects) a.start_conds || list_any (fails s objects) a.all_conds
    || list_any (fails s objects) a.end_conds
