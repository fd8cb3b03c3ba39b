-- Conditions, effects and actions under a substitution, with facts and fluents by their numbers.
use Rattle.std.specs.Prelude.{ℕ, ℤ, pos, Bool, true, false, ◌==◌, List, [], ◌∷◌, map, Option, Some, None, position, if◌then◌else◌}
use Rattle.std.specs.List.{flat_map}
use Rattle.std.specs.Str.{bytes_eq}
use Rattle.tp_spec.specs.declared.expr.Expr.{Expr}
use Rattle.tp_spec.specs.declared.expr.Expr.TheVariants.{Number, Fluent, Sum, Difference}
use Rattle.tp_spec.specs.declared.problem.Action.{Action}
use Rattle.tp_spec.specs.declared.problem.Cond.{Cond}
use Rattle.tp_spec.specs.declared.problem.Cond.TheVariants.{Lit as Fact, Compare as Test}
use Rattle.tp_spec.specs.declared.problem.Effect.{Effect}
use Rattle.tp_spec.specs.declared.problem.Effect.TheVariants.{Add, Delete, Change as Alter}
use Rattle.tp_spec.specs.declared.problem.Op.TheVariants.{Less, Equal}
use Rattle.pddl_meaning.specs.Terms.{or_zero}
use Rattle.pddl_meaning.specs.declared.values.Value.{Value, fold-Value}
use Rattle.pddl_meaning.specs.declared.values.Value.TheOpen.{Value-F}
use Rattle.pddl_meaning.specs.declared.conditions.Condition.{Condition}
use Rattle.pddl_meaning.specs.declared.conditions.Condition.TheVariants.{Lit, Same, Compare}
use Rattle.pddl_meaning.specs.declared.changes.Change.{Change}
use Rattle.pddl_meaning.specs.declared.changes.Change.TheVariants.{Lit as Make, Update}
use Rattle.pddl_domain.specs.declared.domain.Schema.{Schema}
use Rattle.grounder.specs.Sources.{Source, object_of, named, atom_name, call_name}
use Rattle.grounder.specs.Starts.{given}
use Rattle.grounder.specs.Rigid.{is_so, is_static}
use Rattle.grounder.specs.Lengths.{kind_of}
use Rattle.grounder.specs.Kept.{kept}
use Rattle.grounder.specs.Naming.{stays}

-- the number of a name among sorted ones
abbrev pub number_in : List (List ℕ) → List ℕ → ℕ
number_in names name = or_zero (position (bytes_eq name) names)

abbrev pub or_none : Option ℤ → ℤ
or_none None = pos 0
or_none (Some z) = z

abbrev pub expr_at : Source → List (List ℕ) → Bool → List ℕ → Value-F Expr → Expr
expr_at s fluents in_goal objects (Value-F.Number n) = Number n
expr_at s fluents in_goal objects (Value-F.Call a) =
    if stays s in_goal a.head then Fluent (number_in fluents (call_name s objects a))
    else Number (or_none (given s (call_name s objects a)))
expr_at s fluents in_goal objects (Value-F.Sum a b) = Sum a b
expr_at s fluents in_goal objects (Value-F.Difference a b) = Difference a b

-- an expression: a static function term gives its value at the start, but not in the goal
abbrev pub expr_of : Source → List (List ℕ) → Bool → List ℕ → Value → Expr
expr_of s fluents in_goal objects v =
    fold-Value Expr (expr_at s fluents in_goal objects) v

-- what always holds, and what never does
abbrev pub certainty : Bool → Cond
certainty true = Test Equal (Number (pos 0)) (Number (pos 0))
certainty false = Test Less (Number (pos 0)) (Number (pos 0))

-- a condition; an object equality, which stands in a goal alone, as `(= 0 0)` or `(< 0 0)`
abbrev pub cond_of : Source → List (List ℕ) → List (List ℕ) → Bool → List ℕ → Condition → Cond
cond_of s facts fluents in_goal objects (Lit positive atom) =
    Fact (number_in facts (atom_name s objects atom)) positive
cond_of s facts fluents in_goal objects (Same positive left right) =
    certainty (is_so positive (object_of objects left == object_of objects right))
cond_of s facts fluents in_goal objects (Compare op left right) =
    Test op (expr_of s fluents in_goal objects left) (expr_of s fluents in_goal objects right)

abbrev pub effect_of : Source → List (List ℕ) → List (List ℕ) → List ℕ → Change → Effect
effect_of s facts fluents objects (Make true atom) =
    Add (number_in facts (atom_name s objects atom))
effect_of s facts fluents objects (Make false atom) =
    Delete (number_in facts (atom_name s objects atom))
effect_of s facts fluents objects (Update how target value) =
    Alter how (number_in fluents (call_name s objects target))
    (expr_of s fluents false objects value)

-- the conditions of an action that remain, in their order
abbrev pub cond_left : Source → List (List ℕ) → List (List ℕ) → List ℕ → Condition → List Cond
cond_left s facts fluents objects c =
    if is_static s c then [] else cond_of s facts fluents false objects c ∷ []

abbrev pub conds_of : Source → List (List ℕ) → List (List ℕ) → List ℕ → List Condition → List Cond
conds_of s facts fluents objects conds = flat_map (cond_left s facts fluents objects) conds

-- the ground action of a substitution; its name is the action's and the objects'
abbrev pub action_of : Source → List (List ℕ) → List (List ℕ) → Schema → List ℕ → Action
action_of s facts fluents a objects =
    record {
      name = named s a.name objects;
      kind = kind_of s objects a.bounds;
      start_conds = conds_of s facts fluents objects a.start_conds;
      all_conds = conds_of s facts fluents objects a.all_conds;
      end_conds = conds_of s facts fluents objects a.end_conds;
      start_effects = map (effect_of s facts fluents objects) a.start_effects;
      end_effects = map (effect_of s facts fluents objects) a.end_effects;
    }

-- all ground actions of an action
abbrev pub schema_actions : Source → List (List ℕ) → List (List ℕ) → Schema → List Action
schema_actions s facts fluents a = map (action_of s facts fluents a) (kept s a)
