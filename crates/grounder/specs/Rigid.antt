-- What is static: what no effect and no timed literal changes.
use Rattle.std.specs.Prelude.{ℕ, Bool, true, false, not, ◌&&◌, ◌||◌, ◌==◌, List, is_some}
use Rattle.std.specs.List.{list_any}
use Rattle.tp_spec.specs.Lists.{some_and}
use Rattle.tp_spec.specs.States.{of_both, compares}
use Rattle.pddl_meaning.specs.declared.values.Value.{Value, fold-Value}
use Rattle.pddl_meaning.specs.declared.values.Value.TheOpen.{Value-F}
use Rattle.pddl_meaning.specs.declared.conditions.Condition.{Condition}
use Rattle.pddl_meaning.specs.declared.conditions.Condition.TheVariants.{Lit, Same, Compare}
use Rattle.pddl_meaning.specs.declared.changes.Change.{Change}
use Rattle.pddl_meaning.specs.declared.changes.Change.TheVariants.{Lit as Make, Update}
use Rattle.pddl_domain.specs.declared.domain.Schema.{Schema}
use Rattle.grounder.specs.Sources.{Source, object_of, atom_name, call_name}
use Rattle.grounder.specs.Starts.{is_true, given, worth}

-- whether a test comes out as it is wanted
abbrev pub is_so : Bool → Bool → Bool
is_so true is = is
is_so false is = not is

-- whether an effect names this predicate; whether it writes this function
abbrev pub makes : ℕ → Change → Bool
makes p (Make positive atom) = atom.head == p
makes p (Update how target value) = false

abbrev pub writes : ℕ → Change → Bool
writes f (Make positive atom) = false
writes f (Update how target value) = target.head == f

-- whether some effect of an action, at its start or its end, passes a test
abbrev pub has_effect : (Change → Bool) → Schema → Bool
has_effect test a = list_any test a.start_effects || list_any test a.end_effects

-- a predicate is static where no effect and no timed literal names it, also where the action has
-- no substitution; a function where no effect writes it
abbrev pub is_static_predicate : Source → ℕ → Bool
is_static_predicate s p =
    not (list_any (has_effect (makes p)) s.domain.actions)
    && not (list_any (λ d. d.atom.head == p) s.task.timed)

abbrev pub is_static_function : Source → ℕ → Bool
is_static_function s f = not (list_any (has_effect (writes f)) s.domain.actions)

abbrev pub is_static_at : Source → Value-F Bool → Bool
is_static_at s (Value-F.Number n) = true
is_static_at s (Value-F.Call a) = is_static_function s a.head
is_static_at s (Value-F.Sum a b) = a && b
is_static_at s (Value-F.Difference a b) = a && b

-- whether each function of an expression is static
abbrev pub is_static_value : Source → Value → Bool
is_static_value s v = fold-Value Bool (is_static_at s) v

-- a static condition: an object equality or its negation, a literal of a static predicate, or a
-- comparison whose functions are all static
abbrev pub is_static : Source → Condition → Bool
is_static s (Lit positive atom) = is_static_predicate s atom.head
is_static s (Same positive left right) = true
is_static s (Compare op left right) = is_static_value s left && is_static_value s right

-- whether a condition holds at the start under a substitution
abbrev pub holds : Source → List ℕ → Condition → Bool
holds s objects (Lit positive atom) = is_so positive (is_true s (atom_name s objects atom))
holds s objects (Same positive left right) =
    is_so positive (object_of objects left == object_of objects right)
holds s objects (Compare op left right) =
    some_and (of_both (compares op) (worth s objects left) (worth s objects right)) (λ b. b)

abbrev pub is_known_at : Source → List ℕ → Value-F Bool → Bool
is_known_at s objects (Value-F.Number n) = true
is_known_at s objects (Value-F.Call a) =
    not (is_static_function s a.head) || is_some (given s (call_name s objects a))
is_known_at s objects (Value-F.Sum a b) = a && b
is_known_at s objects (Value-F.Difference a b) = a && b

-- whether each static function term of an expression has a value at the start
abbrev pub is_known : Source → List ℕ → Value → Bool
is_known s objects v = fold-Value Bool (is_known_at s objects) v
