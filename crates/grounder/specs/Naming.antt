-- The facts and the fluents of a problem, by name.
use Rattle.std.specs.Prelude.{ℕ, Bool, true, false, not, ◌||◌, List, [], ◌∷◌, ◌++◌, if◌then◌else◌}
use Rattle.std.specs.List.{flat_map}
use Rattle.std.specs.Ordering.{nat_cmp}
use Rattle.std.specs.Cmp.Lexicographic.{slice_cmp}
use Rattle.std.specs.BTreeSet.{insert_key}
use Rattle.pddl_meaning.specs.declared.values.Value.{Value, fold-Value}
use Rattle.pddl_meaning.specs.declared.values.Value.TheOpen.{Value-F}
use Rattle.pddl_meaning.specs.declared.conditions.Condition.{Condition}
use Rattle.pddl_meaning.specs.declared.conditions.Condition.TheVariants.{Lit, Same, Compare}
use Rattle.pddl_meaning.specs.declared.changes.Change.{Change}
use Rattle.pddl_meaning.specs.declared.changes.Change.TheVariants.{Lit as Make, Update}
use Rattle.pddl_domain.specs.declared.domain.Schema.{Schema}
use Rattle.pddl_problem.specs.declared.task.Dated.{Dated}
use Rattle.grounder.specs.Sources.{Source, atom_name, call_name}
use Rattle.grounder.specs.Rigid.{is_static, is_static_function}
use Rattle.grounder.specs.Kept.{kept}

-- names with more, each once, in the order of their bytes
abbrev pub with_names : List (List ℕ) → List (List ℕ) → List (List ℕ)
with_names sorted [] = sorted
with_names sorted (name ∷ names) = with_names (insert_key (slice_cmp nat_cmp) sorted name) names

abbrev pub sorted_names : List (List ℕ) → List (List ℕ)
sorted_names names = with_names [] names

-- Where a function term stays as a fluent: in actions where it is not static, in the goal always.
abbrev pub stays : Source → Bool → ℕ → Bool
stays s in_goal f = in_goal || not (is_static_function s f)

abbrev pub fluents_at : Source → Bool → List ℕ → Value-F (List (List ℕ)) → List (List ℕ)
fluents_at s in_goal objects (Value-F.Number n) = []
fluents_at s in_goal objects (Value-F.Call a) =
    if stays s in_goal a.head then call_name s objects a ∷ [] else []
fluents_at s in_goal objects (Value-F.Sum a b) = a ++ b
fluents_at s in_goal objects (Value-F.Difference a b) = a ++ b

abbrev pub value_fluents : Source → Bool → List ℕ → Value → List (List ℕ)
value_fluents s in_goal objects v =
    fold-Value (List (List ℕ)) (fluents_at s in_goal objects) v

abbrev pub cond_facts : Source → List ℕ → Condition → List (List ℕ)
cond_facts s objects (Lit positive atom) = atom_name s objects atom ∷ []
cond_facts s objects (Same positive left right) = []
cond_facts s objects (Compare op left right) = []

abbrev pub cond_fluents : Source → Bool → List ℕ → Condition → List (List ℕ)
cond_fluents s in_goal objects (Lit positive atom) = []
cond_fluents s in_goal objects (Same positive left right) = []
cond_fluents s in_goal objects (Compare op left right) =
    value_fluents s in_goal objects left ++ value_fluents s in_goal objects right

abbrev pub change_facts : Source → List ℕ → Change → List (List ℕ)
change_facts s objects (Make positive atom) = atom_name s objects atom ∷ []
change_facts s objects (Update how target value) = []

abbrev pub change_fluents : Source → List ℕ → Change → List (List ℕ)
change_fluents s objects (Make positive atom) = []
change_fluents s objects (Update how target value) =
    call_name s objects target ∷ value_fluents s false objects value

-- a static condition is taken out, and names nothing
abbrev pub remaining_facts : Source → List ℕ → Condition → List (List ℕ)
remaining_facts s objects c = if is_static s c then [] else cond_facts s objects c

abbrev pub remaining_fluents : Source → List ℕ → Condition → List (List ℕ)
remaining_fluents s objects c = if is_static s c then [] else cond_fluents s false objects c

abbrev pub conds_facts : Source → List ℕ → List Condition → List (List ℕ)
conds_facts s objects conds = flat_map (remaining_facts s objects) conds

abbrev pub conds_fluents : Source → List ℕ → List Condition → List (List ℕ)
conds_fluents s objects conds = flat_map (remaining_fluents s objects) conds

-- the names that one ground action uses
abbrev pub action_facts : Source → Schema → List ℕ → List (List ℕ)
action_facts s a objects =
    conds_facts s objects a.start_conds
    ++ conds_facts s objects a.all_conds
    ++ conds_facts s objects a.end_conds
    ++ flat_map (change_facts s objects) a.start_effects
    ++ flat_map (change_facts s objects) a.end_effects

abbrev pub action_fluents : Source → Schema → List ℕ → List (List ℕ)
action_fluents s a objects =
    conds_fluents s objects a.start_conds
    ++ conds_fluents s objects a.all_conds
    ++ conds_fluents s objects a.end_conds
    ++ flat_map (change_fluents s objects) a.start_effects
    ++ flat_map (change_fluents s objects) a.end_effects

-- the names that all ground actions of an action use
abbrev pub schema_facts : Source → Schema → List (List ℕ)
schema_facts s a = flat_map (action_facts s a) (kept s a)

abbrev pub schema_fluents : Source → Schema → List (List ℕ)
schema_fluents s a = flat_map (action_fluents s a) (kept s a)

abbrev pub dated_facts : Source → Dated → List (List ℕ)
dated_facts s d = atom_name s [] d.atom ∷ []

-- all facts: the atoms in the ground actions, in timed literals and in the goal
abbrev pub fact_names : Source → List (List ℕ)
fact_names s =
    flat_map (schema_facts s) s.domain.actions
    ++ flat_map (dated_facts s) s.task.timed
    ++ flat_map (cond_facts s []) s.task.goal

-- all fluents: the function terms that remain in the ground actions, and all of the goal
abbrev pub fluent_names : Source → List (List ℕ)
fluent_names s =
    flat_map (schema_fluents s) s.domain.actions
    ++ flat_map (cond_fluents s true []) s.task.goal

abbrev pub facts : Source → List (List ℕ)
facts s = sorted_names (fact_names s)

abbrev pub fluents : Source → List (List ℕ)
fluents s = sorted_names (fluent_names s)
