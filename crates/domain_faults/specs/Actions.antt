-- Actions, and what is wrong with them.
use Rattle.std.specs.Prelude.{ℕ, Bool, true, false, not, ◌&&◌, ◌||◌, if◌then◌else◌, List, [], ◌∷◌, ◌++◌, codes}
use Rattle.std.specs.List.{list_any}
use Rattle.std.specs.Str.{bytes_eq}
use Rattle.pddl_tokens.specs.Trees.{Trees, Leaf, Node, End, More}
use Rattle.pddl_parts.specs.declared.faults.Fault.{Fault}
use Rattle.pddl_parts.specs.declared.faults.Kind.TheVariants.{Shape}
use Rattle.pddl_parts.specs.declared.scope.Scope.{Scope}
use Rattle.pddl_parts.specs.declared.typed.Part.TheVariants.{Start}
use Rattle.pddl_parts.specs.First.{fault}
use Rattle.pddl_parts.specs.declared.scope.Place.{Place}
use Rattle.pddl_parts.specs.declared.scope.Place.TheVariants.{Elsewhere, Duration as Inside}
use Rattle.pddl_parts.specs.declared.timed.TimedPart.TheVariants.{Condition as OfCondition, Effect as OfEffect}
use Rattle.pddl_parts.specs.Settings.{Setting, in_duration, outside}
use Rattle.pddl_parts.specs.Words.{is_thing}
use Rattle.pddl_parts.specs.Literals.{misfit_word, misfit_list, unfit_word, name_faults}
use Rattle.pddl_parts.specs.Typed.{again_faults, with_item}
use Rattle.pddl_parts.specs.Items.{with_items}
use Rattle.pddl_parts.specs.Conditions.{condition_faults}
use Rattle.pddl_parts.specs.Effects.{effect_faults}
use Rattle.pddl_parts.specs.Timed.{timed_faults}
use Rattle.domain_faults.specs.declared.actions.Key.{Key}
use Rattle.domain_faults.specs.declared.actions.Key.TheVariants.{Parameters, Duration, Condition, Effect}
use Rattle.domain_faults.specs.declared.actions.Stage.{Stage}
use Rattle.domain_faults.specs.declared.actions.Stage.TheVariants.{Keyword, Value, Skipped}
use Rattle.domain_faults.specs.Heads.{variables_faults, parameters}
use Rattle.domain_faults.specs.Durations.{duration_faults}
use Rattle.domain_faults.specs.Places.{effect_places, timed_places, past_faults}
use Rattle.domain_faults.specs.declared.parts.ActionKind.{ActionKind}
use Rattle.domain_faults.specs.declared.parts.ActionKind.TheVariants.{Instant, Durative}
use Rattle.domain_faults.specs.Parts.{is_key, is_action, kind_of, part_of}

-- the part that a keyword begins
abbrev pub key_of : List ℕ → Key
key_of text =
    if bytes_eq text (codes ":parameters") then Parameters
    else if bytes_eq text (codes ":duration") then Duration
    else if bytes_eq text (codes ":effect") then Effect
    else Condition

-- where a value stands
abbrev pub place_of : Key → Place
place_of Parameters = Elsewhere
place_of Duration = Inside
place_of Condition = Elsewhere
place_of Effect = Elsewhere

-- what a word begins where a keyword is to stand; the value of a keyword that came before is not
-- looked into
abbrev pub stage_of : ActionKind → List (List ℕ) → List ℕ → Stage
stage_of kind seen text =
    if is_key kind text
    then (if list_any (bytes_eq text) seen then Skipped else Value (key_of text)) else Keyword

abbrev pub stage_behind : ActionKind → List (List ℕ) → Stage → List ℕ → Stage
stage_behind kind seen Keyword text = stage_of kind seen text
stage_behind kind seen (Value key) text = Keyword
stage_behind kind seen Skipped text = Keyword

-- the keywords that came
abbrev pub with_key : ActionKind → List (List ℕ) → Stage → List ℕ → List (List ℕ)
with_key kind seen Keyword text = with_item (is_key kind text) seen text
with_key kind seen (Value key) text = seen
with_key kind seen Skipped text = seen

-- a word where a keyword is to stand
abbrev pub keyword_faults : ActionKind → List (List ℕ) → ℕ → List ℕ → List Fault
keyword_faults kind seen at text =
    if is_key kind text then again_faults true seen at text else misfit_word at text

-- a word among the parts
abbrev pub part_word_faults : ActionKind → List (List ℕ) → Stage → ℕ → List ℕ → List Fault
part_word_faults kind seen Keyword at text = keyword_faults kind seen at text
part_word_faults kind seen (Value key) at text = unfit_word (place_of key) at text
part_word_faults kind seen Skipped at text = []

-- the effect of an action
abbrev pub whole_effect_faults : ActionKind → Setting → ℕ → ℕ → Trees → List Fault
whole_effect_faults Instant setting at close parts =
    effect_faults setting at close parts ++ past_faults (effect_places at parts)
whole_effect_faults Durative setting at close parts =
    timed_faults OfEffect setting at close parts
    ++ (past_faults (timed_places (codes "start") parts)
    ++ past_faults (timed_places (codes "end") parts))

-- the condition of an action
abbrev pub whole_condition_faults : ActionKind → Setting → ℕ → ℕ → Trees → List Fault
whole_condition_faults Instant setting at close parts =
    condition_faults setting at close parts
whole_condition_faults Durative setting at close parts =
    timed_faults OfCondition setting at close parts

-- the list behind a keyword
abbrev pub value_faults : ActionKind → Setting → Key → ℕ → ℕ → Trees → List Fault
value_faults kind setting Parameters at close parts =
    variables_faults setting.scope.types close parts
value_faults kind setting Duration at close parts =
    duration_faults (in_duration setting) at close parts
value_faults kind setting Condition at close parts =
    whole_condition_faults kind setting at close parts
value_faults kind setting Effect at close parts =
    whole_effect_faults kind setting at close parts

-- a list among the parts
abbrev pub part_list_faults : ActionKind → Setting → Stage → ℕ → ℕ → Trees → List Fault
part_list_faults kind setting Keyword at close parts = misfit_list at parts
part_list_faults kind setting (Value key) at close parts =
    value_faults kind setting key at close parts
part_list_faults kind setting Skipped at close parts = []

-- the value of a keyword is missing
abbrev pub end_part_faults : Stage → ℕ → List Fault
end_part_faults Keyword close = []
end_part_faults (Value key) close = fault Shape close ∷ []
end_part_faults Skipped close = fault Shape close ∷ []

-- a durative action needs a duration
abbrev pub has_duration : ActionKind → List (List ℕ) → Bool
has_duration Instant seen = true
has_duration Durative seen = list_any (bytes_eq (codes ":duration")) seen

-- parameters are needed too
abbrev pub missing_faults : ActionKind → List (List ℕ) → ℕ → List Fault
missing_faults kind seen close =
    if list_any (bytes_eq (codes ":parameters")) seen && has_duration kind seen then []
    else fault Shape close ∷ []

-- what is wrong with the parts of an action, some keywords having come
abbrev pub parts_faults : ActionKind → Setting → ℕ → List (List ℕ) → Stage → Trees → List Fault
parts_faults kind setting close seen stage End =
    end_part_faults stage close ++ missing_faults kind seen close
parts_faults kind setting close seen stage (More (Leaf at text) rest) =
    part_word_faults kind seen stage at text
    ++ parts_faults kind setting close (with_key kind seen stage text)
    (stage_behind kind seen stage text) rest
parts_faults kind setting close seen stage (More (Node at end parts) rest) =
    part_list_faults kind setting stage at end parts
    ++ parts_faults kind setting close seen Keyword rest

-- the variables of an action: its parameters
abbrev pub variables_of : ActionKind → Trees → List (List ℕ)
variables_of kind members =
    with_items parameters [] Start (part_of kind (codes ":parameters") members)

-- what is wrong with an action whose name is passed over
abbrev pub unnamed_faults : ActionKind → Scope → ℕ → ℕ → Trees → List Fault
unnamed_faults kind scope scale close members =
    parts_faults kind (outside scope (variables_of kind members) scale) close [] Keyword
    members

-- what is wrong with an action, others having these names
abbrev pub action_faults : ActionKind → Scope → ℕ → List (List ℕ) → ℕ → Trees → List Fault
action_faults kind scope scale names close End = fault Shape close ∷ []
action_faults kind scope scale names close (More (Leaf at text) rest) =
    name_faults at text
    ++ (again_faults (is_thing text) names at text
    ++ unnamed_faults kind scope scale close rest)
action_faults kind scope scale names close (More (Node at end parts) rest) =
    misfit_list at parts ++ unnamed_faults kind scope scale close rest

abbrev pub with_action : List (List ℕ) → Trees → List (List ℕ)
with_action names End = names
with_action names (More (Leaf at text) rest) = with_item (is_thing text) names text
with_action names (More (Node at end parts) rest) = names

-- what is wrong with a section, where it is an action
abbrev pub acted_faults : Scope → ℕ → List (List ℕ) → ℕ → Trees → List Fault
acted_faults scope scale names close End = []
acted_faults scope scale names close (More (Node first end parts) members) = []
acted_faults scope scale names close (More (Leaf head text) members) =
    if is_action text then action_faults (kind_of text) scope scale names close members else []

abbrev pub with_acted : List (List ℕ) → Trees → List (List ℕ)
with_acted names End = names
with_acted names (More (Node first end parts) members) = names
with_acted names (More (Leaf head text) members) =
    if is_action text then with_action names members else names

-- what is wrong with the actions among sections, others having these names
abbrev pub actions_faults : Scope → ℕ → List (List ℕ) → Trees → List Fault
actions_faults scope scale names End = []
actions_faults scope scale names (More (Leaf at text) rest) = actions_faults scope scale names rest
actions_faults scope scale names (More (Node at close parts) rest) =
    acted_faults scope scale names close parts
    ++ actions_faults scope scale (with_acted names parts) rest
