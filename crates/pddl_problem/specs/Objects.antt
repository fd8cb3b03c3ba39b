-- The objects of a problem.
use Rattle.std.specs.Prelude.{ℕ, if◌then◌else◌, List, [], ◌∷◌, ◌++◌, Option, Some, None, nat_eq}
use Rattle.pddl_tokens.specs.Trees.{Trees, Leaf, Node, End, More}
use Rattle.pddl_parts.specs.declared.faults.Fault.{Fault}
use Rattle.pddl_parts.specs.declared.faults.Kind.TheVariants.{Twice}
use Rattle.pddl_parts.specs.declared.typed.Part.{Part}
use Rattle.pddl_parts.specs.declared.typed.Part.TheVariants.{Start}
use Rattle.pddl_parts.specs.First.{fault}
use Rattle.pddl_parts.specs.Names.{with_name, is_new}
use Rattle.pddl_parts.specs.Tables.{value_of}
use Rattle.pddl_parts.specs.Typed.{typed_faults, is_item, next, next_of_list}
use Rattle.pddl_meaning.specs.Groups.{parent_behind}
use Rattle.domain_faults.specs.Sections.{objects}

-- an object again, where it is no constant that has this type: a new one must be new
abbrev pub again_object : Option ℕ → Option ℕ → List (List ℕ) → ℕ → List ℕ → List Fault
again_object None sort seen at text = if is_new seen text then [] else fault Twice at ∷ []
again_object (Some s) None seen at text = fault Twice at ∷ []
again_object (Some s) (Some t) seen at text = if nat_eq s t then [] else fault Twice at ∷ []

-- each object that came before
abbrev pub again_objects : List (List ℕ) → List (List ℕ × ℕ) → List (List ℕ) → Part → Trees
    → List Fault
again_objects types constants seen part End = []
again_objects types constants seen part (More (Leaf at text) rest) =
    if is_item objects part text then
    again_object (value_of constants text) (parent_behind types rest) seen at text
    ++ again_objects types constants (with_name seen text) (next part text) rest
    else again_objects types constants seen (next part text) rest
again_objects types constants seen part (More (Node at close members) rest) =
    again_objects types constants seen (next_of_list part) rest

-- what is wrong with the members of `:objects`
abbrev pub objects_faults : List (List ℕ) → List (List ℕ × ℕ) → ℕ → Trees → List Fault
objects_faults types constants close members =
    typed_faults objects types close Start members ++ again_objects types constants [] Start members
