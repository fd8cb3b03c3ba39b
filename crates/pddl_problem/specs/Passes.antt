-- The second pass over a problem, `:init` and `:goal`, and a problem's first fault.
use Rattle.std.specs.Prelude.{ℕ, if◌then◌else◌, List, [], ◌∷◌, ◌++◌, Option, codes}
use Rattle.std.specs.Str.{bytes_eq}
use Rattle.pddl_tokens.specs.Trees.{Trees, Leaf, Node, End, More}
use Rattle.pddl_parts.specs.declared.faults.Fault.{Fault}
use Rattle.pddl_parts.specs.declared.faults.Kind.TheVariants.{Shape}
use Rattle.pddl_parts.specs.Settings.{Setting, outside}
use Rattle.pddl_parts.specs.First.{first, fault}
use Rattle.pddl_parts.specs.Literals.{misfit_word}
use Rattle.pddl_parts.specs.Members.{surplus_faults, members_of}
use Rattle.pddl_parts.specs.Conditions.{condition_faults}
use Rattle.pddl_meaning.specs.Terms.{behind_first}
use Rattle.pddl_domain.specs.declared.domain.Domain.{Domain}
use Rattle.domain_faults.specs.Passes.{in_passes}
use Rattle.pddl_problem.specs.Known.{scope_of}
use Rattle.pddl_problem.specs.Outer.{declared_faults}
use Rattle.pddl_problem.specs.Init.{elements_faults}
use Rattle.pddl_problem.specs.Elements.{first_list}
use Rattle.pddl_problem.specs.Again.{values_faults, clashes_faults}

-- what is wrong with the members of `:init`
abbrev pub init_faults : Setting → Trees → List Fault
init_faults setting members =
    elements_faults setting members
    ++ (values_faults setting.scale [] [] members ++ clashes_faults setting.scale [] [] members)

-- what is wrong with the members of `:goal`: one condition, without variables
abbrev pub goal_faults : Setting → ℕ → Trees → List Fault
goal_faults setting close End = fault Shape close ∷ []
goal_faults setting close (More (Leaf at text) rest) = misfit_word at text ++ surplus_faults rest
goal_faults setting close (More (Node at end parts) rest) =
    condition_faults setting at end parts ++ surplus_faults rest

-- what is wrong with a section's members in the second pass
abbrev pub state_faults : Setting → ℕ → List ℕ → Trees → List Fault
state_faults setting close text members =
    if bytes_eq text (codes ":init") then init_faults setting members
    else if bytes_eq text (codes ":goal") then goal_faults setting close members
    else []

abbrev pub section_faults : Setting → ℕ → Trees → List Fault
section_faults setting close End = []
section_faults setting close (More (Node first end parts) members) = []
section_faults setting close (More (Leaf head text) members) =
    state_faults setting close text members

-- what is wrong with sections in the second pass
abbrev pub sections_faults : Setting → Trees → List Fault
sections_faults setting End = []
sections_faults setting (More (Leaf at text) rest) = sections_faults setting rest
sections_faults setting (More (Node at close parts) rest) =
    section_faults setting close parts ++ sections_faults setting rest

-- the second pass, over what the domain and `:objects` declare
abbrev pub judged_faults : Domain → ℕ → Trees → List Fault
judged_faults domain scale sections =
    sections_faults (outside (scope_of domain (members_of (codes ":objects") sections)) [] scale)
    sections

-- the sections of a problem: what stands in the file's form behind `define` and the problem's name
abbrev pub sections_of : Trees → Trees
sections_of forms = behind_first (behind_first (first_list forms))

-- the first fault of a problem's file with so many bytes: of the first pass that has one
abbrev pub problem_fault : Domain → ℕ → ℕ → Trees → Option Fault
problem_fault domain scale bytes forms =
    in_passes (first (declared_faults domain bytes forms))
    (first (judged_faults domain scale (sections_of forms)))
