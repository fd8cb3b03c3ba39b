-- The form of a problem, and its first pass: one list `(define (problem NAME) section ..)` in the
-- file.
use Rattle.std.specs.Prelude.{ℕ, Bool, ◌&&◌, ◌||◌, if◌then◌else◌, List, [], ◌∷◌, ◌++◌, codes}
use Rattle.std.specs.List.{list_any}
use Rattle.std.specs.Str.{bytes_eq}
use Rattle.pddl_tokens.specs.Trees.{Trees, Leaf, Node, End, More}
use Rattle.pddl_parts.specs.declared.faults.Fault.{Fault}
use Rattle.pddl_parts.specs.declared.faults.Kind.TheVariants.{Shape, Twice, OtherDomain}
use Rattle.pddl_parts.specs.First.{fault}
use Rattle.pddl_parts.specs.Literals.{misfit_word, misfit_list, unfit_section}
use Rattle.pddl_parts.specs.Typed.{with_item}
use Rattle.pddl_parts.specs.Members.{one_name_faults, named_faults, others_faults, requirements_faults}
use Rattle.pddl_domain.specs.declared.domain.Domain.{Domain}
use Rattle.pddl_problem.specs.Known.{with_sorts, with_typed}
use Rattle.pddl_problem.specs.Objects.{objects_faults}

-- the sections of a problem, each of which comes once at most
abbrev pub is_section : List ℕ → Bool
is_section text =
    bytes_eq text (codes ":domain") || bytes_eq text (codes ":requirements")
    || bytes_eq text (codes ":objects") || bytes_eq text (codes ":init")
    || bytes_eq text (codes ":goal") || bytes_eq text (codes ":metric")
    || bytes_eq text (codes ":length")

-- the name of another domain
abbrev pub other_faults : List ℕ → Trees → List Fault
other_faults name End = []
other_faults name (More (Leaf at text) rest) =
    if bytes_eq text name then [] else fault OtherDomain at ∷ []
other_faults name (More (Node at close parts) rest) = []

-- what is wrong with the members of a section, in the first pass
abbrev pub members_faults : Domain → List ℕ → ℕ → Trees → List Fault
members_faults domain text close members =
    if bytes_eq text (codes ":domain")
    then one_name_faults close members ++ other_faults domain.name members
    else if bytes_eq text (codes ":requirements") then requirements_faults members
    else if bytes_eq text (codes ":objects")
    then objects_faults (with_sorts [] domain.types) (with_typed [] domain.constants) close
    members
    else []

-- a section that came before is Twice at its head, and is not looked into
abbrev pub once_faults : Domain → List (List ℕ) → ℕ → ℕ → List ℕ → Trees → List Fault
once_faults domain seen close head text members =
    if list_any (bytes_eq text) seen then fault Twice head ∷ []
    else members_faults domain text close members

-- a section that begins with a list is Shape at that list, whatever that is
abbrev pub section_faults : Domain → List (List ℕ) → ℕ → ℕ → Trees → List Fault
section_faults domain seen at close End = misfit_list at End
section_faults domain seen at close (More (Node first end parts) members) = fault Shape first ∷ []
section_faults domain seen at close (More (Leaf head text) members) =
    if is_section text then once_faults domain seen close head text members
    else unfit_section head text members

-- the heads of sections that came
abbrev pub with_section : List (List ℕ) → Trees → List (List ℕ)
with_section seen End = seen
with_section seen (More (Node first end parts) members) = seen
with_section seen (More (Leaf head text) members) = with_item (is_section text) seen text

-- a problem needs its domain and a goal
abbrev pub missing_faults : List (List ℕ) → ℕ → List Fault
missing_faults seen close =
    if list_any (bytes_eq (codes ":domain")) seen
    && list_any (bytes_eq (codes ":goal")) seen then [] else fault Shape close ∷ []

-- what is wrong with sections in the first pass, some having come before
abbrev pub sections_faults : Domain → ℕ → List (List ℕ) → Trees → List Fault
sections_faults domain close seen End = missing_faults seen close
sections_faults domain close seen (More (Leaf at text) rest) =
    misfit_word at text ++ sections_faults domain close seen rest
sections_faults domain close seen (More (Node at end parts) rest) =
    section_faults domain seen at end parts
    ++ sections_faults domain close (with_section seen parts) rest

-- what is wrong behind `define`
abbrev pub defined_faults : Domain → ℕ → Trees → List Fault
defined_faults domain close End = fault Shape close ∷ []
defined_faults domain close (More (Leaf at text) sections) =
    misfit_word at text ++ sections_faults domain close [] sections
defined_faults domain close (More (Node at end parts) sections) =
    named_faults (codes "problem") at end parts ++ sections_faults domain close [] sections

-- what is wrong with a form that is to be a problem
abbrev pub form_faults : Domain → ℕ → ℕ → Trees → List Fault
form_faults domain at close End = misfit_list at End
form_faults domain at close (More (Node first end parts) rest) =
    misfit_list at (More (Node first end parts) rest)
form_faults domain at close (More (Leaf head text) rest) =
    if bytes_eq text (codes "define") then defined_faults domain close rest
    else misfit_list at (More (Leaf head text) rest)

-- the first pass over a problem's file with so many bytes
abbrev pub declared_faults : Domain → ℕ → Trees → List Fault
declared_faults domain bytes End = fault Shape bytes ∷ []
declared_faults domain bytes (More (Leaf at text) rest) = misfit_word at text ++ others_faults rest
declared_faults domain bytes (More (Node at close parts) rest) =
    form_faults domain at close parts ++ others_faults rest
