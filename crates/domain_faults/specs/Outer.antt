-- The form of a domain: one list `(define (domain NAME) section ..)` in the file.
use Rattle.std.specs.Prelude.{ℕ, if◌then◌else◌, List, [], ◌∷◌, ◌++◌, codes}
use Rattle.std.specs.Str.{bytes_eq}
use Rattle.pddl_tokens.specs.Trees.{Trees, Leaf, Node, End, More}
use Rattle.pddl_parts.specs.declared.faults.Fault.{Fault}
use Rattle.pddl_parts.specs.declared.faults.Kind.TheVariants.{Shape}
use Rattle.pddl_parts.specs.First.{fault}
use Rattle.pddl_parts.specs.Literals.{misfit_word, misfit_list}
use Rattle.domain_faults.specs.Types.{type_names}
use Rattle.pddl_parts.specs.Members.{members_of, named_faults, others_faults}
use Rattle.domain_faults.specs.Sections.{sections_faults}

-- what is wrong with the sections of a domain, but for actions' parts
abbrev pub declarations_faults : Trees → List Fault
declarations_faults sections =
    sections_faults (type_names (members_of (codes ":types") sections)) [] sections

-- what is wrong behind `define`
abbrev pub defined_faults : ℕ → Trees → List Fault
defined_faults close End = fault Shape close ∷ []
defined_faults close (More (Leaf at text) sections) =
    misfit_word at text ++ declarations_faults sections
defined_faults close (More (Node at end parts) sections) =
    named_faults (codes "domain") at end parts ++ declarations_faults sections

-- what is wrong with a form that is to be a domain
abbrev pub form_faults : ℕ → ℕ → Trees → List Fault
form_faults at close End = misfit_list at End
form_faults at close (More (Node first end parts) rest) =
    misfit_list at (More (Node first end parts) rest)
form_faults at close (More (Leaf head text) rest) =
    if bytes_eq text (codes "define") then defined_faults close rest
    else misfit_list at (More (Leaf head text) rest)

-- the first pass over a domain's file with so many bytes: all but actions' parts
abbrev pub declared_faults : ℕ → Trees → List Fault
declared_faults bytes End = fault Shape bytes ∷ []
declared_faults bytes (More (Leaf at text) rest) = misfit_word at text ++ others_faults rest
declared_faults bytes (More (Node at close parts) rest) =
    form_faults at close parts ++ others_faults rest
