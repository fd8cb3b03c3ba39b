-- The sections of a domain, and what is wrong with them but for actions.
use Rattle.std.specs.Prelude.{ℕ, Bool, false, ◌||◌, if◌then◌else◌, List, [], ◌∷◌, ◌++◌, codes}
use Rattle.std.specs.List.{list_any}
use Rattle.std.specs.Str.{bytes_eq}
use Rattle.pddl_tokens.specs.Trees.{Trees, Leaf, Node, End, More}
use Rattle.pddl_parts.specs.declared.faults.Fault.{Fault}
use Rattle.pddl_parts.specs.declared.faults.Kind.TheVariants.{Shape, Twice}
use Rattle.pddl_parts.specs.declared.typed.Part.TheVariants.{Start}
use Rattle.pddl_parts.specs.declared.typed.Rule.{Rule}
use Rattle.pddl_parts.specs.First.{fault}
use Rattle.pddl_parts.specs.Literals.{misfit_word, misfit_list, unfit_section}
use Rattle.pddl_parts.specs.Typed.{typed_faults, repeat_faults, with_item}
use Rattle.pddl_parts.specs.Members.{requirements_faults}
use Rattle.domain_faults.specs.Parts.{is_action}
use Rattle.domain_faults.specs.Types.{types_faults}
use Rattle.domain_faults.specs.declared.heads.HeadKind.{HeadKind}
use Rattle.domain_faults.specs.declared.heads.HeadKind.TheVariants.{Predicates, Functions}
use Rattle.domain_faults.specs.Heads.{heads_faults}

-- the sections that come once at most
abbrev pub comes_once : List ℕ → Bool
comes_once text =
    bytes_eq text (codes ":requirements") || bytes_eq text (codes ":types")
    || bytes_eq text (codes ":constants")
    || bytes_eq text (codes ":predicates") || bytes_eq text (codes ":functions")

-- names, each of a type that is declared
abbrev pub objects : Rule
objects = record { variables = false; any_type = false }

-- what is wrong with the members of `:constants`, each of them new
abbrev pub constants_faults : List (List ℕ) → ℕ → Trees → List Fault
constants_faults types close members =
    typed_faults objects types close Start members ++ repeat_faults objects [] Start members

-- what `:predicates` or `:functions` declares
abbrev pub head_kind : List ℕ → HeadKind
head_kind text = if bytes_eq text (codes ":functions") then Functions else Predicates

-- what is wrong with the members of a section that comes once
abbrev pub members_faults : List (List ℕ) → List ℕ → ℕ → Trees → List Fault
members_faults types text close members =
    if bytes_eq text (codes ":requirements") then requirements_faults members
    else if bytes_eq text (codes ":types") then types_faults types close members
    else if bytes_eq text (codes ":constants") then constants_faults types close members
    else heads_faults (head_kind text) types close [] Start members

-- a section that came before is Twice at its head, and is not looked into
abbrev pub once_faults : List (List ℕ) → List (List ℕ) → ℕ → ℕ → List ℕ → Trees → List Fault
once_faults types seen close head text members =
    if list_any (bytes_eq text) seen then fault Twice head ∷ []
    else members_faults types text close members

-- what is wrong with a section, but for an action's parts: one that begins with a list is Shape at
-- that list, whatever that is
abbrev pub section_faults : List (List ℕ) → List (List ℕ) → ℕ → ℕ → Trees → List Fault
section_faults types seen at close End = misfit_list at End
section_faults types seen at close (More (Node first end parts) members) = fault Shape first ∷ []
section_faults types seen at close (More (Leaf head text) members) =
    if comes_once text then once_faults types seen close head text members
    else if is_action text then []
    else unfit_section head text members

-- the heads of sections that came
abbrev pub with_section : List (List ℕ) → Trees → List (List ℕ)
with_section seen End = seen
with_section seen (More (Node first end parts) members) = seen
with_section seen (More (Leaf head text) members) = with_item (comes_once text) seen text

-- what is wrong with sections, some having come before
abbrev pub sections_faults : List (List ℕ) → List (List ℕ) → Trees → List Fault
sections_faults types seen End = []
sections_faults types seen (More (Leaf at text) rest) =
    misfit_word at text ++ sections_faults types seen rest
sections_faults types seen (More (Node at close parts) rest) =
    section_faults types seen at close parts ++ sections_faults types (with_section seen parts) rest
