-- Members of the outer form and of sections, of a domain or a problem.
use Rattle.std.specs.Prelude.{ℕ, if◌then◌else◌, List, [], ◌∷◌, ◌++◌}
use Rattle.std.specs.Str.{bytes_eq}
use Rattle.pddl_tokens.specs.Trees.{Trees, Leaf, Node, End, More}
use Rattle.pddl_parts.specs.declared.faults.Fault.{Fault}
use Rattle.pddl_parts.specs.declared.faults.Kind.TheVariants.{Shape}
use Rattle.pddl_parts.specs.First.{fault}
use Rattle.pddl_parts.specs.declared.scope.Place.{Place}
use Rattle.pddl_parts.specs.declared.scope.Place.TheVariants.{Elsewhere}
use Rattle.pddl_parts.specs.Words.{begins_with}
use Rattle.pddl_parts.specs.Literals.{misfit_list, unfit_word, unfit_list, name_faults}

-- no other form may stand behind the first one, not even one that is left out
abbrev pub others_faults : Trees → List Fault
others_faults End = []
others_faults (More (Leaf at text) rest) = (fault Shape at ∷ []) ++ others_faults rest
others_faults (More (Node at close parts) rest) = (fault Shape at ∷ []) ++ others_faults rest

-- members that stand where none may
abbrev pub extra_faults : Place → Trees → List Fault
extra_faults place End = []
extra_faults place (More (Leaf at text) rest) = unfit_word place at text ++ extra_faults place rest
extra_faults place (More (Node at close parts) rest) =
    unfit_list place at parts ++ extra_faults place rest

-- the same outside durations
abbrev pub surplus_faults : Trees → List Fault
surplus_faults forms = extra_faults Elsewhere forms

-- one name, up to the closing parenthesis
abbrev pub one_name_faults : ℕ → Trees → List Fault
one_name_faults close End = fault Shape close ∷ []
one_name_faults close (More (Leaf at text) rest) = name_faults at text ++ surplus_faults rest
one_name_faults close (More (Node at end parts) rest) = misfit_list at parts ++ surplus_faults rest

-- `(KEY NAME)`
abbrev pub named_faults : List ℕ → ℕ → ℕ → Trees → List Fault
named_faults key at close End = misfit_list at End
named_faults key at close (More (Node first end parts) rest) =
    misfit_list at (More (Node first end parts) rest)
named_faults key at close (More (Leaf head text) rest) =
    if bytes_eq text key then one_name_faults close rest
    else misfit_list at (More (Leaf head text) rest)

-- the members of the first section with a head
abbrev pub members_of : List ℕ → Trees → Trees
members_of head End = End
members_of head (More (Leaf at text) rest) = members_of head rest
members_of head (More (Node at close End) rest) = members_of head rest
members_of head (More (Node at close (More (Node first end parts) members)) rest) =
    members_of head rest
members_of head (More (Node at close (More (Leaf first text) members)) rest) =
    if bytes_eq text head then members else members_of head rest

-- a requirement is a keyword; which ones is not judged
abbrev pub requirements_faults : Trees → List Fault
requirements_faults End = []
requirements_faults (More (Leaf at text) rest) =
    (if begins_with 58 text then [] else fault Shape at ∷ []) ++ requirements_faults rest
requirements_faults (More (Node at close parts) rest) =
    (fault Shape at ∷ []) ++ requirements_faults rest
