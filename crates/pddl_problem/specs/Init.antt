-- The elements of the initial state, each by itself.
use Rattle.std.specs.Prelude.{ℕ, ◌&&◌, if◌then◌else◌, List, [], ◌∷◌, ◌++◌, codes}
use Rattle.std.specs.Str.{bytes_eq}
use Rattle.pddl_tokens.specs.Trees.{Trees, Leaf, Node, End, More}
use Rattle.pddl_parts.specs.declared.faults.Fault.{Fault}
use Rattle.pddl_parts.specs.declared.faults.Kind.TheVariants.{Shape}
use Rattle.pddl_parts.specs.Settings.{Setting}
use Rattle.pddl_parts.specs.First.{fault}
use Rattle.pddl_parts.specs.Words.{is_atom_word, is_head_word}
use Rattle.pddl_parts.specs.Literals.{misfit_word, misfit_list}
use Rattle.pddl_parts.specs.Members.{surplus_faults}
use Rattle.pddl_parts.specs.Expressions.{numeral_faults}
use Rattle.pddl_problem.specs.Literals.{ground_faults, is_dated, negated_faults, dated_faults}

-- a numeral that is the last member
abbrev pub last_numeral_faults : Setting → ℕ → Trees → List Fault
last_numeral_faults setting close End = fault Shape close ∷ []
last_numeral_faults setting close (More (Leaf at text) rest) =
    numeral_faults setting at text ++ surplus_faults rest
last_numeral_faults setting close (More (Node at end parts) rest) =
    misfit_list at parts ++ surplus_faults rest

-- a list that is to be a function with objects
abbrev pub fluent_faults : Setting → ℕ → Trees → List Fault
fluent_faults setting at End = misfit_list at End
fluent_faults setting at (More (Node first end parts) rest) =
    misfit_list at (More (Node first end parts) rest)
fluent_faults setting at (More (Leaf head text) rest) =
    if is_head_word text then ground_faults setting setting.scope.functions at head text rest
    else misfit_list at (More (Leaf head text) rest)

-- behind `=`: a function with objects, and a numeral
abbrev pub given_faults : Setting → ℕ → Trees → List Fault
given_faults setting close End = fault Shape close ∷ []
given_faults setting close (More (Leaf at text) rest) =
    misfit_word at text ++ last_numeral_faults setting close rest
given_faults setting close (More (Node at end parts) rest) =
    fluent_faults setting at parts ++ last_numeral_faults setting close rest

-- a list of `:init`
abbrev pub element_faults : Setting → ℕ → ℕ → Trees → List Fault
element_faults setting at close End = misfit_list at End
element_faults setting at close (More (Node first end parts) rest) =
    misfit_list at (More (Node first end parts) rest)
element_faults setting at close (More (Leaf head text) rest) =
    if bytes_eq text (codes "not") then negated_faults setting head close rest
    else if bytes_eq text (codes "=") then given_faults setting close rest
    else if bytes_eq text (codes "at") && is_dated rest then dated_faults setting rest
    else if is_atom_word text then ground_faults setting setting.scope.predicates at head text rest
    else misfit_list at (More (Leaf head text) rest)

-- what is wrong with the members of `:init`, each by itself
abbrev pub elements_faults : Setting → Trees → List Fault
elements_faults setting End = []
elements_faults setting (More (Leaf at text) rest) =
    misfit_word at text ++ elements_faults setting rest
elements_faults setting (More (Node at close parts) rest) =
    element_faults setting at close parts ++ elements_faults setting rest
