-- Bounds of durations, and what is wrong with them, in the setting of a duration.
use Rattle.std.specs.Prelude.{ℕ, Bool, true, false, ◌&&◌, ◌||◌, if◌then◌else◌, List, [], ◌∷◌, ◌++◌, codes}
use Rattle.std.specs.Str.{bytes_eq}
use Rattle.pddl_tokens.specs.Trees.{Trees, Leaf, Node, End, More}
use Rattle.pddl_parts.specs.declared.faults.Fault.{Fault}
use Rattle.pddl_parts.specs.declared.faults.Kind.TheVariants.{Shape, LeftOut}
use Rattle.pddl_parts.specs.First.{fault}
use Rattle.pddl_parts.specs.declared.scope.Place.TheVariants.{Duration}
use Rattle.pddl_parts.specs.Settings.{Setting}
use Rattle.pddl_parts.specs.Literals.{unfit_word, unfit_list}
use Rattle.pddl_parts.specs.Members.{extra_faults}
use Rattle.pddl_parts.specs.Conditions.{last_operand_faults}

-- the three bounds of a duration
abbrev pub is_bound : List ℕ → Bool
is_bound text =
    bytes_eq text (codes "=") || bytes_eq text (codes "<=") || bytes_eq text (codes ">=")

-- whether a word follows that is this one
abbrev pub follows : List ℕ → Trees → Bool
follows word End = false
follows word (More (Node at close parts) rest) = false
follows word (More (Leaf at text) rest) = bytes_eq text word

-- where `?duration` is to stand
abbrev pub variable_faults : ℕ → List ℕ → List Fault
variable_faults at text =
    if bytes_eq text (codes "?duration") then [] else unfit_word Duration at text

-- behind `=`, `<=` or `>=`: `?duration` and an expression
abbrev pub bounded_faults : Setting → ℕ → Trees → List Fault
bounded_faults setting close End = fault Shape close ∷ []
bounded_faults setting close (More (Leaf at text) rest) =
    variable_faults at text ++ last_operand_faults setting close rest
bounded_faults setting close (More (Node at end parts) rest) =
    unfit_list Duration at parts ++ last_operand_faults setting close rest

-- a bound without a time; one at the end is left out
abbrev pub bound_faults : Setting → ℕ → ℕ → Trees → List Fault
bound_faults setting at close End = unfit_list Duration at End
bound_faults setting at close (More (Node first end parts) rest) =
    unfit_list Duration at (More (Node first end parts) rest)
bound_faults setting at close (More (Leaf head text) rest) =
    if is_bound text then bounded_faults setting close rest
    else if bytes_eq text (codes "at") && follows (codes "end") rest then fault LeftOut head ∷ []
    else unfit_list Duration at (More (Leaf head text) rest)

-- one bound that is the last member
abbrev pub last_bound_faults : Setting → ℕ → Trees → List Fault
last_bound_faults setting close End = fault Shape close ∷ []
last_bound_faults setting close (More (Leaf at text) rest) =
    unfit_word Duration at text ++ extra_faults Duration rest
last_bound_faults setting close (More (Node at end parts) rest) =
    bound_faults setting at end parts ++ extra_faults Duration rest

-- where `start` is to stand
abbrev pub start_faults : ℕ → List ℕ → List Fault
start_faults at text = if bytes_eq text (codes "start") then [] else unfit_word Duration at text

-- behind `at`: `start`, and a bound
abbrev pub started_faults : Setting → ℕ → Trees → List Fault
started_faults setting close End = fault Shape close ∷ []
started_faults setting close (More (Leaf at text) rest) =
    start_faults at text ++ last_bound_faults setting close rest
started_faults setting close (More (Node at end parts) rest) =
    unfit_list Duration at parts ++ last_bound_faults setting close rest

-- a bound, at the start or without a time
abbrev pub constraint_faults : Setting → ℕ → ℕ → Trees → List Fault
constraint_faults setting at close End = bound_faults setting at close End
constraint_faults setting at close (More (Node first end parts) rest) =
    bound_faults setting at close (More (Node first end parts) rest)
constraint_faults setting at close (More (Leaf head text) rest) =
    if bytes_eq text (codes "at")
    then (if follows (codes "end") rest then fault LeftOut head ∷ []
    else started_faults setting close rest)
    else bound_faults setting at close (More (Leaf head text) rest)

-- what is wrong with some bounds
abbrev pub constraints_faults : Setting → Trees → List Fault
constraints_faults setting End = []
constraints_faults setting (More (Leaf at text) rest) =
    unfit_word Duration at text ++ constraints_faults setting rest
constraints_faults setting (More (Node at close parts) rest) =
    constraint_faults setting at close parts ++ constraints_faults setting rest

-- what is wrong with a list that is to bound a duration
abbrev pub duration_faults : Setting → ℕ → ℕ → Trees → List Fault
duration_faults setting at close End = []
duration_faults setting at close (More (Node first end parts) rest) =
    unfit_list Duration at (More (Node first end parts) rest)
duration_faults setting at close (More (Leaf head text) rest) =
    if bytes_eq text (codes "and") then constraints_faults setting rest
    else constraint_faults setting at close (More (Leaf head text) rest)
