-- Atoms and functions over names, and literals of the initial state.
use Rattle.std.specs.Prelude.{ℕ, Bool, false, not, ◌&&◌, ◌||◌, is_some, nat_lt, if◌then◌else◌, List, [], ◌∷◌, ◌++◌, codes}
use Rattle.std.specs.List.{list_any}
use Rattle.std.specs.Str.{bytes_eq}
use Rattle.pddl_tokens.specs.Numbers.{numeral_of}
use Rattle.pddl_tokens.specs.Trees.{Trees, Leaf, Node, End, More}
use Rattle.pddl_parts.specs.declared.faults.Fault.{Fault}
use Rattle.pddl_parts.specs.declared.faults.Kind.TheVariants.{Shape, LeftOut}
use Rattle.pddl_parts.specs.First.{fault}
use Rattle.pddl_parts.specs.Settings.{Setting}
use Rattle.pddl_parts.specs.Words.{is_left_out, is_name, is_atom_word, is_head_word, begins_with}
use Rattle.pddl_parts.specs.Literals.{is_literal, misfit_word, misfit_list, name_faults}
use Rattle.pddl_parts.specs.Members.{surplus_faults}
use Rattle.pddl_parts.specs.Tables.{value_of}
use Rattle.pddl_parts.specs.Atoms.{known_faults, arity_faults}
use Rattle.pddl_parts.specs.Expressions.{numeral_faults}

-- an object; a variable does not fit here
abbrev pub object_faults : Setting → ℕ → List ℕ → List Fault
object_faults setting at text =
    if is_left_out text then fault LeftOut at ∷ []
    else if is_name text then known_faults (list_any (bytes_eq text) setting.scope.objects) at
    else fault Shape at ∷ []

abbrev pub arguments_faults : Setting → Trees → List Fault
arguments_faults setting End = []
arguments_faults setting (More (Leaf at text) rest) =
    object_faults setting at text ++ arguments_faults setting rest
arguments_faults setting (More (Node at close parts) rest) =
    misfit_list at parts ++ arguments_faults setting rest

-- a list of a name of this table and objects
abbrev pub ground_faults : Setting → List (List ℕ × ℕ) → ℕ → ℕ → List ℕ → Trees → List Fault
ground_faults setting table at head text arguments =
    name_faults head text
    ++ (arity_faults (value_of table text) head at arguments
    ++ arguments_faults setting arguments)

-- behind `at`: a numeral and a list make a timed literal
abbrev pub is_dated : Trees → Bool
is_dated End = false
is_dated (More (Node at close parts) rest) = false
is_dated (More (Leaf at text) End) = false
is_dated (More (Leaf at text) (More (Leaf next word) rest)) = false
is_dated (More (Leaf at text) (More (Node next close parts) rest)) = is_some (numeral_of text)

-- whether an element is an atom by its first word, and has no other form
abbrev pub is_fact : List ℕ → Trees → Bool
is_fact text rest =
    is_head_word text
    && not (bytes_eq text (codes "=") || (bytes_eq text (codes "at") && is_dated rest))

-- a list behind `not`: what is a literal by its form is tried as an atom; anything else is left
-- out, at `not`
abbrev pub denied_faults : Setting → ℕ → ℕ → Trees → List Fault
denied_faults setting before at End = fault LeftOut before ∷ []
denied_faults setting before at (More (Node first end parts) rest) = fault LeftOut before ∷ []
denied_faults setting before at (More (Leaf head text) rest) =
    if is_literal text rest then ground_faults setting setting.scope.predicates at head text rest
    else fault LeftOut before ∷ []

-- behind `not`
abbrev pub negated_faults : Setting → ℕ → ℕ → Trees → List Fault
negated_faults setting before close End = fault Shape close ∷ []
negated_faults setting before close (More (Leaf at text) rest) =
    (fault LeftOut before ∷ []) ++ surplus_faults rest
negated_faults setting before close (More (Node at end parts) rest) =
    denied_faults setting before at parts ++ surplus_faults rest

-- the words that begin an assignment
abbrev pub is_assignment : List ℕ → Bool
is_assignment text = bytes_eq text (codes "=") || bytes_eq text (codes "assign")

-- a list behind `not` in a timed literal: an equality is an assignment, which is left out at its
-- word
abbrev pub undone_faults : Setting → ℕ → ℕ → Trees → List Fault
undone_faults setting before at End = fault LeftOut before ∷ []
undone_faults setting before at (More (Node first end parts) rest) = fault LeftOut before ∷ []
undone_faults setting before at (More (Leaf head text) rest) =
    if is_literal text rest
    then (if is_assignment text then fault LeftOut head ∷ []
    else ground_faults setting setting.scope.predicates at head text rest)
    else fault LeftOut before ∷ []

-- behind `not` in a timed literal
abbrev pub ending_faults : Setting → ℕ → ℕ → Trees → List Fault
ending_faults setting before close End = fault Shape close ∷ []
ending_faults setting before close (More (Leaf at text) rest) =
    (fault LeftOut before ∷ []) ++ surplus_faults rest
ending_faults setting before close (More (Node at end parts) rest) =
    undone_faults setting before at parts ++ surplus_faults rest

-- a list that is to be a timed literal
abbrev pub literal_faults : Setting → ℕ → ℕ → Trees → List Fault
literal_faults setting at close End = misfit_list at End
literal_faults setting at close (More (Node first end parts) rest) =
    misfit_list at (More (Node first end parts) rest)
literal_faults setting at close (More (Leaf head text) rest) =
    if bytes_eq text (codes "not") then ending_faults setting head close rest
    else if is_assignment text then fault LeftOut head ∷ []
    else if is_atom_word text then ground_faults setting setting.scope.predicates at head text rest
    else misfit_list at (More (Leaf head text) rest)

-- a numeral below 0: it has a minus and a digit that is not 0
abbrev pub is_below_zero : List ℕ → Bool
is_below_zero text = begins_with 45 text && list_any (λ c. nat_lt 48 c && nat_lt c 58) text

-- a time, whole at the scale and not below 0
abbrev pub time_faults : Setting → ℕ → List ℕ → List Fault
time_faults setting at text =
    if is_below_zero text then fault Shape at ∷ [] else numeral_faults setting at text

-- behind `at`, of a timed literal
abbrev pub dated_literal_faults : Setting → Trees → List Fault
dated_literal_faults setting End = []
dated_literal_faults setting (More (Leaf at text) rest) = misfit_word at text ++ surplus_faults rest
dated_literal_faults setting (More (Node at close parts) rest) =
    literal_faults setting at close parts ++ surplus_faults rest

abbrev pub dated_faults : Setting → Trees → List Fault
dated_faults setting End = []
dated_faults setting (More (Node at close parts) rest) =
    misfit_list at parts ++ dated_literal_faults setting rest
dated_faults setting (More (Leaf at text) rest) =
    time_faults setting at text ++ dated_literal_faults setting rest
