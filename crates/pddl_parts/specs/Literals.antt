-- Lists that are atoms or object equalities by their form, and what is wrong with words and lists
-- that do not fit. `not` goes by one rule wherever it stands: before all but such a list it is left
-- out, and before one it is Shape where no `not` may stand.
use Rattle.std.specs.Prelude.{ℕ, Bool, true, false, not, ◌&&◌, ◌||◌, is_some, if◌then◌else◌, List, [], ◌∷◌, codes}
use Rattle.std.specs.Str.{bytes_eq}
use Rattle.pddl_tokens.specs.Numbers.{numeral_of}
use Rattle.pddl_tokens.specs.Trees.{Trees, Leaf, Node, End, More}
use Rattle.pddl_parts.specs.declared.faults.Fault.{Fault}
use Rattle.pddl_parts.specs.declared.faults.Kind.TheVariants.{Shape, LeftOut}
use Rattle.pddl_parts.specs.declared.scope.Place.{Place}
use Rattle.pddl_parts.specs.declared.scope.Place.TheVariants.{Duration, Elsewhere}
use Rattle.pddl_parts.specs.First.{fault}
use Rattle.pddl_parts.specs.Words.{is_left_out, is_atom_word, is_order, is_update, is_thing, is_variable}

-- the second member of an equality, as far as it goes
abbrev pub may_be_term : Trees → Bool
may_be_term End = true
may_be_term (More (Leaf at text) rest) = not (is_some (numeral_of text))
may_be_term (More (Node at close parts) rest) = false

-- whether members behind `=` are of an object equality, as far as they go
abbrev pub may_be_equality : Trees → Bool
may_be_equality End = true
may_be_equality (More (Leaf at text) rest) = not (is_some (numeral_of text)) && may_be_term rest
may_be_equality (More (Node at close parts) rest) = false

-- the words that begin neither an atom nor an equality, wherever they stand
abbrev pub is_operator : List ℕ → Bool
is_operator text =
    bytes_eq text (codes "and") || bytes_eq text (codes "not") || is_order text || is_update text

-- whether a list of this first word and these members is an atom or an object equality by its form
abbrev pub is_literal : List ℕ → Trees → Bool
is_literal text rest =
    if bytes_eq text (codes "=") then may_be_equality rest
    else is_atom_word text && not (is_operator text)

-- the same of a list by all its members
abbrev pub is_literal_list : Trees → Bool
is_literal_list End = false
is_literal_list (More (Node at close parts) rest) = false
is_literal_list (More (Leaf at text) rest) = is_literal text rest

-- whether `not` with these members behind it is left out: before something that is no such list
abbrev pub is_wrong_not : Trees → Bool
is_wrong_not End = false
is_wrong_not (More (Leaf at text) rest) = true
is_wrong_not (More (Node at close parts) rest) = not (is_literal_list parts)

-- the words that are left out in a place: in a duration `?duration` is not
abbrev pub is_left_out_at : Place → List ℕ → Bool
is_left_out_at Duration text = is_left_out text && not (bytes_eq text (codes "?duration"))
is_left_out_at Elsewhere text = is_left_out text

-- whether a list of this first word and these members is left out where it does not fit
abbrev pub begins_left_out : Place → List ℕ → Trees → Bool
begins_left_out place text rest =
    is_left_out_at place text || (bytes_eq text (codes "not") && is_wrong_not rest)

-- a word that does not fit
abbrev pub unfit_word : Place → ℕ → List ℕ → List Fault
unfit_word place at text =
    if is_left_out_at place text then fault LeftOut at ∷ [] else fault Shape at ∷ []

-- a list that does not fit: LeftOut at its first word where that is left out, else Shape
abbrev pub unfit_list : Place → ℕ → Trees → List Fault
unfit_list place at End = fault Shape at ∷ []
unfit_list place at (More (Node first close parts) rest) = fault Shape at ∷ []
unfit_list place at (More (Leaf head text) rest) =
    if begins_left_out place text rest then fault LeftOut head ∷ [] else fault Shape at ∷ []

-- a section that does not fit: the fault is at its head
abbrev pub unfit_section : ℕ → List ℕ → Trees → List Fault
unfit_section head text members =
    if begins_left_out Elsewhere text members then fault LeftOut head ∷ []
    else fault Shape head ∷ []

-- outside durations
abbrev pub misfit_word : ℕ → List ℕ → List Fault
misfit_word at text = unfit_word Elsewhere at text

abbrev pub misfit_list : ℕ → Trees → List Fault
misfit_list at parts = unfit_list Elsewhere at parts

-- where a name is to stand
abbrev pub name_faults : ℕ → List ℕ → List Fault
name_faults at text = if is_thing text then [] else misfit_word at text

-- where a variable is to stand
abbrev pub variable_faults : ℕ → List ℕ → List Fault
variable_faults at text =
    if is_variable text && not (is_left_out text) then [] else misfit_word at text
