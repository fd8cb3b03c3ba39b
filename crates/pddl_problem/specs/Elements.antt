-- What an element of `:init` names: a function with its value, or a literal with its time.
use Rattle.std.specs.Prelude.{ℕ, ℤ, Bool, true, false, ◌&&◌, if◌then◌else◌, List, [], ◌∷◌, ◌++◌, Option, None, codes, unsigned_abs}
use Rattle.std.specs.Int.{to_be_bytes, w64}
use Rattle.std.specs.Str.{bytes_eq}
use Rattle.std.specs.Result.{result_ok}
use Rattle.pddl_tokens.specs.Numbers.{number_of}
use Rattle.pddl_tokens.specs.Trees.{Trees, Leaf, Node, End, More}
use Rattle.pddl_meaning.specs.Terms.{behind_first}
use Rattle.pddl_problem.specs.Literals.{is_dated, is_below_zero}

-- whether all members are words
abbrev pub are_words : Trees → Bool
are_words End = true
are_words (More (Leaf at text) rest) = are_words rest
are_words (More (Node at close parts) rest) = false

-- words as one text: each has a blank behind it; words of letters alone hold none, so other words
-- make another text
abbrev pub joined_words : Trees → List ℕ
joined_words End = []
joined_words (More (Leaf at text) rest) = text ++ (32 ∷ joined_words rest)
joined_words (More (Node at close parts) rest) = joined_words rest

-- the words among members
abbrev pub texts_of : Trees → List (List ℕ)
texts_of End = []
texts_of (More (Leaf at text) rest) = text ∷ texts_of rest
texts_of (More (Node at close parts) rest) = texts_of rest

-- the members of a list that comes first
abbrev pub first_list : Trees → Trees
first_list End = End
first_list (More (Leaf at text) rest) = End
first_list (More (Node at close parts) rest) = parts

-- the number at a scale that a numeral says, where one comes first
abbrev pub first_number : ℕ → Trees → Option ℤ
first_number scale End = None
first_number scale (More (Leaf at text) rest) = result_ok (number_of scale text)
first_number scale (More (Node at close parts) rest) = None

-- what stands behind `=` in an element that gives a value
abbrev pub behind_equal : Trees → Trees
behind_equal End = End
behind_equal (More (Node first end parts) rest) = End
behind_equal (More (Leaf head text) rest) = if bytes_eq text (codes "=") then rest else End

-- the value that an element gives to a function with words as arguments
abbrev pub value_in : ℕ → Trees → Option ℤ
value_in scale members =
    if are_words (first_list members) then first_number scale (behind_first members) else None

-- what stands behind `at` in a timed literal
abbrev pub behind_at : Trees → Trees
behind_at End = End
behind_at (More (Node first end parts) rest) = End
behind_at (More (Leaf head text) rest) =
    if bytes_eq text (codes "at") && is_dated rest then rest else End

-- a literal's sign
abbrev pub is_positive : Trees → Bool
is_positive End = true
is_positive (More (Node first end parts) rest) = true
is_positive (More (Leaf head text) rest) = if bytes_eq text (codes "not") then false else true

-- a literal's atom, with its head and arguments
abbrev pub atom_in : Trees → Trees
atom_in End = End
atom_in (More (Node first end parts) rest) = End
atom_in (More (Leaf head text) rest) =
    if bytes_eq text (codes "not") then first_list rest else More (Leaf head text) rest

-- the literal of a timed literal, by what stands behind `at`
abbrev pub literal_in : Trees → Trees
literal_in members = first_list (behind_first members)

-- the time at a scale that a numeral says, where one comes first; a numeral below 0 says none
abbrev pub first_time : ℕ → Trees → Option ℤ
first_time scale End = None
first_time scale (More (Leaf at text) rest) =
    if is_below_zero text then None else result_ok (number_of scale text)
first_time scale (More (Node at close parts) rest) = None

-- the time of a literal over words
abbrev pub time_in : ℕ → Trees → Option ℤ
time_in scale members =
    if are_words (atom_in (literal_in members)) then first_time scale members else None

-- a time and an atom as one text: the eight bytes of the tick come first, so another tick or
-- another atom makes another text
abbrev pub dated_words : ℤ → List ℕ → List ℕ
dated_words time words = to_be_bytes w64 (unsigned_abs time) ++ words
