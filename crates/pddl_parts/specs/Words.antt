-- What a word may be.
use Rattle.std.specs.Prelude.{ℕ, Bool, false, not, ◌&&◌, ◌||◌, nat_eq, nat_lt, is_some, if◌then◌else◌, List, [], ◌∷◌, length, codes}
use Rattle.std.specs.List.{list_all}
use Rattle.std.specs.Str.{bytes_eq}
use Rattle.tp_spec.specs.WellFormed.{is_name_byte}
use Rattle.pddl_tokens.specs.Numbers.{numeral_of}

-- words of goals, conditions and effects that are left out
abbrev pub is_logic_left_out : List ℕ → Bool
is_logic_left_out text =
    bytes_eq text (codes "or") || bytes_eq text (codes "imply") || bytes_eq text (codes "forall")
    || bytes_eq text (codes "exists")
    || bytes_eq text (codes "when") || bytes_eq text (codes "preference")
    || bytes_eq text (codes "either")

-- operators, sections and variables that are left out
abbrev pub is_rest_left_out : List ℕ → Bool
is_rest_left_out text =
    bytes_eq text (codes "*") || bytes_eq text (codes "/") || bytes_eq text (codes "scale-up")
    || bytes_eq text (codes "scale-down")
    || bytes_eq text (codes "#t") || bytes_eq text (codes "?duration")
    || bytes_eq text (codes ":derived") || bytes_eq text (codes ":constraints")

-- the words of those parts of PDDL that are left out
abbrev pub is_left_out : List ℕ → Bool
is_left_out text = is_logic_left_out text || is_rest_left_out text

-- whether this character comes first
abbrev pub begins_with : ℕ → List ℕ → Bool
begins_with c [] = false
begins_with c (first ∷ rest) = nat_eq first c

-- a hyphen alone
abbrev pub is_dash : List ℕ → Bool
is_dash text = bytes_eq text (codes "-")

-- a symbol that is no variable, keyword or hyphen
abbrev pub is_symbol : List ℕ → Bool
is_symbol text =
    not (begins_with 63 text) && not (begins_with 58 text) && not (is_dash text)
    && not (is_some (numeral_of text))

-- such a symbol of the characters that names may have
abbrev pub is_name : List ℕ → Bool
is_name text = list_all is_name_byte text && is_symbol text

-- a name that is not left out
abbrev pub is_thing : List ℕ → Bool
is_thing text = is_name text && not (is_left_out text)

-- a question mark and at least one character of those
abbrev pub is_variable : List ℕ → Bool
is_variable text = list_all is_name_byte text && begins_with 63 text && nat_lt 1 (length text)

-- a symbol that is not left out: an atom or a function with its arguments may begin with it, if it
-- has no form of its own there
abbrev pub is_atom_word : List ℕ → Bool
is_atom_word text = is_symbol text && not (is_left_out text)

-- such a word of a list that takes no `not`
abbrev pub is_head_word : List ℕ → Bool
is_head_word text = is_atom_word text && not (bytes_eq text (codes "not"))

-- the four orders of numbers
abbrev pub is_order : List ℕ → Bool
is_order text =
    bytes_eq text (codes "<") || bytes_eq text (codes "<=") || bytes_eq text (codes ">=")
    || bytes_eq text (codes ">")

-- the words that begin an update of a fluent
abbrev pub is_update : List ℕ → Bool
is_update text =
    bytes_eq text (codes "increase") || bytes_eq text (codes "decrease")
    || bytes_eq text (codes "assign")
