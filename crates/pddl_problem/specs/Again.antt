-- A fluent that gets a second, other value, and timed literals of one tick that are an atom and its
-- negation.
use Rattle.std.specs.Prelude.{ℕ, ℤ, pos, Bool, not, ◌||◌, if◌then◌else◌, List, [], ◌∷◌, ◌++◌, Option, Some, None, get_or}
use Rattle.std.specs.List.{list_any, position_or_len}
use Rattle.std.specs.Ordering.{int_eq}
use Rattle.std.specs.Str.{bytes_eq}
use Rattle.pddl_tokens.specs.Trees.{Trees, Leaf, Node, End, More}
use Rattle.pddl_parts.specs.declared.faults.Fault.{Fault}
use Rattle.pddl_parts.specs.declared.faults.Kind.TheVariants.{Twice, ClashingTimed}
use Rattle.pddl_parts.specs.First.{fault}
use Rattle.pddl_parts.specs.Names.{with_name, is_new}
use Rattle.pddl_problem.specs.Elements.{joined_words, first_list, behind_equal, value_in, behind_at, literal_in, is_positive, atom_in, time_in, dated_words}

-- the fluents that have a value, and a further one where an element gives it
abbrev pub with_fluent : List (List ℕ) → List ℕ → Option ℤ → List (List ℕ)
with_fluent fluents text None = fluents
with_fluent fluents text (Some value) = with_name fluents text

-- the first value of each fluent
abbrev pub with_first : List (List ℕ) → List ℤ → List ℕ → Option ℤ → List ℤ
with_first fluents values text None = values
with_first fluents values text (Some value) =
    if is_new fluents text then values ++ value ∷ [] else values

-- a value other than the first one of the fluent
abbrev pub again_value : List (List ℕ) → List ℤ → ℕ → List ℕ → Option ℤ → List Fault
again_value fluents values at text None = []
again_value fluents values at text (Some value) =
    if is_new fluents text
    || int_eq (get_or values (position_or_len (bytes_eq text) fluents) (pos 0)) value then []
    else fault Twice at ∷ []

-- each second, other value, some fluents having values
abbrev pub values_faults : ℕ → List (List ℕ) → List ℤ → Trees → List Fault
values_faults scale fluents values End = []
values_faults scale fluents values (More (Leaf at text) rest) =
    values_faults scale fluents values rest
values_faults scale fluents values (More (Node at close parts) rest) =
    again_value fluents values at (joined_words (first_list (behind_equal parts)))
    (value_in scale (behind_equal parts))
    ++ values_faults scale
    (with_fluent fluents (joined_words (first_list (behind_equal parts)))
    (value_in scale (behind_equal parts)))
    (with_first fluents values (joined_words (first_list (behind_equal parts)))
    (value_in scale (behind_equal parts)))
    rest

-- the dated atoms of one sign, and a further one where it has this sign
abbrev pub with_atom : List (List ℕ) → Bool → List ℕ → List (List ℕ)
with_atom names same text = if same then with_name names text else names

abbrev pub with_dated : List (List ℕ) → Bool → List ℕ → Option ℤ → List (List ℕ)
with_dated names same words None = names
with_dated names same words (Some time) = with_atom names same (dated_words time words)

-- an atom that is there at its tick with the other sign
abbrev pub clash_of : List (List ℕ) → ℕ → List ℕ → List Fault
clash_of others at text =
    if list_any (bytes_eq text) others then fault ClashingTimed at ∷ [] else []

abbrev pub clash : List (List ℕ) → ℕ → List ℕ → Option ℤ → List Fault
clash others at words None = []
clash others at words (Some time) = clash_of others at (dated_words time words)

-- each timed literal whose contrary came before at its tick; of those before the atoms that begin
-- and that end are given
abbrev pub clashes_faults : ℕ → List (List ℕ) → List (List ℕ) → Trees → List Fault
clashes_faults scale begun ended End = []
clashes_faults scale begun ended (More (Leaf at text) rest) = clashes_faults scale begun ended rest
clashes_faults scale begun ended (More (Node at close parts) rest) =
    clash (if is_positive (literal_in (behind_at parts)) then ended else begun) at
    (joined_words (atom_in (literal_in (behind_at parts)))) (time_in scale (behind_at parts))
    ++ clashes_faults scale
    (with_dated begun (is_positive (literal_in (behind_at parts)))
    (joined_words (atom_in (literal_in (behind_at parts)))) (time_in scale (behind_at parts)))
    (with_dated ended (not (is_positive (literal_in (behind_at parts))))
    (joined_words (atom_in (literal_in (behind_at parts)))) (time_in scale (behind_at parts)))
    rest
