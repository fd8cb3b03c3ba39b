-- What terms and atoms say. Of a text with faults these definitions say nothing that counts.
use Rattle.std.specs.Prelude.{ℕ, if◌then◌else◌, List, [], ◌∷◌, Option, Some, None, position}
use Rattle.std.specs.Str.{bytes_eq}
use Rattle.pddl_tokens.specs.Trees.{Trees, Leaf, Node, End, More}
use Rattle.pddl_parts.specs.Words.{is_variable}
use Rattle.pddl_meaning.specs.declared.terms.Term.{Term}
use Rattle.pddl_meaning.specs.declared.terms.Term.TheVariants.{Parameter, Object}
use Rattle.pddl_meaning.specs.declared.terms.Atom.{Atom}
use Rattle.pddl_meaning.specs.declared.terms.Symbols.{Symbols}

abbrev pub or_zero : Option ℕ → ℕ
or_zero None = 0
or_zero (Some n) = n

-- the number of a name; 0 where it is not there
abbrev pub place_of : List (List ℕ) → List ℕ → ℕ
place_of names text = or_zero (position (bytes_eq text) names)

-- a variable is a parameter, by its number, and a name an object
abbrev pub term_of : Symbols → List (List ℕ) → List ℕ → Term
term_of symbols variables text =
    if is_variable text then Parameter (place_of variables text)
    else Object (place_of symbols.objects text)

abbrev pub terms_of : Symbols → List (List ℕ) → Trees → List Term
terms_of symbols variables End = []
terms_of symbols variables (More (Leaf at text) rest) =
    term_of symbols variables text ∷ terms_of symbols variables rest
terms_of symbols variables (More (Node at close parts) rest) = terms_of symbols variables rest

-- a predicate or a function of this table, with its arguments
abbrev pub atom_of : Symbols → List (List ℕ) → List (List ℕ) → List ℕ → Trees → Atom
atom_of symbols variables table text arguments =
    record { head = place_of table text; terms = terms_of symbols variables arguments }

-- the first member as a term
abbrev pub first_term : Symbols → List (List ℕ) → Trees → Term
first_term symbols variables End = Object 0
first_term symbols variables (More (Leaf at text) rest) = term_of symbols variables text
first_term symbols variables (More (Node at close parts) rest) = Object 0

-- what stands behind the first member
abbrev pub behind_first : Trees → Trees
behind_first End = End
behind_first (More t rest) = rest
