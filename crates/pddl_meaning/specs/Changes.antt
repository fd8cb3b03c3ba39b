-- What effects say: the list of changes.
use Rattle.std.specs.Prelude.{ℕ, true, false, if◌then◌else◌, List, [], ◌∷◌, ◌++◌, codes}
use Rattle.std.specs.Str.{bytes_eq}
use Rattle.pddl_tokens.specs.Trees.{Trees, Leaf, Node, End, More}
use Rattle.tp_spec.specs.declared.problem.How.{How}
use Rattle.tp_spec.specs.declared.problem.How.TheVariants.{Increase, Decrease, Assign}
use Rattle.pddl_parts.specs.Words.{is_update}
use Rattle.pddl_meaning.specs.declared.terms.Atom.{Atom}
use Rattle.pddl_meaning.specs.declared.terms.Symbols.{Symbols}
use Rattle.pddl_meaning.specs.declared.changes.Change.{Change}
use Rattle.pddl_meaning.specs.declared.changes.Change.TheVariants.{Lit, Update}
use Rattle.pddl_meaning.specs.Terms.{atom_of, behind_first}
use Rattle.pddl_meaning.specs.Values.{operand_of}

abbrev pub how_of : List ℕ → How
how_of text =
    if bytes_eq text (codes "increase") then Increase
    else if bytes_eq text (codes "decrease") then Decrease
    else Assign

-- a function with its arguments, as a list's parts
abbrev pub function_of : Symbols → List (List ℕ) → Trees → Atom
function_of symbols variables End = record { head = 0; terms = [] }
function_of symbols variables (More (Node first end parts) rest) = record { head = 0; terms = [] }
function_of symbols variables (More (Leaf head text) rest) =
    atom_of symbols variables symbols.functions text rest

-- the first member as a function with its arguments
abbrev pub target_of : Symbols → List (List ℕ) → Trees → Atom
target_of symbols variables End = record { head = 0; terms = [] }
target_of symbols variables (More (Leaf at text) rest) = record { head = 0; terms = [] }
target_of symbols variables (More (Node at end parts) rest) = function_of symbols variables parts

-- a list that is no conjunction and no negation
abbrev pub change_of : Symbols → List (List ℕ) → ℕ → List ℕ → Trees → Change
change_of symbols variables scale text rest =
    if is_update text
    then Update (how_of text) (target_of symbols variables rest)
    (operand_of symbols variables scale (behind_first rest))
    else Lit true (atom_of symbols variables symbols.predicates text rest)

-- a list behind `not`
abbrev pub deletion_of : Symbols → List (List ℕ) → Trees → List Change
deletion_of symbols variables End = []
deletion_of symbols variables (More (Node first end parts) rest) = []
deletion_of symbols variables (More (Leaf head text) rest) =
    Lit false (atom_of symbols variables symbols.predicates text rest) ∷ []

-- behind `not`
abbrev pub deleted_of : Symbols → List (List ℕ) → Trees → List Change
deleted_of symbols variables End = []
deleted_of symbols variables (More (Leaf at text) rest) = []
deleted_of symbols variables (More (Node at end parts) rest) = deletion_of symbols variables parts

abbrev mutual
  -- the changes of a list that is an effect, in their order
  pub effect_of : Symbols → List (List ℕ) → ℕ → Trees → List Change
  effect_of symbols variables scale End = []
  effect_of symbols variables scale (More (Node first end parts) rest) = []
  effect_of symbols variables scale (More (Leaf head text) rest) =
      if bytes_eq text (codes "and") then effects_of symbols variables scale rest
      else if bytes_eq text (codes "not") then deleted_of symbols variables rest
      else change_of symbols variables scale text rest ∷ []

  pub effects_of : Symbols → List (List ℕ) → ℕ → Trees → List Change
  effects_of symbols variables scale End = []
  effects_of symbols variables scale (More (Leaf at text) rest) =
      effects_of symbols variables scale rest
  effects_of symbols variables scale (More (Node at end parts) rest) =
      effect_of symbols variables scale parts ++ effects_of symbols variables scale rest
