-- What conditions say: the list of their conjuncts.
use Rattle.std.specs.Prelude.{ℕ, Bool, true, false, if◌then◌else◌, List, [], ◌∷◌, ◌++◌, codes}
use Rattle.std.specs.Str.{bytes_eq}
use Rattle.pddl_tokens.specs.Trees.{Trees, Leaf, Node, End, More}
use Rattle.tp_spec.specs.declared.problem.Op.{Op}
use Rattle.tp_spec.specs.declared.problem.Op.TheVariants.{Less, LessEq, Equal, MoreEq, More as Greater}
use Rattle.pddl_parts.specs.Words.{is_order}
use Rattle.pddl_parts.specs.Literals.{may_be_term}
use Rattle.pddl_meaning.specs.declared.terms.Symbols.{Symbols}
use Rattle.pddl_meaning.specs.declared.conditions.Condition.{Condition}
use Rattle.pddl_meaning.specs.declared.conditions.Condition.TheVariants.{Lit, Same, Compare}
use Rattle.pddl_meaning.specs.Terms.{atom_of, first_term, behind_first}
use Rattle.pddl_meaning.specs.Values.{operand_of}

abbrev pub op_of : List ℕ → Op
op_of text =
    if bytes_eq text (codes "<") then Less
    else if bytes_eq text (codes "<=") then LessEq
    else if bytes_eq text (codes ">=") then MoreEq
    else if bytes_eq text (codes ">") then Greater
    else Equal

-- an object equality, or its negation
abbrev pub same_of : Symbols → List (List ℕ) → Bool → Trees → Condition
same_of symbols variables positive members =
    Same positive (first_term symbols variables members)
    (first_term symbols variables (behind_first members))

abbrev pub compared_of : Symbols → List (List ℕ) → ℕ → Op → Trees → Condition
compared_of symbols variables scale op members =
    Compare op (operand_of symbols variables scale members)
    (operand_of symbols variables scale (behind_first members))

-- a list that is no conjunction and no negation
abbrev pub plain_of : Symbols → List (List ℕ) → ℕ → List ℕ → Trees → Condition
plain_of symbols variables scale text rest =
    if bytes_eq text (codes "=")
    then (if may_be_term rest then same_of symbols variables true rest
    else compared_of symbols variables scale Equal rest)
    else if is_order text then compared_of symbols variables scale (op_of text) rest
    else Lit true (atom_of symbols variables symbols.predicates text rest)

-- a list behind `not`
abbrev pub negation_of : Symbols → List (List ℕ) → Trees → List Condition
negation_of symbols variables End = []
negation_of symbols variables (More (Node first end parts) rest) = []
negation_of symbols variables (More (Leaf head text) rest) =
    (if bytes_eq text (codes "=") then same_of symbols variables false rest
    else Lit false (atom_of symbols variables symbols.predicates text rest)) ∷ []

-- behind `not`
abbrev pub negated_of : Symbols → List (List ℕ) → Trees → List Condition
negated_of symbols variables End = []
negated_of symbols variables (More (Leaf at text) rest) = []
negated_of symbols variables (More (Node at end parts) rest) = negation_of symbols variables parts

abbrev mutual
  -- the conjuncts of a list that is a condition, in their order
  pub condition_of : Symbols → List (List ℕ) → ℕ → Trees → List Condition
  condition_of symbols variables scale End = []
  condition_of symbols variables scale (More (Node first end parts) rest) = []
  condition_of symbols variables scale (More (Leaf head text) rest) =
      if bytes_eq text (codes "and") then conditions_of symbols variables scale rest
      else if bytes_eq text (codes "not") then negated_of symbols variables rest
      else plain_of symbols variables scale text rest ∷ []

  pub conditions_of : Symbols → List (List ℕ) → ℕ → Trees → List Condition
  conditions_of symbols variables scale End = []
  conditions_of symbols variables scale (More (Leaf at text) rest) =
      conditions_of symbols variables scale rest
  conditions_of symbols variables scale (More (Node at end parts) rest) =
      condition_of symbols variables scale parts ++ conditions_of symbols variables scale rest
