-- Conditions: `()`, conjunctions, literals, object equalities and comparisons.
use Rattle.std.specs.Prelude.{ℕ, is_some, if◌then◌else◌, List, [], ◌∷◌, ◌++◌, codes}
use Rattle.std.specs.Str.{bytes_eq}
use Rattle.pddl_tokens.specs.Numbers.{numeral_of}
use Rattle.pddl_tokens.specs.Trees.{Trees, Leaf, Node, End, More}
use Rattle.pddl_parts.specs.declared.faults.Fault.{Fault}
use Rattle.pddl_parts.specs.declared.faults.Kind.TheVariants.{Shape, LeftOut}
use Rattle.pddl_parts.specs.First.{fault}
use Rattle.pddl_parts.specs.Settings.{Setting}
use Rattle.pddl_parts.specs.Words.{is_atom_word, is_order}
use Rattle.pddl_parts.specs.Literals.{is_literal, misfit_word, misfit_list}
use Rattle.pddl_parts.specs.Atoms.{term_faults, predicate_faults}
use Rattle.pddl_parts.specs.Expressions.{numeral_faults, expression_faults}
use Rattle.pddl_parts.specs.Members.{surplus_faults, extra_faults}

-- an expression that is the last member
abbrev pub last_operand_faults : Setting → ℕ → Trees → List Fault
last_operand_faults setting close End = fault Shape close ∷ []
last_operand_faults setting close (More (Leaf at text) rest) =
    numeral_faults setting at text ++ extra_faults setting.place rest
last_operand_faults setting close (More (Node at end parts) rest) =
    expression_faults setting at end parts ++ extra_faults setting.place rest

-- two expressions
abbrev pub compared_faults : Setting → ℕ → Trees → List Fault
compared_faults setting close End = fault Shape close ∷ []
compared_faults setting close (More (Leaf at text) rest) =
    numeral_faults setting at text ++ last_operand_faults setting close rest
compared_faults setting close (More (Node at end parts) rest) =
    expression_faults setting at end parts ++ last_operand_faults setting close rest

-- a term that is the last member
abbrev pub last_term_faults : Setting → ℕ → Trees → List Fault
last_term_faults setting close End = fault Shape close ∷ []
last_term_faults setting close (More (Leaf at text) rest) =
    term_faults setting at text ++ surplus_faults rest
last_term_faults setting close (More (Node at end parts) rest) =
    misfit_list at parts ++ surplus_faults rest

-- behind `=`: an object equality where a word that is no numeral comes first, else a comparison
abbrev pub equal_faults : Setting → ℕ → Trees → List Fault
equal_faults setting close End = fault Shape close ∷ []
equal_faults setting close (More (Leaf at text) rest) =
    if is_some (numeral_of text)
    then numeral_faults setting at text ++ last_operand_faults setting close rest
    else term_faults setting at text ++ last_term_faults setting close rest
equal_faults setting close (More (Node at end parts) rest) =
    expression_faults setting at end parts ++ last_operand_faults setting close rest

-- a list behind `not`: an atom or an object equality; anything else is left out, at `not`
abbrev pub negated_list_faults : Setting → ℕ → ℕ → ℕ → Trees → List Fault
negated_list_faults setting before at close End = fault LeftOut before ∷ []
negated_list_faults setting before at close (More (Node first end parts) rest) =
    fault LeftOut before ∷ []
negated_list_faults setting before at close (More (Leaf head text) rest) =
    if is_literal text rest
    then (if bytes_eq text (codes "=") then equal_faults setting close rest
    else predicate_faults setting at head text rest)
    else fault LeftOut before ∷ []

-- behind `not`, which stands before them
abbrev pub negated_faults : Setting → ℕ → ℕ → Trees → List Fault
negated_faults setting before close End = fault Shape close ∷ []
negated_faults setting before close (More (Leaf at text) rest) =
    (fault LeftOut before ∷ []) ++ surplus_faults rest
negated_faults setting before close (More (Node at end parts) rest) =
    negated_list_faults setting before at end parts ++ surplus_faults rest

abbrev mutual
  -- what is wrong with a list that is to be a condition
  pub condition_faults : Setting → ℕ → ℕ → Trees → List Fault
  condition_faults setting at close End = []
  condition_faults setting at close (More (Node first end parts) rest) =
      misfit_list at (More (Node first end parts) rest)
  condition_faults setting at close (More (Leaf head text) rest) =
      if bytes_eq text (codes "and") then conditions_faults setting rest
      else if bytes_eq text (codes "not") then negated_faults setting head close rest
      else if bytes_eq text (codes "=") then equal_faults setting close rest
      else if is_order text then compared_faults setting close rest
      else if is_atom_word text then predicate_faults setting at head text rest
      else misfit_list at (More (Leaf head text) rest)

  -- what is wrong with some conditions
  pub conditions_faults : Setting → Trees → List Fault
  conditions_faults setting End = []
  conditions_faults setting (More (Leaf at text) rest) =
      misfit_word at text ++ conditions_faults setting rest
  conditions_faults setting (More (Node at close parts) rest) =
      condition_faults setting at close parts ++ conditions_faults setting rest
