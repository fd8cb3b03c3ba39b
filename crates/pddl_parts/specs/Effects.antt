-- Effects: `()`, conjunctions, literals and updates of fluents.
use Rattle.std.specs.Prelude.{ℕ, if◌then◌else◌, List, [], ◌∷◌, ◌++◌, codes}
use Rattle.std.specs.Str.{bytes_eq}
use Rattle.pddl_tokens.specs.Trees.{Trees, Leaf, Node, End, More}
use Rattle.pddl_parts.specs.declared.faults.Fault.{Fault}
use Rattle.pddl_parts.specs.declared.faults.Kind.TheVariants.{Shape, LeftOut}
use Rattle.pddl_parts.specs.First.{fault}
use Rattle.pddl_parts.specs.Settings.{Setting}
use Rattle.pddl_parts.specs.Words.{is_atom_word, is_head_word, is_update}
use Rattle.pddl_parts.specs.Literals.{is_literal, misfit_word, misfit_list}
use Rattle.pddl_parts.specs.Atoms.{atom_faults, predicate_faults}
use Rattle.pddl_parts.specs.Conditions.{last_operand_faults}
use Rattle.pddl_parts.specs.Members.{surplus_faults}

-- a list that is to be a function with its arguments
abbrev pub function_faults : Setting → ℕ → Trees → List Fault
function_faults setting at End = misfit_list at End
function_faults setting at (More (Node first end parts) rest) =
    misfit_list at (More (Node first end parts) rest)
function_faults setting at (More (Leaf head text) rest) =
    if is_head_word text then atom_faults setting setting.scope.functions at head text rest
    else misfit_list at (More (Leaf head text) rest)

-- a function with its arguments, and an expression
abbrev pub update_faults : Setting → ℕ → Trees → List Fault
update_faults setting close End = fault Shape close ∷ []
update_faults setting close (More (Leaf at text) rest) =
    misfit_word at text ++ last_operand_faults setting close rest
update_faults setting close (More (Node at end parts) rest) =
    function_faults setting at parts ++ last_operand_faults setting close rest

-- a list behind `not`: what is a literal by its form is tried as an atom; anything else is left
-- out, at `not`
abbrev pub deleted_list_faults : Setting → ℕ → ℕ → Trees → List Fault
deleted_list_faults setting before at End = fault LeftOut before ∷ []
deleted_list_faults setting before at (More (Node first end parts) rest) =
    fault LeftOut before ∷ []
deleted_list_faults setting before at (More (Leaf head text) rest) =
    if is_literal text rest then predicate_faults setting at head text rest
    else fault LeftOut before ∷ []

-- behind `not`, which stands before them
abbrev pub deleted_faults : Setting → ℕ → ℕ → Trees → List Fault
deleted_faults setting before close End = fault Shape close ∷ []
deleted_faults setting before close (More (Leaf at text) rest) =
    (fault LeftOut before ∷ []) ++ surplus_faults rest
deleted_faults setting before close (More (Node at end parts) rest) =
    deleted_list_faults setting before at parts ++ surplus_faults rest

abbrev mutual
  -- what is wrong with a list that is to be an effect
  pub effect_faults : Setting → ℕ → ℕ → Trees → List Fault
  effect_faults setting at close End = []
  effect_faults setting at close (More (Node first end parts) rest) =
      misfit_list at (More (Node first end parts) rest)
  effect_faults setting at close (More (Leaf head text) rest) =
      if bytes_eq text (codes "and") then effects_faults setting rest
      else if bytes_eq text (codes "not") then deleted_faults setting head close rest
      else if is_update text then update_faults setting close rest
      else if is_atom_word text then predicate_faults setting at head text rest
      else misfit_list at (More (Leaf head text) rest)

  -- what is wrong with some effects
  pub effects_faults : Setting → Trees → List Fault
  effects_faults setting End = []
  effects_faults setting (More (Leaf at text) rest) =
      misfit_word at text ++ effects_faults setting rest
  effects_faults setting (More (Node at close parts) rest) =
      effect_faults setting at close parts ++ effects_faults setting rest
