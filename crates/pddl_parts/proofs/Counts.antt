-- How many trees some forms are.
use Rattle.std.proofs.Common.{◌≡◌, suc, List, [], ◌∷◌, length, refl, ap}
use Rattle.pddl_tokens.specs.declared.form.Form.{Form}
use Rattle.pddl_tokens.specs.Trees.{trees_of}
use Rattle.pddl_parts.specs.Atoms.{count_of}

pub count_is : (forms : List Form) → count_of (trees_of forms) ≡ length forms
count_is [] = refl
count_is (f ∷ forms) = ap suc (count_is forms)
