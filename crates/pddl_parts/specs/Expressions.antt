-- Numeric expressions: numerals, function terms, sums of two or more, differences, and negations.
use Rattle.std.specs.Prelude.{ℕ, suc, ℤ, ◌&&◌, nat_lt, is_some, if◌then◌else◌, List, [], ◌∷◌, ◌++◌, Result, Ok, Err, codes}
use Rattle.std.specs.List.{list_any}
use Rattle.std.specs.Str.{bytes_eq}
use Rattle.pddl_tokens.specs.declared.numbers.NumberFault.{NumberFault}
use Rattle.pddl_tokens.specs.declared.numbers.NumberFault.TheVariants.{NotNumber, NotWhole as Parted, TooLarge as Far}
use Rattle.pddl_tokens.specs.Numbers.{number_of}
use Rattle.pddl_tokens.specs.Trees.{Trees, Leaf, Node, End, More}
use Rattle.pddl_parts.specs.declared.faults.Fault.{Fault}
use Rattle.pddl_parts.specs.declared.faults.Kind.TheVariants.{Shape, LeftOut, NotWhole, TooLarge}
use Rattle.pddl_parts.specs.declared.scope.Scope.{Scope}
use Rattle.pddl_parts.specs.First.{fault}
use Rattle.pddl_parts.specs.declared.scope.Place.{Place}
use Rattle.pddl_parts.specs.declared.scope.Place.TheVariants.{Duration, Elsewhere}
use Rattle.pddl_parts.specs.Settings.{Setting}
use Rattle.pddl_parts.specs.Tables.{value_of}
use Rattle.pddl_parts.specs.Words.{is_dash, is_head_word}
use Rattle.pddl_parts.specs.Literals.{unfit_word, unfit_list}
use Rattle.pddl_parts.specs.Atoms.{atom_faults, count_of}
use Rattle.pddl_parts.specs.Members.{extra_faults}

-- what is wrong with a word that reads so as a number
abbrev pub read_faults : Place → Result ℤ NumberFault → ℕ → List ℕ → List Fault
read_faults place (Ok n) at text = []
read_faults place (Err NotNumber) at text = unfit_word place at text
read_faults place (Err Parted) at text = fault NotWhole at ∷ []
read_faults place (Err Far) at text = fault TooLarge at ∷ []

-- what is wrong with a word that is to be a numeral, whole at the scale
abbrev pub numeral_faults : Setting → ℕ → List ℕ → List Fault
numeral_faults setting at text =
    read_faults setting.place (number_of setting.scale text) at text

-- fewer than two summands: one is missing
abbrev pub few_faults : ℕ → Trees → List Fault
few_faults close summands = if nat_lt (count_of summands) 2 then fault Shape close ∷ [] else []

-- in a duration a function that is declared and that an effect writes is left out
abbrev pub written_at : Place → Scope → ℕ → List ℕ → List Fault
written_at Elsewhere scope head text = []
written_at Duration scope head text =
    if is_some (value_of scope.functions text) && list_any (bytes_eq text) scope.written
    then fault LeftOut head ∷ []
    else []

-- a function with its arguments
abbrev pub function_faults : Setting → ℕ → ℕ → List ℕ → Trees → List Fault
function_faults setting at head text arguments =
    written_at setting.place setting.scope head text
    ++ atom_faults setting setting.scope.functions at head text arguments

abbrev mutual
  -- what is wrong with a list that is to be an expression
  pub operation_faults : Setting → ℕ → ℕ → Trees → List Fault
  operation_faults setting at close End = unfit_list setting.place at End
  operation_faults setting at close (More (Node first end parts) rest) =
      unfit_list setting.place at (More (Node first end parts) rest)
  operation_faults setting at close (More (Leaf head text) rest) =
      if bytes_eq text (codes "+") then expressions_faults setting rest ++ few_faults close rest
      else if is_dash text then difference_faults setting close rest
      else if is_head_word text then function_faults setting at head text rest
      else unfit_list setting.place at (More (Leaf head text) rest)

  -- the first operand of a difference, and what follows it
  pub difference_faults : Setting → ℕ → Trees → List Fault
  difference_faults setting close End = fault Shape close ∷ []
  difference_faults setting close (More (Leaf at text) rest) =
      numeral_faults setting at text ++ second_faults setting rest
  difference_faults setting close (More (Node at end parts) rest) =
      operation_faults setting at end parts ++ second_faults setting rest

  -- the second operand, where there is one, and nothing behind it
  pub second_faults : Setting → Trees → List Fault
  second_faults setting End = []
  second_faults setting (More (Leaf at text) rest) =
      numeral_faults setting at text ++ extra_faults setting.place rest
  second_faults setting (More (Node at end parts) rest) =
      operation_faults setting at end parts ++ extra_faults setting.place rest

  -- what is wrong with some expressions
  pub expressions_faults : Setting → Trees → List Fault
  expressions_faults setting End = []
  expressions_faults setting (More (Leaf at text) rest) =
      numeral_faults setting at text ++ expressions_faults setting rest
  expressions_faults setting (More (Node at end parts) rest) =
      operation_faults setting at end parts ++ expressions_faults setting rest

-- how deep an operation of two operands is, counted up to 33
abbrev pub one_deeper : ℕ → ℕ → ℕ
one_deeper first second =
    let deeper = if nat_lt first second then second else first in
    if nat_lt deeper 33 then suc deeper else deeper

abbrev mutual
  -- how many operations stand in one another in an expression's list, counted up to 33; a sum is
  -- grouped from the left
  pub depth_of : Trees → ℕ
  depth_of End = 0
  depth_of (More (Node first end parts) rest) = 0
  depth_of (More (Leaf head text) rest) =
      if bytes_eq text (codes "+") then sum_depth rest
      else if is_dash text then difference_depth rest
      else 0

  pub sum_depth : Trees → ℕ
  sum_depth End = 0
  sum_depth (More (Leaf at text) rest) = grouped_depth 0 rest
  sum_depth (More (Node at end parts) rest) = grouped_depth (depth_of parts) rest

  -- summands behind a sum of this depth
  pub grouped_depth : ℕ → Trees → ℕ
  grouped_depth sum End = sum
  grouped_depth sum (More (Leaf at text) rest) = grouped_depth (one_deeper sum 0) rest
  grouped_depth sum (More (Node at end parts) rest) =
      grouped_depth (one_deeper sum (depth_of parts)) rest

  -- a negation is 0 less its operand
  pub difference_depth : Trees → ℕ
  difference_depth End = 0
  difference_depth (More (Leaf at text) rest) = one_deeper 0 (second_depth rest)
  difference_depth (More (Node at end parts) rest) =
      one_deeper (depth_of parts) (second_depth rest)

  pub second_depth : Trees → ℕ
  second_depth End = 0
  second_depth (More (Leaf at text) rest) = 0
  second_depth (More (Node at end parts) rest) = depth_of parts

-- more than 32 operations in one another
abbrev pub deep_faults : ℕ → Trees → List Fault
deep_faults at parts = if nat_lt 32 (depth_of parts) then fault Shape at ∷ [] else []

-- what is wrong with a list that is to be a whole expression; a deeper one in it stands behind its
-- place
abbrev pub expression_faults : Setting → ℕ → ℕ → Trees → List Fault
expression_faults setting at close parts =
    operation_faults setting at close parts ++ deep_faults at parts
