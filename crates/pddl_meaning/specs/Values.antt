-- What expressions say: a sum is grouped from the left, and a negation is 0 less its operand.
use Rattle.std.specs.Prelude.{ℕ, ℤ, pos, if◌then◌else◌, List, Result, Ok, Err, codes}
use Rattle.std.specs.Str.{bytes_eq}
use Rattle.pddl_tokens.specs.declared.numbers.NumberFault.{NumberFault}
use Rattle.pddl_tokens.specs.Numbers.{number_of}
use Rattle.pddl_tokens.specs.Trees.{Trees, Leaf, Node, End, More}
use Rattle.pddl_parts.specs.Words.{is_dash}
use Rattle.pddl_meaning.specs.declared.terms.Symbols.{Symbols}
use Rattle.pddl_meaning.specs.declared.values.Value.{Value}
use Rattle.pddl_meaning.specs.declared.values.Value.TheVariants.{Number, Call, Sum, Difference}
use Rattle.pddl_meaning.specs.Terms.{atom_of}

abbrev pub whole : Result ℤ NumberFault → ℤ
whole (Ok n) = n
whole (Err f) = pos 0

-- a numeral, times the scale
abbrev pub numeral_value : ℕ → List ℕ → Value
numeral_value scale text = Number (whole (number_of scale text))

abbrev pub zero_value : Value
zero_value = Number (pos 0)

abbrev mutual
  -- what a list says as an expression
  pub operation_value : Symbols → List (List ℕ) → ℕ → Trees → Value
  operation_value symbols variables scale End = zero_value
  operation_value symbols variables scale (More (Node first end parts) rest) = zero_value
  operation_value symbols variables scale (More (Leaf head text) rest) =
      if bytes_eq text (codes "+") then sum_value symbols variables scale rest
      else if is_dash text then difference_value symbols variables scale rest
      else Call (atom_of symbols variables symbols.functions text rest)

  pub sum_value : Symbols → List (List ℕ) → ℕ → Trees → Value
  sum_value symbols variables scale End = zero_value
  sum_value symbols variables scale (More (Leaf at text) rest) =
      grouped_value symbols variables scale (numeral_value scale text) rest
  sum_value symbols variables scale (More (Node at end parts) rest) =
      grouped_value symbols variables scale (operation_value symbols variables scale parts) rest

  -- a sum so far, and more summands
  pub grouped_value : Symbols → List (List ℕ) → ℕ → Value → Trees → Value
  grouped_value symbols variables scale sum End = sum
  grouped_value symbols variables scale sum (More (Leaf at text) rest) =
      grouped_value symbols variables scale (Sum sum (numeral_value scale text)) rest
  grouped_value symbols variables scale sum (More (Node at end parts) rest) =
      grouped_value symbols variables scale
      (Sum sum (operation_value symbols variables scale parts)) rest

  pub difference_value : Symbols → List (List ℕ) → ℕ → Trees → Value
  difference_value symbols variables scale End = zero_value
  difference_value symbols variables scale (More (Leaf at text) rest) =
      less_value symbols variables scale (numeral_value scale text) rest
  difference_value symbols variables scale (More (Node at end parts) rest) =
      less_value symbols variables scale (operation_value symbols variables scale parts) rest

  -- a first operand less the second one, where there is one
  pub less_value : Symbols → List (List ℕ) → ℕ → Value → Trees → Value
  less_value symbols variables scale first End = Difference zero_value first
  less_value symbols variables scale first (More (Leaf at text) rest) =
      Difference first (numeral_value scale text)
  less_value symbols variables scale first (More (Node at end parts) rest) =
      Difference first (operation_value symbols variables scale parts)

-- the first member as an expression
abbrev pub operand_of : Symbols → List (List ℕ) → ℕ → Trees → Value
operand_of symbols variables scale End = zero_value
operand_of symbols variables scale (More (Leaf at text) rest) = numeral_value scale text
operand_of symbols variables scale (More (Node at end parts) rest) =
    operation_value symbols variables scale parts
