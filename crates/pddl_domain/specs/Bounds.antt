-- What a durative action says of its duration, and what its labelled conditions and effects say.
use Rattle.std.specs.Prelude.{ℕ, if◌then◌else◌, List, [], ◌∷◌, ◌++◌, codes}
use Rattle.std.specs.Str.{bytes_eq}
use Rattle.pddl_tokens.specs.Trees.{Trees, Leaf, Node, End, More}
use Rattle.pddl_meaning.specs.declared.terms.Symbols.{Symbols}
use Rattle.pddl_meaning.specs.declared.conditions.Condition.{Condition}
use Rattle.pddl_meaning.specs.declared.changes.Change.{Change}
use Rattle.pddl_meaning.specs.Terms.{behind_first}
use Rattle.pddl_meaning.specs.Values.{operand_of}
use Rattle.pddl_meaning.specs.Conditions.{condition_of}
use Rattle.pddl_meaning.specs.Changes.{effect_of}
use Rattle.pddl_domain.specs.declared.domain.Bound.{Bound}
use Rattle.pddl_domain.specs.declared.domain.Bound.TheVariants.{Least, Most}

-- a list that begins with this word: `=` bounds the duration on both sides
abbrev pub bound_of : Symbols → List (List ℕ) → ℕ → List ℕ → Trees → List Bound
bound_of symbols variables scale text rest =
    if bytes_eq text (codes "=")
    then Least (operand_of symbols variables scale (behind_first rest))
    ∷ Most (operand_of symbols variables scale (behind_first rest)) ∷ []
    else if bytes_eq text (codes "<=")
    then Most (operand_of symbols variables scale (behind_first rest)) ∷ []
    else if bytes_eq text (codes ">=")
    then Least (operand_of symbols variables scale (behind_first rest)) ∷ []
    else []

abbrev pub listed_bound : Symbols → List (List ℕ) → ℕ → Trees → List Bound
listed_bound symbols variables scale End = []
listed_bound symbols variables scale (More (Node first end parts) rest) = []
listed_bound symbols variables scale (More (Leaf head text) rest) =
    bound_of symbols variables scale text rest

-- the first member as a bound
abbrev pub first_bound : Symbols → List (List ℕ) → ℕ → Trees → List Bound
first_bound symbols variables scale End = []
first_bound symbols variables scale (More (Leaf at text) rest) = []
first_bound symbols variables scale (More (Node at end parts) rest) =
    listed_bound symbols variables scale parts

-- a bound, at the start or without a time
abbrev pub constraint_of : Symbols → List (List ℕ) → ℕ → Trees → List Bound
constraint_of symbols variables scale End = []
constraint_of symbols variables scale (More (Node first end parts) rest) = []
constraint_of symbols variables scale (More (Leaf head text) rest) =
    if bytes_eq text (codes "at") then first_bound symbols variables scale (behind_first rest)
    else bound_of symbols variables scale text rest

abbrev pub constraints_of : Symbols → List (List ℕ) → ℕ → Trees → List Bound
constraints_of symbols variables scale End = []
constraints_of symbols variables scale (More (Leaf at text) rest) =
    constraints_of symbols variables scale rest
constraints_of symbols variables scale (More (Node at end parts) rest) =
    constraint_of symbols variables scale parts ++ constraints_of symbols variables scale rest

-- the bounds of a duration, in their order
abbrev pub duration_of : Symbols → List (List ℕ) → ℕ → Trees → List Bound
duration_of symbols variables scale End = []
duration_of symbols variables scale (More (Node first end parts) rest) = []
duration_of symbols variables scale (More (Leaf head text) rest) =
    if bytes_eq text (codes "and") then constraints_of symbols variables scale rest
    else constraint_of symbols variables scale (More (Leaf head text) rest)

-- the first member as a condition
abbrev pub first_condition : Symbols → List (List ℕ) → ℕ → Trees → List Condition
first_condition symbols variables scale End = []
first_condition symbols variables scale (More (Leaf at text) rest) = []
first_condition symbols variables scale (More (Node at end parts) rest) =
    condition_of symbols variables scale parts

-- behind `at` or `over`, where this label stands
abbrev pub labelled_condition : Symbols → List (List ℕ) → ℕ → List ℕ → Trees → List Condition
labelled_condition symbols variables scale label End = []
labelled_condition symbols variables scale label (More (Node at end parts) rest) = []
labelled_condition symbols variables scale label (More (Leaf at text) rest) =
    if bytes_eq text label then first_condition symbols variables scale rest else []

abbrev mutual
  -- the conditions with this label, `start`, `all` or `end`
  pub timed_condition : Symbols → List (List ℕ) → ℕ → List ℕ → Trees → List Condition
  timed_condition symbols variables scale label End = []
  timed_condition symbols variables scale label (More (Node first end parts) rest) = []
  timed_condition symbols variables scale label (More (Leaf head text) rest) =
      if bytes_eq text (codes "and") then timed_conditions symbols variables scale label rest
      else labelled_condition symbols variables scale label rest

  pub timed_conditions : Symbols → List (List ℕ) → ℕ → List ℕ → Trees → List Condition
  timed_conditions symbols variables scale label End = []
  timed_conditions symbols variables scale label (More (Leaf at text) rest) =
      timed_conditions symbols variables scale label rest
  timed_conditions symbols variables scale label (More (Node at end parts) rest) =
      timed_condition symbols variables scale label parts
      ++ timed_conditions symbols variables scale label rest

-- the first member as an effect
abbrev pub first_effect : Symbols → List (List ℕ) → ℕ → Trees → List Change
first_effect symbols variables scale End = []
first_effect symbols variables scale (More (Leaf at text) rest) = []
first_effect symbols variables scale (More (Node at end parts) rest) =
    effect_of symbols variables scale parts

-- behind `at`, where this label stands
abbrev pub labelled_effect : Symbols → List (List ℕ) → ℕ → List ℕ → Trees → List Change
labelled_effect symbols variables scale label End = []
labelled_effect symbols variables scale label (More (Node at end parts) rest) = []
labelled_effect symbols variables scale label (More (Leaf at text) rest) =
    if bytes_eq text label then first_effect symbols variables scale rest else []

abbrev mutual
  -- the changes with this label, `start` or `end`
  pub timed_effect : Symbols → List (List ℕ) → ℕ → List ℕ → Trees → List Change
  timed_effect symbols variables scale label End = []
  timed_effect symbols variables scale label (More (Node first end parts) rest) = []
  timed_effect symbols variables scale label (More (Leaf head text) rest) =
      if bytes_eq text (codes "and") then timed_effects symbols variables scale label rest
      else labelled_effect symbols variables scale label rest

  pub timed_effects : Symbols → List (List ℕ) → ℕ → List ℕ → Trees → List Change
  timed_effects symbols variables scale label End = []
  timed_effects symbols variables scale label (More (Leaf at text) rest) =
      timed_effects symbols variables scale label rest
  timed_effects symbols variables scale label (More (Node at end parts) rest) =
      timed_effect symbols variables scale label parts
      ++ timed_effects symbols variables scale label rest
