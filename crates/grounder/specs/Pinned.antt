-- What the definitions say of small domains and problems, worked out by hand.
use Rattle.std.specs.Prelude.{◌≡◌, ℕ, ℤ, pos, negsuc, ◌^◌, ◌-◌, ◌+◌, true, false, List, [], ◌∷◌, map, Option, Some, None, codes, replicate}
use Rattle.tp_spec.specs.declared.problem.Action.{Action}
use Rattle.tp_spec.specs.declared.problem.Cond.{Cond}
use Rattle.tp_spec.specs.declared.problem.Cond.TheVariants.{Lit as Fact, Compare as Test}
use Rattle.tp_spec.specs.declared.problem.Effect.TheVariants.{Add, Delete, Change as Alter}
use Rattle.tp_spec.specs.declared.problem.Kind.TheVariants.{Durative}
use Rattle.tp_spec.specs.declared.problem.How.TheVariants.{Increase, Decrease, Assign}
use Rattle.tp_spec.specs.declared.problem.Op.TheVariants.{Less, Equal, MoreEq}
use Rattle.tp_spec.specs.declared.expr.Expr.TheVariants.{Number as Constant, Fluent}
use Rattle.tp_spec.specs.WellFormed.{Ground}
use Rattle.pddl_meaning.specs.declared.terms.Term.TheVariants.{Object}
use Rattle.pddl_meaning.specs.declared.values.Value.TheVariants.{Number, Call}
use Rattle.pddl_meaning.specs.declared.conditions.Condition.{Condition}
use Rattle.pddl_meaning.specs.declared.conditions.Condition.TheVariants.{Lit, Same, Compare}
use Rattle.pddl_meaning.specs.declared.changes.Change.TheVariants.{Lit as Make, Update}
use Rattle.pddl_domain.specs.declared.domain.Bound.{Bound}
use Rattle.pddl_domain.specs.declared.domain.Bound.TheVariants.{Least, Most}
use Rattle.pddl_domain.specs.declared.domain.Schema.{Schema}
use Rattle.grounder.specs.declared.fault.CountKind.{CountKind}
use Rattle.grounder.specs.declared.fault.CountKind.TheVariants.{Substitutions, Actions}
use Rattle.grounder.specs.Objects.{objects_of, substitutions, number_of}
use Rattle.grounder.specs.Rigid.{is_static_predicate, is_static_function}
use Rattle.grounder.specs.Lengths.{kind_of}
use Rattle.grounder.specs.Kept.{kept}
use Rattle.grounder.specs.Naming.{sorted_names}
use Rattle.grounder.specs.Grounded.{problem_of, ground_actions, excess, past}
use Rattle.grounder.specs.Samples.{timed_two, trip, vehicles, small, idle, is_p, f, five, atom, first, second, update, lasting, asking, doing}

-- an action of the trip: from one fact to another, in five ticks, with what is open at the end
abbrev pub went : List ℕ → ℕ → ℕ → Action
went name from to = record {
  name = name;
  kind = Durative 5 5;
  start_conds = Fact from true ∷ [];
  all_conds = [];
  end_conds = Fact 2 true ∷ [];
  start_effects = Delete from ∷ [];
  end_effects = Add to ∷ [];
}

abbrev pub trip_problem : Ground
trip_problem = record {
  scale = 1;
  facts = codes "at a" ∷ codes "at b" ∷ codes "open" ∷ [];
  fluents = [];
  actions = went (codes "go a b") 0 1 ∷ went (codes "go b a") 1 0 ∷ [];
  timed = record { tick = 9; adds = []; deletes = 2 ∷ [] } ∷ [];
  init = 0 ∷ 2 ∷ [];
  values = [];
  goal = Fact 1 true ∷ [];
}

-- A predicate called `at`; an inequality of objects, which is static; an equal timed literal.
abbrev pub Trip : Type 0
Trip = problem_of 1 trip ≡ trip_problem

abbrev pub TripFits : Type 0
TripFits = excess trip ≡ None

-- Objects of a type and below it, in their order.
abbrev pub ObjectsOfTypes : Type 0
ObjectsOfTypes = map (objects_of vehicles) (0 ∷ 1 ∷ 2 ∷ [])
    ≡ (0 ∷ 1 ∷ 2 ∷ []) ∷ (0 ∷ 1 ∷ []) ∷ (0 ∷ []) ∷ []

-- The first parameter leads; an action without parameters has one substitution.
abbrev pub Orders : Type 0
Orders = (substitutions vehicles (1 ∷ 0 ∷ [])
    ≡ (0 ∷ 0 ∷ []) ∷ (0 ∷ 1 ∷ []) ∷ (0 ∷ 2 ∷ []) ∷ (1 ∷ 0 ∷ []) ∷ (1 ∷ 1 ∷ []) ∷ (1 ∷ 2 ∷ []) ∷ [])
    × (number_of vehicles (1 ∷ 0 ∷ []) ≡ 6)
    × (substitutions vehicles [] ≡ [] ∷ [])
    × (number_of vehicles [] ≡ 1)

-- An action for a type without objects has no substitution, and still makes its predicate and its
-- function not static.
abbrev pub unused : Schema
unused = record (idle (codes "u") (1 ∷ [])) {
  end_effects = Make true (atom 1 (first ∷ [])) ∷ update Assign 1 (first ∷ []) ∷ [];
}

abbrev pub NotStatic : Type 0
NotStatic = (kept (small (unused ∷ []) []) unused ≡ [])
    × (map (is_static_predicate (small (unused ∷ []) [])) (0 ∷ 1 ∷ []) ≡ true ∷ false ∷ [])
    × (map (is_static_function (small (unused ∷ []) [])) (0 ∷ 1 ∷ []) ≡ true ∷ false ∷ [])
    × (map (is_static_predicate trip) (0 ∷ 1 ∷ []) ≡ false ∷ false ∷ [])

abbrev pub kept_alone : Schema → List (List ℕ)
kept_alone a = kept (small (a ∷ []) []) a

-- A static condition counts at each time label, and its negation leaves the others.
abbrev pub Labels : Type 0
Labels = map kept_alone
    (asking (is_p ∷ []) [] [] ∷ asking [] (is_p ∷ []) [] ∷ asking [] [] (is_p ∷ [])
    ∷ asking [] [] (Lit false (atom 0 (first ∷ [])) ∷ []) ∷ asking [] [] [] ∷ [])
    ≡ ((0 ∷ []) ∷ []) ∷ ((0 ∷ []) ∷ []) ∷ ((0 ∷ []) ∷ []) ∷ ((1 ∷ []) ∷ [])
    ∷ ((0 ∷ []) ∷ (1 ∷ []) ∷ []) ∷ []

-- A static condition is taken out of its action.
abbrev pub TakenOut : Type 0
TakenOut = map (λ a. a.all_conds) (ground_actions (small (asking [] (is_p ∷ []) [] ∷ []) []))
    ≡ [] ∷ []

-- A static function without a value, in a bound, a comparison and a right side.
abbrev pub WithoutValue : Type 0
WithoutValue = map kept_alone
    (lasting (Least f ∷ Most f ∷ []) ∷ asking (Compare MoreEq f (Number (pos 7)) ∷ []) [] []
    ∷ asking (Compare Less f (Number (pos 7)) ∷ []) [] [] ∷ [])
    ≡ ((0 ∷ []) ∷ []) ∷ ((0 ∷ []) ∷ []) ∷ [] ∷ []

abbrev pub reading : Schema
reading = doing [] (Update Increase (atom 1 (second ∷ [])) f ∷ [])

abbrev pub WithoutRight : Type 0
WithoutRight = kept_alone reading ≡ (0 ∷ 0 ∷ []) ∷ (0 ∷ 1 ∷ []) ∷ []

-- Its value stands for it; the fluent that is written has its number.
abbrev pub Replaced : Type 0
Replaced = map (λ a. a.end_effects) (ground_actions (small (reading ∷ []) []))
    ≡ (Alter Increase 0 (Constant (pos 7)) ∷ []) ∷ (Alter Increase 1 (Constant (pos 7)) ∷ []) ∷ []

abbrev pub number : ℤ → Bound
number z = Least (Number z)

abbrev pub limit : ℤ → Bound
limit z = Most (Number z)

-- A range is empty below 1, above 2^40, and where the bounds cross.
abbrev pub EmptyRanges : Type 0
EmptyRanges = map kept_alone
    (lasting (limit (pos 0) ∷ []) ∷ lasting (number (pos (2 ^ 40 + 1)) ∷ [])
    ∷ lasting (number (pos 6) ∷ limit (pos 5) ∷ []) ∷ lasting (limit (negsuc 0) ∷ []) ∷ [])
    ≡ [] ∷ [] ∷ [] ∷ [] ∷ []

-- What is missing, or is past the two ends, is 1 and 2^40; the narrowest bounds count.
abbrev pub Ranges : Type 0
Ranges = map (λ bounds. kind_of vehicles [] (Some bounds))
    ([] ∷ (number (negsuc 4) ∷ limit (pos (2 ^ 41)) ∷ []) ∷ (number (pos (2 ^ 40)) ∷ [])
    ∷ (limit (pos 9) ∷ number (pos 3) ∷ number (pos 2) ∷ limit (pos 8) ∷ []) ∷ [])
    ≡ Durative 1 (2 ^ 40) ∷ Durative 1 (2 ^ 40) ∷ Durative (2 ^ 40) (2 ^ 40) ∷ Durative 3 8 ∷ []

-- A fluent is written twice by one end: where the two parameters are one object, or else by
-- increases and decreases alone; its start and its end are two.
abbrev pub WrittenTwice : Type 0
WrittenTwice = map kept_alone
    (doing (update Assign 1 (first ∷ []) ∷ update Increase 1 (second ∷ []) ∷ []) []
    ∷ doing [] (update Assign 1 (first ∷ []) ∷ update Assign 1 (first ∷ []) ∷ [])
    ∷ doing (update Decrease 1 (Object 0 ∷ []) ∷ update Increase 1 (Object 0 ∷ []) ∷ []) []
    ∷ doing (update Assign 1 (Object 0 ∷ []) ∷ []) (update Assign 1 (Object 0 ∷ []) ∷ [])
    ∷ [])
    ≡ ((0 ∷ 1 ∷ []) ∷ (1 ∷ 0 ∷ []) ∷ []) ∷ [] ∷ substitutions vehicles (1 ∷ 1 ∷ [])
    ∷ substitutions vehicles (1 ∷ 1 ∷ []) ∷ []

-- An equality of objects in a goal is certain one way or the other, and a comparison stays, also
-- one without functions.
abbrev pub aims : List Condition
aims = Same true (Object 0) (Object 0) ∷ Same false (Object 0) (Object 0)
    ∷ Same true (Object 0) (Object 1) ∷ Compare Less five five ∷ []

abbrev pub zero_is : Cond
zero_is = Test Equal (Constant (pos 0)) (Constant (pos 0))

abbrev pub zero_is_less : Cond
zero_is_less = Test Less (Constant (pos 0)) (Constant (pos 0))

abbrev pub Goals : Type 0
Goals = (problem_of 1 (small [] aims)).goal
    ≡ zero_is ∷ zero_is_less ∷ zero_is_less ∷ Test Less (Constant (pos 5)) (Constant (pos 5)) ∷ []

-- Fluents that the goal alone names, static ones too, have their values or none.
abbrev pub wanted : List Condition
wanted = Compare Equal (Call (atom 1 (Object 1 ∷ []))) (Call (atom 0 (Object 0 ∷ []))) ∷ []

abbrev pub GoalFluents : Type 0
GoalFluents = ((problem_of 1 (small [] wanted)).fluents ≡ codes "f a" ∷ codes "g b" ∷ [])
    × ((problem_of 1 (small [] wanted)).values ≡ Some (pos 7) ∷ None ∷ [])
    × ((problem_of 1 (small [] wanted)).goal ≡ Test Equal (Fluent 1) (Fluent 0) ∷ [])

-- Names come once each, by their bytes: a space is less than a letter.
abbrev pub Sorted : Type 0
Sorted = sorted_names (codes "b" ∷ codes "at b" ∷ codes "a" ∷ codes "at b" ∷ codes "at-b" ∷ [])
    ≡ codes "a" ∷ codes "at b" ∷ codes "at-b" ∷ codes "b" ∷ []

-- The number of substitutions is judged before they are filtered, whole or as 2^128 - 1.
abbrev pub many : ℕ → List ℕ → Option (CountKind × ℕ)
many limit sorts = past limit Substitutions (number_of (small [] []) sorts) None

abbrev pub Counts : Type 0
Counts = (many (2 ^ 24) (replicate 24 0) ≡ None)
    × (many (2 ^ 24) (replicate 25 0) ≡ Some (Substitutions, 33554432))
    × (many (2 ^ 24) (replicate 127 0) ≡ Some (Substitutions, 2 ^ 127))
    × (many (2 ^ 24) (replicate 130 0) ≡ Some (Substitutions, 2 ^ 128 - 1))
    × (past 4096 Actions 4097 None ≡ Some (Actions, 4097))

-- Ticks rise, and so do the facts of one tick.
abbrev pub TimedInOrder : Type 0
TimedInOrder = (problem_of 1 timed_two).timed
    ≡ record { tick = 3; adds = []; deletes = 0 ∷ [] }
    ∷ record { tick = 9; adds = 0 ∷ 1 ∷ []; deletes = [] } ∷ []
