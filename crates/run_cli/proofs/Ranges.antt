-- The limits and the scale that words order are in range.
use Rattle.std.proofs.Common.{◌≡◌, refl, subst, ℕ, ◌+◌, ◌≤◌, ◌^◌, Bool, true, false, not, IsTrue, cond, nat_lt, List, [], ◌∷◌, Option, Some, None, Result, Ok, Err, unwrap_or, length, sym, arith}
use Rattle.std.specs.Str.Parse.{digits_value}
use Rattle.std.proofs.lemmas.Bool.{ltb-false}
use Rattle.pddl_tokens.specs.Numbers.{IsScale}
use Rattle.tp_spec.specs.declared.plan.Limits.{Limits}
use Rattle.word_network.specs.Conditions.{AreLimits}
use Rattle.run_cli.specs.declared.options.Command.{Command}
use Rattle.run_cli.specs.declared.options.Command.TheVariants as commands
use Rattle.run_cli.specs.declared.options.Numbers.{Numbers}
use Rattle.run_cli.specs.declared.options.Setting.TheVariants.{Lead, Actions, Horizon, Nodes, Scale, Seed}
use Rattle.run_cli.specs.declared.words.Order.{Order}
use Rattle.run_cli.specs.declared.words.Order.TheVariants.{Solve, Simulate, Validate, Ground, Replay, Summary, Help}
use Rattle.run_cli.specs.declared.words.Source.{Source}
use Rattle.run_cli.specs.declared.words.Source.TheVariants.{GroundText, Pddl}
use Rattle.run_cli.specs.declared.words.WordFault.{WordFault}
use Rattle.run_cli.specs.declared.words.WordFault.TheVariants.{FileCount}
use Rattle.run_cli.specs.Arguments.{Argument, arguments_of}
use Rattle.run_cli.specs.Options.{is_number, is_scale, within, among, command_named, options_of, takes}
use Rattle.run_cli.specs.Orders.{number_or, number_of, limits_of, source_from, NamedFiles, named_of, simulation, validation, grounding, replaying, order_with, with_source, summary, sourceless, order_or, order_from, judged, faults_from, files_of, first_name, second_name, value_of, is_given, whole_order, commanded, order_of}
use Rattle.run_cli.specs.Sources.{IsScaled}

within-most : (low high n default : ℕ) → default ≤ high → unwrap_or (within low high n) default ≤ high
within-most low high n default le = by_low (nat_lt n low) where
  by_high : (b : Bool) → nat_lt high n ≡ b → unwrap_or (cond b None (Some n)) default ≤ high
  by_high true e = le
  by_high false e = ltb-false high n e

  by_low : (b : Bool) → unwrap_or (cond b None (cond (nat_lt high n) None (Some n))) default ≤ high
  by_low true = le
  by_low false = by_high (nat_lt high n) refl

number-most : (low high default : ℕ) (value : Option (List ℕ)) → default ≤ high → number_or (record { least = low; most = high; default = default; scales = false }) value ≤ high
number-most low high default None le = le
number-most low high default (Some text) le = by_test (is_number text) where
  by_test : (b : Bool) → unwrap_or (cond b (within low high (digits_value 10 text)) None) default ≤ high
  by_test true = within-most low high (digits_value 10 text) default le
  by_test false = le

pub limits-are : (arguments : List Argument) → AreLimits (limits_of arguments)
limits-are arguments = record {
  actions = number-most 1 64 64 (value_of arguments Actions) (omega arith);
  horizon = number-most 1 (2 ^ 40) (2 ^ 40) (value_of arguments Horizon) (omega arith);
  lead = number-most 0 1000 0 (value_of arguments Lead) (omega arith);
  nodes = number-most 1 200000 50000 (value_of arguments Nodes) (omega arith);
}

-- a number that counts as a scale is one; so is the default
number-scale : (value : Option (List ℕ)) → IsScale (number_or (record { least = 1; most = 1000; default = 1; scales = true }) value)
number-scale None = refl
number-scale (Some text) = by_test (is_number text) where
  n : ℕ
  n = digits_value 10 text

  by_low : (b c : Bool) → IsScale n → IsScale (unwrap_or (cond b None (cond c None (Some n))) 1)
  by_low true c is = refl
  by_low false true is = refl
  by_low false false is = is

  by_scale : (b : Bool) → is_scale n ≡ b → IsScale (unwrap_or (cond (not b) None (within 1 1000 n)) 1)
  by_scale true is = by_low (nat_lt n 1) (nat_lt 1000 n) is
  by_scale false is = refl

  by_test : (b : Bool) → IsScale (unwrap_or (cond b (among (record { least = 1; most = 1000; default = 1; scales = true }) n) None) 1)
  by_test true = by_scale (is_scale n) refl
  by_test false = refl

scale-is : (arguments : List Argument) → IsScale (number_of arguments Scale)
scale-is arguments = number-scale (value_of arguments Scale)

-- the limits and the scale of an order
abbrev Orders : Result Order WordFault → Type 0
Orders (Ok (Solve source limits trace)) = AreLimits limits × IsScaled source
Orders (Ok (Simulate source script limits trace)) = AreLimits limits × IsScaled source
Orders (Ok (Validate source plan limits)) = IsScaled source
Orders (Ok (Ground domain problem scale)) = IsScale scale
Orders (Ok (Replay source trace limits)) = AreLimits limits × IsScaled source
Orders (Ok (Summary seed)) = Unit {0}
Orders (Ok Help) = Unit {0}
Orders (Err fault) = Unit {0}

simulation-orders : (count : ℕ) (script : Option (List ℕ)) (source : Source) (limits : Limits) (trace : Option (List ℕ)) → AreLimits limits → IsScaled source
    → Orders (simulation count script source limits trace)
simulation-orders count None source limits trace are is = tt
simulation-orders count (Some script) source limits trace are is = (are, is)

validation-orders : (count : ℕ) (plan : Option (List ℕ)) (source : Source) (limits : Limits) → IsScaled source → Orders (validation count plan source limits)
validation-orders count None source limits is = tt
validation-orders count (Some plan) source limits is = is

grounding-orders : (count : ℕ) (source : Source) → IsScaled source → Orders (grounding count source)
grounding-orders count (GroundText name) is = tt
grounding-orders count (Pddl domain problem scale) is = is

replaying-orders : (count : ℕ) (trace : Option (List ℕ)) (source : Source) (limits : Limits) → AreLimits limits → IsScaled source → Orders (replaying count trace source limits)
replaying-orders count None source limits are is = tt
replaying-orders count (Some trace) source limits are is = (are, is)

with-orders : (command : Command) (count : ℕ) (named : NamedFiles) (limits : Limits) (source : Source) → AreLimits limits → IsScaled source
    → Orders (order_with command count named limits source)
with-orders commands.Solve count named limits source are is = (are, is)
with-orders commands.Simulate count named limits source are is = simulation-orders count named.script source limits named.trace are is
with-orders commands.Validate count named limits source are is = validation-orders count named.plan source limits is
with-orders commands.Ground count named limits source are is = grounding-orders count source is
with-orders commands.Replay count named limits source are is = replaying-orders count named.trace source limits are is
with-orders commands.Summary count named limits source are is = tt
with-orders commands.Help count named limits source are is = tt

source-orders : (command : Command) (count : ℕ) (named : NamedFiles) (limits : Limits) → AreLimits limits → (first second : Option (List ℕ)) (scaled : Bool) (scale : ℕ) → IsScale scale
    → Orders (with_source (order_with command count named limits) (source_from count first second scaled scale))
source-orders command count named limits are None second scaled scale is = tt
source-orders command count named limits are (Some name) None true scale is = tt
source-orders command count named limits are (Some name) None false scale is = with-orders command count named limits (GroundText name) are tt
source-orders command count named limits are (Some domain) (Some problem) scaled scale is = with-orders command count named limits (Pddl domain problem scale) are is

summary-orders : (count : ℕ) (value : Option (List ℕ)) (seed : ℕ) → Orders (summary count value seed)
summary-orders count None seed = tt
summary-orders count (Some value) seed = tt

-- an order that was found, if there is one
abbrev OrdersIfFound : Option (Result Order WordFault) → Type 0
OrdersIfFound None = Unit {0}
OrdersIfFound (Some order) = Orders order

sourceless-orders : (command : Command) (count : ℕ) (arguments : List Argument) → OrdersIfFound (sourceless command count arguments)
sourceless-orders commands.Solve count arguments = tt
sourceless-orders commands.Simulate count arguments = tt
sourceless-orders commands.Validate count arguments = tt
sourceless-orders commands.Ground count arguments = tt
sourceless-orders commands.Replay count arguments = tt
sourceless-orders commands.Summary count arguments = summary-orders count (value_of arguments Seed) (number_of arguments Seed)
sourceless-orders commands.Help count arguments = tt

or-orders : (found : Option (Result Order WordFault)) (other : Result Order WordFault) → OrdersIfFound found → Orders other → Orders (order_or found other)
or-orders None other are is = is
or-orders (Some order) other are is = are

from-orders : (command : Command) (count : ℕ) (arguments : List Argument) → Orders (order_from command count arguments)
from-orders command count arguments = or-orders (sourceless command count arguments) _ (sourceless-orders command count arguments) found where
  found : Orders (with_source (order_with command count (named_of arguments) (limits_of arguments))
      (source_from count (first_name (files_of arguments)) (second_name (files_of arguments)) (is_given arguments Scale) (number_of arguments Scale)))
  found = source-orders command count (named_of arguments) (limits_of arguments) (limits-are arguments)
      (first_name (files_of arguments)) (second_name (files_of arguments)) (is_given arguments Scale) (number_of arguments Scale) (scale-is arguments)

judged-orders : (order : Result Order WordFault) (faults : List WordFault) → Orders order → Orders (judged order faults)
judged-orders order [] are = are
judged-orders order (fault ∷ rest) are = tt

whole-orders : (command : Command) (count : ℕ) (arguments : List Argument) → Orders (whole_order command count arguments)
whole-orders command count arguments = by_count (takes command (length (files_of arguments))) where
  by_count : (b : Bool) → Orders (cond b (order_from command count arguments) (Err (FileCount count)))
  by_count true = from-orders command count arguments
  by_count false = tt

words-order : (command : Option Command) (rest : List (List ℕ)) → Orders (commanded command rest)
words-order None rest = tt
words-order (Some command) rest =
    let arguments : List Argument = arguments_of (options_of command) rest in
    let count : ℕ = length rest + 1 in
    judged-orders (whole_order command count arguments) (faults_from [] arguments) (whole-orders command count arguments)

orders : (words : List (List ℕ)) → Orders (order_of words)
orders [] = tt
orders (word ∷ rest) = words-order (command_named word) rest

-- what words order has limits and a scale in range
pub solve-range : (words : List (List ℕ)) (source : Source) (limits : Limits) (trace : Option (List ℕ)) → order_of words ≡ Ok (Solve source limits trace) → AreLimits limits × IsScaled source
solve-range words source limits trace is = subst Orders is (orders words)

pub simulate-range : (words : List (List ℕ)) (source : Source) (script : List ℕ) (limits : Limits) (trace : Option (List ℕ)) → order_of words ≡ Ok (Simulate source script limits trace) → AreLimits limits × IsScaled source
simulate-range words source script limits trace is = subst Orders is (orders words)

pub validate-range : (words : List (List ℕ)) (source : Source) (plan : List ℕ) (limits : Limits) → order_of words ≡ Ok (Validate source plan limits) → IsScaled source
validate-range words source plan limits is = subst Orders is (orders words)

pub ground-range : (words : List (List ℕ)) (domain problem : List ℕ) (scale : ℕ) → order_of words ≡ Ok (Ground domain problem scale) → IsScale scale
ground-range words domain problem scale is = subst Orders is (orders words)

pub replay-range : (words : List (List ℕ)) (source : Source) (trace : List ℕ) (limits : Limits) → order_of words ≡ Ok (Replay source trace limits) → AreLimits limits × IsScaled source
replay-range words source trace limits is = subst Orders is (orders words)
