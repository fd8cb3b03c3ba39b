-- What a command line orders, or its first fault.
use Rattle.std.specs.Prelude.{◌≡◌, ℕ, ◌+◌, Bool, true, false, if◌then◌else◌, List, [], ◌∷◌, ◌++◌, length, bytes_eq, codes, decimal, is_some, unwrap_or, Option, Some, None, Result, Ok, Err}
use Rattle.std.specs.List.{list_any}
use Rattle.std.specs.Option.{option_map}
use Rattle.tp_spec.specs.declared.plan.Limits.{Limits}
use Rattle.run_cli.specs.declared.options.Command.{Command}
use Rattle.run_cli.specs.declared.options.Command.TheVariants as commands
use Rattle.run_cli.specs.declared.options.Setting.{Setting}
use Rattle.run_cli.specs.declared.options.Setting.TheVariants.{Lead, Actions, Horizon, Nodes, Scale, Script, PlanFile, TraceFile, Seed}
use Rattle.run_cli.specs.declared.words.Named.{Named}
use Rattle.run_cli.specs.declared.words.Order.{Order}
use Rattle.run_cli.specs.declared.words.Order.TheVariants.{Solve, Simulate, Validate, Ground, Replay, Summary, Help}
use Rattle.run_cli.specs.declared.words.Source.{Source}
use Rattle.run_cli.specs.declared.words.Source.TheVariants.{GroundText, Pddl}
use Rattle.run_cli.specs.declared.words.WordFault.{WordFault}
use Rattle.run_cli.specs.declared.words.WordFault.TheVariants.{NoCommand, UnknownCommand, UnknownOption, Twice, NoValue, BadNumber, FileCount, ScaleOfGround, Missing, NoMemory}
use Rattle.run_cli.specs.declared.options.Numbers.{Numbers}
use Rattle.run_cli.specs.Options.{command_named, name_of, numbers_of, options_of, number_in, takes}
use Rattle.run_cli.specs.Arguments.{Argument, File, Given, Bare, Strange, arguments_of}

-- whether an argument gives an option of this option's name
abbrev pub gives : Setting → Argument → Bool
gives s (File name) = false
gives s (Given at t value_at value) = bytes_eq (name_of t) (name_of s)
gives s (Bare at t) = false
gives s (Strange at) = false

-- whether some argument gives an option
abbrev pub is_given : List Argument → Setting → Bool
is_given arguments s = list_any (gives s) arguments

abbrev pub twice_faults : List Argument → ℕ → Setting → List WordFault
twice_faults before at s = if is_given before s then Twice at ∷ [] else []

abbrev pub range_faults : ℕ → Option Numbers → List ℕ → List WordFault
range_faults at None value = []
range_faults at (Some n) value =
    if is_some (number_in n value) then [] else BadNumber at ∷ []

-- the faults of an argument behind other arguments: at one word in this order
abbrev pub argument_faults : List Argument → Argument → List WordFault
argument_faults before (File name) = []
argument_faults before (Given at s value_at value) =
    twice_faults before at s ++ range_faults value_at (numbers_of s) value
argument_faults before (Bare at s) = twice_faults before at s ++ NoValue at ∷ []
argument_faults before (Strange at) = UnknownOption at ∷ []

-- the faults of arguments behind other arguments, word by word
abbrev pub faults_from : List Argument → List Argument → List WordFault
faults_from before [] = []
faults_from before (argument ∷ rest) =
    argument_faults before argument ++ faults_from (before ++ argument ∷ []) rest

abbrev pub file_of : Argument → List (List ℕ)
file_of (File name) = name ∷ []
file_of (Given at s value_at value) = []
file_of (Bare at s) = []
file_of (Strange at) = []

-- the names of the files
abbrev pub files_of : List Argument → List (List ℕ)
files_of [] = []
files_of (argument ∷ rest) = file_of argument ++ files_of rest

-- the first of some names
abbrev pub first_name : List (List ℕ) → Option (List ℕ)
first_name [] = None
first_name (name ∷ rest) = Some name

-- the second of some names
abbrev pub second_name : List (List ℕ) → Option (List ℕ)
second_name [] = None
second_name (name ∷ rest) = first_name rest

abbrev pub value_in : Setting → Argument → Option (List ℕ)
value_in s (File name) = None
value_in s (Given at t value_at value) =
    if bytes_eq (name_of t) (name_of s) then Some value else None
value_in s (Bare at t) = None
value_in s (Strange at) = None

abbrev pub or_else : Option (List ℕ) → Option (List ℕ) → Option (List ℕ)
or_else (Some value) other = Some value
or_else None other = other

-- the value of an option
abbrev pub value_of : List Argument → Setting → Option (List ℕ)
value_of [] s = None
value_of (argument ∷ rest) s = or_else (value_in s argument) (value_of rest s)

-- a value as a number in range; the default where it is none, or is not there
abbrev pub number_or : Numbers → Option (List ℕ) → ℕ
number_or n None = n.default
number_or n (Some value) = unwrap_or (number_in n value) n.default

abbrev pub number_from : Option Numbers → Option (List ℕ) → ℕ
number_from None value = 0
number_from (Some n) value = number_or n value

-- the number of an option: the one that is given, or its default; 0 for an option without numbers
abbrev pub number_of : List Argument → Setting → ℕ
number_of arguments s = number_from (numbers_of s) (value_of arguments s)

-- the greatest number of an option
abbrev pub most_from : Option Numbers → ℕ
most_from None = 0
most_from (Some n) = n.most

abbrev pub most_of : Setting → ℕ
most_of s = most_from (numbers_of s)

-- the limits that options give
abbrev pub limits_of : List Argument → Limits
limits_of arguments = record {
  actions = number_of arguments Actions;
  horizon = number_of arguments Horizon;
  lead = number_of arguments Lead;
  nodes = number_of arguments Nodes;
}

-- The source that a first and a second file name, and whether a scale is given, and which; else
-- what is wrong with all `count` words.
abbrev pub source_from : ℕ → Option (List ℕ) → Option (List ℕ) → Bool → ℕ → Result Source WordFault
source_from count None second scaled scale = Err (FileCount count)
source_from count (Some name) None true scale = Err (ScaleOfGround count)
source_from count (Some name) None false scale = Ok (GroundText name)
source_from count (Some domain) (Some problem) scaled scale = Ok (Pddl domain problem scale)

-- The files that options name, each where it is given: a script, a plan file, and the file of a
-- trace.
pub record NamedFiles : Type 0 where
  pub script : Option (List ℕ)
  pub plan : Option (List ℕ)
  pub trace : Option (List ℕ)

-- such files as the code keeps them
abbrev pub named_view : Named → NamedFiles
named_view named = record {
  script = option_map (λ t. t.now) named.script;
  plan = option_map (λ t. t.now) named.plan;
  trace = option_map (λ t. t.now) named.trace;
}

-- the files that options name
abbrev pub named_of : List Argument → NamedFiles
named_of arguments = record {
  script = value_of arguments Script;
  plan = value_of arguments PlanFile;
  trace = value_of arguments TraceFile;
}

-- to play a script, which is needed
abbrev pub simulation : ℕ → Option (List ℕ) → Source → Limits → Option (List ℕ)
    → Result Order WordFault
simulation count None source limits trace = Err (Missing count)
simulation count (Some script) source limits trace = Ok (Simulate source script limits trace)

-- to judge a plan file, which is needed
abbrev pub validation : ℕ → Option (List ℕ) → Source → Limits → Result Order WordFault
validation count None source limits = Err (Missing count)
validation count (Some plan) source limits = Ok (Validate source plan limits)

-- to judge a trace, which is needed
abbrev pub replaying : ℕ → Option (List ℕ) → Source → Limits → Result Order WordFault
replaying count None source limits = Err (Missing count)
replaying count (Some trace) source limits = Ok (Replay source trace limits)

-- to ground a domain and a problem, which both are needed
abbrev pub grounding : ℕ → Source → Result Order WordFault
grounding count (GroundText name) = Err (FileCount count)
grounding count (Pddl domain problem scale) = Ok (Ground domain problem scale)

-- The order of a command that has a source, with the files that options name, and with its limits.
abbrev pub order_with : Command → ℕ → NamedFiles → Limits → Source → Result Order WordFault
order_with commands.Solve count named limits source = Ok (Solve source limits named.trace)
order_with commands.Simulate count named limits source =
    simulation count named.script source limits named.trace
order_with commands.Validate count named limits source =
    validation count named.plan source limits
order_with commands.Ground count named limits source = grounding count source
order_with commands.Replay count named limits source =
    replaying count named.trace source limits
order_with commands.Summary count named limits source = Err (FileCount count)
order_with commands.Help count named limits source = Ok Help

-- an order with the source that was named, or what is wrong with it
abbrev pub with_source : (Source → Result Order WordFault) → Result Source WordFault
    → Result Order WordFault
with_source order (Ok source) = order source
with_source order (Err fault) = Err fault

-- to search for a plan of the problem that a seed draws, which is needed
abbrev pub summary : ℕ → Option (List ℕ) → ℕ → Result Order WordFault
summary count None seed = Err (Missing count)
summary count (Some value) seed = Ok (Summary seed)

-- the order of a command that has no source; none where the command has one
abbrev pub sourceless : Command → ℕ → List Argument → Option (Result Order WordFault)
sourceless commands.Help count arguments = Some (Ok Help)
sourceless commands.Summary count arguments =
    Some (summary count (value_of arguments Seed) (number_of arguments Seed))
sourceless _ count arguments = None

-- an order that was found, else another one
abbrev pub order_or : Option (Result Order WordFault) → Result Order WordFault
    → Result Order WordFault
order_or (Some order) other = order
order_or None other = other

-- the order of a command with its files, those that options name, and its scale
abbrev pub order_from : Command → ℕ → List Argument → Result Order WordFault
order_from command count arguments =
    order_or (sourceless command count arguments)
    (with_source (order_with command count (named_of arguments) (limits_of arguments))
    (source_from count (first_name (files_of arguments)) (second_name (files_of arguments))
    (is_given arguments Scale) (number_of arguments Scale)))

-- the order of all arguments, where the command takes so many files
abbrev pub whole_order : Command → ℕ → List Argument → Result Order WordFault
whole_order command count arguments =
    if takes command (length (files_of arguments)) then order_from command count arguments
    else Err (FileCount count)

-- the faults of single words come first
abbrev pub judged : Result Order WordFault → List WordFault → Result Order WordFault
judged order [] = order
judged order (fault ∷ rest) = Err fault

abbrev pub ordered : Command → ℕ → List Argument → Result Order WordFault
ordered command count arguments =
    judged (whole_order command count arguments) (faults_from [] arguments)

abbrev pub commanded : Option Command → List (List ℕ) → Result Order WordFault
commanded None rest = Err (UnknownCommand 0)
commanded (Some command) rest =
    ordered command (length rest + 1) (arguments_of (options_of command) rest)

-- what the words say
abbrev pub order_of : List (List ℕ) → Result Order WordFault
order_of [] = Err (NoCommand 0)
order_of (word ∷ rest) = commanded (command_named word) rest

-- what is answered: this, or that memory was refused
abbrev pub Answers : {T : Type 0} → Result T WordFault → Result T WordFault → Type 0
Answers (Ok value) wanted = wanted ≡ Ok value
Answers (Err NoMemory) wanted = Unit {0}
Answers (Err fault) wanted = wanted ≡ Err fault

-- whether a fault says nothing of the words, but that memory was refused
abbrev pub is_memory : WordFault → Bool
is_memory NoMemory = true
is_memory _ = false

-- whether the words order `solve`
abbrev pub is_solve : Result Order WordFault → Bool
is_solve (Ok (Solve source limits trace)) = true
is_solve (Ok (Simulate source script limits trace)) = false
is_solve (Ok (Validate source plan limits)) = false
is_solve (Ok (Ground domain problem scale)) = false
is_solve (Ok (Replay source trace limits)) = false
is_solve (Ok (Summary seed)) = false
is_solve (Ok Help) = false
is_solve (Err fault) = false

-- whether the words order `simulate`
abbrev pub is_simulate : Result Order WordFault → Bool
is_simulate (Ok (Solve source limits trace)) = false
is_simulate (Ok (Simulate source script limits trace)) = true
is_simulate (Ok (Validate source plan limits)) = false
is_simulate (Ok (Ground domain problem scale)) = false
is_simulate (Ok (Replay source trace limits)) = false
is_simulate (Ok (Summary seed)) = false
is_simulate (Ok Help) = false
is_simulate (Err fault) = false

-- whether the words order `summary`
abbrev pub is_summary : Result Order WordFault → Bool
is_summary (Ok (Solve source limits trace)) = false
is_summary (Ok (Simulate source script limits trace)) = false
is_summary (Ok (Validate source plan limits)) = false
is_summary (Ok (Ground domain problem scale)) = false
is_summary (Ok (Replay source trace limits)) = false
is_summary (Ok (Summary seed)) = true
is_summary (Ok Help) = false
is_summary (Err fault) = false

-- the file in which a run is kept, where the words name one
abbrev pub trace_of : Result Order WordFault → Option (List ℕ)
trace_of (Ok (Solve source limits trace)) = trace
trace_of (Ok (Simulate source script limits trace)) = trace
trace_of (Ok (Validate source plan limits)) = None
trace_of (Ok (Ground domain problem scale)) = None
trace_of (Ok (Replay source trace limits)) = None
trace_of (Ok (Summary seed)) = None
trace_of (Ok Help) = None
trace_of (Err fault) = None

-- the first of some faults
abbrev pub first_of : List WordFault → Option WordFault
first_of [] = None
first_of (fault ∷ rest) = Some fault

abbrev pub named_fault : List ℕ → ℕ → List ℕ
named_fault name at = codes "refused words " ++ decimal at ++ codes " " ++ name ++ codes "\n"

-- the line of a fault
abbrev pub fault_text : WordFault → List ℕ
fault_text (NoCommand at) = named_fault (codes "NoCommand") at
fault_text (UnknownCommand at) = named_fault (codes "UnknownCommand") at
fault_text (UnknownOption at) = named_fault (codes "UnknownOption") at
fault_text (Twice at) = named_fault (codes "Twice") at
fault_text (NoValue at) = named_fault (codes "NoValue") at
fault_text (BadNumber at) = named_fault (codes "BadNumber") at
fault_text (FileCount at) = named_fault (codes "FileCount") at
fault_text (ScaleOfGround at) = named_fault (codes "ScaleOfGround") at
fault_text (Missing at) = named_fault (codes "Missing") at
fault_text NoMemory = []
