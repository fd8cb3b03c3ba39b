-- What the words behind the command say, one after the other: files, options with their values, and
-- what is neither.
use Rattle.std.specs.Prelude.{ℕ, ◌+◌, ◌==◌, Bool, false, nat_eq, if◌then◌else◌, List, [], ◌∷◌, ◌++◌, length, Option, Some, None}
use Rattle.std.specs.List.{before_first, after_first, position_or_len}
use Rattle.run_cli.specs.declared.options.Setting.{Setting}
use Rattle.run_cli.specs.declared.arguments.Argument.{Argument as Held}
use Rattle.run_cli.specs.declared.arguments.Argument.TheVariants as held
use Rattle.run_cli.specs.declared.arguments.Sort.{Sort as HeldSort}
use Rattle.run_cli.specs.declared.arguments.Sort.TheVariants as sorts
use Rattle.run_cli.specs.declared.arguments.Awaited.{Awaited}
use Rattle.run_cli.specs.Options.{option_named}

-- whether a word begins with `-`
abbrev pub begins_with_dash : List ℕ → Bool
begins_with_dash [] = false
begins_with_dash (b ∷ rest) = b == 45

-- a place is the index of a word
pub data Argument : Type 0 where
  File : (name : List ℕ) → Argument
  -- an option and its value, which stand in the words of these places
  Given : (at : ℕ) → (setting : Setting) → (value_at : ℕ) → (value : List ℕ) → Argument
  -- an option as the last word
  Bare : (at : ℕ) → (setting : Setting) → Argument
  -- a word with a dash that is no option of the command
  Strange : (at : ℕ) → Argument

-- what a word is by itself
pub data Sort : Type 0 where
  -- `--name`: the next word is the value
  Names : (setting : Setting) → Sort
  -- `--name=value`
  Assigns : (setting : Setting) → (value : List ℕ) → Sort
  Unknown : Sort
  Plain : Sort

abbrev pub is_equals : ℕ → Bool
is_equals b = nat_eq b 61

abbrev pub naming : Option Setting → Sort
naming None = Unknown
naming (Some s) = Names s

abbrev pub assigning : Option Setting → List ℕ → Sort
assigning None value = Unknown
assigning (Some s) value = Assigns s value

-- what stands behind two dashes: a name, or a name and a value round the first `=`
abbrev pub long_sort : List Setting → List ℕ → Sort
long_sort table text =
    if nat_eq (position_or_len is_equals text) (length text) then naming (option_named table text)
    else assigning (option_named table (before_first is_equals text)) (after_first is_equals text)

-- what stands behind a dash, where a text begins with one
abbrev pub without_dash : List ℕ → Option (List ℕ)
without_dash [] = None
without_dash (b ∷ rest) = if nat_eq b 45 then Some rest else None

abbrev pub dashed_again : Option (List ℕ) → Option (List ℕ)
dashed_again None = None
dashed_again (Some rest) = without_dash rest

-- what stands behind two dashes, where a word begins with them
abbrev pub undashed : List ℕ → Option (List ℕ)
undashed word = dashed_again (without_dash word)

abbrev pub sort_from : List Setting → List ℕ → Option (List ℕ) → Sort
sort_from table word (Some text) = long_sort table text
sort_from table word None = if begins_with_dash word then Unknown else Plain

abbrev pub sort_of : List Setting → List ℕ → Sort
sort_of table word = sort_from table word (undashed word)

abbrev pub argument_of : ℕ → List ℕ → Sort → List Argument
argument_of at word (Names s) = []
argument_of at word (Assigns s value) = Given at s at value ∷ []
argument_of at word Unknown = Strange at ∷ []
argument_of at word Plain = File word ∷ []

-- what a word says at its place: the value of the option before it, whatever the word is, or what
-- it is by itself
abbrev pub argument_at : List Setting → ℕ → Option Awaited → List ℕ → List Argument
argument_at table at (Some option) word = Given option.at option.setting at word ∷ []
argument_at table at None word = argument_of at word (sort_of table word)

abbrev pub names_at : ℕ → Sort → Option Awaited
names_at at (Names s) = Some (record { at = at; setting = s })
names_at at (Assigns s value) = None
names_at at Unknown = None
names_at at Plain = None

-- the option that waits for its value behind a word
abbrev pub awaited_at : List Setting → ℕ → Option Awaited → List ℕ → Option Awaited
awaited_at table at (Some option) word = None
awaited_at table at None word = names_at at (sort_of table word)

abbrev pub last_argument : Option Awaited → List Argument
last_argument (Some option) = Bare option.at option.setting ∷ []
last_argument None = []

-- the arguments of the words from a place on
abbrev pub arguments_from : List Setting → ℕ → Option Awaited → List (List ℕ) → List Argument
arguments_from table at awaited [] = last_argument awaited
arguments_from table at awaited (word ∷ rest) =
    argument_at table at awaited word
    ++ arguments_from table (at + 1) (awaited_at table at awaited word) rest

-- the arguments of the words behind the command
abbrev pub arguments_of : List Setting → List (List ℕ) → List Argument
arguments_of table words = arguments_from table 1 None words

-- an argument as the code keeps it
abbrev pub view_of : Held → Argument
view_of (held.File name) = File name.now
view_of (held.Given at s value_at value) = Given at s value_at value.now
view_of (held.Bare at s) = Bare at s
view_of (held.Strange at) = Strange at

abbrev pub sort_view : HeldSort → Sort
sort_view (sorts.Names s) = Names s
sort_view (sorts.Assigns s value) = Assigns s value.now
sort_view sorts.Unknown = Unknown
sort_view sorts.Plain = Plain
