-- Scripts: lines `READING VERB ACTOR` with one space between, each ended by a line feed.
use Rattle.std.specs.Prelude.{◌≡◌, ℕ, ◌+◌, ◌-◌, ◌*◌, ◌^◌, Bool, not, ◌&&◌, ◌==◌, nat_le, nat_lt, if◌then◌else◌, List, [], ◌∷◌, ◌++◌, length, bytes_eq, codes, Option, Some, None, Result, Ok, Err}
use Rattle.std.specs.List.{list_all, list_any, filter, slice_split}
use Rattle.tp_spec.specs.Lists.{is_empty}
use Rattle.line_text.specs.Numbers.{is_digit}
use Rattle.script_text.specs.declared.script.ScriptLine.{ScriptLine}
use Rattle.script_text.specs.declared.script.Verb.{Verb}
use Rattle.script_text.specs.declared.script.Verb.TheVariants.{Take, Merge, Look}
use Rattle.script_text.specs.declared.script.ScriptFault.{ScriptFault}
use Rattle.script_text.specs.declared.script.ScriptFault.TheVariants.{Line, Holding, Idle, NoMemory}

abbrev pub is_feed : ℕ → Bool
is_feed b = b == 10

abbrev pub is_space : ℕ → Bool
is_space b = b == 32

-- the parts of a text between line feeds; the last one is empty where each line is ended
abbrev pub pieces : List ℕ → List (List ℕ)
pieces text = slice_split is_feed text

-- the parts of a line between spaces
abbrev pub words : List ℕ → List (List ℕ)
words line = slice_split is_space line

-- the number that digits write behind a number
abbrev pub number_from : ℕ → List ℕ → ℕ
number_from n [] = n
number_from n (c ∷ rest) = number_from (n * 10 + (c - 48)) rest

-- whether a word is 1 to 20 digits; the first ones may be zeros
abbrev pub are_digits : List ℕ → Bool
are_digits word = nat_le 1 (length word) && nat_le (length word) 20 && list_all is_digit word

-- the number of a word's digits, where it is below 2 ^ 64
abbrev pub number_of : List ℕ → Option ℕ
number_of word = if nat_lt (number_from 0 word) (2 ^ 64) then Some (number_from 0 word) else None

abbrev pub reading_of : List ℕ → Option ℕ
reading_of word = if are_digits word then number_of word else None

abbrev pub verb_of : List ℕ → Option Verb
verb_of word =
    if bytes_eq word (codes "take") then Some Take
    else (if bytes_eq word (codes "merge") then Some Merge
    else (if bytes_eq word (codes "look") then Some Look else None))

-- the dispatcher, actor 0, only looks
abbrev pub least_actor : Verb → ℕ
least_actor Take = 1
least_actor Merge = 1
least_actor Look = 0

-- one digit: an actor from the least one of the verb to 8
abbrev pub actor_of : Verb → List ℕ → Option ℕ
actor_of verb [] = None
actor_of verb (c ∷ rest) =
    if is_empty rest && nat_le (48 + least_actor verb) c && nat_le c 56 then Some (c - 48) else None

abbrev pub with_actor : ℕ → Verb → Option ℕ → Option ScriptLine
with_actor reading verb None = None
with_actor reading verb (Some actor) =
    Some (record { reading = reading; verb = verb; actor = actor })

abbrev pub with_verb : ℕ → Option Verb → List ℕ → Option ScriptLine
with_verb reading None actor = None
with_verb reading (Some verb) actor = with_actor reading verb (actor_of verb actor)

abbrev pub with_reading : Option ℕ → List ℕ → List ℕ → Option ScriptLine
with_reading None verb actor = None
with_reading (Some reading) verb actor = with_verb reading (verb_of verb) actor

-- the only three words of a line
abbrev pub three : List (List ℕ) → Option (List ℕ × List ℕ × List ℕ)
three [] = None
three (a ∷ []) = None
three (a ∷ b ∷ []) = None
three (a ∷ b ∷ c ∷ []) = Some (a, b, c)
three (a ∷ b ∷ c ∷ d ∷ rest) = None

abbrev pub with_words : Option (List ℕ × List ℕ × List ℕ) → Option ScriptLine
with_words None = None
with_words (Some w) = with_reading (reading_of w.0) w.1 w.2

-- what a line says, where it has the form
abbrev pub line_of : List ℕ → Option ScriptLine
line_of line = with_words (three (words line))

-- whether an actor is among those who hold a job
abbrev pub is_holder : List ℕ → ℕ → Bool
is_holder holders actor = list_any (λ a. a == actor) holders

-- The actors that hold a job behind a line: each whose last take has no merge behind it. Or the
-- fault of the line, the number of which is n.
abbrev pub turn : ℕ → List ℕ → Verb → ℕ → Result (List ℕ) ScriptFault
turn n holders Take actor =
    if is_holder holders actor then Err (Holding n) else Ok (holders ++ actor ∷ [])
turn n holders Merge actor =
    if is_holder holders actor then Ok (filter (λ a. not (a == actor)) holders)
    else Err (Idle n)
turn n holders Look actor = Ok holders

-- a line before others
abbrev pub before : ScriptLine → Result (List ScriptLine) ScriptFault
    → Result (List ScriptLine) ScriptFault
before line (Ok lines) = Ok (line ∷ lines)
before line (Err fault) = Err fault

abbrev pub with_turn : ScriptLine → Result (List ℕ) ScriptFault
    → (List ℕ → Result (List ScriptLine) ScriptFault) → Result (List ScriptLine) ScriptFault
with_turn line (Err fault) behind = Err fault
with_turn line (Ok holders) behind = before line (behind holders)

abbrev pub with_line : ℕ → List ℕ → Option ScriptLine
    → (List ℕ → Result (List ScriptLine) ScriptFault) → Result (List ScriptLine) ScriptFault
with_line n holders None behind = Err (Line n)
with_line n holders (Some line) behind =
    with_turn line (turn n holders line.verb line.actor) behind

-- What the lines from number n on say, or their first fault. The last piece has no line feed: it
-- is no line, and is empty.
abbrev pub lines_from : ℕ → List ℕ → List (List ℕ) → Result (List ScriptLine) ScriptFault
lines_from n holders [] = Ok []
lines_from n holders (piece ∷ []) = if is_empty piece then Ok [] else Err (Line n)
lines_from n holders (piece ∷ next ∷ rest) =
    with_line n holders (line_of piece) (λ after. lines_from (n + 1) after (next ∷ rest))

-- the lines of a script, or the first fault of its text
abbrev pub script_of : List ℕ → Result (List ScriptLine) ScriptFault
script_of text = lines_from 1 [] (pieces text)

-- What is read of a text: its lines, or its first fault; or memory was refused.
abbrev pub IsScript : List ℕ → Result (List ScriptLine) ScriptFault → Type 0
IsScript text (Ok lines) = script_of text ≡ Ok lines
IsScript text (Err (Line n)) = script_of text ≡ Err (Line n)
IsScript text (Err (Holding n)) = script_of text ≡ Err (Holding n)
IsScript text (Err (Idle n)) = script_of text ≡ Err (Idle n)
IsScript text (Err NoMemory) = Unit {0}
