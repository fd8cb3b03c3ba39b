-- The line of an act: `NUMERAL : ( words )`, and maybe `[ NUMERAL ]` behind it, with white space
-- between the parts.
use Rattle.std.specs.Prelude.{◌≡◌, ℕ, ◌+◌, ◌^◌, ℤ, pos, negsuc, Bool, false, not, ◌&&◌, nat_eq, nat_lt, if◌then◌else◌, List, [], ◌∷◌, position, bytes_eq, Option, Some, None, Result, Ok, Err}
use Rattle.std.specs.List.{list_all, list_any}
use Rattle.std.specs.Str.{is_utf8}
use Rattle.pddl_tokens.specs.Tokens.{is_blank}
use Rattle.pddl_tokens.specs.Numbers.{number_of}
use Rattle.pddl_tokens.specs.declared.numbers.NumberFault.{NumberFault}
use Rattle.pddl_tokens.specs.declared.numbers.NumberFault.TheVariants.{NotNumber, NotWhole as not_whole, TooLarge as too_large}
use Rattle.tp_spec.specs.declared.plan.Timed.{Timed}
use Rattle.tp_spec.specs.declared.problem.Problem.{Problem}
use Rattle.plan_text.specs.declared.fault.Fault.{Fault}
use Rattle.plan_text.specs.declared.fault.Fault.TheVariants.{Shape, UnknownAction, NotWhole, TooLarge, NoMemory}
use Rattle.plan_text.specs.declared.amount.Amount.{Amount}
use Rattle.plan_text.specs.declared.amount.Amount.TheVariants.{Ticks, Parted, Far}
use Rattle.plan_text.specs.Pieces.{is_mark, cut, unindented, spaced, behind, plain}

-- the texts of a line's parts; the last one stands between brackets, where those are there
pub record Parts : Type 0 where
  pub start : List ℕ
  pub name : List ℕ
  pub length : Option (List ℕ)

-- a word or more, without a parenthesis in them
abbrev pub are_words : List ℕ → Bool
are_words text = not (list_any (is_mark 40) text) && not (list_all is_blank text)

-- what stands before a closing bracket behind which nothing follows
abbrev pub closed : Option (List ℕ × List ℕ) → Option (Option (List ℕ))
closed None = None
closed (Some (inner, rest)) = if list_all is_blank rest then Some (Some inner) else None

abbrev pub bracket : List ℕ → Option (Option (List ℕ))
bracket [] = Some None
bracket (b ∷ rest) = if nat_eq b 91 then closed (cut 93 rest) else None

-- nothing, or `[ .. ]`
abbrev pub length_part : List ℕ → Option (Option (List ℕ))
length_part text = bracket (unindented text)

abbrev pub with_length : List ℕ → List ℕ → Option (Option (List ℕ)) → Option Parts
with_length start name None = None
with_length start name (Some length) = Some (record { start = start; name = name; length = length })

abbrev pub with_name : List ℕ → Option (List ℕ × List ℕ) → Option Parts
with_name start None = None
with_name start (Some (name, rest)) =
    if are_words name then with_length start name (length_part rest) else None

abbrev pub with_open : List ℕ → Option (List ℕ) → Option Parts
with_open start None = None
with_open start (Some inner) = with_name start (cut 41 inner)

abbrev pub with_start : Option (List ℕ × List ℕ) → Option Parts
with_start None = None
with_start (Some (start, rest)) = with_open start (behind 40 rest)

-- the parts of a line without its comment
abbrev pub parts_of : List ℕ → Option Parts
parts_of text = with_start (cut 58 text)

abbrev pub has_minus : List ℕ → Bool
has_minus [] = false
has_minus (b ∷ rest) = nat_eq b 45

-- a number of ticks, as a numeral gives it at a scale; it is not negative, but `-0` is 0
abbrev pub amount_from : Bool → Result ℤ NumberFault → Result Amount Fault
amount_from minus (Ok (pos n)) = if minus && not (nat_eq n 0) then Err Shape else Ok (Ticks n)
amount_from minus (Ok (negsuc n)) = Err Shape
amount_from minus (Err NotNumber) = Err Shape
amount_from minus (Err not_whole) = if minus then Err Shape else Ok Parted
amount_from minus (Err too_large) = if minus then Err Shape else Ok Far

abbrev pub amount_of : ℕ → List ℕ → Result Amount Fault
amount_of scale text = amount_from (has_minus text) (number_of scale text)

-- the length of an act: 0 where no brackets are there
abbrev pub length_of : ℕ → Option (List ℕ) → Result Amount Fault
length_of scale None = Ok (Ticks 0)
length_of scale (Some text) = amount_of scale (spaced text)

-- the action of a name
abbrev pub action_of : Problem → List ℕ → Option ℕ
action_of p name = position (λ x. bytes_eq x.name name) p.actions

-- an act, where its numbers are whole and small enough, and so is their sum
abbrev pub lasting : ℕ → Amount → Amount → Result Timed Fault
lasting a (Ticks s) (Ticks l) =
    if nat_lt (s + l) (2 ^ 63) then Ok (record { action = a; start = s; length = l })
    else Err TooLarge
lasting a (Ticks s) Parted = Err NotWhole
lasting a (Ticks s) Far = Err TooLarge
lasting a Parted l = Err NotWhole
lasting a Far (Ticks l) = Err TooLarge
lasting a Far Parted = Err NotWhole
lasting a Far Far = Err TooLarge

-- the faults in their order: first of the form, then of the name, then of the numbers
abbrev pub named : Option ℕ → Amount → Amount → Result Timed Fault
named None start length = Err UnknownAction
named (Some a) start length = lasting a start length

abbrev pub timed : Option ℕ → Result Amount Fault → Result Amount Fault → Result Timed Fault
timed a (Ok start) (Ok length) = named a start length
timed a (Ok start) (Err fault) = Err fault
timed a (Err fault) length = Err fault

abbrev pub act_from : Problem → Option Parts → Result Timed Fault
act_from p None = Err Shape
act_from p (Some x) =
    timed (action_of p (spaced x.name)) (amount_of p.scale (spaced x.start))
    (length_of p.scale x.length)

-- the act of a line, or why there is none
abbrev pub act_of : Problem → List ℕ → Result Timed Fault
act_of p line = if is_utf8 line then act_from p (parts_of (plain line)) else Err Shape

-- what a reader answers: this, or that memory was refused
abbrev pub Gives : {A : Type 0} → Result A Fault → Result A Fault → Type 0
Gives (Ok x) wanted = wanted ≡ Ok x
Gives (Err NoMemory) wanted = Unit {0}
Gives (Err f) wanted = wanted ≡ Err f
