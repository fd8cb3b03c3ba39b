-- The numbers that words spell.
use Rattle.std.specs.Prelude.{ℕ, ◌+◌, ◌-◌, ◌*◌, ◌/◌, ◌%◌, ◌^◌, ℤ, pos, neg_ℤ, Bool, true, false, not, ◌&&◌, ◌||◌, nat_lt, nat_eq, IsTrue, if◌then◌else◌, List, [], ◌∷◌, ◌++◌, length, map, take, drop, position, Option, Some, None, Result, Ok, Err}
use Rattle.std.specs.List.{list_all}
use Rattle.std.specs.Char.{is_ascii_digit}
use Rattle.std.specs.Int.Digits.{number_from_digits_after}
use Rattle.pddl_tokens.specs.declared.numbers.NumberFault.{NumberFault}
use Rattle.pddl_tokens.specs.declared.numbers.Numeral.{Numeral as Parts}
use Rattle.pddl_tokens.specs.declared.numbers.NumberFault.TheVariants.{NotNumber, NotWhole, TooLarge}

-- how many ticks are in a unit of time
abbrev pub IsScale : ℕ → Type 0
IsScale scale = IsTrue (nat_eq scale 1 || nat_eq scale 10 || nat_eq scale 100 || nat_eq scale 1000)

-- a spelled number: whether it is negative, and its digits before and behind the point
pub record Numeral : Type 0 where
  pub minus : Bool
  pub whole : List ℕ
  pub part : List ℕ

-- the numeral that parts of a text are
abbrev pub as_numeral : Parts → Numeral
as_numeral n = record { minus = n.minus; whole = n.whole.now; part = n.part.now }

-- one digit or more
abbrev pub are_digits : List ℕ → Bool
are_digits text = not (nat_eq (length text) 0) && list_all is_ascii_digit text

abbrev pub are_zeros : List ℕ → Bool
are_zeros text = list_all (λ c. nat_eq c 48) text

-- digits before and behind a point
abbrev pub pointed : Bool → List ℕ → List ℕ → Option Numeral
pointed minus whole part =
    if are_digits whole && are_digits part then
    Some (record { minus = minus; whole = whole; part = part })
    else None

-- digits, or digits before and behind the first point
abbrev pub at_point : Bool → List ℕ → Option ℕ → Option Numeral
at_point minus text None =
    if are_digits text then Some (record { minus = minus; whole = text; part = [] }) else None
at_point minus text (Some i) = pointed minus (take i text) (drop (i + 1) text)

abbrev pub unsigned_of : Bool → List ℕ → Option Numeral
unsigned_of minus text = at_point minus text (position (λ c. nat_eq c 46) text)

-- the numeral that a text is, where it is one: an optional minus, digits, and optionally a point
-- and digits
abbrev pub numeral_of : List ℕ → Option Numeral
numeral_of [] = None
numeral_of (c ∷ rest) = if nat_eq c 45 then unsigned_of true rest else unsigned_of false (c ∷ rest)

abbrev pub digit : ℕ → ℕ
digit c = c - 48

-- the number of decimal digits
abbrev pub decimal : List ℕ → ℕ
decimal text = number_from_digits_after 10 0 (map digit text)

-- a number with a sign, in the range of an i64
abbrev pub in_range : Bool → ℕ → Result ℤ NumberFault
in_range minus n =
    if nat_lt n (2 ^ 63) then Ok (if minus then neg_ℤ (pos n) else pos n)
    else if minus && nat_eq n (2 ^ 63) then Ok (neg_ℤ (pos n))
    else Err TooLarge

-- all digits, as one number, times the scale, over the power of ten of the digits behind the point
abbrev pub product_of : ℕ → Numeral → Result ℤ NumberFault
product_of scale n =
    let above = decimal (n.whole ++ n.part) * scale in
    let below = 10 ^ length n.part in
    if nat_eq (above % below) 0 then in_range n.minus (above / below) else Err NotWhole

abbrev pub product_if : ℕ → Option Numeral → Result ℤ NumberFault
product_if scale None = Err NotNumber
product_if scale (Some n) = product_of scale n

-- what a text is at a scale: a whole number, or why not
abbrev pub number_of : ℕ → List ℕ → Result ℤ NumberFault
number_of scale text = product_if scale (numeral_of text)

-- a number that fits 64 bits
abbrev pub in_u64 : ℕ → Option ℕ
in_u64 n = if nat_lt n (2 ^ 64) then Some n else None
