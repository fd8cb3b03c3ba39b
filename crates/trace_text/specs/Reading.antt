-- The parts of a line: its first word, and what stands behind that.
use Rattle.std.specs.Prelude.{◌≡◌, ℕ, ◌+◌, true, false, Bool, ◌&&◌, ◌==◌, take, drop, List, [], ◌∷◌, ◌++◌, Option, Some, None, bytes_eq, codes, if◌then◌else◌}
use Rattle.std.specs.List.{list_all}
use Rattle.tp_spec.specs.declared.event.Cause.{Cause}
use Rattle.tp_spec.specs.declared.event.Cause.TheVariants.{Out, Script, Memory}
use Rattle.tp_spec.specs.declared.event.Event.{Event}
use Rattle.tp_spec.specs.declared.event.Event.TheVariants.{Tick, Drop, Dispatch, Take, Expand, Publish, Limit, Exhaust, Halt}
use Rattle.tp_spec.specs.declared.plan.Item.{Item}
use Rattle.tp_spec.specs.declared.plan.Item.TheVariants.{TimedAt, End, Start}
use Rattle.tp_spec.specs.declared.plan.Mark.{Mark}
use Rattle.tp_spec.specs.declared.plan.Timed.{Timed}
use Rattle.trace_text.specs.declared.keyword.Keyword.{Keyword}
use Rattle.trace_text.specs.declared.keyword.Keyword.TheVariants.{OfTick, OfTake, OfExpand, OfDrop, OfDispatch, OfPublish, OfExhaust, OfLimit, OfHalt}
use Rattle.trace_text.specs.Traces.{field, listed, mark_text, act_text, cause_text}
use Rattle.trace_text.specs.Grammar.{is_narrow, is_wide, fits_mark, fits_act}
use Rattle.trace_text.specs.Cuts.{IsRead, NoneRead}

-- how many bytes stand before the first space, or before the end
abbrev pub word_len : List ℕ → ℕ
word_len [] = 0
word_len (c ∷ rest) = if c == 32 then 0 else 1 + word_len rest

-- what stands before the first space, and the rest from that space on
abbrev pub first_word : List ℕ → List ℕ
first_word line = take (word_len line) line

abbrev pub behind_word : List ℕ → List ℕ
behind_word line = drop (word_len line) line

-- the first word of an event's line
abbrev pub word_text : Keyword → List ℕ
word_text OfTick = codes "tick"
word_text OfTake = codes "take"
word_text OfExpand = codes "expand"
word_text OfDrop = codes "drop"
word_text OfDispatch = codes "do"
word_text OfPublish = codes "publish"
word_text OfExhaust = codes "exhaust"
word_text OfLimit = codes "limit"
word_text OfHalt = codes "halt"

-- which of these keywords a word is
abbrev pub keyword_among : List Keyword → List ℕ → Option Keyword
keyword_among [] word = None
keyword_among (k ∷ rest) word =
    if bytes_eq word (word_text k) then Some k else keyword_among rest word

abbrev pub all_keywords : List Keyword
all_keywords = OfTick ∷ OfTake ∷ OfExpand ∷ OfDrop ∷ OfDispatch ∷ OfPublish ∷ OfExhaust ∷ OfLimit
    ∷ OfHalt ∷ []

-- the keyword that a word is
abbrev pub keyword_of : List ℕ → Option Keyword
keyword_of word = keyword_among all_keywords word

-- two numbers, each behind a space
abbrev pub pair_text : ℕ × ℕ → List ℕ
pair_text x = field x.0 ++ field x.1

abbrev pub are_narrow : ℕ × ℕ → Bool
are_narrow x = is_narrow x.0 && is_narrow x.1

abbrev pub letter_of : Item → ℕ
letter_of (TimedAt k) = 84
letter_of (End a) = 69
letter_of (Start a) = 83

-- the byte of the sign of a mark
abbrev pub sign_of : Bool → ℕ
sign_of true = 43
sign_of false = 46

-- what the line of an event holds behind its keyword
abbrev pub Args : Keyword → Type 0
Args OfTick = ℕ × ℕ
Args OfTake = ℕ × ℕ
Args OfExpand = (ℕ × ℕ) × List Mark
Args OfDrop = ℕ
Args OfDispatch = Timed
Args OfPublish = (ℕ × ℕ) × (ℕ × List Timed)
Args OfExhaust = Unit {0}
Args OfLimit = (ℕ × ℕ) × (ℕ × ℕ)
Args OfHalt = Cause

abbrev pub args_text : (k : Keyword) → Args k → List ℕ
args_text OfTick x = pair_text x
args_text OfTake x = pair_text x
args_text OfExpand x = pair_text x.0 ++ listed mark_text x.1
args_text OfDrop x = field x
args_text OfDispatch x = field x.action ++ (field x.start ++ field x.length)
args_text OfPublish x = pair_text x.0 ++ (field x.1.0 ++ listed act_text x.1.1)
args_text OfExhaust x = []
args_text OfLimit x = pair_text x.0 ++ pair_text x.1
args_text OfHalt x = codes " " ++ cause_text x

-- whether the numbers fit their types
abbrev pub fits_args : (k : Keyword) → Args k → Bool
fits_args OfTick x = is_narrow x.0 && is_wide x.1
fits_args OfTake x = are_narrow x
fits_args OfExpand x = are_narrow x.0 && list_all fits_mark x.1
fits_args OfDrop x = is_narrow x
fits_args OfDispatch x = fits_act x
fits_args OfPublish x = are_narrow x.0 && (is_wide x.1.0 && list_all fits_act x.1.1)
fits_args OfExhaust x = true
fits_args OfLimit x = are_narrow x.0 && are_narrow x.1
fits_args OfHalt x = true

-- the event
abbrev pub event_of : (k : Keyword) → Args k → Event
event_of OfTick x = Tick x.0 x.1
event_of OfTake x = Take x.0 x.1
event_of OfExpand x = Expand x.0.0 x.0.1 x.1
event_of OfDrop x = Drop x
event_of OfDispatch x = Dispatch x
event_of OfPublish x = Publish x.0.0 x.0.1 (record { acts = x.1.1; end = x.1.0 })
event_of OfExhaust x = Exhaust
event_of OfLimit x = Limit x.0.0 x.0.1 x.1.0 x.1.1
event_of OfHalt x = Halt x

-- What stands behind a keyword is read as an event of it, in the one way there is.
pub record IsOf (k : Keyword) (rest : List ℕ) (e : Event) : Type 0 where
  pub args : Args k
  pub made : e ≡ event_of k args
  pub read : IsRead (args_text k) (fits_args k) rest args

-- it is read as none
abbrev pub NoneOf : Keyword → List ℕ → Type 0
NoneOf k rest = NoneRead (args_text k) (fits_args k) rest

-- it is read as an event, or there is none
abbrev pub GivesEvent : Keyword → List ℕ → Option Event → Type 0
GivesEvent k rest None = NoneOf k rest
GivesEvent k rest (Some e) = IsOf k rest e

-- ` out`, ` script` or ` memory`
abbrev pub cause_among : List Cause → List ℕ → Option Cause
cause_among [] text = None
cause_among (x ∷ rest) text =
    if bytes_eq text (codes " " ++ cause_text x) then Some x else cause_among rest text

abbrev pub all_causes : List Cause
all_causes = Out ∷ Script ∷ Memory ∷ []

abbrev pub cause_of : List ℕ → Option Cause
cause_of text = cause_among all_causes text
