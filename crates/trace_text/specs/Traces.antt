-- The text of a history: a line for each event, with what was decided and at which reading.
use Rattle.std.specs.Prelude.{ℕ, true, false, List, ◌++◌, length, codes, decimal}
use Rattle.std.specs.List.{flat_map}
use Rattle.tp_spec.specs.declared.event.Cause.{Cause}
use Rattle.tp_spec.specs.declared.event.Cause.TheVariants.{Out, Script, Memory}
use Rattle.tp_spec.specs.declared.event.Event.{Event}
use Rattle.tp_spec.specs.declared.event.Event.TheVariants.{Tick, Drop, Dispatch, Take, Expand, Publish, Limit, Exhaust, Halt}
use Rattle.tp_spec.specs.declared.plan.Mark.{Mark}
use Rattle.tp_spec.specs.declared.plan.Timed.{Timed}
use Rattle.line_text.specs.Written.{item_text}

-- a number behind one space
unfoldable pub field : ℕ → List ℕ
field n = codes " " ++ decimal n

-- members of a line, each behind one space
unfoldable pub listed : {A : Type 0} → (A → List ℕ) → List A → List ℕ
listed text xs = flat_map (λ x. codes " " ++ text x) xs

-- `+` where the mark is fresh, `.` where it joins, and its item
abbrev pub sign_text : Mark → List ℕ
sign_text m = elim m.fresh [ true ↦ codes "+" | false ↦ codes "." ]

unfoldable pub mark_text : Mark → List ℕ
mark_text m = sign_text m ++ item_text m.item

-- `ACTION:START:LENGTH`, in ticks
unfoldable pub act_text : Timed → List ℕ
act_text x = decimal x.action ++ codes ":" ++ decimal x.start ++ codes ":" ++ decimal x.length

abbrev pub cause_text : Cause → List ℕ
cause_text Out = codes "out"
cause_text Script = codes "script"
cause_text Memory = codes "memory"

-- the line of an event, without its line feed
unfoldable pub event_line : Event → List ℕ
event_line (Tick actor reading) = codes "tick" ++ field actor ++ field reading
event_line (Take actor id) = codes "take" ++ field actor ++ field id
event_line (Expand actor id marks) =
    codes "expand" ++ field actor ++ field id ++ listed mark_text marks
event_line (Drop id) = codes "drop" ++ field id
event_line (Dispatch act) = codes "do" ++ field act.action ++ field act.start ++ field act.length
event_line (Publish actor id plan) =
    codes "publish" ++ field actor ++ field id ++ field plan.end ++ listed act_text plan.acts
event_line Exhaust = codes "exhaust"
event_line (Limit actor id made marks) =
    codes "limit" ++ field actor ++ field id ++ field made ++ field marks
event_line (Halt cause) = codes "halt " ++ cause_text cause

-- the first line, without its line feed: the version of the format, and how many events follow
unfoldable pub header_line : ℕ → List ℕ
header_line count = codes "trace" ++ field 1 ++ field count

-- lines, each with a line feed behind it
unfoldable pub event_lines : List Event → List ℕ
event_lines events = flat_map (λ e. event_line e ++ codes "\n") events

-- The one text of a history: ASCII lines, each ended by a line feed, one space between words. This
-- project's own format.
unfoldable pub trace_text : List Event → List ℕ
trace_text history = header_line (length history) ++ codes "\n" ++ event_lines history
