-- Words of instant actions and timed items: at which clocks they are live, told by numbers of the
-- word and one mark more, without a schedule.
use Rattle.std.specs.Prelude.{◌≡◌, ℕ, ◌+◌, ◌-◌, Bool, true, false, not, ◌&&◌, nat_le, nat_lt, min, List, [], ◌∷◌, ◌++◌, length, Option, Some, None, IsTrue, if◌then◌else◌, slice_get}
use Rattle.std.specs.List.{list_all}
use Rattle.tp_spec.specs.declared.plan.Item.{Item}
use Rattle.tp_spec.specs.declared.plan.Item.TheVariants.{TimedAt, End, Start}
use Rattle.tp_spec.specs.declared.plan.Limits.{Limits}
use Rattle.tp_spec.specs.declared.plan.Mark.{Mark}
use Rattle.tp_spec.specs.declared.problem.Problem.{Problem}
use Rattle.tp_spec.specs.declared.problem.TimedItem.{TimedItem}
use Rattle.tp_spec.specs.Lists.{some_and}
use Rattle.tp_spec.specs.Items.{is_durative}
use Rattle.tp_spec.specs.Words.{Act, Sound, groups, acts_of, timed_of}
use Rattle.tp_spec.specs.Schedules.{Live}
use Rattle.tp_laws.specs.Clocks.{IsDeadline}

-- whether an item is a timed item or the start of an instant action
abbrev pub is_instant_item : Problem → Item → Bool
is_instant_item p (TimedAt k) = true
is_instant_item p (End a) = false
is_instant_item p (Start a) = not (is_durative p a)

abbrev pub is_instant_mark : Problem → Mark → Bool
is_instant_mark p m = is_instant_item p m.item

-- whether all acts of a word are of instant actions
abbrev pub of_instants : Problem → List Mark → Bool
of_instants p w = list_all (is_instant_mark p) w

-- What is kept of a word: how many groups and starts it has, the group of its first start, how many
-- timed items it has, and the group of the last of them. Groups are counted from 0.
pub record Outlook : Type 0 where
  pub opened : ℕ
  pub starts : ℕ
  pub first : Option ℕ
  pub timed : ℕ
  pub last : Option ℕ

abbrev pub first_group : List Act → Option ℕ
first_group [] = None
first_group (x ∷ xs) = Some x.opens

abbrev pub last_group : List ℕ → Option ℕ
last_group gs = slice_get gs (length gs - 1)

abbrev pub outlook_of : Problem → List Mark → Outlook
outlook_of p w = record {
  opened = groups w;
  starts = length (acts_of p w);
  first = first_group (acts_of p w);
  timed = length (timed_of w);
  last = last_group (timed_of w);
}

abbrev pub outlook_start : Outlook
outlook_start = record { opened = 0; starts = 0; first = None; timed = 0; last = None }

abbrev pub first_or : Option ℕ → ℕ → Option ℕ
first_or None g = Some g
first_or (Some f) g = Some f

-- the outlook with an item of group g more, where n groups are open then
abbrev pub outlook_with : ℕ → ℕ → Outlook → Item → Outlook
outlook_with n g o (TimedAt k) = record o { opened = n; timed = o.timed + 1; last = Some g }
outlook_with n g o (End a) = record o { opened = n }
outlook_with n g o (Start a) =
    record o { opened = n; starts = o.starts + 1; first = first_or o.first g }

-- the outlook of a word with one mark more
abbrev pub outlook_after : Outlook → Mark → Outlook
outlook_after o a =
    if a.fresh then outlook_with (o.opened + 1) o.opened o a.item
    else outlook_with o.opened (o.opened - 1) o a.item

abbrev pub tick_in : Option TimedItem → ℕ
tick_in None = 0
tick_in (Some i) = i.tick

-- the tick of timed item k
abbrev pub tick_of : Problem → ℕ → ℕ
tick_of p k = tick_in (slice_get p.timed k)

abbrev pub ticks_in : ℕ → Option TimedItem → ℕ
ticks_in n None = n
ticks_in n (Some i) = min n i.tick

-- how many ticks there are up to the horizon and before timed item k, if there is one
abbrev pub ticks_before : Problem → Limits → ℕ → ℕ
ticks_before p l k = ticks_in (l.horizon + 1) (slice_get p.timed k)

abbrev pub least_from : ℕ → ℕ → Option ℕ → ℕ
least_from n t None = n
least_from n t (Some h) = t + (n - h)

-- the least tick at which a new group may stand: there is one for each group before it, from the
-- last timed item on
abbrev pub least_tick : Problem → Outlook → ℕ
least_tick p o = least_from o.opened (tick_of p (o.timed - 1)) o.last

abbrev pub joined_by : ℕ → ℕ → Option ℕ → ℕ
joined_by d t None = t
joined_by d t (Some f) = d

-- Of a start that joins the last group: the word's deadline d stays. Where it is the first start
-- each group has a timed item, and it stands at the tick of the last one.
abbrev pub joined_deadline : Problem → Outlook → ℕ → ℕ
joined_deadline p o d = joined_by d (tick_of p (o.timed - 1)) o.first

abbrev pub opened_by : ℕ → ℕ → ℕ → Option ℕ → Option ℕ → ℕ
opened_by d late n h None = late
opened_by d late n h (Some f) = if some_and h (nat_le f) then d else late - (n - f)

-- Of a start that opens a group. The latest tick of that group is the last one up to the horizon
-- and before the next timed item, and that of the first start is one earlier for each group from
-- its own on. But where a timed item stands with the first start or behind it, that item holds it,
-- and the word's deadline d stays.
abbrev pub opened_deadline : Problem → Limits → Outlook → ℕ → ℕ
opened_deadline p l o d =
    opened_by d (ticks_before p l o.timed - 1) o.opened o.last o.first

-- By whether a mark is fresh, and its item. A start needs an act that is left, and a tick if it
-- opens a group; a timed item that opens a group stands behind the others as it is, and it may not
-- join one, whose other timed item has another tick.
abbrev pub deadline_by : Problem → Limits → Outlook → ℕ → Bool → Item → Option ℕ
deadline_by p l o d true (TimedAt k) = if nat_le (tick_of p k) l.horizon then Some d else None
deadline_by p l o d false (TimedAt k) = None
deadline_by p l o d fresh (End a) = None
deadline_by p l o d true (Start a) =
    if nat_lt o.starts l.actions && nat_lt (least_tick p o) (ticks_before p l o.timed)
    then Some (opened_deadline p l o d) else None
deadline_by p l o d false (Start a) =
    if nat_lt o.starts l.actions then Some (joined_deadline p o d) else None

-- The deadline of a word of instants with one mark more, by the outlook and the deadline of the
-- word; none where it is live at no clock. This project's own.
abbrev pub deadline_with : Problem → Limits → Outlook → ℕ → Mark → Option ℕ
deadline_with p l o d a = deadline_by p l o d a.fresh a.item

-- a word without commitments has a deadline, or is live at no clock
abbrev pub HasDeadline : Problem → Limits → List Mark → Option ℕ → Type 0
HasDeadline p l w None = (now : ℕ) → ¬ Live p l now [] w
HasDeadline p l w (Some d) = IsDeadline p l [] w d

-- One mark more of a word of instants: its deadline by the word's.
abbrev pub DeadlinesByMark : Problem → Limits → Type 0
DeadlinesByMark p l = (w : List Mark) (a : Mark) (d : ℕ) → IsDeadline p l [] w d
    → Sound p (w ++ a ∷ []) → IsTrue (of_instants p (w ++ a ∷ []))
    → HasDeadline p l (w ++ a ∷ []) (deadline_with p l (outlook_of p w) d a)

-- The empty word is live as long as the clock runs.
abbrev pub EmptyWordIsLive : Type 0
EmptyWordIsLive = (p : Problem) (l : Limits) → IsDeadline p l [] [] (l.horizon + 1)

-- A word with one mark more is one of instants where the word and the mark are.
abbrev pub InstantsByMark : Type 0
InstantsByMark = (p : Problem) (w : List Mark) (a : Mark)
    → of_instants p (w ++ a ∷ []) ≡ (of_instants p w && is_instant_mark p a)

-- The outlook of the empty word ..
abbrev pub OutlookOfEmptyWord : Type 0
OutlookOfEmptyWord = (p : Problem) → outlook_of p [] ≡ outlook_start

-- .. and of a word with one mark more.
abbrev pub OutlooksByMark : Type 0
OutlooksByMark = (p : Problem) (w : List Mark) (a : Mark)
    → outlook_of p (w ++ a ∷ []) ≡ outlook_after (outlook_of p w) a
