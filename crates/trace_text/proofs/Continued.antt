-- Lines that a trace begins with: some trace goes on behind them, and where the next line fits none does.
use Rattle.std.proofs.Common.{◌≡◌, ◌⊎◌, ℕ, suc, ◌+◌, ◌-◌, ◌^◌, ◌<◌, ◌≤◌, Bool, true, List, [], ◌∷◌, ◌++◌, length, map, inl, inr, zero, refl, sym, ap, subst, ◌∙◌, append_assoc, append-nil, length-append, arith}
use Rattle.std.specs.Prelude.{◌&&◌}
use Rattle.std.specs.List.{list_all}
use Rattle.std.proofs.lemmas.Bool.{and_parts}
use Rattle.std.proofs.lemmas.List.{length-map, map-append}
use Rattle.std.proofs.lemmas.Bool.Decides.{nat_tests}
use Rattle.tp_spec.specs.declared.event.Event.{Event}
use Rattle.tp_spec.specs.declared.event.Event.TheVariants.{Exhaust}
use Rattle.tp_spec.specs.Lists.{BeginsWith}
use Rattle.line_text.specs.Lines.{is_line, joined, are_lines}
use Rattle.line_text.specs.FirstFault.{Tells, SomeBegins, NoneBegins}
use Rattle.line_text.proofs.Joined.{joined_more, lines_more}
use Rattle.line_text.proofs.Told.{ended, refused, at_number}
use Rattle.trace_text.specs.Traces.{event_line, header_line, trace_text}
use Rattle.trace_text.specs.Grammar.{is_wide, fits_event, IsTraceable, IsTrace}
use Rattle.trace_text.specs.Cuts.{IsRead, NoneRead}
use Rattle.trace_text.specs.Begun.{BeginsTrace}
use Rattle.trace_text.proofs.Listing.{all_more}
use Rattle.trace_text.proofs.TraceLines.{rows, trace_joined, rows_are_lines, joined_append, longer, no_more}

wide_of : (n : ℕ) → n < 2 ^ 64 → is_wide n ≡ true
wide_of n h = grind (arith, nat_tests)

below_of : (n : ℕ) → is_wide n ≡ true → n < 2 ^ 64
below_of n h = grind (arith, nat_tests)

-- ---- lists

all_append : (xs ys : List Event) → list_all fits_event xs ≡ true → list_all fits_event ys ≡ true → list_all fits_event (xs ++ ys) ≡ true
all_append [] ys hx hy = hy
all_append (x ∷ xs) ys hx hy =
    let w = and_parts (fits_event x) (list_all fits_event xs) hx in
    ap (λ (b : Bool). b && list_all fits_event (xs ++ ys)) w.0 ∙ all_append xs ys w.1 hy

-- events that may always come
abbrev pad : ℕ → List Event
pad zero = []
pad (suc n) = Exhaust ∷ pad n

pad_length : (n : ℕ) → length (pad n) ≡ n
pad_length zero = refl
pad_length (suc n) = ap suc (pad_length n)

pad_fits : (n : ℕ) → list_all fits_event (pad n) ≡ true
unfolding fits_event
pad_fits zero = refl
pad_fits (suc n) = pad_fits n

abbrev head_row : List (List ℕ) → List ℕ
head_row [] = []
head_row (x ∷ xs) = x

abbrev tail_rows : List (List ℕ) → List (List ℕ)
tail_rows [] = []
tail_rows (x ∷ xs) = xs

-- a line among those of events is the line of one
pub record OneOf (line : List ℕ) : Type 0 where
  pub event : Event
  pub fits : fits_event event ≡ true
  pub is : line ≡ event_line event

found : (es : List Event) (front : List (List ℕ)) (line : List ℕ) (more : List (List ℕ)) → list_all fits_event es ≡ true
    → map event_line es ≡ (front ++ line ∷ []) ++ more → OneOf line
found [] [] line more h e = absurd (cc)
found [] (x ∷ front) line more h e = absurd (cc)
found (y ∷ es) [] line more h e =
    let w = and_parts (fits_event y) (list_all fits_event es) h in
    record { event = y; fits = w.0; is = sym (ap head_row e) }
found (y ∷ es) (x ∷ front) line more h e =
    let w = and_parts (fits_event y) (list_all fits_event es) h in
    found es front line more w.1 (ap tail_rows e)

-- an event whose line is that of no other
abbrev pub IsOnly : Event → Type 0
IsOnly e = (y : Event) → fits_event y ≡ true → event_line e ≡ event_line y → y ≡ e

abbrev pub EachOnly : List Event → Type 0
EachOnly [] = Unit {0}
EachOnly (e ∷ es) = IsOnly e × EachOnly es

each_more : (es : List Event) (e : Event) → EachOnly es → IsOnly e → EachOnly (es ++ e ∷ [])
each_more [] e each only = (only, tt)
each_more (x ∷ es) e each only = (each.0, each_more es e each.1 only)

same_events : (es hs : List Event) → EachOnly es → list_all fits_event hs ≡ true → map event_line es ≡ map event_line hs → es ≡ hs
same_events [] [] each h e = refl
same_events [] (y ∷ hs) each h e = absurd (cc)
same_events (x ∷ es) [] each h e = absurd (cc)
same_events (x ∷ es) (y ∷ hs) each h e =
    let w = and_parts (fits_event y) (list_all fits_event hs) h in
    let first : y ≡ x = each.0 y w.0 (ap head_row e) in
    let more = same_events es hs each.1 w.1 (ap tail_rows e) in
    (λ i. sym first i ∷ more i)

-- ---- what was read so far

pub record Goes (text : List ℕ) (count left : ℕ) (events : List Event) (rest : List ℕ) : Type 0 where
  pub parts : text ≡ joined (rows count events) ++ rest
  pub fits : list_all fits_event events ≡ true
  pub total : length events + left ≡ count
  pub each : EachOnly events

pub at_first : (text : List ℕ) (count : ℕ) (behind : List ℕ) → BeginsTrace text count behind → Goes text count count [] behind
at_first text count behind b = record {
  parts = b.parts ∙ ap (λ (l : List ℕ). l ++ 10 ∷ behind) b.read.is ∙ sym (append_assoc (header_line count) (10 ∷ []) behind);
  fits = refl;
  total = omega arith;
  each = tt;
}

rows_more : (count : ℕ) (events : List Event) (e : Event) → rows count (events ++ e ∷ []) ≡ rows count events ++ event_line e ∷ []
rows_more count events e = ap (λ (l : List (List ℕ)). header_line count ∷ l) (map-append event_line events (e ∷ []))

text_more : (taken : List (List ℕ)) (text rest line back : List ℕ) → text ≡ joined taken ++ rest → rest ≡ line ++ 10 ∷ back → text ≡ joined (taken ++ line ∷ []) ++ back
text_more taken text rest line back parts cut =
    parts ∙ ap (λ (y : List ℕ). joined taken ++ y) cut
    ∙ sym (ap (λ (y : List ℕ). y ++ back) (joined_more taken line) ∙ append_assoc (joined taken) (line ++ 10 ∷ []) back ∙ ap (λ (y : List ℕ). joined taken ++ y) (append_assoc line (10 ∷ []) back))

-- a history whose trace begins with one line more
record Next (count : ℕ) (events : List Event) (line : List ℕ) : Type 0 where
  pub history : List Event
  pub traceable : IsTraceable history
  pub more : List (List ℕ)
  pub lines : rows (length history) history ≡ (rows count events ++ line ∷ []) ++ more

-- a history that has these lines and no rest
record Same (count : ℕ) (events history : List Event) (rest : List ℕ) : Type 0 where
  pub empty : rest ≡ []
  pub lines : rows (length history) history ≡ rows count events

pub one_less : (n : ℕ) → (n ≡ 0 → ⊥) → n - 1 + 1 ≡ n
one_less zero h = absurd (h refl)
one_less (suc n) h = omega arith

pub counted_more : (events : List Event) (e : Event) (number : ℕ) → number ≡ length events + 2 → number + 1 ≡ length (events ++ e ∷ []) + 2
counted_more events e number at = let a = length-append events (e ∷ []) in omega (arith, a, at)

-- what is left is shorter
pub few_more : (n most : ℕ) (rest line back : List ℕ) → rest ≡ line ++ 10 ∷ back → n + length rest ≤ most → n + 1 + length back ≤ most
few_more n most rest line back cut few =
    let a = ap length cut in
    let b = length-append line (10 ∷ back) in
    omega (arith, a, b, few)

wide_length : (h : List Event) → IsTraceable h → is_wide (length h) ≡ true
wide_length h t = wide_of (length h) t.few

module _ (text : List ℕ) (count : ℕ) (behind : List ℕ) (begun : BeginsTrace text count behind) (left : ℕ) (events : List Event) (rest : List ℕ) (goes : Goes text count left events rest) where
  few : count < 2 ^ 64
  few = below_of count begun.read.may_be

  pub one_more : (line back : List ℕ) (e : Event) (less : ℕ) → rest ≡ line ++ 10 ∷ back → IsRead event_line fits_event line e → less + 1 ≡ left
      → Goes text count less (events ++ e ∷ []) back
  one_more line back e less cut read is = record {
    parts = text_more (rows count events) text rest line back goes.parts cut
        ∙ ap (λ (l : List ℕ). joined (rows count events ++ l ∷ []) ++ back) read.is ∙ ap (λ (l : List (List ℕ)). joined l ++ back) (sym (rows_more count events e));
    fits = all_more fits_event events e goes.fits read.may_be;
    total = (let a = length-append events (e ∷ []) in let t = goes.total in omega (arith, a, t, is));
    each = each_more events e goes.each (λ y may same. read.only y may (read.is ∙ same));
  }

  are : are_lines (rows count events) ≡ true
  are = rows_are_lines count events few goes.fits

  -- some trace goes on
  some : SomeBegins IsTrace (rows count events)
  some =
      let full : List Event = events ++ pad left in
      let long : length full ≡ count = length-append events (pad left) ∙ ap (λ (n : ℕ). length events + n) (pad_length left) ∙ goes.total in (
        trace_text full,
        (
          full,
          record { few = subst (λ (n : ℕ). n < 2 ^ 64) (sym long) few; fits = all_append events (pad left) goes.fits (pad_fits left) },
          refl,
        ),
        record {
          rest = joined (map event_line (pad left));
          is = trace_joined full ∙ ap (λ (n : ℕ). joined (rows n full)) long
              ∙ ap (λ (l : List (List ℕ)). joined (header_line count ∷ l)) (map-append event_line events (pad left))
              ∙ joined_append (rows count events) (map event_line (pad left));
        },
      )

  next_of : (line whole : List ℕ) → is_line line ≡ true → IsTrace whole → BeginsWith whole (joined (rows count events ++ line ∷ [])) → Next count events line
  next_of line whole is w b =
      let m = longer (rows (length w.0) w.0) (rows count events ++ line ∷ []) b.rest
      (rows_are_lines (length w.0) w.0 w.1.few w.1.fits) (lines_more (rows count events) line are is) (sym (trace_joined w.0) ∙ sym w.2 ∙ b.is) in
      record { history = w.0; traceable = w.1; more = m.more; lines = m.parts }

  same_count : (line : List ℕ) (n : Next count events line) → length n.history ≡ count
  same_count line n = begun.read.only (length n.history) (wide_length n.history n.traceable) (begun.read.is ∙ sym (ap head_row n.lines))

  next_rows : (line : List ℕ) (n : Next count events line) → map event_line n.history ≡ (map event_line events ++ line ∷ []) ++ n.more
  next_rows line n = ap tail_rows n.lines

  none_at_end : left ≡ 0 → (line : List ℕ) → Next count events line → ⊥
  none_at_end end line n =
      let a = ap length (next_rows line n) in
      let b = length-map n.history event_line in
      let c = same_count line n in
      let d = length-append (map event_line events ++ line ∷ []) n.more in
      let f = length-append (map event_line events) (line ∷ []) in
      let g = length-map events event_line in
      let t = goes.total in
      omega (arith, a, b, c, d, f, g, t, end)

  none_of_line : (line : List ℕ) → NoneRead event_line fits_event line → Next count events line → ⊥
  none_of_line line none n =
      let one = found n.history (map event_line events) line n.more n.traceable.fits (next_rows line n) in
      none one.event one.fits one.is

  -- the next line is in no trace
  module _ (line back : List ℕ) (cut : rest ≡ line ++ 10 ∷ back) (is : is_line line ≡ true) (bad : (left ≡ 0) ⊎ NoneRead event_line fits_event line) where
    no_next : Next count events line → ⊥
    no_next n = by_cause bad n where
      by_cause : (left ≡ 0) ⊎ NoneRead event_line fits_event line → Next count events line → ⊥
      by_cause (inl end) n = none_at_end end line n
      by_cause (inr none) n = none_of_line line none n

    none_begins : NoneBegins IsTrace (rows count events ++ line ∷ [])
    none_begins = λ whole w b. no_next (next_of line whole is w b)

    pub refused_there : (number : ℕ) → number ≡ length events + 2 → Tells IsTrace number text
    refused_there number at =
        at_number IsTrace (length (rows count events)) number text
        (refused IsTrace (rows count events) rest text are goes.parts some line back cut is none_begins)
        (let a = length-map events event_line in omega (arith, a, at))

    pub refused_only : (history : List Event) → IsTraceable history → text ≡ trace_text history → ⊥
    refused_only history t e =
        none_begins text (history, t, e) (record { rest = back; is = text_more (rows count events) text rest line back goes.parts cut })

  -- no line is left
  module _ (last : is_line rest ≡ true) where
    pub ended_there : (number : ℕ) → number ≡ length events + 2 → Tells IsTrace number text
    ended_there number at =
        at_number IsTrace (length (rows count events)) number text
        (ended IsTrace (rows count events) rest text are goes.parts some last)
        (let a = length-map events event_line in omega (arith, a, at))

    same_of : (history : List Event) → IsTraceable history → text ≡ trace_text history → Same count events history rest
    same_of history t e =
        let m = longer (rows (length history) history) (rows count events) rest
        (rows_are_lines (length history) history t.few t.fits) are (sym (trace_joined history) ∙ sym e ∙ goes.parts) in
        let none = no_more m.more rest last m.is in
        record { empty = m.is ∙ ap joined none; lines = m.parts ∙ ap (λ (l : List (List ℕ)). rows count events ++ l) none ∙ append-nil (rows count events) }

    none_to_come : (history : List Event) → IsTraceable history → text ≡ trace_text history → left ≡ 0
    none_to_come history t e =
        let same = same_of history t e in
        let a = begun.read.only (length history) (wide_length history t) (begun.read.is ∙ sym (ap head_row same.lines)) in
        let b = ap length (ap tail_rows same.lines) in
        let c = length-map history event_line in
        let d = length-map events event_line in
        let f = goes.total in
        omega (arith, a, b, c, d, f)

    pub ended_only : ((rest ≡ []) → (left ≡ 0) → ⊥) → (history : List Event) → IsTraceable history → text ≡ trace_text history → ⊥
    ended_only unfinished history t e = unfinished (same_of history t e).empty (none_to_come history t e)

    pub read_only : (history : List Event) → IsTraceable history → text ≡ trace_text history → events ≡ history
    read_only history t e = same_events events history goes.each t.fits (sym (ap tail_rows (same_of history t e).lines))

  -- nothing is left
  module _ (empty : rest ≡ []) (end : left ≡ 0) where
    long : length events ≡ count
    long = (let t = goes.total in omega (arith, t, end))

    pub read_whole : text ≡ trace_text events
    read_whole =
        goes.parts ∙ ap (λ (l : List ℕ). joined (rows count events) ++ l) empty ∙ append-nil (joined (rows count events))
        ∙ ap (λ (n : ℕ). joined (rows n events)) (sym long) ∙ sym (trace_joined events)

    pub read_traceable : IsTraceable events
    read_traceable = record { few = subst (λ (n : ℕ). n < 2 ^ 64) (sym long) few; fits = goes.fits }

-- ---- the first line

none_taken : SomeBegins IsTrace []
none_taken =
    (trace_text [], ([], record { few = omega arith; fits = refl }, refl), record { rest = trace_text []; is = refl })

module _ (text : List ℕ) (last : is_line text ≡ true) where
  pub no_first : Tells IsTrace 1 text
  no_first = at_number IsTrace 0 1 text (ended IsTrace [] text text refl refl none_taken last) refl

  pub no_first_only : (history : List Event) → IsTraceable history → text ≡ trace_text history → ⊥
  no_first_only history t e = let none = no_more (rows (length history) history) text last (e ∙ trace_joined history) in absurd (cc)

module _ (text line back : List ℕ) (cut : text ≡ line ++ 10 ∷ back) (is : is_line line ≡ true) (none : NoneRead header_line is_wide line) where
  none_first : NoneBegins IsTrace (line ∷ [])
  none_first = λ whole w b.
      let m = longer (rows (length w.0) w.0) (line ∷ []) b.rest (rows_are_lines (length w.0) w.0 w.1.few w.1.fits) (ap (λ (b : Bool). b && true) is)
      (sym (trace_joined w.0) ∙ sym w.2 ∙ b.is) in
      none (length w.0) (wide_length w.0 w.1) (sym (ap head_row m.parts))

  pub bad_first : Tells IsTrace 1 text
  bad_first = at_number IsTrace 0 1 text (refused IsTrace [] text text refl refl none_taken line back cut is none_first) refl

  pub bad_first_only : (history : List Event) → IsTraceable history → text ≡ trace_text history → ⊥
  bad_first_only history t e = none_first text (history, t, e) (record { rest = back; is = text_more [] text text line back refl cut })
