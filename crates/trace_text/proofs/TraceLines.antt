-- A trace as lines: none of them has a line feed inside, and each text has one row of lines.
use Rattle.std.proofs.Common.{◌≡◌, ℕ, ◌^◌, ◌<◌, Bool, true, false, not, List, [], ◌∷◌, ◌++◌, length, map, refl, sym, ap, ◌∙◌, append_assoc, length-append, arith}
use Rattle.std.specs.Prelude.{◌&&◌, ◌==◌, codes, decimal}
use Rattle.std.specs.List.{list_all}
use Rattle.std.proofs.lemmas.Bool.{and_parts, false≢true}
use Rattle.std.proofs.lemmas.Bool.Decides.{nat_tests}
use Rattle.tp_spec.specs.declared.event.Cause.TheVariants.{Out, Script, Memory}
use Rattle.tp_spec.specs.declared.event.Event.{Event}
use Rattle.tp_spec.specs.declared.event.Event.TheVariants.{Tick, Drop, Dispatch, Take, Expand, Publish, Limit, Exhaust, Halt}
use Rattle.tp_spec.specs.declared.plan.Item.{Item}
use Rattle.tp_spec.specs.declared.plan.Item.TheVariants.{TimedAt, End, Start}
use Rattle.tp_spec.specs.declared.plan.Mark.{Mark}
use Rattle.tp_spec.specs.declared.plan.Timed.{Timed}
use Rattle.line_text.specs.Lines.{is_line, joined, are_lines}
use Rattle.line_text.specs.Numbers.{is_digit}
use Rattle.trace_text.specs.Traces.{field, listed, mark_text, act_text, event_line, event_lines, header_line, trace_text}
use Rattle.trace_text.specs.Grammar.{is_narrow, is_wide, index_of, fits_mark, fits_act, fits_event}
use Rattle.trace_text.specs.Cuts.{spaced}
use Rattle.trace_text.proofs.Numerals.{digits_alone}

-- ---- no line feed

line_more : (xs ys : List ℕ) → is_line xs ≡ true → is_line ys ≡ true → is_line (xs ++ ys) ≡ true
line_more [] ys hx hy = hy
line_more (x ∷ xs) ys hx hy =
    let w = and_parts (not (x == 10)) (is_line xs) hx in
    ap (λ (b : Bool). b && is_line (xs ++ ys)) w.0 ∙ line_more xs ys w.1 hy

digit_plain : (c : ℕ) → is_digit c ≡ true → not (c == 10) ≡ true
digit_plain c h = grind (arith, nat_tests)

digits_plain : (xs : List ℕ) → list_all is_digit xs ≡ true → is_line xs ≡ true
digits_plain [] h = refl
digits_plain (x ∷ xs) h =
    let w = and_parts (is_digit x) (list_all is_digit xs) h in
    ap (λ (b : Bool). b && is_line xs) (digit_plain x w.0) ∙ digits_plain xs w.1

narrow_below : (n : ℕ) → is_narrow n ≡ true → n < 2 ^ 64
narrow_below n h = grind (arith, nat_tests)

wide_below : (n : ℕ) → is_wide n ≡ true → n < 2 ^ 64
wide_below n h = grind (arith, nat_tests)

number_line : (n : ℕ) → n < 2 ^ 64 → is_line (decimal n) ≡ true
number_line n fits = digits_plain (decimal n) (digits_alone n fits)

field_line : (n : ℕ) → n < 2 ^ 64 → is_line (field n) ≡ true
unfolding field
field_line n fits = number_line n fits

narrow_line : (n : ℕ) → is_narrow n ≡ true → is_line (field n) ≡ true
narrow_line n h = field_line n (narrow_below n h)

wide_line : (n : ℕ) → is_wide n ≡ true → is_line (field n) ≡ true
wide_line n h = field_line n (wide_below n h)

listed_line : {A : Type 0} (written : A → List ℕ) (may : A → Bool) → ((x : A) → may x ≡ true → is_line (written x) ≡ true)
    → (xs : List A) → list_all may xs ≡ true → is_line (listed written xs) ≡ true
unfolding listed
listed_line written may each [] h = refl
listed_line written may each (x ∷ xs) h =
    let w = and_parts (may x) (list_all may xs) h in
    line_more (spaced written x) (listed written xs) (each x w.0) (listed_line written may each xs w.1)

mark_line_by : (fresh : Bool) (item : Item) → is_narrow (index_of item) ≡ true → is_line (mark_text (record { fresh = fresh; item = item })) ≡ true
unfolding mark_text
mark_line_by true (TimedAt k) h = number_line k (narrow_below k h)
mark_line_by true (End k) h = number_line k (narrow_below k h)
mark_line_by true (Start k) h = number_line k (narrow_below k h)
mark_line_by false (TimedAt k) h = number_line k (narrow_below k h)
mark_line_by false (End k) h = number_line k (narrow_below k h)
mark_line_by false (Start k) h = number_line k (narrow_below k h)

mark_line : (m : Mark) → fits_mark m ≡ true → is_line (mark_text m) ≡ true
mark_line m h = mark_line_by m.fresh m.item h

act_line : (x : Timed) → fits_act x ≡ true → is_line (act_text x) ≡ true
unfolding act_text
act_line x h =
    let w = and_parts (is_narrow x.action) (is_wide x.start && is_wide x.length) h in
    let v = and_parts (is_wide x.start) (is_wide x.length) w.1 in
    let action = number_line x.action (narrow_below x.action w.0) in
    let start = number_line x.start (wide_below x.start v.0) in
    let length = number_line x.length (wide_below x.length v.1) in
    line_more (decimal x.action ++ codes ":" ++ decimal x.start ++ codes ":") (decimal x.length)
    (line_more (decimal x.action ++ codes ":" ++ decimal x.start) (codes ":")
    (line_more (decimal x.action ++ codes ":") (decimal x.start) (line_more (decimal x.action) (codes ":") action refl) start) refl) length

pair_line : (a b : ℕ) → (is_narrow a && is_narrow b) ≡ true → is_line (field a ++ field b) ≡ true
pair_line a b h =
    let w = and_parts (is_narrow a) (is_narrow b) h in
    line_more (field a) (field b) (narrow_line a w.0) (narrow_line b w.1)

-- the line of an event
pub event_is_line : (e : Event) → fits_event e ≡ true → is_line (event_line e) ≡ true
unfolding event_line fits_event
event_is_line (Tick actor reading) h =
    let w = and_parts (is_narrow actor) (is_wide reading) h in
    line_more (field actor) (field reading) (narrow_line actor w.0) (wide_line reading w.1)
event_is_line (Take actor id) h =
    let w = and_parts (is_narrow actor) (is_narrow id) h in
    line_more (field actor) (field id) (narrow_line actor w.0) (narrow_line id w.1)
event_is_line (Expand actor id marks) h =
    let w = and_parts (is_narrow actor && is_narrow id) (list_all fits_mark marks) h in
    line_more (field actor ++ field id) (listed mark_text marks) (pair_line actor id w.0) (listed_line mark_text fits_mark mark_line marks w.1)
event_is_line (Drop id) h = narrow_line id h
event_is_line (Dispatch act) h =
    let w = and_parts (is_narrow act.action) (is_wide act.start && is_wide act.length) h in
    let v = and_parts (is_wide act.start) (is_wide act.length) w.1 in
    line_more (field act.action ++ field act.start) (field act.length)
    (line_more (field act.action) (field act.start) (narrow_line act.action w.0) (wide_line act.start v.0)) (wide_line act.length v.1)
event_is_line (Publish actor id plan) h =
    let w = and_parts (is_narrow actor && is_narrow id) (is_wide plan.end && list_all fits_act plan.acts) h in
    let v = and_parts (is_wide plan.end) (list_all fits_act plan.acts) w.1 in
    line_more (field actor ++ field id ++ field plan.end) (listed act_text plan.acts)
    (line_more (field actor ++ field id) (field plan.end) (pair_line actor id w.0) (wide_line plan.end v.0)) (listed_line act_text fits_act act_line plan.acts v.1)
event_is_line Exhaust h = refl
event_is_line (Limit actor id made marks) h =
    let w = and_parts (is_narrow actor && is_narrow id) (is_narrow made && is_narrow marks) h in
    let v = and_parts (is_narrow made) (is_narrow marks) w.1 in
    line_more (field actor ++ field id ++ field made) (field marks)
    (line_more (field actor ++ field id) (field made) (pair_line actor id w.0) (narrow_line made v.0)) (narrow_line marks v.1)
event_is_line (Halt Out) h = refl
event_is_line (Halt Script) h = refl
event_is_line (Halt Memory) h = refl

header_is_line : (count : ℕ) → count < 2 ^ 64 → is_line (header_line count) ≡ true
unfolding header_line
header_is_line count few = line_more (field 1) (field count) (field_line 1 (omega arith)) (field_line count few)

events_are_lines : (events : List Event) → list_all fits_event events ≡ true → are_lines (map event_line events) ≡ true
events_are_lines [] h = refl
events_are_lines (e ∷ es) h =
    let w = and_parts (fits_event e) (list_all fits_event es) h in
    ap (λ (b : Bool). b && are_lines (map event_line es)) (event_is_line e w.0) ∙ events_are_lines es w.1

-- ---- the lines of a trace

-- a first line with this count, and the lines of events
abbrev pub rows : ℕ → List Event → List (List ℕ)
rows count events = header_line count ∷ map event_line events

events_joined : (events : List Event) → event_lines events ≡ joined (map event_line events)
unfolding event_lines
events_joined [] = refl
events_joined (e ∷ es) =
    append_assoc (event_line e) (codes "\n") (event_lines es)
    ∙ ap (λ (l : List ℕ). event_line e ++ 10 ∷ l) (events_joined es)

pub trace_joined : (history : List Event) → trace_text history ≡ joined (rows (length history) history)
unfolding trace_text
trace_joined history =
    append_assoc (header_line (length history)) (codes "\n") (event_lines history)
    ∙ ap (λ (l : List ℕ). header_line (length history) ++ 10 ∷ l) (events_joined history)

pub rows_are_lines : (count : ℕ) (events : List Event) → count < 2 ^ 64 → list_all fits_event events ≡ true → are_lines (rows count events) ≡ true
rows_are_lines count events few fits = ap (λ (b : Bool). b && are_lines (map event_line events)) (header_is_line count few) ∙ events_are_lines events fits

-- ---- one row of lines for each text

pub joined_append : (xs ys : List (List ℕ)) → joined (xs ++ ys) ≡ joined xs ++ joined ys
joined_append [] ys = refl
joined_append (x ∷ xs) ys =
    ap (λ (l : List ℕ). x ++ 10 ∷ l) (joined_append xs ys) ∙ sym (append_assoc x (10 ∷ joined xs) (joined ys))

abbrev head_of : List ℕ → ℕ
head_of [] = 0
head_of (x ∷ xs) = x

abbrev tail_of : List ℕ → List ℕ
tail_of [] = []
tail_of (x ∷ xs) = xs

ten_is : (x : ℕ) → x ≡ 10 → not (x == 10) ≡ false
ten_is x e = ap (λ (n : ℕ). not (n == 10)) e

same_line : (x y back rest : List ℕ) → is_line x ≡ true → is_line y ≡ true → x ++ 10 ∷ back ≡ y ++ 10 ∷ rest → (x ≡ y) × (back ≡ rest)
same_line [] [] back rest hx hy e = (refl, ap tail_of e)
same_line [] (b ∷ y) back rest hx hy e =
    let w = and_parts (not (b == 10)) (is_line y) hy in
    absurd (false≢true (sym (ten_is b (sym (ap head_of e))) ∙ w.0))
same_line (a ∷ x) [] back rest hx hy e =
    let w = and_parts (not (a == 10)) (is_line x) hx in
    absurd (false≢true (sym (ten_is a (ap head_of e)) ∙ w.0))
same_line (a ∷ x) (b ∷ y) back rest hx hy e =
    let w = and_parts (not (a == 10)) (is_line x) hx in
    let v = and_parts (not (b == 10)) (is_line y) hy in
    let head : a ≡ b = ap head_of e in
    let more = same_line x y back rest w.1 v.1 (ap tail_of e) in
    ((λ i. head i ∷ more.0 i), more.1)

-- the lines of a text that begins with lines
pub record Longer (xs ys : List (List ℕ)) (rest : List ℕ) : Type 0 where
  pub more : List (List ℕ)
  pub parts : xs ≡ ys ++ more
  pub is : rest ≡ joined more

none_is : (l : List ℕ) (rest : List ℕ) → [] ≡ l ++ 10 ∷ rest → ⊥
none_is l rest e =
    let a : 0 ≡ length (l ++ 10 ∷ rest) = ap length e in
    let b = length-append l (10 ∷ rest) in
    absurd (omega (arith, a, b))

pub longer : (xs ys : List (List ℕ)) (rest : List ℕ) → are_lines xs ≡ true → are_lines ys ≡ true → joined xs ≡ joined ys ++ rest → Longer xs ys rest
longer xs [] rest hx hy e = record { more = xs; parts = refl; is = sym e }
longer [] (y ∷ ys) rest hx hy e = absurd (none_is y (joined ys ++ rest) (e ∙ append_assoc y (10 ∷ joined ys) rest))
longer (x ∷ xs) (y ∷ ys) rest hx hy e =
    let w = and_parts (is_line x) (are_lines xs) hx in
    let v = and_parts (is_line y) (are_lines ys) hy in
    let same = same_line x y (joined xs) (joined ys ++ rest) w.0 v.0 (e ∙ append_assoc y (10 ∷ joined ys) rest) in
    let m = longer xs ys rest w.1 v.1 same.1 in
    record { more = m.more; parts = λ i. same.0 i ∷ m.parts i; is = m.is }

has_feed : (l back : List ℕ) → is_line (l ++ 10 ∷ back) ≡ true → ⊥
has_feed [] back h = false≢true h
has_feed (c ∷ l) back h = has_feed l back (and_parts (not (c == 10)) (is_line (l ++ 10 ∷ back)) h).1

-- a rest without a line feed is no line more
pub no_more : (more : List (List ℕ)) (rest : List ℕ) → is_line rest ≡ true → rest ≡ joined more → more ≡ []
no_more [] rest h e = refl
no_more (x ∷ xs) rest h e = absurd (has_feed x (joined xs) (ap is_line (sym e) ∙ h))
