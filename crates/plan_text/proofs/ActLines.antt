-- The line of an act is read as that act.
use Rattle.std.proofs.Common.{◌≡◌, ℕ, zero, suc, ◌+◌, ◌^◌, ◌<◌, ◌≤◌, Bool, true, false, not, cond, ◌&&◌, ◌||◌, ◌==◌, nat_eq, nat_lt, List, [], ◌∷◌, ◌++◌, length, position, bytes_eq, slice_get, Option, Some, None, Ok, Err, refl, ap, sym, subst, ◌∙◌, append_assoc, inl, inr, arith}
use Rattle.std.specs.List.{list_all, list_any}
use Rattle.std.specs.Option.{option_map}
use Rattle.std.proofs.lemmas.Bool.{and_from, and_parts, eqb-true, or_cases, ltb-true, lt-ltb, not-true, and_left}
use Rattle.std.proofs.lemmas.Bool.Decides.{nat_tests}
use Rattle.std.proofs.lemmas.List.Folds.{list_all-append}
use Rattle.std.proofs.lemmas.Slice.Eq.{bytes_eq-Decides}
use Rattle.pddl_tokens.specs.Tokens.{is_blank}
use Rattle.tp_spec.specs.Lists.{each_pair, part_of}
use Rattle.tp_spec.specs.Items.{is_durative}
use Rattle.tp_spec.specs.Texts.{tick_text, name_text, act_text}
use Rattle.tp_spec.specs.WellFormed as ground
use Rattle.tp_spec.specs.declared.problem.Action.{Action}
use Rattle.tp_spec.specs.declared.problem.Problem.{Problem}
use Rattle.tp_spec.specs.declared.plan.Timed.{Timed}
use Rattle.plan_text.specs.declared.amount.Amount.TheVariants.{Ticks}
use Rattle.plan_text.specs.declared.fault.Fault.TheVariants.{Shape, TooLarge}
use Rattle.plan_text.specs.Pieces.{is_mark, spaced, plain}
use Rattle.plan_text.specs.Acts.{are_words, closed, length_part, with_length, with_name, with_start, parts_of, amount_of, length_of, action_of, timed, act_from, act_of}
use Rattle.plan_text.specs.Laws.{is_act_of}
use Rattle.plan_text.proofs.Places.{none_pass, position_yes, position_no, cut_seam}
use Rattle.plan_text.proofs.Numerals.{all_imply}
use Rattle.plan_text.proofs.Spells.{is_line_byte, is_tick_byte, IsTickText, IsOneOf, tick_is, tick_line, tick_spaced, tick_amount, spaced_name, line_of_name, name_bytes, name_begins, utf8_line, plain_line}

-- the scales
one_of : (s : ℕ) → (s == 1 || s == 10 || s == 100 || s == 1000) ≡ true → IsOneOf s
one_of s h = elim (or_cases (s == 1 || s == 10 || s == 100) (s == 1000) h) [
  | inl a ↦ elim (or_cases (s == 1 || s == 10) (s == 100) a) [
    | inl b ↦ elim (or_cases (s == 1) (s == 10) b) [ inl c ↦ inl (eqb-true s 1 c) | inr c ↦ inr (inl (eqb-true s 10 c)) ]
    | inr b ↦ inr (inr (inl (eqb-true s 100 b)))
  ]
  | inr a ↦ inr (inr (inr (eqb-true s 1000 a)))
]

pub scale_is : (p : Problem) → ground.IsWellFormed p → IsOneOf p.scale
scale_is p w = one_of p.scale w.scaled

-- names
abbrev pub name_at : List Action → ℕ → List ℕ
name_at actions a = part_of (slice_get actions a) (λ x. x.name)

first_of_seven : (a b c d e f g : Bool) → (a && b && c && d && e && f && g) ≡ true → a ≡ true
first_of_seven true b c d e f g h = refl
first_of_seven false b c d e f g h = absurd (cc)

words_at : (f n : ℕ) (actions : List Action) (a : ℕ) → a < length actions → list_all (ground.is_action f n) actions ≡ true → ground.are_words true (name_at actions a) ≡ true
words_at f n [] a less h = absurd (omega arith)
words_at f n (x ∷ rest) zero less h = first_of_seven (ground.is_name x.name) _ _ _ _ _ _ (and_parts (ground.is_action f n x) (list_all (ground.is_action f n) rest) h).0
words_at f n (x ∷ rest) (suc a) less h = words_at f n rest a (omega arith) (and_parts (ground.is_action f n x) (list_all (ground.is_action f n) rest) h).1

pub name_words : (p : Problem) (a : ℕ) → ground.IsWellFormed p → a < length p.actions → ground.are_words true (name_text p a) ≡ true
name_words p a w less =
    words_at (length p.facts) (length p.fluents) p.actions a less (and_parts _ (list_all (ground.is_action (length p.facts) (length p.fluents)) p.actions) w.acting).1

same_name : (name : List ℕ) → bytes_eq name name ≡ true
same_name name = (bytes_eq-Decides name name).1 refl

apart_at : (name : List ℕ) (actions : List Action) (a : ℕ) → a < length actions → list_all (λ b. not (bytes_eq name b.name)) actions ≡ true → bytes_eq name (name_at actions a) ≡ false
apart_at name [] a less h = absurd (omega arith)
apart_at name (x ∷ rest) zero less h = not-true _ (and_parts (not (bytes_eq name x.name)) (list_all (λ b. not (bytes_eq name b.name)) rest) h).0
apart_at name (x ∷ rest) (suc a) less h = apart_at name rest a (omega arith) (and_parts (not (bytes_eq name x.name)) (list_all (λ b. not (bytes_eq name b.name)) rest) h).1

found_at : (actions : List Action) (a : ℕ) → a < length actions → each_pair (λ a b. not (bytes_eq a.name b.name)) actions ≡ true
    → position (λ x. bytes_eq x.name (name_at actions a)) actions ≡ Some a
found_at [] a less h = absurd (omega arith)
found_at (x ∷ rest) zero less h = position_yes (λ y. bytes_eq y.name x.name) x rest (same_name x.name)
found_at (x ∷ rest) (suc a) less h =
    let w = and_parts (list_all (λ b. not (bytes_eq x.name b.name)) rest) (each_pair (λ a b. not (bytes_eq a.name b.name)) rest) h in
    position_no (λ y. bytes_eq y.name (name_at rest a)) x rest (apart_at x.name rest a (omega arith) w.0)
    ∙ ap (option_map suc) (found_at rest a (omega arith) w.1)

pub action_found : (p : Problem) (a : ℕ) → ground.IsWellFormed p → a < length p.actions → action_of p (name_text p a) ≡ Some a
action_found p a w less = found_at p.actions a less w.told_apart

-- the parts of an act's line
no_colon : (b : ℕ) → is_tick_byte b ≡ true → not (is_mark 58 b) ≡ true
no_colon b h = grind (arith, nat_tests)

no_bracket : (b : ℕ) → is_tick_byte b ≡ true → not (is_mark 93 b) ≡ true
no_bracket b h = grind (arith, nat_tests)

no_close : (b : ℕ) → ground.is_name_byte b ≡ true → not (is_mark 41 b) ≡ true
no_close b h = grind (arith, nat_tests)

no_open : (b : ℕ) → ground.is_name_byte b ≡ true → not (is_mark 40 b) ≡ true
no_open b h = grind (arith, nat_tests)

none_is : (test : ℕ → Bool) (xs : List ℕ) → none_pass test xs ≡ true → list_any test xs ≡ false
none_is test [] h = refl
none_is test (x ∷ rest) h =
    let w = and_parts (not (test x)) (none_pass test rest) h in
    ap (λ (b : Bool). b || list_any test rest) (not-true (test x) w.0) ∙ none_is test rest w.1

begins : (name : List ℕ) → ground.are_words true name ≡ true → list_all is_blank name ≡ false
begins [] h = absurd (cc)
begins (b ∷ rest) h = and_left (is_blank b) (list_all is_blank rest) (name_begins b rest h)

words_are : (name : List ℕ) → ground.are_words true name ≡ true → are_words name ≡ true
words_are name h =
    let inside = none_is (is_mark 40) name (name_bytes (λ b. not (is_mark 40 b)) no_open refl true name h) in
    and_from _ _ (ap not inside) (ap not (begins name h))

-- what stands behind the name of an act: its length, where it is durative
abbrev pub tail_text : Bool → List ℕ → List ℕ
tail_text durative l = cond durative (32 ∷ 91 ∷ (l ++ 93 ∷ [])) []

pub record IsTail (scale n : ℕ) (text : List ℕ) : Type 0 where
  pub length : Option (List ℕ)
  pub part : length_part text ≡ Some length
  pub amount : length_of scale length ≡ Ok (Ticks n)
  pub bytes : list_all is_line_byte text ≡ true

tail_is : (d : Bool) (scale n : ℕ) (l : List ℕ) → IsTickText scale n l → (d || nat_eq n 0) ≡ true → IsTail scale n (tail_text d l)
tail_is true scale n l k h = record {
  length = Some l;
  part = ap closed (cut_seam 93 l [] (all_imply is_tick_byte (λ b. not (is_mark 93 b)) no_bracket l k.bytes) refl);
  amount = ap (amount_of scale) (tick_spaced scale n l k) ∙ tick_amount scale n l k;
  bytes = list_all-append is_line_byte l (93 ∷ []) ∙ and_from _ _ (tick_line scale n l k) refl;
}
tail_is false scale n l k h = record {
  length = None;
  part = refl;
  amount = ap (λ (m : ℕ). Ok (Ticks m)) (sym (eqb-true n 0 h));
  bytes = refl;
}

abbrev pub line_text : List ℕ → List ℕ → List ℕ → List ℕ
line_text tick name tail = tick ++ 58 ∷ 32 ∷ 40 ∷ (name ++ 41 ∷ tail)

parts_line : (tick name tail : List ℕ) (l : Option (List ℕ)) → none_pass (is_mark 58) tick ≡ true → none_pass (is_mark 41) name ≡ true
    → are_words name ≡ true → length_part tail ≡ Some l → parts_of (line_text tick name tail) ≡ Some (record { start = tick; name = name; length = l })
parts_line tick name tail l t n w e =
    ap with_start (cut_seam 58 tick (32 ∷ 40 ∷ (name ++ 41 ∷ tail)) t refl)
    ∙ (ap (with_name tick) (cut_seam 41 name tail n refl)
    ∙ (ap (λ (b : Bool). cond b (with_length tick name (length_part tail)) None) w
    ∙ ap (with_length tick name) e))

line_bytes : (tick name tail : List ℕ) → list_all is_line_byte tick ≡ true → list_all is_line_byte name ≡ true → list_all is_line_byte tail ≡ true → list_all is_line_byte (line_text tick name tail) ≡ true
line_bytes tick name tail a b c =
    let behind : list_all is_line_byte (name ++ 41 ∷ tail) ≡ true = list_all-append is_line_byte name (41 ∷ tail) ∙ and_from _ _ b c in
    list_all-append is_line_byte tick (58 ∷ 32 ∷ 40 ∷ (name ++ 41 ∷ tail)) ∙ and_from _ _ a behind

-- what is said of the line of an act
pub record IsActLine (p : Problem) (x : Timed) (text : List ℕ) : Type 0 where
  pub act : act_of p text ≡ Ok x
  pub bytes : list_all is_line_byte text ≡ true
  pub shown : list_all is_blank text ≡ false

shown_tick : (tick rest : List ℕ) → list_all is_tick_byte tick ≡ true → 1 ≤ length tick → list_all is_blank (tick ++ rest) ≡ false
shown_tick [] rest h some = absurd (omega arith)
shown_tick (b ∷ tick) rest h some =
    and_left (is_blank b) (list_all is_blank (tick ++ rest)) (tick_first b (and_parts (is_tick_byte b) (list_all is_tick_byte tick) h).0)
  where
    tick_first : (b : ℕ) → is_tick_byte b ≡ true → is_blank b ≡ false
    tick_first b h = grind (arith, nat_tests)

named_sum : (a start length : ℕ) → start + length < 2 ^ 63 → timed (Some a) (Ok (Ticks start)) (Ok (Ticks length)) ≡ Ok (record { action = a; start = start; length = length })
named_sum a start length h =
    ap (λ (b : Bool). cond b (Ok (record { action = a; start = start; length = length })) (Err TooLarge)) (lt-ltb (start + length) (2 ^ 63) h)

line_act : (p : Problem) (x : Timed) (tick name tail : List ℕ) → IsTickText p.scale x.start tick → ground.are_words true name ≡ true → action_of p name ≡ Some x.action
    → IsTail p.scale x.length tail → x.start + x.length < 2 ^ 63 → IsActLine p x (line_text tick name tail)
line_act p x tick name tail k w found t sum =
    let bytes = line_bytes tick name tail (tick_line p.scale x.start tick k) (line_of_name name w) t.bytes in
    let parts = parts_line tick name tail t.length
    (all_imply is_tick_byte (λ b. not (is_mark 58 b)) no_colon tick k.bytes)
    (name_bytes (λ b. not (is_mark 41 b)) no_close refl true name w)
    (words_are name w) t.part in
    let named : action_of p (spaced name) ≡ Some x.action = ap (action_of p) (spaced_name name w) ∙ found in
    let started : amount_of p.scale (spaced tick) ≡ Ok (Ticks x.start) = ap (amount_of p.scale) (tick_spaced p.scale x.start tick k) ∙ tick_amount p.scale x.start tick k in
    let lasted : length_of p.scale t.length ≡ Ok (Ticks x.length) = t.amount in
    record {
      act =
          ap (λ (b : Bool). cond b (act_from p (parts_of (plain (line_text tick name tail)))) (Err Shape)) (utf8_line (line_text tick name tail) bytes)
          ∙ (ap (λ (l : List ℕ). act_from p (parts_of l)) (plain_line (line_text tick name tail) bytes)
          ∙ (ap (act_from p) parts
          ∙ ((λ i. timed (named i) (started i) (lasted i))
          ∙ named_sum x.action x.start x.length sum)));
      bytes = bytes;
      shown = shown_tick tick (58 ∷ 32 ∷ 40 ∷ (name ++ 41 ∷ tail)) k.bytes k.some;
    }

text_shape : (tick name l : List ℕ) (d : Bool)
    → (((tick ++ 58 ∷ 32 ∷ 40 ∷ []) ++ name) ++ 41 ∷ []) ++ tail_text d l ≡ line_text tick name (tail_text d l)
text_shape tick name l d =
    append_assoc ((tick ++ 58 ∷ 32 ∷ 40 ∷ []) ++ name) (41 ∷ []) (tail_text d l)
    ∙ (append_assoc (tick ++ 58 ∷ 32 ∷ 40 ∷ []) name (41 ∷ tail_text d l)
    ∙ append_assoc tick (58 ∷ 32 ∷ 40 ∷ []) (name ++ 41 ∷ tail_text d l))

-- the printed line of an act is read as that act
pub act_line_is : (p : Problem) (x : Timed) → ground.IsWellFormed p → is_act_of p x ≡ true → IsActLine p x (act_text p x)
act_line_is p x w h =
    let parts = and_parts (nat_lt x.action (length p.actions) && (is_durative p x.action || nat_eq x.length 0)) (nat_lt (x.start + x.length) (2 ^ 63)) h in
    let more = and_parts (nat_lt x.action (length p.actions)) (is_durative p x.action || nat_eq x.length 0) parts.0 in
    let less = ltb-true x.action (length p.actions) more.0 in
    let sum = ltb-true (x.start + x.length) (2 ^ 63) parts.1 in
    let scale = scale_is p w in
    let started = tick_is p.scale x.start scale (omega arith) in
    let lasted = tick_is p.scale x.length scale (omega arith) in
    subst (IsActLine p x) (sym (text_shape (tick_text p.scale x.start) (name_text p x.action) (tick_text p.scale x.length) (is_durative p x.action)))
    (line_act p x (tick_text p.scale x.start) (name_text p x.action) (tail_text (is_durative p x.action) (tick_text p.scale x.length))
    started (name_words p x.action w less) (action_found p x.action w less)
    (tail_is (is_durative p x.action) p.scale x.length (tick_text p.scale x.length) lasted more.1) sum)
