-- The bytes of printed lines, and texts that are read as they stand.
use Rattle.std.proofs.Common.{◌≡◌, ℕ, zero, suc, ◌/◌, ◌^◌, ◌<◌, ◌≤◌, pos, Bool, true, false, not, cond, ◌&&◌, ◌||◌, nat_eq, nat_le, List, [], ◌∷◌, ◌++◌, length, map, get_or, decimal, Ok, refl, ap, sym, subst, ◌∙◌, append-nil, ◌⊎◌, inl, inr, arith}
use Rattle.std.specs.List.{list_all}
use Rattle.std.specs.Char.{is_ascii_digit, to_ascii_lowercase}
use Rattle.std.specs.Str.{is_utf8}
use Rattle.std.proofs.lemmas.Bool.{and_from, and_parts, eqb-true}
use Rattle.std.proofs.lemmas.Bool.Decides.{nat_tests}
use Rattle.std.proofs.lemmas.List.Folds.{list_all-append}
use Rattle.std.proofs.lemmas.List.{length-append}
use Rattle.std.proofs.lemmas.Str.{is_utf8-from_IsUtf8, IsUtf8-from_ascii}
use Rattle.pddl_tokens.specs.Tokens.{is_blank}
use Rattle.pddl_tokens.specs.Numbers.{number_of}
use Rattle.tp_spec.specs.Texts.{tick_text}
use Rattle.tp_spec.specs.WellFormed.{is_name_byte, are_words}
use Rattle.plan_text.specs.declared.amount.Amount.TheVariants.{Ticks}
use Rattle.plan_text.specs.Pieces.{is_mark, spaced_behind, unindented, spaced, uncommented, plain}
use Rattle.plan_text.specs.Acts.{has_minus, amount_from, amount_of}
use Rattle.plan_text.proofs.Ticks.{IsPart, decimal_is, part_ten, part_hundred, part_thousand}
use Rattle.plan_text.proofs.Places.{before_none}
use Rattle.plan_text.proofs.Numerals.{all_imply, number_whole, number_parts}

-- printable ASCII without upper-case letters and the semicolon
abbrev pub is_line_byte : ℕ → Bool
is_line_byte b = nat_le 32 b && nat_le b 126 && not (nat_le 65 b && nat_le b 90) && not (nat_eq b 59)

-- digits and the point
abbrev pub is_tick_byte : ℕ → Bool
is_tick_byte b = is_ascii_digit b || nat_eq b 46

line_tick : (b : ℕ) → is_tick_byte b ≡ true → is_line_byte b ≡ true
line_tick b h = grind (arith, nat_tests)

tick_digit : (b : ℕ) → is_ascii_digit b ≡ true → is_tick_byte b ≡ true
tick_digit b h = grind (arith, nat_tests)

tick_shown : (b : ℕ) → is_tick_byte b ≡ true → not (is_blank b) ≡ true
tick_shown b h = grind (arith, nat_tests)

tick_unsigned : (b : ℕ) → is_tick_byte b ≡ true → nat_eq b 45 ≡ false
tick_unsigned b h = grind (arith, nat_tests)

line_small : (b : ℕ) → is_line_byte b ≡ true → b < 128
line_small b h = grind (arith, nat_tests)

line_lower : (b : ℕ) → is_line_byte b ≡ true → to_ascii_lowercase b ≡ b
line_lower b h = grind (arith, nat_tests)

line_no_comment : (b : ℕ) → is_line_byte b ≡ true → not (is_mark 59 b) ≡ true
line_no_comment b h = grind (arith, nat_tests)

pub line_no_feed : (b : ℕ) → is_line_byte b ≡ true → not (is_mark 10 b) ≡ true
line_no_feed b h = grind (arith, nat_tests)

ascii_at : (text : List ℕ) → list_all is_line_byte text ≡ true → (i : ℕ) → get_or text i 0 < 128
ascii_at [] h i = omega arith
ascii_at (b ∷ rest) h zero = line_small b (and_parts (is_line_byte b) (list_all is_line_byte rest) h).0
ascii_at (b ∷ rest) h (suc i) = ascii_at rest (and_parts (is_line_byte b) (list_all is_line_byte rest) h).1 i

pub utf8_line : (text : List ℕ) → list_all is_line_byte text ≡ true → is_utf8 text ≡ true
utf8_line text h = is_utf8-from_IsUtf8 text (IsUtf8-from_ascii text (ascii_at text h))

lower_line : (text : List ℕ) → list_all is_line_byte text ≡ true → map to_ascii_lowercase text ≡ text
lower_line [] h = refl
lower_line (b ∷ rest) h =
    let w = and_parts (is_line_byte b) (list_all is_line_byte rest) h in
    let here = line_lower b w.0 in
    let there = lower_line rest w.1 in
    λ i. here i ∷ there i

pub uncommented_line : (text : List ℕ) → list_all is_line_byte text ≡ true → uncommented text ≡ text
uncommented_line text h = before_none (is_mark 59) text (all_imply is_line_byte (λ b. not (is_mark 59 b)) line_no_comment text h)

pub plain_line : (text : List ℕ) → list_all is_line_byte text ≡ true → plain text ≡ text
plain_line text h = ap (map to_ascii_lowercase) (uncommented_line text h) ∙ lower_line text h

-- texts without white space are read as they stand
behind_shown : (text : List ℕ) → list_all (λ b. not (is_blank b)) text ≡ true → spaced_behind false text ≡ text
behind_shown [] h = refl
behind_shown (b ∷ rest) h =
    let w = and_parts (not (is_blank b)) (list_all (λ b. not (is_blank b)) rest) h in
    shown (is_blank b) w.0 (behind_shown rest w.1)
  where
    shown : (t : Bool) → not t ≡ true → spaced_behind false rest ≡ rest → cond t (spaced_behind true rest) (b ∷ spaced_behind false rest) ≡ b ∷ rest
    shown true e same = absurd (cc)
    shown false e same = ap (λ (l : List ℕ). b ∷ l) same

pub spaced_shown : (text : List ℕ) → list_all (λ b. not (is_blank b)) text ≡ true → spaced text ≡ text
spaced_shown [] h = refl
spaced_shown (b ∷ rest) h =
    let w = and_parts (not (is_blank b)) (list_all (λ b. not (is_blank b)) rest) h in
    ap (spaced_behind false) (first (is_blank b) w.0) ∙ behind_shown (b ∷ rest) h
  where
    first : (t : Bool) → not t ≡ true → cond t (unindented rest) (b ∷ rest) ≡ b ∷ rest
    first true e = absurd (cc)
    first false e = refl

-- behind white space a text without it follows a space
pub behind_blank : (text : List ℕ) → list_all (λ b. not (is_blank b)) text ≡ true → 1 ≤ length text → spaced_behind true text ≡ 32 ∷ text
behind_blank [] h some = absurd (omega arith)
behind_blank (b ∷ rest) h some =
    let w = and_parts (not (is_blank b)) (list_all (λ b. not (is_blank b)) rest) h in
    shown (is_blank b) w.0 (behind_shown rest w.1)
  where
    shown : (t : Bool) → not t ≡ true → spaced_behind false rest ≡ rest → cond t (spaced_behind true rest) (32 ∷ b ∷ spaced_behind false rest) ≡ 32 ∷ b ∷ rest
    shown true e same = absurd (cc)
    shown false e same = ap (λ (l : List ℕ). 32 ∷ b ∷ l) same

-- names
line_name : (b : ℕ) → is_name_byte b ≡ true → is_line_byte b ≡ true
line_name b h = grind (arith, nat_tests)

name_shown : (b : ℕ) → is_name_byte b ≡ true → is_blank b ≡ false
name_shown b h = grind (arith, nat_tests)

words_step : (wanted : Bool) (b : ℕ) (rest : List ℕ) (t : Bool) → nat_eq b 32 ≡ t
    → cond t (not wanted && are_words true rest) (is_name_byte b && are_words false rest) ≡ true
    → (are_words true rest ≡ true → spaced_behind true rest ≡ 32 ∷ rest)
    → (are_words false rest ≡ true → spaced_behind false rest ≡ rest)
    → spaced_behind wanted (b ∷ rest) ≡ cond wanted (32 ∷ b ∷ rest) (b ∷ rest)
words_step true b rest true e h more same = absurd (cc)
words_step false b rest true e h more same =
    let is : b ≡ 32 = eqb-true b 32 e in
    let blank : is_blank b ≡ true = ap is_blank is in
    ap (λ (t : Bool). cond t (spaced_behind true rest) (b ∷ spaced_behind false rest)) blank
    ∙ (more h ∙ ap (λ (c : ℕ). c ∷ rest) (sym is))
words_step true b rest false e h more same =
    let w = and_parts (is_name_byte b) (are_words false rest) h in
    ap (λ (t : Bool). cond t (spaced_behind true rest) (32 ∷ b ∷ spaced_behind false rest)) (name_shown b w.0)
    ∙ ap (λ (l : List ℕ). 32 ∷ b ∷ l) (same w.1)
words_step false b rest false e h more same =
    let w = and_parts (is_name_byte b) (are_words false rest) h in
    ap (λ (t : Bool). cond t (spaced_behind true rest) (b ∷ spaced_behind false rest)) (name_shown b w.0)
    ∙ ap (λ (l : List ℕ). b ∷ l) (same w.1)

words_spaced : (wanted : Bool) (text : List ℕ) → are_words wanted text ≡ true → spaced_behind wanted text ≡ cond wanted (32 ∷ text) text
words_spaced true [] h = absurd (cc)
words_spaced false [] h = refl
words_spaced wanted (b ∷ rest) h = words_step wanted b rest (nat_eq b 32) refl h (words_spaced true rest) (words_spaced false rest)

name_first : (b : ℕ) (rest : List ℕ) (t : Bool) → nat_eq b 32 ≡ t
    → cond t (not true && are_words true rest) (is_name_byte b && are_words false rest) ≡ true → is_blank b ≡ false
name_first b rest true e h = absurd (cc)
name_first b rest false e h = name_shown b (and_parts (is_name_byte b) (are_words false rest) h).0

-- a name's first byte is no white space
pub name_begins : (b : ℕ) (rest : List ℕ) → are_words true (b ∷ rest) ≡ true → is_blank b ≡ false
name_begins b rest h = name_first b rest (nat_eq b 32) refl h

-- a name is read as it stands
pub spaced_name : (name : List ℕ) → are_words true name ≡ true → spaced name ≡ name
spaced_name [] h = absurd (cc)
spaced_name (b ∷ rest) h =
    ap (λ (t : Bool). spaced_behind false (cond t (unindented rest) (b ∷ rest))) (name_begins b rest h)
    ∙ words_spaced false (b ∷ rest) (open_words (nat_eq b 32) h)
  where
    open_words : (t : Bool) → cond t (not true && are_words true rest) (is_name_byte b && are_words false rest) ≡ true
        → cond t (not false && are_words true rest) (is_name_byte b && are_words false rest) ≡ true
    open_words true h = absurd (cc)
    open_words false h = h

name_bytes_step : (wanted : Bool) (b : ℕ) (rest : List ℕ) (test : ℕ → Bool) → ((c : ℕ) → is_name_byte c ≡ true → test c ≡ true) → test 32 ≡ true → (t : Bool) → nat_eq b 32 ≡ t
    → cond t (not wanted && are_words true rest) (is_name_byte b && are_words false rest) ≡ true
    → ((more : Bool) → are_words more rest ≡ true → list_all test rest ≡ true)
    → list_all test (b ∷ rest) ≡ true
name_bytes_step wanted b rest test each space true e h more =
    let w = and_parts (not wanted) (are_words true rest) h in
    and_from (test b) (list_all test rest) (ap test (eqb-true b 32 e) ∙ space) (more true w.1)
name_bytes_step wanted b rest test each space false e h more =
    let w = and_parts (is_name_byte b) (are_words false rest) h in
    and_from (test b) (list_all test rest) (each b w.0) (more false w.1)

-- what holds of each byte of words, and of a space, holds of each byte of a name
pub name_bytes : (test : ℕ → Bool) → ((c : ℕ) → is_name_byte c ≡ true → test c ≡ true) → test 32 ≡ true
    → (wanted : Bool) (text : List ℕ) → are_words wanted text ≡ true → list_all test text ≡ true
name_bytes test each space wanted [] h = refl
name_bytes test each space wanted (b ∷ rest) h =
    name_bytes_step wanted b rest test each space (nat_eq b 32) refl h (λ more w. name_bytes test each space more rest w)

pub line_of_name : (name : List ℕ) → are_words true name ≡ true → list_all is_line_byte name ≡ true
line_of_name name h = name_bytes is_line_byte line_name refl true name h

-- what a tick's text is
pub record IsTickText (scale t : ℕ) (text : List ℕ) : Type 0 where
  pub bytes : list_all is_tick_byte text ≡ true
  pub some : 1 ≤ length text
  pub number : number_of scale text ≡ Ok (pos t)

-- how many ticks are in the unit of time
abbrev pub IsOneOf : ℕ → Type 0
IsOneOf scale = (scale ≡ 1) ⊎ ((scale ≡ 10) ⊎ ((scale ≡ 100) ⊎ (scale ≡ 1000)))

tick_one : (t : ℕ) → t < 2 ^ 63 → IsTickText 1 t (decimal (t / 1) ++ [])
tick_one t small =
    let same : t / 1 ≡ t = omega arith in
    let d = decimal_is t (omega arith) in
    subst (λ (text : List ℕ). IsTickText 1 t text) (ap decimal (sym same) ∙ sym (append-nil (decimal (t / 1)))) (record {
      bytes = all_imply is_ascii_digit is_tick_byte tick_digit (decimal t) d.digits;
      some = d.some;
      number = number_whole t (decimal t) d small;
    })

tick_parts : (scale t : ℕ) (part : List ℕ) → 0 < scale → t / scale < 2 ^ 64 → t < 2 ^ 63 → IsPart scale t part → IsTickText scale t (decimal (t / scale) ++ 46 ∷ part)
tick_parts scale t part some less small b =
    let d = decimal_is (t / scale) less in
    record {
      bytes = list_all-append is_tick_byte (decimal (t / scale)) (46 ∷ part)
          ∙ and_from _ _ (all_imply is_ascii_digit is_tick_byte tick_digit (decimal (t / scale)) d.digits) (and_from true _ refl (all_imply is_ascii_digit is_tick_byte tick_digit part b.digits));
      some = omega (arith, length-append (decimal (t / scale)) (46 ∷ part), d.some);
      number = number_parts scale t (decimal (t / scale)) part d b some small;
    }

pub tick_is : (scale t : ℕ) → IsOneOf scale → t < 2 ^ 63 → IsTickText scale t (tick_text scale t)
tick_is scale t (inl e) small = subst (λ (s : ℕ). IsTickText s t (tick_text s t)) (sym e) (tick_one t small)
tick_is scale t (inr (inl e)) small = subst (λ (s : ℕ). IsTickText s t (tick_text s t)) (sym e) (tick_parts 10 t _ (omega arith) (omega arith) small (part_ten t))
tick_is scale t (inr (inr (inl e))) small = subst (λ (s : ℕ). IsTickText s t (tick_text s t)) (sym e) (tick_parts 100 t _ (omega arith) (omega arith) small (part_hundred t))
tick_is scale t (inr (inr (inr e))) small = subst (λ (s : ℕ). IsTickText s t (tick_text s t)) (sym e) (tick_parts 1000 t _ (omega arith) (omega arith) small (part_thousand t))

pub tick_line : (scale t : ℕ) (text : List ℕ) → IsTickText scale t text → list_all is_line_byte text ≡ true
tick_line scale t text k = all_imply is_tick_byte is_line_byte line_tick text k.bytes

pub tick_spaced : (scale t : ℕ) (text : List ℕ) → IsTickText scale t text → spaced text ≡ text
tick_spaced scale t text k = spaced_shown text (all_imply is_tick_byte (λ b. not (is_blank b)) tick_shown text k.bytes)

pub tick_behind : (scale t : ℕ) (text : List ℕ) → IsTickText scale t text → spaced_behind true text ≡ 32 ∷ text
tick_behind scale t text k = behind_blank text (all_imply is_tick_byte (λ b. not (is_blank b)) tick_shown text k.bytes) k.some

no_sign : (text : List ℕ) → list_all is_tick_byte text ≡ true → has_minus text ≡ false
no_sign [] h = refl
no_sign (b ∷ rest) h = tick_unsigned b (and_parts (is_tick_byte b) (list_all is_tick_byte rest) h).0

-- a tick's text says that tick
pub tick_amount : (scale t : ℕ) (text : List ℕ) → IsTickText scale t text → amount_of scale text ≡ Ok (Ticks t)
tick_amount scale t text k =
    let plus = no_sign text k.bytes in
    let number = k.number in
    λ i. amount_from (plus i) (number i)
