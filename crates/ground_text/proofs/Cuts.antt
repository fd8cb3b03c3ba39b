-- What is read of the first lines of a text of names.
use Rattle.std.proofs.Common.{◌≡◌, ℕ, zero, suc, ◌+◌, ◌-◌, ◌%◌, ◌^◌, ◌<◌, Bool, true, false, not, List, [], ◌∷◌, ◌++◌, length, refl, sym, ap, subst, ◌∙◌, append_assoc, arith}
use Rattle.std.specs.Prelude.{decimal, codes, ◌==◌}
use Rattle.std.specs.List.{list_all, flat_map}
use Rattle.std.specs.Ordering.{is_lt, nat_cmp}
use Rattle.std.specs.Cmp.{nat_cmp_is}
use Rattle.std.specs.Cmp.Lexicographic.{slice_cmp}
use Rattle.std.specs.declared.cmp.Ordering.{Ordering}
use Rattle.std.specs.declared.cmp.Ordering.TheVariants.{Equal}
use Rattle.std.specs.Ordering.{ordering_then}
use Rattle.std.proofs.lemmas.Bool.{false≢true, and_parts, and_from}
use Rattle.std.proofs.lemmas.Bool.Decides.{nat_tests}
use Rattle.std.proofs.lemmas.Fmt.{decimal_by_steps}
use Rattle.std.proofs.lemmas.List.Folds.{list_all-append}
use Rattle.tp_spec.specs.Lists.{each_next}
use Rattle.tp_spec.specs.WellFormed.{is_name, are_words, name_before}
use Rattle.ground_text.specs.Texts.{name_text}
use Rattle.ground_text.specs.Reading.{name_at, repeated_at}
use Rattle.line_text.specs.Lines.{lines}
use Rattle.ground_text.specs.Completion.{name_or_next, filled}
use Rattle.ground_text.proofs.Members.{is_plain, words_plain, name_again}

-- ---- lines

-- a byte within a line
abbrev pub is_inside : ℕ → Bool
is_inside c = not (c == 10)

not_so : (b : Bool) → not b ≡ true → b ≡ false
not_so true h = absurd (false≢true h)
not_so false h = refl

pub line_first : (x rest : List ℕ) (n : ℕ) → list_all is_inside x ≡ true → lines (suc n) (x ++ (10 ∷ rest)) ≡ x ++ (10 ∷ lines n rest)
line_first [] rest n h = refl
line_first (c ∷ x) rest n h =
    let p : (is_inside c ≡ true) × (list_all is_inside x ≡ true) = and_parts _ _ h in
    one c (x ++ (10 ∷ rest)) (not_so (c == 10) p.0) ∙ ap (λ (y : List ℕ). c ∷ y) (line_first x rest n p.1) where
      one : (c : ℕ) (y : List ℕ) → (c == 10) ≡ false → lines (suc n) (c ∷ y) ≡ c ∷ lines (suc n) y
      one c y e = rw e refl

-- the first n lines of the first n + 1 lines
pub lines_fewer : (n : ℕ) (text : List ℕ) → lines n (lines (suc n) text) ≡ lines n text
lines_fewer zero text = refl
lines_fewer (suc n) [] = refl
lines_fewer (suc n) (c ∷ text) = by_end (c == 10) refl (lines_fewer n text) (lines_fewer (suc n) text) where
  by_end : (is : Bool) → (c == 10) ≡ is → lines n (lines (suc n) text) ≡ lines n text → lines (suc n) (lines (suc (suc n)) text) ≡ lines (suc n) text
      → lines (suc n) (lines (suc (suc n)) (c ∷ text)) ≡ lines (suc n) (c ∷ text)
  by_end true e less same = rw (e, e) (ap (λ (y : List ℕ). c ∷ y) less)
  by_end false e less same = rw (e, e) (ap (λ (y : List ℕ). c ∷ y) same)

digit_inside : (d : ℕ) → d < 10 → is_inside (48 + d) ≡ true
digit_inside d lt = grind (arith, nat_tests)

pub decimal_inside : (n : ℕ) → n < 2 ^ 64 → list_all is_inside (decimal n) ≡ true
decimal_inside n fits =
    decimal_by_steps (λ m ds. list_all is_inside ds ≡ true)
    (λ d lt. and_from _ _ (digit_inside d lt) refl)
    (λ m ds big h. list_all-append is_inside ds ((48 + m % 10) ∷ []) ∙ and_from _ _ h (and_from _ _ (digit_inside (m % 10) (omega arith)) refl))
    n fits

pub plain_inside : (x : List ℕ) → list_all is_plain x ≡ true → list_all is_inside x ≡ true
plain_inside [] h = refl
plain_inside (c ∷ x) h =
    let p : (is_plain c ≡ true) × (list_all is_plain x ≡ true) = and_parts _ _ h in
    and_from _ _ (and_parts _ _ p.0).1 (plain_inside x p.1)

name_line : (name names rest : List ℕ) (k : ℕ) → is_name name ≡ true → lines (suc k) ((name_text name ++ names) ++ rest) ≡ name ++ (10 ∷ lines k (names ++ rest))
unfolding name_text
name_line name names rest k h =
    let shape : ((name ++ (10 ∷ [])) ++ names) ++ rest ≡ name ++ (10 ∷ (names ++ rest)) = simp append_assoc in
    ap (lines (suc k)) shape ∙ line_first name (names ++ rest) k (plain_inside name (words_plain true name h))

-- ---- names

-- what is read of the first k of some names: nothing in place of the others
abbrev pub cut : ℕ → List (List ℕ) → List (List ℕ)
cut k [] = []
cut zero (name ∷ names) = [] ∷ cut zero names
cut (suc k) (name ∷ names) = name ∷ cut k names

blanks : (names : List (List ℕ)) → repeated_at name_at (length names) [] ≡ (cut zero names, [])
unfolding name_at
blanks [] = refl
blanks (name ∷ names) = ap (λ (r : List (List ℕ) × List ℕ). ([] ∷ r.0, r.1)) (blanks names)

pub names_cut : (k : ℕ) (names : List (List ℕ)) (rest : List ℕ) → list_all is_name names ≡ true
    → repeated_at name_at (length names) (lines k (flat_map name_text names ++ rest)) ≡ (cut k names, lines (k - length names) rest)
names_cut k [] rest h =
    let same : k ≡ k - 0 = omega arith in
    ap (λ (n : ℕ). ([], lines n rest)) same
names_cut zero (name ∷ names) rest h =
    let none : 0 ≡ 0 - suc (length names) = omega arith in
    blanks (name ∷ names) ∙ ap (λ (n : ℕ). (cut zero (name ∷ names), lines n rest)) none
names_cut (suc k) (name ∷ names) rest h =
    let p : (is_name name ≡ true) × (list_all is_name names ≡ true) = and_parts _ _ h in
    let left : k - length names ≡ suc k - suc (length names) = omega arith in
    ap (repeated_at name_at (suc (length names))) (name_line name (flat_map name_text names) rest k p.0)
    ∙ ap (λ (y : List ℕ × List ℕ). (y.0 ∷ (repeated_at name_at (length names) y.1).0, (repeated_at name_at (length names) y.1).1)) (name_again name (lines k (flat_map name_text names ++ rest)) p.0)
    ∙ ap (λ (r : List (List ℕ) × List ℕ). (name ∷ r.0, r.1)) (names_cut k names rest p.1)
    ∙ ap (λ (n : ℕ). (name ∷ cut k names, lines n rest)) left

-- ---- the names that are filled in

pub kept_name : (before name : List ℕ) → is_name name ≡ true → name_or_next before name ≡ name
kept_name before [] h = absurd (false≢true h)
kept_name before (c ∷ name) h = refl

pub filled_length : (before : List ℕ) (k : ℕ) (names : List (List ℕ)) → length (filled before (cut k names)) ≡ length names
filled_length before k [] = refl
filled_length before zero (name ∷ names) = ap suc (filled_length (before ++ 33 ∷ []) zero names)
filled_length before (suc k) (name ∷ names) = ap suc (filled_length (name_or_next before name) k names)

pub next_words : (wanted : Bool) (name : List ℕ) → are_words wanted name ≡ true → are_words wanted (name ++ 33 ∷ []) ≡ true
next_words wanted [] h = refl
next_words wanted (b ∷ rest) h = by_space (b == 32) refl (λ is k. next_words is rest k) where
  by_space : (is : Bool) → (b == 32) ≡ is → ((wanted : Bool) → are_words wanted rest ≡ true → are_words wanted (rest ++ 33 ∷ []) ≡ true) → are_words wanted (b ∷ (rest ++ 33 ∷ [])) ≡ true
  by_space true e next = let k = rw e at h in let p = and_parts _ _ k in rw e (and_from _ _ p.0 (next true p.1))
  by_space false e next = let k = rw e at h in let p = and_parts _ _ k in rw e (and_from _ _ p.0 (next false p.1))

pub before_next : (name : List ℕ) → name_before name (name ++ 33 ∷ []) ≡ true
before_next [] = refl
before_next (c ∷ name) = ap (λ (o : Ordering). is_lt (ordering_then o (slice_cmp nat_cmp name (name ++ 33 ∷ [])))) (sym (nat_cmp_is c c Equal refl)) ∙ before_next name

-- names that rise, from one on
abbrev Rise : List ℕ → List (List ℕ) → Type 0
Rise before names = (list_all is_name names ≡ true) × (each_next name_before (before ∷ names) ≡ true)

rise_more : (before name : List ℕ) (names : List (List ℕ)) → is_name name ≡ true → name_before before name ≡ true → Rise name names → Rise before (name ∷ names)
rise_more before name names is less rise = (and_from _ _ is rise.0, and_from _ _ less rise.1)

blanks_rise : (before : List ℕ) (names : List (List ℕ)) → is_name before ≡ true → Rise before (filled before (cut zero names))
blanks_rise before [] is = (refl, refl)
blanks_rise before (name ∷ names) is =
    let next = next_words true before is in
    rise_more before (before ++ 33 ∷ []) _ next (before_next before) (blanks_rise (before ++ 33 ∷ []) names next)

filled_rise : (before : List ℕ) (k : ℕ) (names : List (List ℕ)) → is_name before ≡ true → Rise before names → Rise before (filled before (cut k names))
filled_rise before k [] is rise = (refl, refl)
filled_rise before zero (name ∷ names) is rise = blanks_rise before (name ∷ names) is
filled_rise before (suc k) (name ∷ names) is rise =
    let p : (is_name name ≡ true) × (list_all is_name names ≡ true) = and_parts _ _ rise.0 in
    let q : (name_before before name ≡ true) × (each_next name_before (name ∷ names) ≡ true) = and_parts _ _ rise.1 in
    subst (λ (x : List ℕ). Rise before (x ∷ filled x (cut k names))) (sym (kept_name before name p.0))
    (rise_more before name _ p.0 q.0 (filled_rise name k names p.0 (p.1, q.1)))

-- the first k names, and names behind them, keep the rules of names
pub filled_names : (k : ℕ) (names : List (List ℕ)) → list_all is_name names ≡ true → each_next name_before names ≡ true
    → (list_all is_name (filled [] (cut k names)) ≡ true) × (each_next name_before (filled [] (cut k names)) ≡ true)
filled_names k [] h r = (refl, refl)
filled_names zero (name ∷ names) h r =
    let rise = blanks_rise (codes "!") names refl in
    (and_from _ _ refl rise.0, rise.1)
filled_names (suc k) (name ∷ names) h r =
    let p : (is_name name ≡ true) × (list_all is_name names ≡ true) = and_parts _ _ h in
    subst (λ (x : List ℕ). (list_all is_name (x ∷ filled x (cut k names)) ≡ true) × (each_next name_before (x ∷ filled x (cut k names)) ≡ true)) (sym (kept_name [] name p.0))
    (let rise = filled_rise name k names p.0 (p.1, r) in (and_from _ _ p.0 rise.0, rise.1))

-- their lines
pub names_same : (before : List ℕ) (k : ℕ) (names : List (List ℕ)) (rest other : List ℕ) → list_all is_name names ≡ true
    → lines (k - length names) other ≡ lines (k - length names) rest
    → lines k (flat_map name_text (filled before (cut k names)) ++ other) ≡ lines k (flat_map name_text names ++ rest)
names_same before k [] rest other h e =
    let same : k - 0 ≡ k = omega arith in
    subst (λ (n : ℕ). lines n other ≡ lines n rest) same e
names_same before zero (name ∷ names) rest other h e = refl
names_same before (suc k) (name ∷ names) rest other h e =
    let p : (is_name name ≡ true) × (list_all is_name names ≡ true) = and_parts _ _ h in
    let left : suc k - suc (length names) ≡ k - length names = omega arith in
    ap (λ (x : List ℕ). lines (suc k) (flat_map name_text (x ∷ filled x (cut k names)) ++ other)) (kept_name before name p.0)
    ∙ name_line name (flat_map name_text (filled name (cut k names))) other k p.0
    ∙ ap (λ (y : List ℕ). name ++ (10 ∷ y)) (names_same name k names rest other p.1 (subst (λ (n : ℕ). lines n other ≡ lines n rest) left e))
    ∙ sym (name_line name (flat_map name_text names) rest k p.0)
