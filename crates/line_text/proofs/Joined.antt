-- Lines joined, and taken from the front of a text.
use Rattle.std.proofs.Common.{◌≡◌, ℕ, zero, suc, ◌+◌, Bool, true, false, not, List, [], ◌∷◌, ◌++◌, length, take, drop, refl, ap, sym, ◌∙◌, append_assoc, arith}
use Rattle.std.specs.Prelude.{◌==◌, ◌&&◌, if◌then◌else◌}
use Rattle.std.proofs.lemmas.Bool.{and_parts, not-true}
use Rattle.std.proofs.lemmas.Bool.Decides.{nat_tests}
use Rattle.tp_spec.specs.Lists.{BeginsWith}
use Rattle.line_text.specs.Lines.{lines, has_lines, is_line, joined, are_lines, line_len}

-- a byte of a line is no line feed
no_feed : (c : ℕ) (line : List ℕ) → is_line (c ∷ line) ≡ true → ((c == 10) ≡ false) × (is_line line ≡ true)
no_feed c line h =
    let w = and_parts (not (c == 10)) (is_line line) h in
    (not-true (c == 10) w.0, w.1)

-- a line with its line feed is the first line
pub line_first : (line rest : List ℕ) (n : ℕ) → is_line line ≡ true → lines (suc n) (line ++ 10 ∷ rest) ≡ line ++ 10 ∷ lines n rest
line_first [] rest n h = refl
line_first (c ∷ line) rest n h =
    let w = no_feed c line h in
    ap (λ (is : Bool). if is then c ∷ lines n (line ++ 10 ∷ rest) else c ∷ lines (suc n) (line ++ 10 ∷ rest)) w.0
    ∙ ap (λ (y : List ℕ). c ∷ y) (line_first line rest n w.1)

pub has_first : (line rest : List ℕ) (n : ℕ) → is_line line ≡ true → has_lines (suc n) (line ++ 10 ∷ rest) ≡ has_lines n rest
has_first [] rest n h = refl
has_first (c ∷ line) rest n h =
    let w = no_feed c line h in
    ap (λ (is : Bool). if is then has_lines n (line ++ 10 ∷ rest) else has_lines (suc n) (line ++ 10 ∷ rest)) w.0
    ∙ has_first line rest n w.1

-- without a line feed there is no line
pub has_none : (rest : List ℕ) → is_line rest ≡ true → has_lines 1 rest ≡ false
has_none [] h = refl
has_none (c ∷ rest) h =
    let w = no_feed c rest h in
    ap (λ (is : Bool). if is then has_lines 0 rest else has_lines 1 rest) w.0 ∙ has_none rest w.1

-- the lines that are joined in front are the first lines
pub joined_first : (taken : List (List ℕ)) (rest : List ℕ) → are_lines taken ≡ true → lines (length taken) (joined taken ++ rest) ≡ joined taken
joined_first [] rest h = refl
joined_first (line ∷ taken) rest h =
    let w = and_parts (is_line line) (are_lines taken) h in
    ap (lines (suc (length taken))) (append_assoc line (10 ∷ joined taken) rest)
    ∙ line_first line (joined taken ++ rest) (length taken) w.0
    ∙ ap (λ (y : List ℕ). line ++ 10 ∷ y) (joined_first taken rest w.1)

pub joined_has : (taken : List (List ℕ)) (rest : List ℕ) → are_lines taken ≡ true → has_lines (length taken) (joined taken ++ rest) ≡ true
joined_has [] rest h = refl
joined_has (line ∷ taken) rest h =
    let w = and_parts (is_line line) (are_lines taken) h in
    ap (has_lines (suc (length taken))) (append_assoc line (10 ∷ joined taken) rest)
    ∙ has_first line (joined taken ++ rest) (length taken) w.0
    ∙ joined_has taken rest w.1

-- one line more is there where the rest has one
pub joined_next : (taken : List (List ℕ)) (rest : List ℕ) → are_lines taken ≡ true → has_lines (suc (length taken)) (joined taken ++ rest) ≡ has_lines 1 rest
joined_next [] rest h = refl
joined_next (line ∷ taken) rest h =
    let w = and_parts (is_line line) (are_lines taken) h in
    ap (has_lines (suc (suc (length taken)))) (append_assoc line (10 ∷ joined taken) rest)
    ∙ has_first line (joined taken ++ rest) (suc (length taken)) w.0
    ∙ joined_next taken rest w.1

-- one line more
pub joined_more : (taken : List (List ℕ)) (line : List ℕ) → joined (taken ++ line ∷ []) ≡ joined taken ++ (line ++ 10 ∷ [])
joined_more [] line = refl
joined_more (first ∷ taken) line =
    ap (λ (y : List ℕ). first ++ 10 ∷ y) (joined_more taken line) ∙ sym (append_assoc first (10 ∷ joined taken) (line ++ 10 ∷ []))

pub lines_more : (taken : List (List ℕ)) (line : List ℕ) → are_lines taken ≡ true → is_line line ≡ true → are_lines (taken ++ line ∷ []) ≡ true
lines_more [] line h is = ap (λ (b : Bool). b && true) is
lines_more (first ∷ taken) line h is =
    let w = and_parts (is_line first) (are_lines taken) h in
    ap (λ (b : Bool). b && are_lines (taken ++ line ∷ [])) w.0 ∙ lines_more taken line w.1 is

pub length_more : (taken : List (List ℕ)) (line : List ℕ) → length (taken ++ line ∷ []) ≡ suc (length taken)
length_more [] line = refl
length_more (first ∷ taken) line = ap (λ (n : ℕ). suc n) (length_more taken line)

-- a text begins with its first lines
pub begins_lines : (n : ℕ) (whole : List ℕ) → BeginsWith whole (lines n whole)
begins_lines zero whole = record { rest = whole; is = refl }
begins_lines (suc n) [] = record { rest = []; is = refl }
begins_lines (suc n) (c ∷ whole) = by_end (c == 10) (begins_lines n whole) (begins_lines (suc n) whole) where
  by_end : (is : Bool) → BeginsWith whole (lines n whole) → BeginsWith whole (lines (suc n) whole)
      → BeginsWith (c ∷ whole) (if is then c ∷ lines n whole else c ∷ lines (suc n) whole)
  by_end true less same = record { rest = less.rest; is = ap (λ (y : List ℕ). c ∷ y) less.is }
  by_end false less same = record { rest = same.rest; is = ap (λ (y : List ℕ). c ∷ y) same.is }

-- what stands before the first line feed is a line
pub len_line : (text : List ℕ) → is_line (take (line_len text) text) ≡ true
len_line [] = refl
len_line (c ∷ text) = by_end (c == 10) refl (len_line text) where
  by_end : (is : Bool) → (c == 10) ≡ is → is_line (take (line_len text) text) ≡ true → is_line (take (if is then 0 else 1 + line_len text) (c ∷ text)) ≡ true
  by_end true e rest = refl
  by_end false e rest =
      let next : 1 + line_len text ≡ suc (line_len text) = omega arith in
      ap (λ (n : ℕ). is_line (take n (c ∷ text))) next
      ∙ ap (λ (b : Bool). not b && is_line (take (line_len text) text)) e ∙ rest

-- a line feed stands behind it
pub len_feed : (text : List ℕ) (d : ℕ) (rest : List ℕ) → drop (line_len text) text ≡ d ∷ rest → text ≡ take (line_len text) text ++ 10 ∷ rest
len_feed [] d rest h = absurd (cc)
len_feed (c ∷ text) d rest h = by_end (c == 10) refl h (len_feed text d rest) where
  is_ten : (c == 10) ≡ true → c ≡ 10
  is_ten e = grind (arith, nat_tests)

  tail : (xs ys : List ℕ) → xs ≡ ys → drop 1 xs ≡ drop 1 ys
  tail xs ys e = ap (drop 1) e

  by_end : (is : Bool) → (c == 10) ≡ is → drop (if is then 0 else 1 + line_len text) (c ∷ text) ≡ d ∷ rest
      → (drop (line_len text) text ≡ d ∷ rest → text ≡ take (line_len text) text ++ 10 ∷ rest)
      → c ∷ text ≡ take (if is then 0 else 1 + line_len text) (c ∷ text) ++ 10 ∷ rest
  by_end true e at more = ap (λ (x : ℕ). x ∷ text) (is_ten e) ∙ ap (λ (y : List ℕ). 10 ∷ y) (tail _ _ at)
  by_end false e at more =
      let next : 1 + line_len text ≡ suc (line_len text) = omega arith in
      ap (λ (y : List ℕ). c ∷ y) (more (ap (λ (n : ℕ). drop n (c ∷ text)) (sym next) ∙ at))
      ∙ ap (λ (n : ℕ). take n (c ∷ text) ++ 10 ∷ rest) (sym next)

-- where nothing stands behind it, there is no line feed
pub len_none : (text : List ℕ) → drop (line_len text) text ≡ [] → is_line text ≡ true
len_none [] h = refl
len_none (c ∷ text) h = by_end (c == 10) refl h (len_none text) where
  by_end : (is : Bool) → (c == 10) ≡ is → drop (if is then 0 else 1 + line_len text) (c ∷ text) ≡ []
      → (drop (line_len text) text ≡ [] → is_line text ≡ true) → is_line (c ∷ text) ≡ true
  by_end true e at more = absurd (cc)
  by_end false e at more =
      let next : 1 + line_len text ≡ suc (line_len text) = omega arith in
      ap (λ (b : Bool). not b && is_line text) e ∙ more (ap (λ (n : ℕ). drop n (c ∷ text)) (sym next) ∙ at)
