-- The parts of a text between marks.
use Rattle.std.proofs.Common.{◌≡◌, ℕ, ◌+◌, ◌<◌, ◌≤◌, suc, Bool, true, false, not, cond, nat_lt, List, [], ◌∷◌, ◌++◌, length, take, drop, Option, Some, None, refl, ap, sym, ◌∙◌, arith}
use Rattle.std.specs.Prelude.{◌==◌, position}
use Rattle.std.specs.List.{slice_split, onto_first, position_or_len}
use Rattle.std.proofs.lemmas.List.Splits.{slice_split-cons_no, slice_split_first, length-slice_split}
use Rattle.std.proofs.lemmas.Bool.{and_parts, not-true}
use Rattle.std.proofs.lemmas.Bool.Decides.{nat_tests}
use Rattle.line_text.specs.Lines.{is_line}
use Rattle.script_text.specs.Scripts.{is_feed, pieces, three}

-- ---- cut at a place

unmarked_case : (test : ℕ → Bool) (x m n : ℕ) (b : Bool) → test x ≡ b → suc n ≤ cond (not b) (1 + m) 0 → (test x ≡ false) × (n ≤ m)
unmarked_case test x m n true e h = absurd (omega arith)
unmarked_case test x m n false e h = (e, omega arith)

-- where no mark stands, there is one part
unmarked : (test : ℕ → Bool) (text : List ℕ) → length text ≤ position_or_len test text → slice_split test text ≡ text ∷ []
unmarked test [] h = refl
unmarked test (x ∷ xs) h =
    let w = unmarked_case test x (position_or_len test xs) (length xs) (test x) refl h in
    slice_split-cons_no test x xs w.0 ∙ ap (onto_first x) (unmarked test xs w.1)

abbrev parts_at : (ℕ → Bool) → List ℕ → Option ℕ → List (List ℕ)
parts_at test text None = text ∷ []
parts_at test text (Some i) = take i text ∷ slice_split test (drop (i + 1) text)

is_less : (k n : ℕ) → nat_lt k n ≡ true → k < n
is_less k n h = grind (arith, nat_tests)

is_far : (k n : ℕ) → nat_lt k n ≡ false → n ≤ k
is_far k n h = grind (arith, nat_tests)

parts_by : (test : ℕ → Bool) (text : List ℕ) (b : Bool) → nat_lt (position_or_len test text) (length text) ≡ b
    → slice_split test text ≡ parts_at test text (cond b (Some (position_or_len test text)) None)
parts_by test text true e = slice_split_first test text 0 (is_less _ _ e)
parts_by test text false e = unmarked test text (is_far _ _ e)

-- the parts of a text, by the place of its first mark
pub parts_place : (test : ℕ → Bool) (text : List ℕ) (place : Option ℕ) → place ≡ position test text → slice_split test text ≡ parts_at test text place
parts_place test text place e = parts_by test text _ refl ∙ ap (parts_at test text) (sym e)

pub cut_some : (test : ℕ → Bool) (text front back : List ℕ) (place : ℕ) → Some place ≡ position test text → front ≡ take place text → back ≡ drop (place + 1) text → slice_split test text ≡ front ∷ slice_split test back
cut_some test text front back place at f b =
    parts_place test text (Some place) at ∙ λ i. (sym f i) ∷ slice_split test (sym b i)

pub cut_none : (test : ℕ → Bool) (text : List ℕ) → None ≡ position test text → slice_split test text ≡ text ∷ []
cut_none test text at = parts_place test text None at

-- ---- three words

four : (a b c : List ℕ) (more : List (List ℕ)) → 0 < length more → three (a ∷ b ∷ c ∷ more) ≡ None
four a b c [] some = absurd (omega arith)
four a b c (d ∷ more) some = refl

some_parts : (test : ℕ → Bool) (text : List ℕ) → 0 < length (slice_split test text)
some_parts test text = let e = length-slice_split test text in omega (arith, e)

module _ (test : ℕ → Bool) (text a rest : List ℕ) (first : slice_split test text ≡ a ∷ slice_split test rest) where
  pub two_words : slice_split test rest ≡ rest ∷ [] → three (slice_split test text) ≡ None
  two_words last = ap three (first ∙ ap (λ (ws : List (List ℕ)). a ∷ ws) last)

  module _ (b third : List ℕ) (second : slice_split test rest ≡ b ∷ slice_split test third) where
    both : slice_split test text ≡ a ∷ b ∷ slice_split test third
    both = first ∙ ap (λ (ws : List (List ℕ)). a ∷ ws) second

    pub are_three : slice_split test third ≡ third ∷ [] → three (slice_split test text) ≡ Some (a, b, third)
    are_three last = ap three (both ∙ ap (λ (ws : List (List ℕ)). a ∷ b ∷ ws) last)

    pub are_more : (c back : List ℕ) → slice_split test third ≡ c ∷ slice_split test back → three (slice_split test text) ≡ None
    are_more c back next =
        ap three (both ∙ ap (λ (ws : List (List ℕ)). a ∷ b ∷ ws) next)
        ∙ four a b c (slice_split test back) (some_parts test back)

pub one_word : (test : ℕ → Bool) (text : List ℕ) → slice_split test text ≡ text ∷ [] → three (slice_split test text) ≡ None
one_word test text last = ap three last

-- ---- lines

no_feed : (c : ℕ) (line : List ℕ) → is_line (c ∷ line) ≡ true → ((c == 10) ≡ false) × (is_line line ≡ true)
no_feed c line h =
    let w = and_parts (not (c == 10)) (is_line line) h in
    (not-true (c == 10) w.0, w.1)

-- a line behind which a line feed stands is the first piece
first_piece : (line rest : List ℕ) → is_line line ≡ true → pieces (line ++ 10 ∷ rest) ≡ line ∷ pieces rest
first_piece [] rest h = refl
first_piece (c ∷ line) rest h =
    let w = no_feed c line h in
    slice_split-cons_no is_feed c (line ++ 10 ∷ rest) w.0 ∙ ap (onto_first c) (first_piece line rest w.1)

pub pieces_first : (text line rest : List ℕ) → text ≡ line ++ 10 ∷ rest → is_line line ≡ true → pieces text ≡ line ∷ pieces rest
pieces_first text line rest parts is = ap pieces parts ∙ first_piece line rest is

-- without a line feed there is one piece
pub pieces_last : (text : List ℕ) → is_line text ≡ true → pieces text ≡ text ∷ []
pieces_last [] h = refl
pieces_last (c ∷ text) h =
    let w = no_feed c text h in
    slice_split-cons_no is_feed c text w.0 ∙ ap (onto_first c) (pieces_last text w.1)

-- a first piece, and one more
pub record TwoPieces (text : List ℕ) : Type 0 where
  pub next : List ℕ
  pub rest : List (List ℕ)
  pub is : pieces text ≡ next ∷ rest

pub next_piece : (text : List ℕ) → TwoPieces text
next_piece text = by_parts (pieces text) refl where
  by_parts : (ps : List (List ℕ)) → pieces text ≡ ps → TwoPieces text
  by_parts [] e = let some = some_parts is_feed text in let none = ap length e in absurd (omega arith)
  by_parts (p ∷ ps) e = record { next = p; rest = ps; is = e }
