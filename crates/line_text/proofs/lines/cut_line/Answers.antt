use Rattle.std.proofs.Common.{◌≡◌, ℕ, ◌-◌, ◌<◌, ◌≤◌, true, List, [], ◌∷◌, ◌++◌, length, take, drop, ◌∙◌, sym, ap, refl, arith}
use Rattle.std.proofs.Math.Seq.{take-length}
use Rattle.line_text.specs.Lines.{is_line, line_len}
use Rattle.line_text.proofs.Joined.{len_line, len_feed, len_none}
use Rattle.line_text.proofs.lines.cut_line.Goals as goal

-- what the parts of a split at the first line feed are
line_of : (text line : List ℕ) (n : ℕ) → n ≡ line_len text → line ≡ take n text → is_line line ≡ true
line_of text line n at front = ap is_line (front ∙ ap (λ (k : ℕ). take k text) at) ∙ len_line text

parts_of : (text line behind rest : List ℕ) (n d : ℕ) → n ≡ line_len text → line ≡ take n text → behind ≡ drop n text → behind ≡ d ∷ rest → text ≡ line ++ 10 ∷ rest
parts_of text line behind rest n d at front back is =
    len_feed text d rest (sym (back ∙ ap (λ (k : ℕ). drop k text) at) ∙ is)
    ∙ ap (λ (y : List ℕ). y ++ 10 ∷ rest) (sym (front ∙ ap (λ (k : ℕ). take k text) at))

taken_whole : (d : ℕ) (rest : List ℕ) → take (length (d ∷ rest) - 1) rest ≡ rest
taken_whole d rest =
    let e : length (d ∷ rest) - 1 ≡ length rest = omega arith in
    ap (λ (k : ℕ). take k rest) e ∙ take-length rest

parts_by : (text line behind : List ℕ) (n : ℕ) → n ≡ line_len text → line ≡ take n text → behind ≡ drop n text → 1 ≤ length behind → text ≡ line ++ 10 ∷ take (length behind - 1) (drop 1 behind)
parts_by text line [] n at front back some = absurd (omega arith)
parts_by text line (d ∷ rest) n at front back some =
    parts_of text line (d ∷ rest) rest n d at front back refl
    ∙ ap (λ (y : List ℕ). line ++ 10 ∷ y) (sym (taken_whole d rest))

none_by : (text behind : List ℕ) (n : ℕ) → n ≡ line_len text → behind ≡ drop n text → length behind < 1 → is_line text ≡ true
none_by text [] n at back none = len_none text (sym (back ∙ ap (λ (k : ℕ). drop k text) at))
none_by text (d ∷ rest) n at back none = absurd (omega arith)

pub returns-in-len1-up-clause-line : goal.returns-in-len1-up-clause-line
returns-in-len1-up-clause-line c = line_of _ _ _ c.line_len.ensures.is c.split_at.ensures.front

pub returns-in-len1-up-clause-parts : goal.returns-in-len1-up-clause-parts
returns-in-len1-up-clause-parts c = parts_by _ _ _ _ c.line_len.ensures.is c.split_at.ensures.front c.split_at.ensures.back c.in-len1-up.len_at_least

pub returns-in-empty-clause-none : goal.returns-in-empty-clause-none
returns-in-empty-clause-none c = none_by _ _ _ c.line_len.ensures.is c.split_at.ensures.back c.in-empty.len_below
