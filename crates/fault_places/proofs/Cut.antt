-- How long the first line of a text is that was cut behind it.
use Rattle.std.proofs.Common.{◌≡◌, ℕ, suc, ◌+◌, Bool, true, false, not, List, [], ◌∷◌, ◌++◌, length, refl, ap, ◌∙◌, arith}
use Rattle.std.specs.Prelude.{◌==◌, if◌then◌else◌}
use Rattle.std.proofs.lemmas.Bool.{and_parts, not-true}
use Rattle.line_text.specs.Lines.{is_line, line_len}

-- a byte of a line is no line feed
no_feed : (c : ℕ) (line : List ℕ) → is_line (c ∷ line) ≡ true → ((c == 10) ≡ false) × (is_line line ≡ true)
no_feed c line h =
    let w = and_parts (not (c == 10)) (is_line line) h in
    (not-true (c == 10) w.0, w.1)

one_more : (m n : ℕ) → m ≡ n → 1 + m ≡ suc n
one_more m n e = omega arith

-- a line with a line feed behind it
pub cut_len : (line rest : List ℕ) → is_line line ≡ true → line_len (line ++ 10 ∷ rest) ≡ length line
cut_len [] rest h = refl
cut_len (c ∷ line) rest h =
    let w = no_feed c line h in
    ap (λ (is : Bool). if is then 0 else 1 + line_len (line ++ 10 ∷ rest)) w.0
    ∙ one_more (line_len (line ++ 10 ∷ rest)) (length line) (cut_len line rest w.1)

-- a text without a line feed
pub whole_len : (line : List ℕ) → is_line line ≡ true → line_len line ≡ length line
whole_len [] h = refl
whole_len (c ∷ line) h =
    let w = no_feed c line h in
    ap (λ (is : Bool). if is then 0 else 1 + line_len line) w.0
    ∙ one_more (line_len line) (length line) (whole_len line w.1)
