-- The lines of a text, each ended by a line feed.
use Rattle.std.specs.Prelude.{◌≡◌, ℕ, zero, suc, ◌+◌, Bool, true, false, not, ◌==◌, List, [], ◌∷◌, ◌++◌, IsTrue, if◌then◌else◌}
use Rattle.std.specs.List.{list_all}

-- the first n lines, each with its line feed; all bytes where there are fewer
abbrev pub lines : ℕ → List ℕ → List ℕ
lines zero text = []
lines (suc n) [] = []
lines (suc n) (c ∷ text) = if c == 10 then c ∷ lines n text else c ∷ lines (suc n) text

-- whether there are n lines, each ended by a line feed
abbrev pub has_lines : ℕ → List ℕ → Bool
has_lines zero text = true
has_lines (suc n) [] = false
has_lines (suc n) (c ∷ text) = if c == 10 then has_lines n text else has_lines (suc n) text

-- a text has n lines, each with its line feed, and a whole text begins with them
abbrev pub Begins : ℕ → List ℕ → List ℕ → Type 0
Begins n whole text = IsTrue (has_lines n text) × (lines n whole ≡ lines n text)

-- bytes without a line feed
abbrev pub is_line : List ℕ → Bool
is_line line = list_all (λ b. not (b == 10)) line

-- lines, each with a line feed behind it
abbrev pub joined : List (List ℕ) → List ℕ
joined [] = []
joined (line ∷ more) = line ++ 10 ∷ joined more

-- each is a line
abbrev pub are_lines : List (List ℕ) → Bool
are_lines taken = list_all is_line taken

-- how many bytes stand before the first line feed, or before the end
abbrev pub line_len : List ℕ → ℕ
line_len [] = 0
line_len (c ∷ rest) = if c == 10 then 0 else 1 + line_len rest
