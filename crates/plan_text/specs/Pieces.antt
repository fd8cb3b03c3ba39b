-- The pieces of a line: what stands before and behind a mark, and white space.
use Rattle.std.specs.Prelude.{ℕ, suc, Bool, true, false, nat_eq, if◌then◌else◌, List, [], ◌∷◌, map, take, drop, position, Option, Some, None}
use Rattle.std.specs.List.{before_first}
use Rattle.std.specs.Char.{to_ascii_lowercase}
use Rattle.pddl_tokens.specs.Tokens.{is_blank}

abbrev pub is_mark : ℕ → ℕ → Bool
is_mark c b = nat_eq b c

-- what stands before and behind a place
abbrev pub cut_at : List ℕ → Option ℕ → Option (List ℕ × List ℕ)
cut_at text None = None
cut_at text (Some i) = Some (take i text, drop (suc i) text)

-- what stands before and behind the first byte c, where there is one
abbrev pub cut : ℕ → List ℕ → Option (List ℕ × List ℕ)
cut c text = cut_at text (position (is_mark c) text)

-- a text without the white space at its start
abbrev pub unindented : List ℕ → List ℕ
unindented [] = []
unindented (b ∷ rest) = if is_blank b then unindented rest else b ∷ rest

-- what follows a word's byte, or follows white space behind one: a space stands for each run of
-- white space that a word follows
abbrev pub spaced_behind : Bool → List ℕ → List ℕ
spaced_behind blank [] = []
spaced_behind blank (b ∷ rest) =
    if is_blank b then spaced_behind true rest
    else if blank then 32 ∷ b ∷ spaced_behind false rest
    else b ∷ spaced_behind false rest

-- the words of a text with one space between them
abbrev pub spaced : List ℕ → List ℕ
spaced text = spaced_behind false (unindented text)

-- what stands behind white space and the byte c
abbrev pub behind_first : ℕ → List ℕ → Option (List ℕ)
behind_first c [] = None
behind_first c (b ∷ rest) = if nat_eq b c then Some rest else None

abbrev pub behind : ℕ → List ℕ → Option (List ℕ)
behind c text = behind_first c (unindented text)

-- a line without its comment, which a semicolon begins
abbrev pub uncommented : List ℕ → List ℕ
uncommented line = before_first (is_mark 59) line

-- a line without its comment and in lower case
abbrev pub plain : List ℕ → List ℕ
plain line = map to_ascii_lowercase (uncommented line)
