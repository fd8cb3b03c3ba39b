-- Where in a text a byte stands, and what is shown below its line.
use Rattle.std.specs.Prelude.{◌≡◌, ℕ, suc, ◌+◌, ◌-◌, Bool, ◌&&◌, ◌==◌, nat_le, min, List, [], ◌∷◌, length, take, drop, if◌then◌else◌}
use Rattle.line_text.specs.Lines.{line_len}
use Rattle.fault_places.specs.declared.places.LinePlace.{LinePlace}

-- how many line feeds a text has
abbrev pub line_feeds : List ℕ → ℕ
line_feeds [] = 0
line_feeds (c ∷ rest) = if c == 10 then 1 + line_feeds rest else line_feeds rest

-- a byte of a UTF-8 character behind its first one
abbrev pub is_inside : ℕ → Bool
is_inside c = nat_le 128 c && nat_le c 191

-- how many characters begin in a text
abbrev pub characters : List ℕ → ℕ
characters [] = 0
characters (c ∷ rest) = if is_inside c then characters rest else 1 + characters rest

-- how many bytes stand behind the last line feed of a text that follows so many of its line
abbrev pub tail_len : ℕ → List ℕ → ℕ
tail_len n [] = n
tail_len n (c ∷ rest) = if c == 10 then tail_len 0 rest else tail_len (suc n) rest

-- blanks as wide as a text is shown: its tabs stay, so that what stands below lines up
abbrev pub blanks : List ℕ → List ℕ
blanks [] = []
blanks (c ∷ rest) =
    if c == 9 then 9 ∷ blanks rest else if is_inside c then blanks rest else 32 ∷ blanks rest

-- the bytes of a text before an offset; all of them where it stands behind the end
abbrev pub before : ℕ → List ℕ → List ℕ
before offset text = take (min offset (length text)) text

-- the bytes of the line of an offset that stand before it
abbrev pub line_before : ℕ → List ℕ → List ℕ
line_before offset text =
    drop (length (before offset text) - tail_len 0 (before offset text)) (before offset text)

-- The place of an offset in a text: its line and column, both from 1, and where its line begins and
-- ends, without the line feed.
pub record IsPlace (text : List ℕ) (offset : ℕ) (place : LinePlace) : Type 0 where
  pub line : place.line ≡ 1 + line_feeds (before offset text)
  pub column : place.column ≡ 1 + characters (line_before offset text)
  pub start : place.start + tail_len 0 (before offset text) ≡ length (before offset text)
  pub end : place.end
      ≡ length (before offset text) + line_len (drop (length (before offset text)) text)

-- how many bytes the first n lines of a text have, each with its line feed
abbrev pub lines_len : ℕ → List ℕ → ℕ
lines_len n [] = 0
lines_len n (c ∷ rest) =
    if n == 0 then 0 else if c == 10 then 1 + lines_len (n - 1) rest else 1 + lines_len n rest
