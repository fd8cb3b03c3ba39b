-- The words and parentheses of a text, with their places.
use Rattle.std.specs.Prelude.{ℕ, suc, ◌+◌, ◌-◌, Bool, false, not, ◌&&◌, ◌||◌, nat_le, nat_eq, if◌then◌else◌, List, [], ◌∷◌, ◌++◌, length, drop, map}
use Rattle.std.specs.List.{starts_with}

-- a parenthesis, or a word by the place of its first byte
pub data Token : Type 0 where
  Opens : (at : ℕ) → Token
  Closes : (at : ℕ) → Token
  Spells : (at : ℕ) → (text : List ℕ) → Token

-- space, tab, line feed, carriage return
abbrev pub is_blank : ℕ → Bool
is_blank c = nat_eq c 32 || nat_eq c 9 || nat_eq c 10 || nat_eq c 13

-- what stands in a word: neither white space nor a parenthesis
abbrev pub is_letter : ℕ → Bool
is_letter c = not (is_blank c || nat_eq c 40 || nat_eq c 41)

-- a byte, or a blank for a byte of a comment; a semicolon begins one
abbrev pub shown : Bool → ℕ → ℕ
shown inside c = if inside || nat_eq c 59 then 32 else c

-- whether a comment runs behind a byte: it begins with a semicolon and ends with its line
abbrev pub runs_on : Bool → ℕ → Bool
runs_on inside c = if inside then not (nat_eq c 10) else nat_eq c 59

-- each comment in blanks; the text begins inside one or not
abbrev pub uncommented : Bool → List ℕ → List ℕ
uncommented inside [] = []
uncommented inside (c ∷ rest) = shown inside c ∷ uncommented (runs_on inside c) rest

-- an ASCII letter in lower case
abbrev pub lower : ℕ → ℕ
lower c = if nat_le 65 c && nat_le c 90 then c + 32 else c

abbrev pub uncommented_lower : List ℕ → List ℕ
uncommented_lower text = uncommented false (map lower text)

-- the byte order mark in UTF-8
abbrev pub byte_order_mark : List ℕ
byte_order_mark = 0xef ∷ 0xbb ∷ 0xbf ∷ []

-- the text with blanks for a byte order mark at its start and for comments, and in lower case;
-- places stay
abbrev pub plain : List ℕ → List ℕ
plain text =
    if starts_with nat_eq text byte_order_mark then 32 ∷ 32 ∷ 32 ∷ uncommented_lower (drop 3 text)
    else uncommented_lower text

-- the word that ends before a place, where there is one
abbrev pub word_before : ℕ → List ℕ → List Token
word_before at [] = []
word_before at (c ∷ rest) = Spells (at - suc (length rest)) (c ∷ rest) ∷ []

-- the parenthesis at a place, where there is one
abbrev pub mark_at : ℕ → ℕ → List Token
mark_at at c = if nat_eq c 40 then Opens at ∷ [] else if nat_eq c 41 then Closes at ∷ [] else []

-- what stands from a place on, behind the beginning of a word
abbrev pub tokens_from : ℕ → List ℕ → List ℕ → List Token
tokens_from at word [] = word_before at word
tokens_from at word (c ∷ rest) =
    if is_letter c then tokens_from (suc at) (word ++ c ∷ []) rest
    else word_before at word ++ mark_at at c ++ tokens_from (suc at) [] rest

-- all tokens of a text
abbrev pub tokens_of_text : List ℕ → List Token
tokens_of_text text = tokens_from 0 [] (plain text)
