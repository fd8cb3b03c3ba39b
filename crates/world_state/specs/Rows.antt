-- Sets of numbers, of facts or of fluents, as rows of bits.
use Rattle.std.specs.Prelude.{◌≡◌, ℕ, ◌/◌, ◌%◌, Bool, true, not, ◌&&◌, ◌||◌, ◌==◌, nat_lt, List, length, slice_index}
use Rattle.std.specs.Int.{bit_at, div_ceil}
use Rattle.world_state.specs.declared.rows.BitRow.{BitRow}

-- whether a number is in a row of words, 64 numbers to a word; none behind the last word is
unfoldable pub has_bit : List ℕ → ℕ → Bool
has_bit words f = bit_at (slice_index words (f / 64)) (f % 64) == 1

abbrev pub is_in_row : BitRow → ℕ → Bool
is_in_row r f = has_bit r.words.items f

-- how many words a row has
abbrev pub width : BitRow → ℕ
width r = length r.words.items

-- how many words a row of so many numbers takes
abbrev pub words_for : ℕ → ℕ
words_for count = div_ceil count 64

-- whether so many words have a place for a number
abbrev pub has_place : ℕ → ℕ → Bool
has_place words f = nat_lt (f / 64) words

-- a number that two rows have
pub record InBoth (a b : List ℕ) : Type 0 where
  pub member : ℕ
  pub in_first : has_bit a member ≡ true
  pub in_second : has_bit b member ≡ true

-- each number of the first row is in the second
abbrev pub IsWithin : List ℕ → List ℕ → Type 0
IsWithin a b = (f : ℕ) → has_bit a f ≡ true → has_bit b f ≡ true

-- a row of so many words with exactly the numbers of a set
pub record IsRowOf (row : BitRow) (words : ℕ) (set : ℕ → Bool) : Type 0 where
  pub wide : width row ≡ words
  pub has : (f : ℕ) → is_in_row row f ≡ set f

-- a row that took in the numbers of a set for which it has a place
pub record Takes (old new : BitRow) (set : ℕ → Bool) : Type 0 where
  pub wide : width new ≡ width old
  pub has : (f : ℕ) → is_in_row new f ≡ (is_in_row old f || (has_place (width old) f && set f))

-- a row that lost the numbers of a set
pub record Loses (old new : BitRow) (set : ℕ → Bool) : Type 0 where
  pub wide : width new ≡ width old
  pub has : (f : ℕ) → is_in_row new f ≡ (is_in_row old f && not (set f))
