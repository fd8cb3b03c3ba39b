-- Numbers in decimal without leading zeros, read from the front of a text.
use Rattle.std.specs.Prelude.{◌≡◌, ℕ, ◌+◌, ◌-◌, ◌*◌, ◌^◌, ◌≤◌, Bool, false, ◌&&◌, nat_le, min, List, [], ◌∷◌, ◌++◌, decimal, if◌then◌else◌}

abbrev pub is_digit : ℕ → Bool
is_digit c = nat_le 48 c && nat_le c 57

abbrev pub begins_with_digit : List ℕ → Bool
begins_with_digit [] = false
begins_with_digit (c ∷ rest) = is_digit c

-- a text begins with a number of at most so much, and no further digit stands behind that
pub record BeginsWithNumber (most : ℕ) (text : List ℕ) (number : ℕ) (rest : List ℕ) : Type 0 where
  pub is : text ≡ decimal number ++ rest
  pub within : number ≤ most
  pub ends : begins_with_digit rest ≡ false

-- a number held within 64 bits
abbrev pub held : ℕ → ℕ
held n = min n (2 ^ 64 - 1)

-- the number that the digits in front write behind those of n, held so, and what stands behind them
abbrev pub digits_from : ℕ → List ℕ → ℕ × List ℕ
digits_from n [] = (n, [])
digits_from n (c ∷ rest) =
    if is_digit c then digits_from (held (held (n * 10) + (c - 48))) rest else (n, c ∷ rest)
