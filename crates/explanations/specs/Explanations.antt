-- How the explanation of a refused file begins.
use Rattle.std.specs.Prelude.{◌≡◌, ℕ, ◌++◌, List, [], ◌∷◌, decimal}
use Rattle.fault_places.specs.Places.{IsPlace}
use Rattle.fault_places.specs.declared.places.LinePlace.{LinePlace}

-- where a byte of a file is, as FILE:LINE:COLUMN and a colon
abbrev pub place_text : List ℕ → LinePlace → List ℕ
place_text file place = file ++ 58 ∷ decimal place.line ++ 58 ∷ decimal place.column ++ 58 ∷ 32 ∷ []

-- An explanation that begins with the place of an offset of a file's text.
pub record BeginsAtPlace (file text : List ℕ) (offset : ℕ) (said : List ℕ) : Type 0 where
  pub place : LinePlace
  pub is_place : IsPlace text offset place
  pub rest : List ℕ
  pub says : said ≡ place_text file place ++ rest

-- a line of a file by its number from 1, as FILE:LINE and a colon
abbrev pub line_text : List ℕ → ℕ → List ℕ
line_text file number = file ++ 58 ∷ decimal number ++ 58 ∷ 32 ∷ []

-- An explanation that begins with the number of a line of a file.
pub record BeginsAtLine (file : List ℕ) (number : ℕ) (said : List ℕ) : Type 0 where
  pub rest : List ℕ
  pub says : said ≡ line_text file number ++ rest
