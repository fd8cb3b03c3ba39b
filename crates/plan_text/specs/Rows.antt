-- The line of an act as a row of pieces.
use Rattle.std.specs.Prelude.{◌≡◌, ◌↔◌, ℕ, true, not, List, ◌∷◌, ◌++◌, Option, Some, None}
use Rattle.std.specs.List.{list_all}
use Rattle.pddl_tokens.specs.Tokens.{is_blank}
use Rattle.plan_text.specs.Pieces.{is_mark}
use Rattle.plan_text.specs.Acts.{Parts, are_words, parts_of}

-- white space or nothing
abbrev pub IsBlank : List ℕ → Type 0
IsBlank text = list_all is_blank text ≡ true

-- the byte c is nowhere
abbrev pub IsWithout : ℕ → List ℕ → Type 0
IsWithout c text = list_all (λ b. not (is_mark c b)) text ≡ true

-- `[ LENGTH ]` with white space round it
pub record IsBracketed (text length : List ℕ) : Type 0 where
  pub before : List ℕ
  pub behind : List ℕ
  pub is : text ≡ before ++ 91 ∷ (length ++ 93 ∷ behind)
  pub before_blank : IsBlank before
  pub behind_blank : IsBlank behind
  pub first_end : IsWithout 93 length

-- what stands behind the name: a length between brackets, or white space
abbrev pub IsTailOf : Option (List ℕ) → List ℕ → Type 0
IsTailOf None tail = IsBlank tail
IsTailOf (Some length) tail = IsBracketed tail length

-- `START : ( NAME )`, and what stands behind it
pub record IsRow (text : List ℕ) (x : Parts) : Type 0 where
  pub between : List ℕ
  pub tail : List ℕ
  pub is : text ≡ x.start ++ 58 ∷ (between ++ 40 ∷ (x.name ++ 41 ∷ tail))
  pub first_colon : IsWithout 58 x.start
  pub between_blank : IsBlank between
  pub first_close : IsWithout 41 x.name
  pub name : are_words x.name ≡ true
  pub length : IsTailOf x.length tail

-- the parts of a text are those of which it is a row
abbrev pub PartsAreRows : Type 0
PartsAreRows = (text : List ℕ) (x : Parts) → (parts_of text ≡ Some x) ↔ IsRow text x
