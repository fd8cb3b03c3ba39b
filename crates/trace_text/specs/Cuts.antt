-- Values that are written at the front of a text, or are all of it, read in the one way there is.
use Rattle.std.specs.Prelude.{◌≡◌, ℕ, Bool, false, List, ◌∷◌, ◌++◌, IsTrue, codes, decimal, nat_le}
use Rattle.line_text.specs.Numbers.{begins_with_digit}

-- A text begins with what is written of x, and no further digit stands behind that; of no other
-- value that may be.
pub record IsCut {A : Type 0} (written : A → List ℕ) (may : A → Bool) (text : List ℕ) (x : A)
    (rest : List ℕ) : Type 0 where
  pub is : text ≡ written x ++ rest
  pub may_be : IsTrue (may x)
  pub ends : begins_with_digit rest ≡ false
  pub only : (y : A) (behind : List ℕ) → IsTrue (may y) → begins_with_digit behind ≡ false
      → text ≡ written y ++ behind → (y ≡ x) × (behind ≡ rest)

-- a text begins with no such value
abbrev pub NoneCut : {A : Type 0} → (A → List ℕ) → (A → Bool) → List ℕ → Type 0
NoneCut {A} written may text =
    (y : A) (behind : List ℕ) → IsTrue (may y) → begins_with_digit behind ≡ false
    → text ≡ written y ++ behind → ⊥

-- A text is what is written of x, and of no other value that may be.
pub record IsRead {A : Type 0} (written : A → List ℕ) (may : A → Bool) (text : List ℕ) (x : A) :
    Type 0 where
  pub is : text ≡ written x
  pub may_be : IsTrue (may x)
  pub only : (y : A) → IsTrue (may y) → text ≡ written y → y ≡ x

-- a text is what is written of no such value
abbrev pub NoneRead : {A : Type 0} → (A → List ℕ) → (A → Bool) → List ℕ → Type 0
NoneRead {A} written may text = (y : A) → IsTrue (may y) → text ≡ written y → ⊥

-- a number behind a sign of one byte
abbrev pub signed : ℕ → ℕ → List ℕ
signed sign n = sign ∷ decimal n

abbrev pub at_most : ℕ → ℕ → Bool
at_most most n = nat_le n most

-- a value behind one space
abbrev pub spaced : {A : Type 0} → (A → List ℕ) → A → List ℕ
spaced written x = codes " " ++ written x
