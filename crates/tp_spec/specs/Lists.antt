-- Words on lists that go by recursion, so that they compute and serve inductions.
use Rattle.std.specs.Prelude.{◌≡◌, ◌⊎◌, Bool, true, false, ◌&&◌, List, [], ◌∷◌, ◌++◌, Option, Some, None}
use Rattle.std.specs.List.{list_all}

-- whether there is no member
abbrev pub is_empty : {A : Type 0} → List A → Bool
is_empty [] = true
is_empty (x ∷ xs) = false

-- whether each two members, the earlier first, are related so
abbrev pub each_pair : {A : Type 0} → (A → A → Bool) → List A → Bool
each_pair related [] = true
each_pair related (x ∷ xs) = list_all (related x) xs && each_pair related xs

-- whether each two neighbours are related so
abbrev pub each_next : {A : Type 0} → (A → A → Bool) → List A → Bool
each_next related [] = true
each_next related (x ∷ []) = true
each_next related (x ∷ y ∷ xs) = related x y && each_next related (y ∷ xs)

-- x is a member
abbrev pub IsIn : {A : Type 0} → A → List A → Type 0
IsIn x [] = ⊥
IsIn x (y ∷ ys) = (y ≡ x) ⊎ IsIn x ys

-- a list begins with another one
pub record BeginsWith {A : Type 0} (whole front : List A) : Type 0 where
  pub rest : List A
  pub is : whole ≡ front ++ rest

-- a test of what may be missing, which fails where it is
abbrev pub some_and : {A : Type 0} → Option A → (A → Bool) → Bool
some_and None test = false
some_and (Some x) test = test x

-- a list of what may be missing, which is empty where it is
abbrev pub part_of : {A B : Type 0} → Option A → (A → List B) → List B
part_of None part = []
part_of (Some x) part = part x
