-- Names in the order of their first places.
use Rattle.std.specs.Prelude.{ℕ, Bool, not, if◌then◌else◌, List, [], ◌∷◌, ◌++◌}
use Rattle.std.specs.List.{list_any}
use Rattle.std.specs.Str.{bytes_eq}

-- the names after one more: it goes last where it is new
abbrev pub with_name : List (List ℕ) → List ℕ → List (List ℕ)
with_name names name = if list_any (bytes_eq name) names then names else names ++ name ∷ []

-- whether a name is not there yet
abbrev pub is_new : List (List ℕ) → List ℕ → Bool
is_new names name = not (list_any (bytes_eq name) names)
