-- Names with numbers, each name once.
use Rattle.std.specs.Prelude.{ℕ, is_some, if◌then◌else◌, List, [], ◌∷◌, ◌++◌, Option}
use Rattle.std.specs.Map.{lookup}
use Rattle.std.specs.Str.{bytes_eq}

-- the number of a name
abbrev pub value_of : List (List ℕ × ℕ) → List ℕ → Option ℕ
value_of table name = lookup (bytes_eq name) table

-- the names after one more: it goes last where it is new, else the earlier number stays
abbrev pub with_value : List (List ℕ × ℕ) → List ℕ → ℕ → List (List ℕ × ℕ)
with_value table name value =
    if is_some (value_of table name) then table else table ++ (name, value) ∷ []
