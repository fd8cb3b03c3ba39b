-- Types, the objects of a type, and the typed substitutions of an action.
use Rattle.std.specs.Prelude.{ℕ, zero, suc, ◌+◌, ◌*◌, Bool, ◌||◌, ◌==◌, if◌then◌else◌, List, [], ◌∷◌, length, map, Option, Some, None, slice_get}
use Rattle.std.specs.List.{flat_map, range_with_len}
use Rattle.pddl_domain.specs.declared.domain.Schema.{Schema}
use Rattle.pddl_domain.specs.declared.domain.Sort.{Sort}
use Rattle.grounder.specs.Sources.{Source}

-- the numbers, from n on, of the members that pass a test
abbrev pub numbers_where : {A : Type 0} → (A → Bool) → ℕ → List A → List ℕ
numbers_where test n [] = []
numbers_where test n (x ∷ xs) =
    if test x then n ∷ numbers_where test (n + 1) xs else numbers_where test (n + 1) xs

abbrev pub parent_in : Option Sort → ℕ
parent_in None = 0
parent_in (Some sort) = sort.parent

abbrev pub parent_of : Source → ℕ → ℕ
parent_of s sort = parent_in (slice_get s.domain.types sort)

-- whether a type is met among so many steps up from another one
abbrev pub climbs : Source → ℕ → ℕ → ℕ → Bool
climbs s target zero sort = sort == target
climbs s target (suc n) sort = sort == target || climbs s target n (parent_of s sort)

-- whether a type is another one or below it; a way up that does not end has no more steps than
-- there are types
abbrev pub is_below : Source → ℕ → ℕ → Bool
is_below s target sort = climbs s target (length s.domain.types) sort

-- the objects of a type, by their numbers in order
abbrev pub objects_of : Source → ℕ → List ℕ
objects_of s sort = numbers_where (λ o. is_below s sort o.sort) 0 s.task.objects

-- all lists with a member of each of these, the first one leading
abbrev pub choices : List (List ℕ) → List (List ℕ)
choices [] = [] ∷ []
choices (range ∷ ranges) = flat_map (λ k. map (λ rest. k ∷ rest) (choices ranges)) range

-- the typed substitutions for parameters of these types
abbrev pub substitutions : Source → List ℕ → List (List ℕ)
substitutions s sorts = choices (map (objects_of s) sorts)

-- how many choices there are
abbrev pub choices_number : List (List ℕ) → ℕ
choices_number [] = 1
choices_number (range ∷ ranges) = length range * choices_number ranges

abbrev pub number_of : Source → List ℕ → ℕ
number_of s sorts = choices_number (map (objects_of s) sorts)

-- how many substitutions some actions have
abbrev pub raw_number : Source → List Schema → ℕ
raw_number s [] = 0
raw_number s (a ∷ rest) = number_of s a.sorts + raw_number s rest

-- for each type its objects
abbrev pub objects_by_type : Source → List (List ℕ)
objects_by_type s = map (objects_of s) (range_with_len 0 (length s.domain.types))
