-- One type more, with its parent.
use Rattle.std.proofs.Common.{◌≡◌, ℕ, suc, ◌+◌, ◌<◌, List, [], ◌∷◌, ◌++◌, length, get_or, drop, refl, ap, sym, ◌∙◌, append_assoc}
use Rattle.std.proofs.lemmas.List.{at_drop_more}
use Rattle.pddl_parts.specs.Tables.{value_of}
use Rattle.pddl_meaning.specs.Terms.{or_zero}
use Rattle.pddl_domain.specs.declared.domain.Sort.{Sort}
use Rattle.pddl_domain.specs.Meaning.{each_sort}

abbrev pub sort_of : List (List ℕ × ℕ) → List ℕ → Sort
sort_of parents name = record { name = name; parent = or_zero (value_of parents name) }

pub one_sort : (parents : List (List ℕ × ℕ)) (types : List (List ℕ)) (sorts : List Sort) (i : ℕ) → i < length types
    → sorts ++ each_sort parents (drop i types) ≡ (sorts ++ sort_of parents (get_or types i []) ∷ []) ++ each_sort parents (drop (i + 1) types)
one_sort parents types sorts i lt =
    at_drop_more (λ (ys : List (List ℕ)). sorts ++ each_sort parents ys) types i [] lt
    ∙ sym (append_assoc sorts (sort_of parents (get_or types i []) ∷ []) (each_sort parents (drop (i + 1) types)))
