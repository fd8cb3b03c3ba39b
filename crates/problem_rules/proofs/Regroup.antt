-- Six tests in a row, two of them taken together twice.
use Rattle.std.proofs.Common.{◌≡◌, ℕ, Bool, true, false, not, ◌&&◌, List, refl}
use Rattle.std.specs.Prelude.{◌==◌, nat_lt}
use Rattle.std.specs.List.{list_all, list_any}
use Rattle.tp_spec.specs.Lists.{is_empty, each_next}
use Rattle.tp_spec.specs.WellFormed.{is_timed}
use Rattle.tp_spec.specs.declared.problem.TimedItem.{TimedItem}

pub six_tests : (a b c d e f : Bool) → (a && (b && c) && (d && e) && f) ≡ (a && b && c && d && e && f)
six_tests false b c d e f = refl
six_tests true false c d e f = refl
six_tests true true false d e f = refl
six_tests true true true d e f = refl

-- the tests of a timed item's facts as the code groups them
abbrev pub grouped : ℕ → List ℕ → List ℕ → Bool
grouped facts adds deletes =
    not (is_empty adds && is_empty deletes)
    && (list_all (λ x. nat_lt x facts) adds && list_all (λ x. nat_lt x facts) deletes)
    && (each_next nat_lt adds && each_next nat_lt deletes)
    && list_all (λ x. not (list_any (λ y. x == y) deletes)) adds

pub timed_tests : (facts : ℕ) (t : TimedItem) → grouped facts t.adds t.deletes ≡ is_timed facts t
timed_tests facts t =
    six_tests (not (is_empty t.adds && is_empty t.deletes)) (list_all (λ x. nat_lt x facts) t.adds) (list_all (λ x. nat_lt x facts) t.deletes)
    (each_next nat_lt t.adds) (each_next nat_lt t.deletes) (list_all (λ x. not (list_any (λ y. x == y) t.deletes)) t.adds)
