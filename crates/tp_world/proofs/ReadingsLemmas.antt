-- Readings one after another, of a clock that tells them before.
use Rattle.std.proofs.Common.{◌≡◌, ℕ, ◌+◌, List, [], ◌∷◌, ◌++◌, length, slice_index, ap, ◌∙◌, arith, Option, Some, None, IfSome, subst, ⊎_elim}
use Rattle.std.proofs.lemmas.List.{get_or_push, get_or_append_left, length_push}
use Rattle.std.proofs.lemmas.Bool.{cases_lt}
use Rattle.tp_world.specs.Counts.{count_after}
use Rattle.tp_world.specs.Readings.{reading_at, AreNext}

-- a count that stands still at the greatest `u64` gives the reading that a count without end gives
pub reading_at-count_after : (readings : List ℕ) (count n : ℕ) → reading_at readings (count_after count n) ≡ reading_at readings (count + n)
reading_at-count_after readings count n = ap (slice_index readings) (omega arith)

-- one reading more
pub AreNext-more : (readings : List ℕ) (count : ℕ) (taken : List ℕ) (r : ℕ)
    → AreNext readings count taken → r ≡ reading_at readings (count_after count (length taken)) → AreNext readings count (taken ++ r ∷ [])
AreNext-more readings count taken r earlier e k below =
    let longer = length_push taken r in
    ⊎_elim (λ w. get_or_append_left taken (r ∷ []) 0 k w ∙ earlier k w)
    (λ w. get_or_push taken r 0 k (omega arith) ∙ e ∙ reading_at-count_after readings count (length taken) ∙ ap (λ n. reading_at readings (count + n)) (omega arith))
    (cases_lt k (length taken))

-- the same where the clock may tell no readings
pub AreNext-read : (told now : Option (List ℕ)) (count now_count : ℕ) (taken : List ℕ) (r : ℕ)
    → IfSome told (λ readings. AreNext readings count taken) → now ≡ told → IfSome now (λ readings. r ≡ reading_at readings now_count)
    → now_count ≡ count_after count (length taken) → IfSome told (λ readings. AreNext readings count (taken ++ r ∷ []))
AreNext-read None now count now_count taken r earlier same e n = tt
AreNext-read (Some readings) now count now_count taken r earlier same e n =
    let e' : r ≡ reading_at readings now_count = subst (λ (o : Option (List ℕ)). IfSome o (λ xs. r ≡ reading_at xs now_count)) same e in
    AreNext-more readings count taken r earlier (e' ∙ ap (reading_at readings) n)
