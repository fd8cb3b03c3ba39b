-- Reading members and blocks one after the other, as loops do.
use Rattle.std.proofs.Common.{◌≡◌, ℕ, suc, ◌-◌, ◌+◌, ◌≤◌, ◌<◌, true, false, List, [], ◌∷◌, ◌++◌, drop, sym, ap, ◌∙◌, append_assoc, arith}
use Rattle.std.proofs.lemmas.List.{append-nil}
use Rattle.ground_text.specs.Reading.{first_is, members_at, repeated_at}

-- what was read before, and what is still read
abbrev pub with_front : {A : Type 0} → List A → List A × List ℕ → List A × List ℕ
with_front front read = (front ++ read.0, read.1)

regroup : {A : Type 0} (front : List A) (x : A) (read : List A × List ℕ) → with_front front (x ∷ read.0, read.1) ≡ with_front (front ++ x ∷ []) read
regroup front x read = ap (λ (xs : List _). (xs, read.1)) (sym (append_assoc front (x ∷ []) read.0))

pub member_goes_on : {A : Type 0} (at : List ℕ → A × List ℕ) (front : List A) (count i : ℕ) (bytes : List ℕ) (x : A) (after : List ℕ) (total : List A × List ℕ)
    → i < count → first_is 32 bytes ≡ true → (x, after) ≡ at (drop 1 bytes)
    → with_front front (members_at at (count - i) bytes) ≡ total → with_front (front ++ x ∷ []) (members_at at (count - (i + 1)) after) ≡ total
member_goes_on at front count i bytes x after total lt space h so_far =
    let k : count - i ≡ suc (count - (i + 1)) = omega arith in
    let one : with_front front (members_at at (count - i) bytes) ≡ with_front (front ++ x ∷ []) (members_at at (count - (i + 1)) after) =
    rw (k, space, ← h) (regroup front x (members_at at (count - (i + 1)) after)) in
    sym one ∙ so_far

pub member_stops : {A : Type 0} (at : List ℕ → A × List ℕ) (front : List A) (count i : ℕ) (bytes : List ℕ) (total : List A × List ℕ)
    → i < count → first_is 32 bytes ≡ false
    → with_front front (members_at at (count - i) bytes) ≡ total → (front, bytes) ≡ total
member_stops at front count i bytes total lt space so_far =
    let k : count - i ≡ suc (count - (i + 1)) = omega arith in
    let one : with_front front (members_at at (count - i) bytes) ≡ (front, bytes) = rw (k, space) (ap (λ (xs : List _). (xs, bytes)) (append-nil front)) in
    sym one ∙ so_far

pub members_end : {A : Type 0} (at : List ℕ → A × List ℕ) (front : List A) (count i : ℕ) (bytes : List ℕ) (total : List A × List ℕ)
    → count ≤ i → with_front front (members_at at (count - i) bytes) ≡ total → (front, bytes) ≡ total
members_end at front count i bytes total le so_far =
    let k : count - i ≡ 0 = omega arith in
    let one : with_front front (members_at at (count - i) bytes) ≡ (front, bytes) = rw k (ap (λ (xs : List _). (xs, bytes)) (append-nil front)) in
    sym one ∙ so_far

pub block_goes_on : {A : Type 0} (at : List ℕ → A × List ℕ) (front : List A) (count i : ℕ) (bytes : List ℕ) (x : A) (after : List ℕ) (total : List A × List ℕ)
    → i < count → (x, after) ≡ at bytes
    → with_front front (repeated_at at (count - i) bytes) ≡ total → with_front (front ++ x ∷ []) (repeated_at at (count - (i + 1)) after) ≡ total
block_goes_on {A} at front count i bytes x after total lt h so_far =
    let k : count - i ≡ suc (count - (i + 1)) = omega arith in
    let one : with_front front (repeated_at at (count - i) bytes) ≡ with_front (front ++ x ∷ []) (repeated_at at (count - (i + 1)) after) =
    rw k (ap (λ (y : A × List ℕ). with_front front (y.0 ∷ (repeated_at at (count - (i + 1)) y.1).0, (repeated_at at (count - (i + 1)) y.1).1)) (sym h)
    ∙ regroup front x (repeated_at at (count - (i + 1)) after)) in
    sym one ∙ so_far

pub blocks_end : {A : Type 0} (at : List ℕ → A × List ℕ) (front : List A) (count i : ℕ) (bytes : List ℕ) (total : List A × List ℕ)
    → count ≤ i → with_front front (repeated_at at (count - i) bytes) ≡ total → (front, bytes) ≡ total
blocks_end at front count i bytes total le so_far =
    let k : count - i ≡ 0 = omega arith in
    let one : with_front front (repeated_at at (count - i) bytes) ≡ (front, bytes) = rw k (ap (λ (xs : List _). (xs, bytes)) (append-nil front)) in
    sym one ∙ so_far
