-- What is read of the line of a count and the blocks behind it, where they may be cut off.
use Rattle.std.proofs.Common.{◌≡◌, ℕ, zero, suc, ◌^◌, ◌≤◌, ◌<◌, min, true, List, [], ◌∷◌, ◌++◌, length, drop, refl, sym, ap, ◌∙◌, append_assoc, arith}
use Rattle.std.specs.Prelude.{decimal}
use Rattle.std.specs.List.{list_all, flat_map}
use Rattle.ground_text.specs.Texts.{counted}
use Rattle.ground_text.specs.Reading.{number_at, repeated_at, counted_at}
use Rattle.line_text.specs.Lines.{lines}
use Rattle.ground_text.proofs.Numbers.{number_again}
use Rattle.ground_text.proofs.Cuts.{is_inside, line_first, decimal_inside}
use Rattle.ground_text.proofs.Picks.{Word, joined_inside}

-- a word, a count and as many blocks
abbrev pub blocks : {A : Type 0} → (A → List ℕ) → List ℕ → List A → List ℕ → List ℕ
blocks text word xs rest = word ++ (counted text xs ++ rest)

count_line : {A : Type 0} (text : A → List ℕ) (word : List ℕ) (xs : List A) (rest : List ℕ) (k : ℕ) → list_all is_inside word ≡ true → length xs < 2 ^ 64
    → lines (suc k) (blocks text word xs rest) ≡ word ++ (decimal (length xs) ++ (10 ∷ lines k (flat_map text xs ++ rest)))
unfolding counted
count_line text word xs rest k inside few =
    let shape : blocks text word xs rest ≡ (word ++ decimal (length xs)) ++ (10 ∷ (flat_map text xs ++ rest)) = simp append_assoc in
    ap (lines (suc k)) shape
    ∙ line_first (word ++ decimal (length xs)) _ k (joined_inside word (decimal (length xs)) inside (decimal_inside (length xs) few))
    ∙ append_assoc word (decimal (length xs)) _

-- one block and those behind it
pub repeated_first : {A : Type 0} (at : List ℕ → A × List ℕ) (n : ℕ) (bytes after : List ℕ) (x : A) (read : List A × List ℕ)
    → at bytes ≡ (x, after) → repeated_at at n after ≡ read → repeated_at at (suc n) bytes ≡ (x ∷ read.0, read.1)
repeated_first {A} at n bytes after x read one others =
    ap (λ (y : A × List ℕ). (y.0 ∷ (repeated_at at n y.1).0, (repeated_at at n y.1).1)) one
    ∙ ap (λ (r : List A × List ℕ). (x ∷ r.0, r.1)) others

-- with no line left there is no count
pub counted_none : {A : Type 0} (at : List ℕ → A × List ℕ) (skipped most : ℕ) → counted_at at most (drop {A = ℕ} skipped []) ≡ ([], [])
unfolding counted_at number_at
counted_none {A} at skipped most =
    let count : min 0 most ≡ 0 = omega arith in
    gone skipped ∙ ap (λ (n : ℕ). repeated_at at n []) count where
      gone : (n : ℕ) → counted_at at most (drop {A = ℕ} n []) ≡ repeated_at at (min 0 most) []
      gone zero = refl
      gone (suc n) = refl

-- with the line of the count, what the blocks behind it give
pub counted_cut : {A : Type 0} (at : List ℕ → A × List ℕ) (text : A → List ℕ) (word : List ℕ) (skipped most k : ℕ) (xs : List A) (rest : List ℕ) (read : List A × List ℕ)
    → Word word skipped → most < 2 ^ 32 → length xs ≤ most
    → repeated_at at (length xs) (lines k (flat_map text xs ++ rest)) ≡ read
    → counted_at at most (drop skipped (lines (suc k) (blocks text word xs rest))) ≡ read
unfolding counted_at
counted_cut at text word skipped most k xs rest read w fits few each =
    let least : min (length xs) most ≡ length xs = omega arith in
    let behind = lines k (flat_map text xs ++ rest) in
    ap (λ (t : List ℕ). counted_at at most (drop skipped t)) (count_line text word xs rest k w.inside (omega arith))
    ∙ ap (counted_at at most) (w.skips (decimal (length xs) ++ (10 ∷ behind)))
    ∙ ap (λ (n : ℕ × List ℕ). repeated_at at (min n.0 most) (drop 1 n.1)) (number_again (length xs) (10 ∷ behind) (omega arith) refl)
    ∙ ap (λ (n : ℕ). repeated_at at n behind) least
    ∙ each

-- as many other blocks that begin with the same lines
pub counted_same : {A : Type 0} (text : A → List ℕ) (word : List ℕ) (k : ℕ) (xs ys : List A) (rest other : List ℕ)
    → list_all is_inside word ≡ true → length xs < 2 ^ 64 → length ys ≡ length xs
    → lines k (flat_map text ys ++ other) ≡ lines k (flat_map text xs ++ rest)
    → lines (suc k) (blocks text word ys other) ≡ lines (suc k) (blocks text word xs rest)
counted_same text word k xs ys rest other inside few long same =
    count_line text word ys other k inside (omega (arith, long))
    ∙ (λ i. word ++ (decimal (long i) ++ (10 ∷ same i)))
    ∙ sym (count_line text word xs rest k inside few)
