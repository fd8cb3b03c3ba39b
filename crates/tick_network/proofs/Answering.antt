-- From the greatest ticks below some others to the solutions of a network.
use Rattle.std.proofs.Common.{◌≡◌, ℕ, ◌<◌, ◌≤◌, List, ◌++◌, length, take, sym, ap, subst, arith, ◌∙◌}
use Rattle.std.proofs.Math.Nat.{min-eq_left, le-min}
use Rattle.std.proofs.Math.Seq.{take-append_seam}
use Rattle.std.specs.Prelude.{slice_index, All, map, false, Option, Some, None, IfSome, IfNone, min}
use Rattle.tick_network.specs.declared.net.Row.{Row}
use Rattle.tick_network.specs.declared.net.Net.{Net}
use Rattle.tick_network.specs.Nets.{IsNet, IsGreatest, IsSolutionOf, IsAboveAll, HasNoSolution, KeepsRow}
use Rattle.tick_network.specs.Relaxing.{AreGreatestBelow, HasNoneBelow, AreAtLeast, turned_row}
use Rattle.tick_network.proofs.Mirrors.{same-rows, keeps-same}

written_back : (xs ys : List ℕ) (n : ℕ) → length xs ≡ n → take n (xs ++ ys) ≡ xs
written_back xs ys n e = subst (λ (k : ℕ). take k (xs ++ ys) ≡ xs) e (take-append_seam xs ys)

-- the same, where the ticks are written back into a vector
pub greatest-back : (rows : List Row) (low old lent xs ys : List ℕ) (n : ℕ) → lent ≡ old → length xs ≡ n → AreGreatestBelow rows low lent xs → AreGreatestBelow rows low old (take n (xs ++ ys))
greatest-back rows low old lent xs ys n e len s =
    subst (λ (zs : List ℕ). AreGreatestBelow rows low old zs) (sym (written_back xs ys n len)) (subst (λ (o : List ℕ). AreGreatestBelow rows low o xs) e s)

pub greatest-of : (net : Net) (rows : List Row) (low from xs : List ℕ) → rows ≡ net.rows.items → low ≡ net.low.items → length from ≡ length net.low.items → AreAtLeast from net.high.items → IsAboveAll net from → length xs ≡ length low → AreGreatestBelow (map (turned_row false) rows) low from xs → IsGreatest net xs
greatest-of net rows low from xs er el same below above len s =
    let count : length xs ≡ length net.low.items = len ∙ ap length el in
    record {
      count = count;
      is = record {
        above = λ v b. subst (λ (l : List ℕ). slice_index l v ≤ slice_index xs v) el (s.above v);
        below = λ v b. omega (arith, s.lower v, below v);
        keeps = subst (λ (rs : List Row). All (KeepsRow (slice_index xs)) rs) (same-rows rows ∙ er) s.keeps;
      };
      last = λ t is v b. s.last t (subst (λ (rs : List Row). All (KeepsRow t) rs) (sym (same-rows rows ∙ er)) is.keeps) (λ w c. above t is w (omega arith)) v (omega arith);
    }

pub none-of : (net : Net) (rows : List Row) (low from : List ℕ) → rows ≡ net.rows.items → low ≡ net.low.items → length from ≡ length net.low.items → IsAboveAll net from → HasNoneBelow (map (turned_row false) rows) low from → HasNoSolution net
none-of net rows low from er el same above none t is =
    none t (subst (λ (rs : List Row). All (KeepsRow t) rs) (sym (same-rows rows ∙ er)) is.keeps)
    (λ v b. above t is v (omega arith))
    (λ v b. subst (λ (l : List ℕ). slice_index l v ≤ t v) (sym el) (is.above v (omega arith)))

-- rows that are kept, as the relaxation sees them
pub kept-of : (net : Net) (rows : List Row) (t : ℕ → ℕ) → rows ≡ net.rows.items → IsSolutionOf net t → All (KeepsRow t) (map (turned_row false) rows)
kept-of net rows t er is = subst (λ (rs : List Row). All (KeepsRow t) rs) (sym (same-rows rows ∙ er)) is.keeps

pub greatest-if : {A : Type 0} (items : A → List ℕ) (o : Option A) (net : Net) (rows : List Row) (low from : List ℕ) → rows ≡ net.rows.items → low ≡ net.low.items → length from ≡ length net.low.items → AreAtLeast from net.high.items → IsAboveAll net from → IfSome o (λ a. length (items a) ≡ length low) → IfSome o (λ a. AreGreatestBelow (map (turned_row false) rows) low from (items a)) → IfSome o (λ a. IsGreatest net (items a))
greatest-if items None net rows low from er el same below above len s = s
greatest-if items (Some a) net rows low from er el same below above len s = greatest-of net rows low from (items a) er el same below above len s

pub none-if : {A : Type 0} (o : Option A) (net : Net) (rows : List Row) (low from : List ℕ) → rows ≡ net.rows.items → low ≡ net.low.items → length from ≡ length net.low.items → IsAboveAll net from → IfNone o (HasNoneBelow (map (turned_row false) rows) low from) → IfNone o (HasNoSolution net)
none-if None net rows low from er el same above none = none-of net rows low from er el same above none
none-if (Some a) net rows low from er el same above none = none

-- a tick that is less than the lowest one of its variable
pub none-apart : (net : Net) (low from : List ℕ) (v : ℕ) → low ≡ net.low.items → IsAboveAll net from → v < length low → slice_index from v < slice_index low v → HasNoSolution net
none-apart net low from v el above inside less t is =
    let within : v < length net.low.items = omega (arith, ap length el) in
    let lowest : slice_index low v ≤ t v = subst (λ (l : List ℕ). slice_index l v ≤ t v) (sym el) (is.above v within) in
    omega (arith, above t is v within, lowest)

-- ticks above all solutions stay so where they are cut
pub cut-above : (net : Net) (high from to : List ℕ) → IsNet net → high ≡ net.high.items → IsAboveAll net from → ((v : ℕ) → slice_index to v ≡ min (slice_index from v) (slice_index high v)) → IsAboveAll net to
cut-above net high from to known e above cut t is v b =
    let most : t v ≤ slice_index high v = subst (λ (h : List ℕ). t v ≤ slice_index h v) (sym e) (is.below v b) in
    subst (λ (m : ℕ). t v ≤ m) (sym (cut v)) (le-min (above t is v b) most)

-- and a solution is not cut
pub cut-solution : (net : Net) (high from to : List ℕ) → IsNet net → high ≡ net.high.items → ((v : ℕ) → slice_index to v ≡ min (slice_index from v) (slice_index high v)) → IsSolutionOf net (slice_index from) → IsSolutionOf net (slice_index to)
cut-solution net high from to known e cut is =
    let same : (v : ℕ) → v < length net.low.items → slice_index to v ≡ slice_index from v =
    λ v b. cut v ∙ min-eq_left (subst (λ (h : List ℕ). slice_index from v ≤ slice_index h v) (sym e) (is.below v b)) in
    record {
      above = λ v b. omega (arith, same v b, is.above v b);
      below = λ v b. omega (arith, same v b, is.below v b);
      keeps = keeps-same (length net.low.items) net.rows.items (slice_index from) (slice_index to) (λ v b. sym (same v b)) known.ends is.keeps;
    }
