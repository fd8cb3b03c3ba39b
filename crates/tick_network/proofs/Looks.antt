-- What one look at a row leaves, and why each look at all rows that lowers a tick brings one more variable down to
-- some solution.
use Rattle.std.proofs.Common.{◌≡◌, ℕ, suc, ◌+◌, ◌<◌, ◌≤◌, Bool, true, false, eqb, List, length, get_or, set, take, sym, subst, arith, add-one, ◌∙◌, inl, inr}
use Rattle.std.specs.Prelude.{◌^◌, ◌*◌, ℤ, pos, ◌+ℤ◌, ◌≤ℤ◌, ◌<ℤ◌, slice_index, All}
use Rattle.std.proofs.lemmas.Int.{ints}
use Rattle.std.proofs.lemmas.Bool.{false≢true, cases_eq, eqb-true, eq-eqb}
use Rattle.std.proofs.lemmas.List.{get_or-set_same, get_or-set_other, length-set}
use Rattle.std.proofs.lemmas.List.Elements.{All-more, All-weaker}
use Rattle.tick_network.specs.declared.net.Row.{Row}
use Rattle.tick_network.specs.Nets.{KeepsRow, IsSolution, HasEnds, AreSmall}
use Rattle.tick_network.specs.Relaxing.{AreAtLeast, IsAtMost, LowersTo, LooksLeave, IsLower, HasNoneBelow, AreGreatestBelow}
use Rattle.tick_network.proofs.Counting.{passing, passing-kept, passing-more, passing-most}
use Rattle.tick_network.proofs.Raising.{Raises, HasBinding, raised}

-- how far a look at all rows has come
pub record HasSeen (rows passed : List Row) (low old new : List ℕ) (lowered : Bool) : Type 0 where
  pub leaves : LooksLeave rows passed low old new
  pub same : lowered ≡ false → new ≡ old
  pub less : lowered ≡ true → IsLower new old

-- a row seen from where its x stood
abbrev pub Seen : List ℕ → List ℕ → Row → Type 0
Seen old new r = pos (slice_index new r.y) ≤ℤ (pos (slice_index old r.x) +ℤ r.w)

seen_later : (a b : ℕ) (c : ℤ) (w : ℤ) → c ≤ℤ (pos a +ℤ w) → a ≤ b → c ≤ℤ (pos b +ℤ w)
seen_later a b c w h le = omega (arith, ints)

-- a look that lowers nothing
pub seen-same : (rows : List Row) (low old at new : List ℕ) (i : ℕ) (d : Row) (was is : Bool) → i < length rows → HasSeen rows (take i rows) low old at was → (new ≡ at) × KeepsRow (slice_index at) (get_or rows i d) → is ≡ was → HasSeen rows (take (i + 1) rows) low old new is
seen-same rows low old at new i d was is below l h e =
    let r : Row = get_or rows i d in
    let leaves : LooksLeave rows (take (i + 1) rows) low old at = record {
      lower = l.leaves.lower;
      above = l.leaves.above;
      seen = All-more (Seen old at) rows i d below l.leaves.seen (seen_later (slice_index at r.x) (slice_index old r.x) (pos (slice_index at r.y)) r.w h.1 (l.leaves.lower r.x));
      solutions = l.leaves.solutions;
    } in
    record {
      leaves = subst (λ (xs : List ℕ). LooksLeave rows (take (i + 1) rows) low old xs) (sym h.0) leaves;
      same = λ f. h.0 ∙ l.same (sym e ∙ f);
      less = λ f. subst (λ (xs : List ℕ). IsLower xs old) (sym h.0) (l.less (sym e ∙ f));
    }

-- where one place of a list was lowered
lower_at : (at : List ℕ) (y n v : ℕ) → y < length at → n < get_or at y 0 → get_or (set at y n) v 0 ≤ get_or at v 0
lower_at at y n v below less =
    elim (cases_eq v y) [
      | inl e ↦ subst (λ (u : ℕ). get_or (set at y n) u 0 ≤ get_or at u 0) (sym e) (omega (arith, get_or-set_same at y n 0 below))
      | inr ne ↦ omega (arith, get_or-set_other at y v n 0 ne)
    ]

-- what holds of the new value, and of the old ones elsewhere
each_at : (at : List ℕ) (y n : ℕ) (P : ℕ → ℕ → Type 0) → y < length at → P y n → ((v : ℕ) → P v (get_or at v 0)) → (v : ℕ) → P v (get_or (set at y n) v 0)
each_at at y n P below here there v =
    elim (cases_eq v y) [
      | inl e ↦ subst (λ (u : ℕ). P u (get_or (set at y n) u 0)) (sym e) (subst (P y) (sym (get_or-set_same at y n 0 below)) here)
      | inr ne ↦ subst (P v) (sym (get_or-set_other at y v n 0 ne)) (there v)
    ]

seen_lower : (a b n : ℕ) (c : ℤ) → pos b ≤ℤ c → a ≤ b → pos a ≤ℤ c
seen_lower a b n c h le = omega (arith, ints)

seen_new : (n a b : ℕ) (w : ℤ) → pos n ≡ (pos a +ℤ w) → a ≤ b → pos n ≤ℤ (pos b +ℤ w)
seen_new n a b w e le = omega (arith, ints)

solution_at : (n y x a : ℕ) (w : ℤ) → pos n ≡ (pos a +ℤ w) → pos y ≤ℤ (pos x +ℤ w) → x ≤ a → y ≤ n
solution_at n y x a w e k le = omega (arith, ints)

-- a look that lowers y
pub leaves-lowered : (rows : List Row) (low old at : List ℕ) (i : ℕ) (d : Row) (n : ℕ) → i < length rows → length at ≡ length old → HasEnds (length old) (get_or rows i d) → LooksLeave rows (take i rows) low old at → pos n ≡ (pos (slice_index at (get_or rows i d).x) +ℤ (get_or rows i d).w) → n < slice_index at (get_or rows i d).y → slice_index low (get_or rows i d).y ≤ n → LooksLeave rows (take (i + 1) rows) low old (set at (get_or rows i d).y n)
leaves-lowered rows low old at i d n below len ends l is less above =
    let r : Row = get_or rows i d in
    let inside : r.y < length at = omega (arith, ends.y) in
    let lower : (v : ℕ) → get_or (set at r.y n) v 0 ≤ get_or at v 0 = λ v. lower_at at r.y n v inside less in
    record {
      lower = λ v. omega (arith, lower v, l.lower v);
      above = each_at at r.y n (λ v m. slice_index low v ≤ m) inside above l.above;
      seen = All-more (Seen old (set at r.y n)) rows i d below
          (All-weaker (Seen old at) (Seen old (set at r.y n)) (λ q h. seen_lower (slice_index (set at r.y n) q.y) (slice_index at q.y) 0 (pos (slice_index old q.x) +ℤ q.w) h (lower q.y)) (take i rows) l.seen)
          (subst (λ (m : ℕ). pos m ≤ℤ (pos (slice_index old r.x) +ℤ r.w)) (sym (get_or-set_same at r.y n 0 inside)) (seen_new n (slice_index at r.x) (slice_index old r.x) r.w is (l.lower r.x)));
      solutions = λ t keeps most v b. each_at at r.y n (λ u m. u < length old → t u ≤ m) inside
          (λ q. solution_at n (t r.y) (t r.x) (slice_index at r.x) r.w is (keeps i d below) (l.solutions t keeps most r.x (omega (arith, ends.x))))
          (λ u q. l.solutions t keeps most u (omega arith)) v (omega (arith, length-set at r.y n));
    }

pub seen-lowered : (rows : List Row) (low old at new : List ℕ) (i : ℕ) (d : Row) (was is : Bool) → i < length rows → length at ≡ length old → HasEnds (length old) (get_or rows i d) → HasSeen rows (take i rows) low old at was → (n : ℕ) → LowersTo (get_or rows i d) low at new n → is ≡ true → HasSeen rows (take (i + 1) rows) low old new is
seen-lowered rows low old at new i d was is below len ends l n h e =
    let r : Row = get_or rows i d in
    let inside : r.y < length at = omega (arith, ends.y) in
    record {
      leaves = subst (λ (xs : List ℕ). LooksLeave rows (take (i + 1) rows) low old xs) (sym h.set) (leaves-lowered rows low old at i d n below len ends l.leaves h.is h.less h.above);
      same = λ f. absurd (false≢true (sym f ∙ e));
      less = λ f. subst (λ (xs : List ℕ). IsLower xs old) (sym h.set) (r.y, omega (arith, ends.y), omega (arith, get_or-set_same at r.y n 0 inside, h.less, l.leaves.lower r.y));
    }

none_left : (x y a b : ℕ) (w : ℤ) → pos y ≤ℤ (pos x +ℤ w) → x ≤ a → (pos a +ℤ w) <ℤ pos b → b ≤ y → ⊥
none_left x y a b w k le less above = omega (arith, ints)

pub empty-row : (rows : List Row) (low old at : List ℕ) (i : ℕ) (d : Row) (was : Bool) → i < length rows → length at ≡ length old → HasEnds (length old) (get_or rows i d) → HasSeen rows (take i rows) low old at was → (pos (slice_index at (get_or rows i d).x) +ℤ (get_or rows i d).w) <ℤ pos (slice_index low (get_or rows i d).y) → HasNoneBelow rows low old
empty-row rows low old at i d was below len ends l h t keeps most above =
    let r : Row = get_or rows i d in
    none_left (t r.x) (t r.y) (slice_index at r.x) (slice_index low r.y) r.w (keeps i d below) (l.leaves.solutions t keeps most r.x (omega (arith, ends.x))) h (above r.y ends.y)

-- some solution lies at or below the ticks, and meets them at k variables or more
pub record IsNear (low high : List ℕ) (rows : List Row) (at : List ℕ) (k : ℕ) : Type 0 where
  pub to : ℕ → ℕ
  pub is : IsSolution low high rows to
  pub below : (v : ℕ) → v < length low → to v ≤ slice_index at v
  pub meets : k ≤ passing (length low) (λ v. eqb (to v) (slice_index at v))

-- a row that holds a solution down meets the ticks after the round
met : (x y a b : ℕ) (w : ℤ) → (pos x +ℤ w) <ℤ pos (suc y) → x ≡ a → pos b ≤ℤ (pos a +ℤ w) → y ≤ b → y ≡ b
met x y a b w tight e seen le = omega (arith, ints)

binding-more : (low high : List ℕ) (rows : List Row) (old new : List ℕ) (k : ℕ) (near : IsNear low high rows old k) (r : Raises low high rows (slice_index old) near.to) → ((v : ℕ) → v < length low → r.to v ≤ slice_index new v) → AreAtLeast new old → All (Seen old new) rows → All (HasEnds (length low)) rows → HasBinding (slice_index old) r.to rows → IsNear low high rows new (suc k)
binding-more low high rows old new k near r under lower seen ends b =
    let at : HasEnds (length low) b.row = subst (HasEnds (length low)) b.is (ends b.place b.row b.within) in
    let from : Seen old new b.row = subst (Seen old new) b.is (seen b.place b.row b.within) in
    let kept : passing (length low) (λ v. eqb (near.to v) (slice_index old v)) ≤ passing (length low) (λ v. eqb (r.to v) (slice_index old v)) =
    passing-kept (length low) _ _ (λ v q e. eq-eqb (r.to v) (slice_index old v) (r.kept v q (eqb-true (near.to v) (slice_index old v) e))) in
    let more : passing (length low) (λ v. eqb (r.to v) (slice_index old v)) < passing (length low) (λ v. eqb (r.to v) (slice_index new v)) =
    passing-more (length low) _ _ b.row.y (λ v q e. eq-eqb (r.to v) (slice_index new v) (omega (arith, eqb-true (r.to v) (slice_index old v) e, under v q, lower v))) at.y b.binding.free
    (eq-eqb (r.to b.row.y) (slice_index new b.row.y) (met (r.to b.row.x) (r.to b.row.y) (slice_index old b.row.x) (slice_index new b.row.y) b.row.w b.binding.tight b.binding.from from (under b.row.y at.y))) in
    record { to = r.to; is = r.is; below = under; meets = omega (arith, near.meets) }

pub near-more : (low high : List ℕ) (rows : List Row) (old new : List ℕ) (k m : ℕ) → length old ≡ length low → length new ≡ length low → All (HasEnds (length low)) rows → AreAtLeast old high → ((v : ℕ) → slice_index old v ≤ m) → LooksLeave rows rows low old new → IsLower new old → IsNear low high rows old k → IsNear low high rows new (suc k)
near-more low high rows old new k m lo ln ends top small l less near =
    let r : Raises low high rows (slice_index old) near.to = raised low high rows (slice_index old) m near.to (λ v b. top v) near.is near.below (λ v b. omega (arith, small v)) in
    let under : (v : ℕ) → v < length low → r.to v ≤ slice_index new v = λ v b. l.solutions r.to r.is.keeps (λ u c. r.below u (omega arith)) v (omega arith) in
    elim r.ends [
      | inl all ↦ absurd (let u : less.0 < length low = omega (arith, less.1) in omega (arith, all less.0 u, under less.0 u, less.2))
      | inr b ↦ binding-more low high rows old new k near r under l.lower l.seen ends b
    ]

-- how far k looks at all rows have come
pub record HasLooked (rows : List Row) (low old at : List ℕ) (k : ℕ) : Type 0 where
  pub lower : AreAtLeast at old
  pub above : AreAtLeast low at
  pub last : (t : ℕ → ℕ) → All (KeepsRow t) rows → IsAtMost t old → IsAtMost t at
  pub near : (t : ℕ → ℕ) → IsSolution low old rows t → IsNear low old rows at k

pub begun : (rows : List Row) (low old : List ℕ) → length old ≡ length low → AreAtLeast low old → HasLooked rows low old old 0
begun rows low old same above = record {
  lower = λ v. omega arith;
  above = above;
  last = λ t keeps most. most;
  near = λ t is. record { to = t; is = is; below = is.below; meets = omega arith };
}

pub looked-more : (rows : List Row) (low old at new : List ℕ) (k : ℕ) → length at ≡ length low → length new ≡ length low → length old ≡ length low → All (HasEnds (length low)) rows → AreSmall old → HasLooked rows low old at k → LooksLeave rows rows low at new → IsLower new at → HasLooked rows low old new (k + 1)
looked-more rows low old at new k la ln lo ends small h l less = record {
  lower = λ v. omega (arith, l.lower v, h.lower v);
  above = l.above;
  last = λ t keeps most. l.solutions t keeps (h.last t keeps most);
  near = λ t is. rw add-one (near-more low old rows at new k (2 ^ 41) la ln ends h.lower (λ v. omega (arith, h.lower v, small v)) l less (h.near t is));
}

pub looked-same : (rows : List Row) (low old at new : List ℕ) (k : ℕ) → HasLooked rows low old at k → (new ≡ at) × All (KeepsRow (slice_index at)) rows → AreGreatestBelow rows low old new
looked-same rows low old at new k h s = subst (λ (xs : List ℕ). AreGreatestBelow rows low old xs) (sym s.0) (record { keeps = s.1; above = h.above; lower = h.lower; last = h.last })

pub looked-empty : (rows : List Row) (low old at : List ℕ) (k : ℕ) → length at ≡ length old → HasLooked rows low old at k → HasNoneBelow rows low at → HasNoneBelow rows low old
looked-empty rows low old at k same h none t keeps most above = none t keeps (h.last t keeps most) (λ v b. above v (omega arith))

pub looked-over : (rows : List Row) (low old at : List ℕ) (k : ℕ) → length old ≡ length low → length low < k → HasLooked rows low old at k → HasNoneBelow rows low old
looked-over rows low old at k same over h t keeps most above =
    let n = h.near t (record { above = λ v b. above v (omega arith); below = λ v b. most v (omega arith); keeps = keeps }) in
    omega (arith, n.meets, passing-most (length low) (λ v. eqb (n.to v) (slice_index at v)))

-- where the first ticks keep the rows, nothing is lowered
pub kept-same : (rows : List Row) (low old at new : List ℕ) (k : ℕ) → length at ≡ length old → length new ≡ length old → HasLooked rows low old at k → LooksLeave rows rows low at new → IsLower new at → All (KeepsRow (slice_index old)) rows → ⊥
kept-same rows low old at new k la ln h l less keeps =
    let from : IsAtMost (slice_index old) at = h.last (slice_index old) keeps (λ v b. omega arith) in
    omega (arith, l.solutions (slice_index old) keeps from less.0 (omega (arith, less.1)), less.2, h.lower less.0)

-- what a first look at all rows counts
pub one_look : (from at to rows k : ℕ) → at ≤ from + rows * k → k ≡ 0 → to ≤ at + rows → to ≤ from + rows
one_look from at to rows k le first more =
    let start : at ≤ from + rows * 0 = subst (λ (n : ℕ). at ≤ from + rows * n) first le in
    omega (arith, start, more)
