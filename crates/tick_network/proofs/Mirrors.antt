-- Rows between ticks that are counted from the far end.
use Rattle.std.proofs.Common.{◌≡◌, ℕ, ◌-◌, ◌<◌, ◌≤◌, ◌^◌, Bool, true, false, List, [], ◌∷◌, length, get_or, map, refl, sym, ap, subst, arith, ◌∙◌}
use Rattle.std.specs.Prelude.{ℤ, pos, ◌+ℤ◌, ◌≤ℤ◌, slice_index, All}
use Rattle.std.proofs.lemmas.Int.{ints}
use Rattle.std.proofs.Math.ListN.{get_or-map}
use Rattle.std.proofs.Common.{inl, inr}
use Rattle.std.proofs.lemmas.Bool.{cases_lt}
use Rattle.std.proofs.lemmas.List.{length-map, get_or_past}
use Rattle.std.proofs.lemmas.List.{get_or-map as read-map}
use Rattle.std.proofs.lemmas.List.Elements.{All-map, All-weaker}
use Rattle.tick_network.specs.declared.net.Net.{Net}
use Rattle.tick_network.specs.declared.net.Row.{Row}
use Rattle.tick_network.specs.Nets.{KeepsRow, IsSolutionOf, IsLeast, HasEnds, AreSmall, IsNet}
use Rattle.tick_network.specs.Relaxing.{turned_row, mirror, AreAtLeast, HasNoneBelow, AreGreatestBelow}

abbrev pub no_row : Row
no_row = record { y = 0; x = 0; w = pos 0 }

pub turned-at : (m : Bool) (rows : List Row) (i : ℕ) → get_or (map (turned_row m) rows) i (turned_row m no_row) ≡ turned_row m (get_or rows i no_row)
turned-at m rows i = get_or-map (turned_row m) rows i no_row

pub same-rows : (rows : List Row) → map (turned_row false) rows ≡ rows
same-rows [] = refl
same-rows (r ∷ rows) = ap (λ (rs : List Row). r ∷ rs) (same-rows rows)

ends_of : (m : Bool) (n : ℕ) (r : Row) → HasEnds n r → HasEnds n (turned_row m r)
ends_of true n r h = record { y = h.x; x = h.y }
ends_of false n r h = h

pub turned-ends : (m : Bool) (n : ℕ) (rows : List Row) → All (HasEnds n) rows → All (HasEnds n) (map (turned_row m) rows)
turned-ends m n rows h = All-map (HasEnds n) (turned_row m) rows (All-weaker (HasEnds n) (λ r. HasEnds n (turned_row m r)) (ends_of m n) rows h)

keeps_mirrored : (x y : ℕ) (w : ℤ) → y ≤ 2 ^ 41 → x ≤ 2 ^ 41 → pos y ≤ℤ (pos x +ℤ w) → pos (2 ^ 41 - x) ≤ℤ (pos (2 ^ 41 - y) +ℤ w)
keeps_mirrored x y w ly lx h = omega (arith, ints)

-- a solution from the far end
pub mirrored-keeps : (n : ℕ) (rows : List Row) (t : ℕ → ℕ) → ((v : ℕ) → v < n → t v ≤ 2 ^ 41) → All (HasEnds n) rows → All (KeepsRow t) rows → All (KeepsRow (λ v. mirror (t v))) (map (turned_row true) rows)
mirrored-keeps n rows t small ends keeps =
    All-map (KeepsRow (λ v. mirror (t v))) (turned_row true) rows
    (λ k d b. let r : Row = get_or rows k d in let e : HasEnds n r = ends k d b in keeps_mirrored (t r.x) (t r.y) r.w (small r.y e.y) (small r.x e.x) (keeps k d b))

mirrored-back : (n : ℕ) (rows : List Row) (t : ℕ → ℕ) → ((v : ℕ) → v < n → t v ≤ 2 ^ 41) → All (HasEnds n) rows → All (KeepsRow t) (map (turned_row true) rows) → All (KeepsRow (λ v. mirror (t v))) rows
mirrored-back n rows t small ends keeps k d b =
    let r : Row = get_or rows k d in
    let e : HasEnds n r = ends k d b in
    let turn : get_or (map (turned_row true) rows) k (turned_row true d) ≡ turned_row true r = get_or-map (turned_row true) rows k d in
    let kept : KeepsRow t (turned_row true r) = subst (KeepsRow t) turn (keeps k (turned_row true d) (omega (arith, length-map rows (turned_row true)))) in
    keeps_mirrored (t r.y) (t r.x) r.w (small r.x e.x) (small r.y e.y) kept

pub keeps-same : (n : ℕ) (rows : List Row) (t u : ℕ → ℕ) → ((v : ℕ) → v < n → t v ≡ u v) → All (HasEnds n) rows → All (KeepsRow t) rows → All (KeepsRow u) rows
keeps-same n rows t u same ends keeps k d b =
    let r : Row = get_or rows k d in
    let e : HasEnds n r = ends k d b in
    subst (λ (y : ℕ). pos y ≤ℤ (pos (u r.x) +ℤ r.w)) (same r.y e.y) (subst (λ (x : ℕ). pos (t r.y) ≤ℤ (pos x +ℤ r.w)) (same r.x e.x) (keeps k d b))

-- a mirrored tick of a list
read : (xs : List ℕ) (v : ℕ) → v < length xs → slice_index (map mirror xs) v ≡ mirror (slice_index xs v)
read xs v b = read-map mirror xs v 0 0 b

pub least-in : (net : Net) (low old xs : List ℕ) → IsNet net → low ≡ map mirror net.high.items → old ≡ map mirror net.low.items → AreGreatestBelow (map (turned_row true) net.rows.items) low old xs → length xs ≡ length net.low.items → IsLeast net (map mirror xs)
least-in net low old xs known el eo s len =
    let n : ℕ = length net.low.items in
    let old-at : (v : ℕ) → v < n → slice_index old v ≡ mirror (slice_index net.low.items v) = λ v b. ap (λ (ys : List ℕ). slice_index ys v) eo ∙ read net.low.items v b in
    let low-at : (v : ℕ) → v < n → slice_index low v ≡ mirror (slice_index net.high.items v) = λ v b. ap (λ (ys : List ℕ). slice_index ys v) el ∙ read net.high.items v (omega (arith, known.bounds)) in
    let top : (v : ℕ) → v < n → slice_index xs v ≤ 2 ^ 41 = λ v b. omega (arith, s.lower v, old-at v b) in
    let count : length old ≡ n = ap length eo ∙ length-map net.low.items mirror in
    record {
      count = length-map xs mirror ∙ len;
      is = record {
        above = λ v b. omega (arith, read xs v (omega arith), s.lower v, old-at v b, known.low_small v);
        below = λ v b. omega (arith, read xs v (omega arith), s.above v, low-at v b, known.high_small v);
        keeps = keeps-same n net.rows.items (λ v. mirror (slice_index xs v)) (slice_index (map mirror xs)) (λ v b. sym (read xs v (omega arith))) known.ends (mirrored-back n net.rows.items (slice_index xs) top known.ends s.keeps);
      };
      first = λ u is v b.
          let small : (w : ℕ) → w < n → u w ≤ 2 ^ 41 = λ w c. omega (arith, is.below w c, known.high_small w) in
          omega (arith, read xs v (omega arith), small v b, s.last (λ w. mirror (u w)) (mirrored-keeps n net.rows.items u small known.ends is.keeps) (λ w c. omega (arith, is.above w (omega arith), old-at w (omega arith), small w (omega arith))) v (omega arith));
    }

pub none-mirrored : (net : Net) (low old : List ℕ) → IsNet net → low ≡ map mirror net.high.items → old ≡ map mirror net.low.items → HasNoneBelow (map (turned_row true) net.rows.items) low old → (t : ℕ → ℕ) → IsSolutionOf net t → ⊥
none-mirrored net low old known el eo none t is =
    let n : ℕ = length net.low.items in
    let old-at : (v : ℕ) → v < n → slice_index old v ≡ mirror (slice_index net.low.items v) = λ v b. ap (λ (ys : List ℕ). slice_index ys v) eo ∙ read net.low.items v b in
    let low-at : (v : ℕ) → v < n → slice_index low v ≡ mirror (slice_index net.high.items v) = λ v b. ap (λ (ys : List ℕ). slice_index ys v) el ∙ read net.high.items v (omega (arith, known.bounds)) in
    let small : (w : ℕ) → w < n → t w ≤ 2 ^ 41 = λ w c. omega (arith, is.below w c, known.high_small w) in
    let count : length old ≡ n = ap length eo ∙ length-map net.low.items mirror in
    none (λ w. mirror (t w)) (mirrored-keeps n net.rows.items t small known.ends is.keeps)
    (λ w c. omega (arith, is.above w (omega arith), old-at w (omega arith), small w (omega arith)))
    (λ w c. omega (arith, is.below w (omega arith), low-at w (omega arith), small w (omega arith)))

pub mirrored-small : (xs : List ℕ) → AreSmall (map mirror xs)
mirrored-small xs v = elim (cases_lt v (length xs)) [
  | inl below ↦ omega (arith, read xs v below)
  | inr above ↦ omega (arith, get_or_past (map mirror xs) v 0 (omega (arith, length-map xs mirror)))
]

pub mirrored-order : (low high : List ℕ) → length high ≡ length low → AreAtLeast low high → AreAtLeast (map mirror high) (map mirror low)
mirrored-order low high same le v = elim (cases_lt v (length low)) [
  | inl below ↦ omega (arith, read low v below, read high v (omega arith), le v)
  | inr above ↦ omega (arith, get_or_past (map mirror high) v 0 (omega (arith, length-map high mirror)))
]
