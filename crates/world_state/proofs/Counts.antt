-- How many different items a problem has at most.
use Rattle.std.proofs.Common.{◌≡◌, ℕ, ◌+◌, ◌≤◌, ◌<◌, true, false, not, eqb, List, [], ◌∷◌, length, map, inl, inr, arith}
use Rattle.std.proofs.lemmas.List.{length-map}
use Rattle.std.specs.List.{list_any, list_all, AllByRecursion, IsDistinct}
use Rattle.std.proofs.lemmas.Bool.{false≢true, and_parts, or_cases, eqb-true, eqb-false, ne_eqb, ltb-true, leb-true, not-true}
use Rattle.std.proofs.lemmas.Map.Steps.{length-le_from_distinct_below}
use Rattle.tp_spec.specs.declared.plan.Item.{Item}
use Rattle.tp_spec.specs.declared.plan.Item.TheVariants.{TimedAt, End, Start}
use Rattle.tp_spec.specs.Lists.{each_pair}
use Rattle.tp_spec.specs.WellFormed.{Ground, IsWellFormed}
use Rattle.world_state.specs.Happenings.{is_item_of, same_item}

-- a number for each item: at most 256 timed items, and at most 4,096 ends and as many starts
abbrev place : Item → ℕ
place (TimedAt k) = k
place (End a) = 256 + a
place (Start a) = 4352 + a

places_apart : (p : Ground) → length p.timed ≤ 256 → length p.actions ≤ 4096 → (i j : Item) → is_item_of p i ≡ true → is_item_of p j ≡ true
    → not (same_item i j) ≡ true → eqb (place i) (place j) ≡ false
places_apart p few_timed few (TimedAt k) (TimedAt l) here there apart = not-true (eqb k l) apart
places_apart p few_timed few (TimedAt k) (End b) here there apart =
    let below : k < length p.timed = ltb-true k (length p.timed) here in ne_eqb k (256 + b) (λ e. omega arith)
places_apart p few_timed few (TimedAt k) (Start b) here there apart =
    let below : k < length p.timed = ltb-true k (length p.timed) here in ne_eqb k (4352 + b) (λ e. omega arith)
places_apart p few_timed few (End a) (TimedAt l) here there apart =
    let below : l < length p.timed = ltb-true l (length p.timed) there in ne_eqb (256 + a) l (λ e. omega arith)
places_apart p few_timed few (End a) (End b) here there apart =
    let other : eqb a b ≡ false = not-true (eqb a b) apart in ne_eqb (256 + a) (256 + b) (λ e. eqb-false a b other (omega arith))
places_apart p few_timed few (End a) (Start b) here there apart =
    let below : a < length p.actions = ltb-true a (length p.actions) here in ne_eqb (256 + a) (4352 + b) (λ e. omega arith)
places_apart p few_timed few (Start a) (TimedAt l) here there apart =
    let below : l < length p.timed = ltb-true l (length p.timed) there in ne_eqb (4352 + a) l (λ e. omega arith)
places_apart p few_timed few (Start a) (End b) here there apart =
    let below : b < length p.actions = ltb-true b (length p.actions) there in ne_eqb (4352 + a) (256 + b) (λ e. omega arith)
places_apart p few_timed few (Start a) (Start b) here there apart =
    let other : eqb a b ≡ false = not-true (eqb a b) apart in ne_eqb (4352 + a) (4352 + b) (λ e. eqb-false a b other (omega arith))

apart_from : (p : Ground) → length p.timed ≤ 256 → length p.actions ≤ 4096 → (i : Item) (js : List Item) → is_item_of p i ≡ true
    → list_all (is_item_of p) js ≡ true → list_all (λ j. not (same_item i j)) js ≡ true → AllByRecursion (λ y. eqb (place i) y ≡ false) (map place js)
apart_from p few_timed few i [] here all apart = tt
apart_from p few_timed few i (j ∷ js) here all apart =
    let those = and_parts (is_item_of p j) (list_all (is_item_of p) js) all in
    let others = and_parts (not (same_item i j)) (list_all (λ j. not (same_item i j)) js) apart in
    (places_apart p few_timed few i j here those.0 others.0, apart_from p few_timed few i js here those.1 others.1)

distinct_places : (p : Ground) → length p.timed ≤ 256 → length p.actions ≤ 4096 → (items : List Item) → list_all (is_item_of p) items ≡ true
    → each_pair (λ i j. not (same_item i j)) items ≡ true → IsDistinct eqb (map place items)
unfolding IsDistinct
distinct_places p few_timed few [] all apart = tt
distinct_places p few_timed few (i ∷ is) all apart =
    let those = and_parts (is_item_of p i) (list_all (is_item_of p) is) all in
    let others = and_parts (list_all (λ j. not (same_item i j)) is) (each_pair (λ i j. not (same_item i j)) is) apart in
    (apart_from p few_timed few i is those.0 those.1 others.0, distinct_places p few_timed few is those.1 others.1)

place_below : (p : Ground) → length p.timed ≤ 256 → length p.actions ≤ 4096 → (i : Item) → is_item_of p i ≡ true → place i < 8448
place_below p few_timed few (TimedAt k) here = let below : k < length p.timed = ltb-true k (length p.timed) here in omega arith
place_below p few_timed few (End a) here = let below : a < length p.actions = ltb-true a (length p.actions) here in omega arith
place_below p few_timed few (Start a) here = let below : a < length p.actions = ltb-true a (length p.actions) here in omega arith

places_below : (p : Ground) → length p.timed ≤ 256 → length p.actions ≤ 4096 → (items : List Item) → list_all (is_item_of p) items ≡ true
    → (q : ℕ) → list_any (eqb q) (map place items) ≡ true → q < 8448
places_below p few_timed few [] all q some = absurd (false≢true some)
places_below p few_timed few (i ∷ is) all q some =
    let those = and_parts (is_item_of p i) (list_all (is_item_of p) is) all in
    elim (or_cases (eqb q (place i)) (list_any (eqb q) (map place is)) some) [
      | inl here ↦
          let same : q ≡ place i = eqb-true q (place i) here in
          let below : place i < 8448 = place_below p few_timed few i those.0 in
          omega arith
      | inr there ↦ places_below p few_timed few is those.1 q there
    ]

-- different items of a problem are at most 8,448
pub few_items : (p : Ground) → IsWellFormed p → (items : List Item) → list_all (is_item_of p) items ≡ true
    → each_pair (λ i j. not (same_item i j)) items ≡ true → length items ≤ 8448
few_items p formed items all apart =
    let few_timed : length p.timed ≤ 256 = leb-true (length p.timed) 256 (and_parts _ _ (and_parts _ _ formed.timing).0).0 in
    let few : length p.actions ≤ 4096 = leb-true (length p.actions) 4096 (and_parts _ _ formed.acting).0 in
    let most : length (map place items) ≤ 8448 =
    length-le_from_distinct_below (map place items) 8448 (distinct_places p few_timed few items all apart) (places_below p few_timed few items all) in
    omega (arith, length-map items place)
