-- What is read of the first lines of a text of timed items, and how they are completed.
use Rattle.std.proofs.Common.{◌≡◌, ℕ, zero, suc, ◌-◌, ◌^◌, ◌≤◌, Bool, true, false, not, ◌&&◌, List, [], ◌∷◌, ◌++◌, length, drop, refl, sym, ap, subst, ◌∙◌, append_assoc, arith}
use Rattle.std.specs.Prelude.{decimal, codes, nat_lt, if◌then◌else◌}
use Rattle.std.specs.List.{list_all, flat_map}
use Rattle.std.proofs.lemmas.Bool.{false≢true, and_parts, and_from, lt-ltb, ltb-true}
use Rattle.tp_spec.specs.Lists.{is_empty, each_next}
use Rattle.tp_spec.specs.WellFormed.{is_timed}
use Rattle.tp_spec.specs.declared.problem.TimedItem.{TimedItem}
use Rattle.ground_text.specs.Texts.{listed, effect_text, merged, timed_text}
use Rattle.ground_text.specs.Reading.{number_at, effects_at, timed_at, repeated_at, counted_at}
use Rattle.line_text.specs.Lines.{lines}
use Rattle.ground_text.specs.Completion.{filled_item, filled_timed}
use Rattle.ground_text.proofs.Words.{good_effect}
use Rattle.ground_text.proofs.Blocks.{good_merged, good_timed, timed_again}
use Rattle.ground_text.proofs.Cuts.{is_inside, line_first, decimal_inside}
use Rattle.ground_text.proofs.Picks.{joined_inside, listed_inside, effect_inside}
use Rattle.ground_text.proofs.Counts.{blocks, counted_none, counted_cut, counted_same}

-- ---- the line of a timed item

-- its line but for the line feed
abbrev timed_line : TimedItem → List ℕ
timed_line t = codes "at " ++ (decimal t.tick ++ listed effect_text (merged t.adds t.deletes))

timed_shape : (t : TimedItem) (rest : List ℕ) → timed_text t ++ rest ≡ timed_line t ++ (10 ∷ rest)
unfolding timed_text
timed_shape t rest = simp append_assoc

record Timed (f : ℕ) (t : TimedItem) : Type 0 where
  pub some : not (is_empty t.adds && is_empty t.deletes) ≡ true
  pub adds : list_all (λ x. nat_lt x f) t.adds ≡ true
  pub deletes : list_all (λ x. nat_lt x f) t.deletes ≡ true

timed_of : (f : ℕ) (t : TimedItem) → is_timed f t ≡ true → Timed f t
timed_of f t h =
    let p5 = and_parts _ _ h in
    let p4 = and_parts _ _ p5.0 in
    let p3 = and_parts _ _ p4.0 in
    let p2 = and_parts _ _ p3.0 in
    let p1 = and_parts _ _ p2.0 in
    record { some = p1.0; adds = p1.1; deletes = p2.1 }

timed_inside : (f : ℕ) → f ≤ 4096 → (t : TimedItem) → good_timed f t ≡ true → list_all is_inside (timed_line t) ≡ true
unfolding good_timed
timed_inside f small t h =
    let p = and_parts _ _ h in
    let is = timed_of f t p.0 in
    joined_inside (decimal t.tick) (listed effect_text (merged t.adds t.deletes)) (decimal_inside t.tick (ltb-true t.tick (2 ^ 64) p.1))
    (listed_inside effect_text (good_effect f 0) (effect_inside f 0 small (omega arith)) (merged t.adds t.deletes) (good_merged f t.adds t.deletes is.adds is.deletes))

-- a line is taken whole
timed_first : (f : ℕ) → f ≤ 4096 → (t : TimedItem) (items rest : List ℕ) (k : ℕ) → good_timed f t ≡ true
    → lines (suc k) ((timed_text t ++ items) ++ rest) ≡ timed_text t ++ lines k (items ++ rest)
timed_first f small t items rest k h =
    ap (lines (suc k)) (append_assoc (timed_text t) items rest ∙ timed_shape t (items ++ rest))
    ∙ line_first (timed_line t) (items ++ rest) k (timed_inside f small t h)
    ∙ sym (timed_shape t (lines k (items ++ rest)))

-- ---- what is read of the first lines

-- what stands in place of a timed item that is missing
abbrev pub no_item : TimedItem
no_item = record { tick = 0; adds = []; deletes = [] }

-- what is read of the first k of some timed items
abbrev pub cut_timed : ℕ → List TimedItem → List TimedItem
cut_timed k [] = []
cut_timed zero (t ∷ items) = no_item ∷ cut_timed zero items
cut_timed (suc k) (t ∷ items) = t ∷ cut_timed k items

none_read : (items : List TimedItem) → repeated_at timed_at (length items) [] ≡ (cut_timed zero items, [])
unfolding timed_at number_at effects_at
none_read [] = refl
none_read (t ∷ items) = ap (λ (r : List TimedItem × List ℕ). (no_item ∷ r.0, r.1)) (none_read items)

items_cut : (f : ℕ) → f ≤ 4096 → (items : List TimedItem) (rest : List ℕ) → list_all (good_timed f) items ≡ true
    → (k : ℕ) → repeated_at timed_at (length items) (lines k (flat_map timed_text items ++ rest)) ≡ (cut_timed k items, lines (k - length items) rest)
items_cut f small [] rest h k =
    let same : k ≡ k - 0 = omega arith in
    ap (λ (n : ℕ). ([], lines n rest)) same
items_cut f small (t ∷ items) rest h zero =
    let none : 0 ≡ 0 - suc (length items) = omega arith in
    none_read (t ∷ items) ∙ ap (λ (n : ℕ). (cut_timed zero (t ∷ items), lines n rest)) none
items_cut f small (t ∷ items) rest h (suc k) =
    let left : k - length items ≡ suc k - suc (length items) = omega arith in
    let p = and_parts _ _ h in
    ap (repeated_at timed_at (suc (length items))) (timed_first f small t (flat_map timed_text items) rest k p.0)
    ∙ ap (λ (y : TimedItem × List ℕ). (y.0 ∷ (repeated_at timed_at (length items) y.1).0, (repeated_at timed_at (length items) y.1).1)) (timed_again f small t (lines k (flat_map timed_text items ++ rest)) p.0)
    ∙ ap (λ (r : List TimedItem × List ℕ). (t ∷ r.0, r.1)) (items_cut f small items rest p.1 k)
    ∙ ap (λ (n : ℕ). (t ∷ cut_timed k items, lines n rest)) left

-- of the first k lines of a section
abbrev pub cut_timed_section : ℕ → List TimedItem → List TimedItem
cut_timed_section zero items = []
cut_timed_section (suc k) items = cut_timed k items

pub timed_cut : (f : ℕ) → f ≤ 4096 → (k : ℕ) (items : List TimedItem) (rest : List ℕ) → length items ≤ 256 → list_all (good_timed f) items ≡ true
    → counted_at timed_at 256 (drop 6 (lines k (blocks timed_text (codes "timed ") items rest))) ≡ (cut_timed_section k items, lines (k - suc (length items)) rest)
timed_cut f small zero items rest few h =
    let none : 0 ≡ 0 - suc (length items) = omega arith in
    counted_none timed_at 6 256 ∙ ap (λ (n : ℕ). ([], lines n rest)) none
timed_cut f small (suc k) items rest few h =
    let left : k - length items ≡ suc k - suc (length items) = omega arith in
    counted_cut timed_at timed_text (codes "timed ") 6 256 k items rest _ (record { inside = refl; skips = λ t. refl }) (omega arith) few (items_cut f small items rest h k)
    ∙ ap (λ (n : ℕ). (cut_timed k items, lines n rest)) left

-- ---- the items that are filled in

filled_long : (next k : ℕ) (items : List TimedItem) → length (filled_timed next (cut_timed k items)) ≡ length items
filled_long next k [] = refl
filled_long next zero (t ∷ items) = ap suc (filled_long _ zero items)
filled_long next (suc k) (t ∷ items) = ap suc (filled_long _ k items)

kept_item : (f next : ℕ) (t : TimedItem) → Timed f t → filled_item next t ≡ t
kept_item f next t is = stands (is_empty t.adds && is_empty t.deletes) is.some where
  stands : (b : Bool) → not b ≡ true → (if b then record { tick = next; adds = 0 ∷ []; deletes = [] } else t) ≡ t
  stands true h = absurd (false≢true h)
  stands false h = refl

-- their lines
items_same : (f : ℕ) → f ≤ 4096 → (next : ℕ) (items : List TimedItem) (rest other : List ℕ) → list_all (good_timed f) items ≡ true
    → (k : ℕ) → lines (k - length items) other ≡ lines (k - length items) rest
    → lines k (flat_map timed_text (filled_timed next (cut_timed k items)) ++ other) ≡ lines k (flat_map timed_text items ++ rest)
unfolding good_timed
items_same f small next [] rest other h k e =
    let same : k - 0 ≡ k = omega arith in
    subst (λ (n : ℕ). lines n other ≡ lines n rest) same e
items_same f small next (t ∷ items) rest other h zero e = refl
items_same f small next (t ∷ items) rest other h (suc k) e =
    let left : suc k - suc (length items) ≡ k - length items = omega arith in
    let p = and_parts _ _ h in
    ap (λ (x : TimedItem). lines (suc k) (flat_map timed_text (x ∷ filled_timed (suc x.tick) (cut_timed k items)) ++ other)) (kept_item f next t (timed_of f t (and_parts _ _ p.0).0))
    ∙ timed_first f small t (flat_map timed_text (filled_timed (suc t.tick) (cut_timed k items))) other k p.0
    ∙ ap (λ (y : List ℕ). timed_text t ++ y) (items_same f small (suc t.tick) items rest other p.1 k (subst (λ (n : ℕ). lines n other ≡ lines n rest) left e))
    ∙ sym (timed_first f small t (flat_map timed_text items) rest k p.0)

pub timed_same : (f : ℕ) → f ≤ 4096 → (k : ℕ) (items : List TimedItem) (rest other : List ℕ) → length items ≤ 256 → list_all (good_timed f) items ≡ true
    → lines (k - suc (length items)) other ≡ lines (k - suc (length items)) rest
    → lines k (blocks timed_text (codes "timed ") (filled_timed 0 (cut_timed_section k items)) other) ≡ lines k (blocks timed_text (codes "timed ") items rest)
timed_same f small zero items rest other few h e = refl
timed_same f small (suc k) items rest other few h e =
    let left : suc k - suc (length items) ≡ k - length items = omega arith in
    counted_same timed_text (codes "timed ") k items _ rest other refl (omega arith) (filled_long 0 k items)
    (items_same f small 0 items rest other h k (subst (λ (n : ℕ). lines n other ≡ lines n rest) left e))

-- ---- they keep the rules

-- ticks rise, from one on
abbrev Follow : ℕ → List TimedItem → Type 0
Follow next [] = Unit {0}
Follow next (t ∷ items) = (next ≤ t.tick) × Follow (suc t.tick) items

follow_sooner : (soon next : ℕ) (items : List TimedItem) → soon ≤ next → Follow next items → Follow soon items
follow_sooner soon next [] le h = h
follow_sooner soon next (t ∷ items) le h = let less = h.0 in (omega (arith, le, less), h.1)

abbrev rises : List TimedItem → Bool
rises items = each_next (λ s t. nat_lt s.tick t.tick) items

follow_of : (t : TimedItem) (items : List TimedItem) → rises (t ∷ items) ≡ true → Follow (suc t.tick) items
follow_of t [] h = tt
follow_of t (u ∷ items) h =
    let p = and_parts _ _ h in
    let lt = ltb-true t.tick u.tick p.0 in
    (omega (arith, lt), follow_of u items p.1)

follow_all : (items : List TimedItem) → rises items ≡ true → Follow 0 items
follow_all [] h = tt
follow_all (t ∷ items) h = (omega arith, follow_of t items h)

rises_from : (t : TimedItem) (items : List TimedItem) → Follow (suc t.tick) items → rises (t ∷ items) ≡ true
rises_from t [] h = refl
rises_from t (u ∷ items) h = let less = h.0 in and_from _ _ (lt-ltb t.tick u.tick (omega (arith, less))) (rises_from u items h.1)

rises_all : (next : ℕ) (items : List TimedItem) → Follow next items → rises items ≡ true
rises_all next [] h = refl
rises_all next (t ∷ items) h = rises_from t items h.1

-- a timed item is over some fact
some_fact : (f : ℕ) (adds deletes : List ℕ) → not (is_empty adds && is_empty deletes) ≡ true → list_all (λ x. nat_lt x f) adds ≡ true → list_all (λ x. nat_lt x f) deletes ≡ true → nat_lt 0 f ≡ true
some_fact f [] [] some h k = absurd (false≢true some)
some_fact f [] (x ∷ deletes) some h k = let lt = ltb-true x f (and_parts _ _ k).0 in lt-ltb 0 f (omega (arith, lt))
some_fact f (x ∷ adds) deletes some h k = let lt = ltb-true x f (and_parts _ _ h).0 in lt-ltb 0 f (omega (arith, lt))

first_added : (f next : ℕ) → nat_lt 0 f ≡ true → is_timed f (record { tick = next; adds = 0 ∷ []; deletes = [] }) ≡ true
first_added f next h = rw h refl

-- what holds of the items from a tick on
pub record Hold (f next : ℕ) (items : List TimedItem) : Type 0 where
  pub are : list_all (is_timed f) items ≡ true
  pub fit : list_all (λ t. nat_lt t.tick (2 ^ 64)) items ≡ true
  pub follow : Follow next items

hold_more : (f next : ℕ) (t : TimedItem) (items : List TimedItem) → is_timed f t ≡ true → nat_lt t.tick (2 ^ 64) ≡ true → next ≤ t.tick → Hold f (suc t.tick) items → Hold f next (t ∷ items)
hold_more f next t items is fits le h = record { are = and_from _ _ is h.are; fit = and_from _ _ fits h.fit; follow = (le, h.follow) }

hold_sooner : (f soon next : ℕ) (items : List TimedItem) → soon ≤ next → Hold f next items → Hold f soon items
hold_sooner f soon next items le h = record { are = h.are; fit = h.fit; follow = follow_sooner soon next items le h.follow }

hold_behind : (f next : ℕ) (t : TimedItem) (items : List TimedItem) → Hold f next (t ∷ items) → Hold f (suc t.tick) items
hold_behind f next t items h = record { are = (and_parts _ _ h.are).1; fit = (and_parts _ _ h.fit).1; follow = h.follow.1 }

items_hold : (f next k : ℕ) (items : List TimedItem) → Hold f next items → Hold f next (filled_timed next (cut_timed k items))
items_hold f next k [] h = record { are = refl; fit = refl; follow = tt }
items_hold f next zero (t ∷ items) h =
    let is = timed_of f t (and_parts _ _ h.are).0 in
    let le : next ≤ t.tick = h.follow.0 in
    let fits = ltb-true t.tick (2 ^ 64) (and_parts _ _ h.fit).0 in
    hold_more f next (record { tick = next; adds = 0 ∷ []; deletes = [] }) _
    (first_added f next (some_fact f t.adds t.deletes is.some is.adds is.deletes))
    (lt-ltb next (2 ^ 64) (omega (arith, le, fits)))
    (omega arith)
    (items_hold f (suc next) zero items (hold_sooner f (suc next) (suc t.tick) items (omega (arith, le)) (hold_behind f next t items h)))
items_hold f next (suc k) (t ∷ items) h =
    let is = (and_parts _ _ h.are).0 in
    subst (λ (x : TimedItem). Hold f next (x ∷ filled_timed (suc x.tick) (cut_timed k items))) (sym (kept_item f next t (timed_of f t is)))
    (hold_more f next t _ is (and_parts _ _ h.fit).0 h.follow.0 (items_hold f (suc t.tick) k items (hold_behind f next t items h)))

-- what holds of the timed items of a problem
pub record Timings (f : ℕ) (items : List TimedItem) : Type 0 where
  pub few : length items ≤ 256
  pub are : list_all (is_timed f) items ≡ true
  pub rise : each_next (λ s t. nat_lt s.tick t.tick) items ≡ true
  pub fit : list_all (λ t. nat_lt t.tick (2 ^ 64)) items ≡ true

pub timed_hold : (f k : ℕ) (items : List TimedItem) → Timings f items → Timings f (filled_timed 0 (cut_timed_section k items))
timed_hold f zero items t = record { few = omega arith; are = refl; rise = refl; fit = refl }
timed_hold f (suc k) items t =
    let hold = items_hold f 0 k items (record { are = t.are; fit = t.fit; follow = follow_all items t.rise }) in
    let long = filled_long 0 k items in
    let few = t.few in
    record { few = omega (arith, long, few); are = hold.are; rise = rises_all 0 _ hold.follow; fit = hold.fit }
