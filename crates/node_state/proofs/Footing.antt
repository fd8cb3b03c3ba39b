-- Items whose footprints do not meet do not interfere.
use Rattle.std.proofs.Common.{◌≡◌, refl, sym, ap, subst, ◌∙◌, ℕ, ◌+◌, ◌<◌, ◌%◌, ◌^◌, ◌*◌, Bool, true, false, ◌&&◌, ◌||◌, eqb, min, max, List, [], ◌∷◌, ◌++◌, ◌⊎◌, inl, inr, length, take, get_or, Option, Some, None, slice_get, length-append, arith}
use Rattle.std.specs.Int.{bit_at}
use Rattle.std.specs.List.{list_any, list_all}
use Rattle.std.specs.Prelude.{bit_and, bit_or}
use Rattle.std.proofs.lemmas.Bool.{and_from, and_parts, false≢true, eq-eqb, false_from_ne_true}
use Rattle.std.proofs.lemmas.List.Folds.{list_any_more}
use Rattle.std.proofs.lemmas.Nat.{one_shl}
use Rattle.std.proofs.lemmas.Nat.Bits.{bit_at_or, bit_at_and, bit_at-zero, bit_at-lt, bit_at-pow_same}
use Rattle.tp_spec.specs.declared.plan.Item.{Item}
use Rattle.tp_spec.specs.declared.plan.Item.TheVariants.{TimedAt, End, Start}
use Rattle.tp_spec.specs.declared.problem.Cond.{Cond}
use Rattle.tp_spec.specs.declared.problem.Effect.{Effect}
use Rattle.tp_spec.specs.declared.problem.Effect.TheVariants.{Add, Delete, Change}
use Rattle.tp_spec.specs.declared.problem.Problem.{Problem}
use Rattle.tp_spec.specs.Interference.{asks, collides, disturbs, interfere}
use Rattle.tp_spec.specs.Items.{adds, conditions, deletes, effects}
use Rattle.node_state.specs.declared.footprints.Footprint.{Footprint}
use Rattle.node_state.specs.declared.footprints.Footprints.{Footprints}
use Rattle.node_state.specs.Footprints.{footprint_get, quiet_by, writes, AreApart, AreFootprints, AreFootprintsOf, Covers, IsFootprintOn}
use Rattle.node_state.specs.Judges.{item_of}
use Rattle.node_state.specs.Ranks.{is_of_fact, stays_in, writes_in}
use Rattle.tp_spec.specs.Lists.{some_and}
use Rattle.world_state.specs.declared.rows.BitRow.{BitRow}
use Rattle.snap_actions.proofs.Building.{got_push}
use Rattle.world_state.specs.Happenings.{action_effects}

left-bit : (x y : ℕ) → x ≡ 1 → y < 2 → max x y ≡ 1
left-bit x y h k = omega (arith, h, k)

right-bit : (x y : ℕ) → y ≡ 1 → x < 2 → max x y ≡ 1
right-bit x y h k = omega (arith, h, k)

either-true : (a b : Bool) → (a || b) ≡ true → (a ≡ true) ⊎ (b ≡ true)
either-true true b h = inl refl
either-true false b h = inr h

-- the bits of some elements and of one more
pub covers-more : {A : Type 0} (brings : ℕ → A → Bool) (xs : List A) (i : ℕ) (x : A) (w v : ℕ) → i < length xs → x ≡ get_or xs i x
    → Covers w (λ f. list_any (brings f) (take i xs)) → Covers v (λ f. brings f x) → Covers (bit_or w v) (λ f. list_any (brings f) (take (i + 1) xs))
covers-more brings xs i x w v below is h k = λ f given.
    elim (either-true (list_any (brings f) (take i xs)) (brings f x) (ap (λ y. list_any (brings f) (take i xs) || brings f y) is ∙ sym (list_any_more (brings f) xs i x below) ∙ given)) [
      | inl before ↦ bit_at_or w v (f % 64) ∙ left-bit (bit_at w (f % 64)) (bit_at v (f % 64)) (h f before) (bit_at-lt v (f % 64))
      | inr last ↦ bit_at_or w v (f % 64) ∙ right-bit (bit_at w (f % 64)) (bit_at v (f % 64)) (k f last) (bit_at-lt w (f % 64))
    ]

-- words without a bit in common
clear : (a b : ℕ) (s t : ℕ → Bool) → bit_and a b ≡ 0 → Covers a s → Covers b t → (f : ℕ) → s f ≡ true → t f ≡ false
clear a b s t none h k f here =
    false_from_ne_true (t f)
    (λ there.
    let one : bit_at (bit_and a b) (f % 64) ≡ 1 = bit_at_and a b (f % 64) ∙ (λ j. min (h f here j) (k f there j)) in
    let nought : bit_at (bit_and a b) (f % 64) ≡ 0 = ap (λ x. bit_at x (f % 64)) none ∙ bit_at-zero (f % 64) in
    omega (arith, one, nought))

left-false : (a b : Bool) → (a || b) ≡ false → a ≡ false
left-false true b h = h
left-false false b h = refl

right-false : (a b : Bool) → (a || b) ≡ false → b ≡ false
right-false true b h = absurd (false≢true (sym h))
right-false false b h = h

or-true : (b : Bool) → (b || true) ≡ true
or-true true = refl
or-true false = refl

no-adds : (f : ℕ) (es : List Effect) → list_any (writes f) es ≡ false → list_any (adds f) es ≡ false
no-adds f [] h = refl
no-adds f (Add g ∷ es) h = λ k. left-false (eqb f g) (list_any (writes f) es) h k || no-adds f es (right-false (eqb f g) (list_any (writes f) es) h) k
no-adds f (Delete g ∷ es) h = no-adds f es (right-false (eqb f g) (list_any (writes f) es) h)
no-adds f (Change how x e ∷ es) h = no-adds f es h

no-deletes : (f : ℕ) (es : List Effect) → list_any (writes f) es ≡ false → list_any (deletes f) es ≡ false
no-deletes f [] h = refl
no-deletes f (Add g ∷ es) h = no-deletes f es (right-false (eqb f g) (list_any (writes f) es) h)
no-deletes f (Delete g ∷ es) h = λ k. left-false (eqb f g) (list_any (writes f) es) h k || no-deletes f es (right-false (eqb f g) (list_any (writes f) es) h) k
no-deletes f (Change how x e ∷ es) h = no-deletes f es h

no-touch : (es : List Effect) (conds : List Cond) (others : List Effect) → list_all is_of_fact es ≡ true
    → ((f : ℕ) → list_any (writes f) es ≡ true → (list_any (asks f) conds ≡ false) × (list_any (writes f) others ≡ false))
    → list_any (λ e. list_any (disturbs e) conds || list_any (collides e) others) es ≡ false
no-touch [] conds others h out = refl
no-touch (Add f ∷ es) conds others h out =
    let here = out f (ap (λ b. b || list_any (writes f) es) (eq-eqb f f refl)) in
    λ k. (here.0 k || no-deletes f others here.1 k) || no-touch es conds others h (λ g w. out g (ap (λ b. eqb g f || b) w ∙ or-true (eqb g f))) k
no-touch (Delete f ∷ es) conds others h out =
    let here = out f (ap (λ b. b || list_any (writes f) es) (eq-eqb f f refl)) in
    λ k. (here.0 k || no-adds f others here.1 k) || no-touch es conds others h (λ g w. out g (ap (λ b. eqb g f || b) w ∙ or-true (eqb g f))) k
no-touch (Change how x e ∷ es) conds others h out = absurd (false≢true h)

apart-items : (p : Problem) (free : BitRow) (i j : Item) (a b : Footprint) → IsFootprintOn free (conditions p i) (effects p i) a → IsFootprintOn free (conditions p j) (effects p j) b → AreApart a b → interfere p i j ≡ false
apart-items p free i j a b h g m =
    let both : (f : ℕ) → list_any (writes f) (effects p i) ≡ true → list_any (writes f) (effects p j) ≡ false =
    clear a.written b.written (λ f. list_any (writes f) (effects p i)) (λ f. list_any (writes f) (effects p j)) m.written h.written g.written in
    λ k.
    no-touch (effects p i) (conditions p j) (effects p j) (h.plain m.first)
    (λ f w. (clear a.written b.asked (λ f. list_any (writes f) (effects p i)) (λ f. list_any (asks f) (conditions p j)) m.asked h.written g.asked f w, both f w)) k
    || no-touch (effects p j) (conditions p i) (effects p i) (g.plain m.second)
    (λ f w. (
      clear b.written a.asked (λ f. list_any (writes f) (effects p j)) (λ f. list_any (asks f) (conditions p i)) m.asking g.written h.asked f w,
      false_from_ne_true (list_any (writes f) (effects p i)) (λ here. false≢true (sym (both f here) ∙ w)),
    )) k

none≢some : {A : Type 0} (x : A) → Some x ≡ None → ⊥
none≢some x e = absurd (false≢true (sym (ap is-some e)))
  where
    is-some : {A : Type 0} → Option A → Bool
    is-some None = false
    is-some (Some y) = true

footprint-at : (p : Problem) (free : BitRow) (t : Footprints) (i : Item) (q : Footprint) → AreFootprints p free t → Some q ≡ footprint_get t i → IsFootprintOn free (conditions p i) (effects p i) q
footprint-at p free t (TimedAt k) q h got = absurd (none≢some q got)
footprint-at p free t (End a) q h got = h.ends a q (sym got)
footprint-at p free t (Start a) q h got = h.starts a q (sym got)

-- items whose footprints do not meet
pub apart-by : (p : Problem) (free : BitRow) (t : Footprints) (i j : Item) (a b : Footprint) → AreFootprints p free t → Some a ≡ footprint_get t i → Some b ≡ footprint_get t j → AreApart a b → interfere p i j ≡ false
apart-by p free t i j a b h first second m = apart-items p free i j a b (footprint-at p free t i a h first) (footprint-at p free t j b h second) m

effects-same : (p : Problem) (starts : Bool) (a : ℕ) → action_effects p (item_of starts a) ≡ effects p (item_of starts a)
effects-same p true a = refl
effects-same p false a = refl

-- the footprint of one action more
pub footprint-more : (p : Problem) (free : BitRow) (starts : Bool) (qs more : List Footprint) (q : Footprint) (n : ℕ) (i : Item) (conds : List Cond) (es : List Effect) → more ≡ qs ++ q ∷ [] → length qs ≡ n → AreFootprintsOf p free (item_of starts) qs
    → i ≡ item_of starts n → conds ≡ conditions p i → es ≡ action_effects p i → IsFootprintOn free conds es q → AreFootprintsOf p free (item_of starts) more
footprint-more p free starts qs more q n i conds es pushed len each is of done here = λ a r got.
    elim (got_push qs q a r (sym (ap (λ xs. slice_get xs a) pushed) ∙ got)) [
      | inl before ↦ each a r before
      | inr last ↦
          let at : n ≡ a = sym (last.0 ∙ len) in
          let same : q ≡ r = cc last.1 in
          let there : IsFootprintOn free (conditions p (item_of starts n)) (effects p (item_of starts n)) q =
          subst (λ ds. IsFootprintOn free (conditions p (item_of starts n)) ds q) (done ∙ ap (action_effects p) is ∙ effects-same p starts n)
          (subst (λ cs. IsFootprintOn free cs es q) (of ∙ ap (conditions p) is) here) in
          subst (λ x. IsFootprintOn free (conditions p (item_of starts a)) (effects p (item_of starts a)) x) same
          (subst (λ k. IsFootprintOn free (conditions p (item_of starts k)) (effects p (item_of starts k)) q) at there)
    ]

pub length-more : (qs more : List Footprint) (q : Footprint) (n : ℕ) → more ≡ qs ++ q ∷ [] → length qs ≡ n → length more ≡ n + 1
length-more qs more q n pushed len = ap length pushed ∙ length-append qs (q ∷ []) ∙ ap (λ m. m + 1) len

pub bit-of : (f : ℕ) → bit_at (1 * 2 ^ (f % 64) % 2 ^ 64) (f % 64) ≡ 1
bit-of f = ap (λ m. bit_at m (f % 64)) (one_shl (f % 64) 64 (omega arith)) ∙ bit_at-pow_same (f % 64)

quiet-at : (p : Problem) (free : BitRow) (kind : ℕ → Item) (qs : List Footprint) → AreFootprintsOf p free kind qs → (a : ℕ) (o : Option Footprint) → slice_get qs a ≡ o → some_and o (λ q. q.quiet) ≡ true → list_all (writes_in free) (effects p (kind a)) ≡ true
quiet-at p free kind qs are a None e h = absurd (false≢true h)
quiet-at p free kind qs are a (Some q) e h = (are a q e).quiet h

quiet-one : (p : Problem) (free : BitRow) (t : Footprints) → AreFootprints p free t → (i : Item) → quiet_by t i ≡ true → stays_in p free i ≡ true
quiet-one p free t are (TimedAt k) h = absurd (false≢true h)
quiet-one p free t are (End a) h = quiet-at p free (λ a. End a) t.ends.items are.ends a (slice_get t.ends.items a) refl h
quiet-one p free t are (Start a) h = quiet-at p free (λ a. Start a) t.starts.items are.starts a (slice_get t.starts.items a) refl h

quiet-all : (p : Problem) (free : BitRow) (t : Footprints) → AreFootprints p free t → (is : List Item) → list_all (quiet_by t) is ≡ true → list_all (stays_in p free) is ≡ true
quiet-all p free t are [] h = refl
quiet-all p free t are (i ∷ is) h =
    let parts = and_parts (quiet_by t i) (list_all (quiet_by t) is) h in
    and_from (stays_in p free i) (list_all (stays_in p free) is) (quiet-one p free t are i parts.0) (quiet-all p free t are is parts.1)

-- what quiet items write is in the row
pub quiet-stay : (p : Problem) (free : BitRow) (t : Footprints) → AreFootprints p free t → (is : List Item) (i : Item) → (list_all (quiet_by t) is && quiet_by t i) ≡ true → (list_all (stays_in p free) is && stays_in p free i) ≡ true
quiet-stay p free t are is i h =
    let parts = and_parts (list_all (quiet_by t) is) (quiet_by t i) h in
    and_from (list_all (stays_in p free) is) (stays_in p free i) (quiet-all p free t are is parts.0) (quiet-one p free t are i parts.1)
