-- The state after a set of items, from what the calls make of its row of facts and of its values.
use Rattle.std.proofs.Common.{◌≡◌, refl, sym, ap, subst, ◌∙◌, ℕ, zero, suc, ◌≤◌, ◌<◌, Bool, true, false, not, ◌&&◌, ◌||◌, eqb, ltb, List, [], ◌∷◌, ◌++◌, length, map, take, drop, get_or, set, get_or-set_same, get_or-set_other, Option, Some, None, Result, Ok, Err, IfOk, IfSome, MatchOption, Vec, Global, ℤ, ◌+ℤ◌, ◌-ℤ◌, slice_get, inl, inr, arith, if◌then◌else◌}
use Rattle.std.specs.List.{list_any, list_all, flat_map}
use Rattle.std.specs.Option.{option_and_then}
use Rattle.std.proofs.lemmas.Bool.{false≢true, and_parts, and_from, or_cases, or_parts, cases_lt, cases_Bool, cases_eq, eq-eqb, ne_eqb, eqb-true, ltb-true}
use Rattle.std.proofs.lemmas.List.Folds.{list_any-append}
use Rattle.std.proofs.lemmas.List.{drop_all, append-nil, take_all, get_or_past}
use Rattle.std.proofs.lemmas.Option.{slice_get-get_or, slice_get_past}
use Rattle.tp_spec.specs.declared.problem.Effect.{Effect}
use Rattle.tp_spec.specs.declared.problem.Effect.TheVariants.{Add, Delete, Change}
use Rattle.tp_spec.specs.declared.expr.Expr.{Expr}
use Rattle.tp_spec.specs.declared.problem.How.{How}
use Rattle.tp_spec.specs.declared.problem.How.TheVariants.{Increase, Decrease, Assign}
use Rattle.tp_spec.specs.declared.list.NoMemory.{NoMemory}
use Rattle.tp_spec.specs.declared.problem.TimedItem.{TimedItem}
use Rattle.tp_spec.specs.declared.plan.Item.{Item}
use Rattle.tp_spec.specs.declared.plan.Item.TheVariants.{TimedAt, End, Start}
use Rattle.tp_spec.specs.Items.{adds, deletes, change, changed, next, fits, fits_new, has_after, after, effects, effects_of, timed_effects}
use Rattle.tp_spec.specs.Lists.{part_of}
use Rattle.tp_spec.specs.States.{State, initial, value, of_both}
use Rattle.tp_spec.specs.WellFormed.{Ground, IsWellFormed, is_effect}
use Rattle.world_state.specs.declared.rows.BitRow.{BitRow}
use Rattle.world_state.specs.Rows.{has_bit, is_in_row, has_place, width, words_for, Takes}
use Rattle.world_state.specs.Happenings.{action_effects, changed_by, new_value, AreValuesAfter}
use Rattle.world_state.specs.View.{StateView, meaning}
use Rattle.world_state.proofs.Problems.{all_weaker, items_inside}
use Rattle.world_state.proofs.RowSets.{below_of, implied, place_below}

-- states that agree everywhere are one
pub same_state : (s t : State) → ((f : ℕ) → s.fact f ≡ t.fact f) → ((x : ℕ) → s.fluent x ≡ t.fluent x) → s ≡ t
same_state s t facts fluents = λ i. record { fact = λ f. facts f i; fluent = λ x. fluents x i }

pub changed_by-append : (s : State) (x : ℕ) (es fs : List Effect) (v : Option ℤ) → changed_by s x (es ++ fs) v ≡ changed_by s x es (changed_by s x fs v)
changed_by-append s x [] fs v = refl
changed_by-append s x (e ∷ es) fs v = ap (change s x e) (changed_by-append s x es fs v)

-- the old value is where the effects begin
pub changed-is : (s : State) (x : ℕ) (es : List Effect) → changed s x es ≡ changed_by s x es (s.fluent x)
changed-is s x [] = refl
changed-is s x (e ∷ es) = ap (change s x e) (changed-is s x es)

adds_change_none : (s : State) (x : ℕ) (fs : List ℕ) (v : Option ℤ) → changed_by s x (map Add fs) v ≡ v
adds_change_none s x [] v = refl
adds_change_none s x (f ∷ fs) v = adds_change_none s x fs v

deletes_change_none : (s : State) (x : ℕ) (fs : List ℕ) (v : Option ℤ) → changed_by s x (map Delete fs) v ≡ v
deletes_change_none s x [] v = refl
deletes_change_none s x (f ∷ fs) v = deletes_change_none s x fs v

timed_changes_none : (s : State) (x : ℕ) (o : Option TimedItem) (v : Option ℤ) → changed_by s x (part_of o timed_effects) v ≡ v
timed_changes_none s x None v = refl
timed_changes_none s x (Some t) v =
    changed_by-append s x (map Add t.adds) (map Delete t.deletes) v
    ∙ adds_change_none s x t.adds (changed_by s x (map Delete t.deletes) v)
    ∙ deletes_change_none s x t.deletes v

-- only the ends and the starts of actions change fluents
pub item_changes : (p : Ground) (s : State) (x : ℕ) (i : Item) (v : Option ℤ) → changed_by s x (action_effects p i) v ≡ changed_by s x (effects p i) v
item_changes p s x (TimedAt k) v = sym (timed_changes_none s x (slice_get p.timed k) v)
item_changes p s x (End a) v = refl
item_changes p s x (Start a) v = refl

-- one item more, in front
pub items_change : (p : Ground) (s : State) (x : ℕ) (i : Item) (is : List Item) (v : Option ℤ)
    → changed_by s x (action_effects p i) (changed_by s x (effects_of p is) v) ≡ changed_by s x (effects_of p (i ∷ is)) v
items_change p s x i is v = item_changes p s x i (changed_by s x (effects_of p is) v) ∙ sym (changed_by-append s x (effects p i) (effects_of p is) v)

-- whether an effect writes fluent x
abbrev writes : ℕ → Effect → Bool
writes x (Add f) = false
writes x (Delete f) = false
writes x (Change how y e) = eqb x y

unchanged_by : (s : State) (x : ℕ) (e : Effect) (v : Option ℤ) → writes x e ≡ false → change s x e v ≡ v
unchanged_by s x (Add f) v h = refl
unchanged_by s x (Delete f) v h = refl
unchanged_by s x (Change Increase y e) v h = ap (λ b. if b then of_both (λ m n. m +ℤ n) v (value s e) else v) h
unchanged_by s x (Change Decrease y e) v h = ap (λ b. if b then of_both (λ m n. m -ℤ n) v (value s e) else v) h
unchanged_by s x (Change Assign y e) v h = ap (λ b. if b then value s e else v) h

-- a fluent that no effect writes keeps its value
unwritten : (s : State) (x : ℕ) (es : List Effect) → list_any (writes x) es ≡ false → changed s x es ≡ s.fluent x
unwritten s x [] h = refl
unwritten s x (e ∷ es) h = unchanged_by s x e (changed s x es) (or_parts _ _ h).0 ∙ unwritten s x es (or_parts _ _ h).1

fits_where_written : (t : State) (x : ℕ) (e : Effect) → writes x e ≡ true → fits_new t e ≡ true → fits (t.fluent x) ≡ true
fits_where_written t x (Add f) h k = absurd (false≢true h)
fits_where_written t x (Delete f) h k = absurd (false≢true h)
fits_where_written t x (Change how y e) h k = ap (λ z. fits (t.fluent z)) (eqb-true x y h) ∙ k

-- the new value of a written fluent fits where all new values do
written_fits : (t : State) (x : ℕ) (es : List Effect) → list_any (writes x) es ≡ true → list_all (fits_new t) es ≡ true → fits (t.fluent x) ≡ true
written_fits t x [] h k = absurd (false≢true h)
written_fits t x (e ∷ es) h k =
    elim (or_cases _ _ h) [
      | inl here ↦ fits_where_written t x e here (and_parts _ _ k).0
      | inr there ↦ written_fits t x es there (and_parts _ _ k).1
    ]

writes_below : (facts fluents : ℕ) (e : Effect) (x : ℕ) → is_effect facts fluents e ≡ true → writes x e ≡ true → x < fluents
writes_below facts fluents (Add f) x good w = absurd (false≢true w)
writes_below facts fluents (Delete f) x good w = absurd (false≢true w)
writes_below facts fluents (Change how y e) x good w =
    let same : x ≡ y = eqb-true x y w in
    let below : y < fluents = ltb-true y fluents (and_parts _ _ good).0 in
    omega arith

adds_below : (facts fluents : ℕ) (e : Effect) (f : ℕ) → is_effect facts fluents e ≡ true → adds f e ≡ true → f < facts
adds_below facts fluents (Add g) f good w =
    let same : f ≡ g = eqb-true f g w in
    let below : g < facts = ltb-true g facts good in
    omega arith
adds_below facts fluents (Delete g) f good w = absurd (false≢true w)
adds_below facts fluents (Change how y e) f good w = absurd (false≢true w)

pub list_all_get : {A : Type 0} (p : A → Bool) (xs : List A) (i : ℕ) (d : A) → list_all p xs ≡ true → i < length xs → p (get_or xs i d) ≡ true
list_all_get p [] i d all below = absurd (omega arith)
list_all_get p (x ∷ xs) zero d all below = (and_parts _ _ all).0
list_all_get p (x ∷ xs) (suc i) d all below = let rest : i < length xs = omega arith in list_all_get p xs i d (and_parts _ _ all).1 rest

pub list_all_from : {A : Type 0} (p : A → Bool) (xs : List A) (d : A) → ((i : ℕ) → i < length xs → p (get_or xs i d) ≡ true) → list_all p xs ≡ true
list_all_from p [] d each = refl
list_all_from p (x ∷ xs) d each =
    and_from _ _ (each zero (omega arith)) (list_all_from p xs d (λ i below. let more : suc i < suc (length xs) = omega arith in each (suc i) more))

pub same_Bool : (a b : Bool) → (a ≡ true → b ≡ true) → (b ≡ true → a ≡ true) → a ≡ b
same_Bool true true h k = refl
same_Bool true false h k = sym (h refl)
same_Bool false true h k = k refl
same_Bool false false h k = refl

-- the values after the items
pub record AreNewValues (s : State) (es : List Effect) (fluents : ℕ) (values : List (Option ℤ)) : Type 0 where
  pub count : length values ≡ fluents
  pub each : (x : ℕ) → x < length values → get_or values x None ≡ changed s x es

pub fluent_at : (v : StateView) (x : ℕ) → x < length v.values → (meaning v).fluent x ≡ get_or v.values x None
fluent_at v x below = ap (option_and_then (λ n. n)) (slice_get-get_or v.values x None below)

fluent_past : (v : StateView) (x : ℕ) → length v.values ≤ x → (meaning v).fluent x ≡ None
fluent_past v x past = ap (option_and_then (λ n. n)) (slice_get_past v.values x past)

-- a state's values fit
fluent_fits : (v : StateView) (x : ℕ) → list_all fits v.values ≡ true → fits ((meaning v).fluent x) ≡ true
fluent_fits v x narrow =
    elim (cases_lt x (length v.values)) [
      | inl below ↦ ap fits (fluent_at v x below) ∙ list_all_get fits v.values x None narrow below
      | inr past ↦ ap fits (fluent_past v x past)
    ]

-- each fluent's new value fits exactly where all values do
pub changed_fits : (v : StateView) (facts fluents : ℕ) (es : List Effect) (x : ℕ) → list_all fits v.values ≡ true
    → list_all (fits_new (next (meaning v) es)) es ≡ true → fits (changed (meaning v) x es) ≡ true
changed_fits v facts fluents es x narrow all =
    elim (cases_Bool (list_any (writes x) es)) [
      | inl some ↦ written_fits (next (meaning v) es) x es some all
      | inr none ↦ ap fits (unwritten (meaning v) x es none) ∙ fluent_fits v x narrow
    ]

-- there is a state after exactly where all values fit
pub all_fit : (v : StateView) (facts fluents : ℕ) (es : List Effect) (values : List (Option ℤ)) → list_all fits v.values ≡ true
    → list_all (is_effect facts fluents) es ≡ true → AreNewValues (meaning v) es fluents values
    → list_all fits values ≡ list_all (fits_new (next (meaning v) es)) es
all_fit v facts fluents es values narrow inside new =
    let t : State = next (meaning v) es in
    let one : (e : Effect) → list_all fits values ≡ true → is_effect facts fluents e ≡ true → fits_new t e ≡ true = λ e all good. effect_fits v facts fluents es values new e all good in
    same_Bool (list_all fits values) (list_all (fits_new t) es)
    (λ all. all_weaker (is_effect facts fluents) (fits_new t) (λ e good. one e all good) es inside)
    (λ all. list_all_from fits values None (λ x below. ap fits (new.each x below) ∙ changed_fits v facts fluents es x narrow all))
  where
    effect_fits : (v : StateView) (facts fluents : ℕ) (es : List Effect) (values : List (Option ℤ)) → AreNewValues (meaning v) es fluents values
        → (e : Effect) → list_all fits values ≡ true → is_effect facts fluents e ≡ true → fits_new (next (meaning v) es) e ≡ true
    effect_fits v facts fluents es values new (Add f) all good = refl
    effect_fits v facts fluents es values new (Delete f) all good = refl
    effect_fits v facts fluents es values new (Change how x e) all good =
        let below : x < fluents = ltb-true x fluents (and_parts _ _ good).0 in
        let inside : x < length values = omega (arith, new.count) in
        ap fits (sym (new.each x inside)) ∙ list_all_get fits values x None all inside

-- the new values as the fluents of the state after
pub fluents_after : (v : StateView) (facts fluents : ℕ) (es : List Effect) (w : StateView) → length v.values ≡ fluents
    → list_all (is_effect facts fluents) es ≡ true → AreNewValues (meaning v) es fluents w.values
    → (x : ℕ) → (meaning w).fluent x ≡ changed (meaning v) x es
fluents_after v facts fluents es w count inside new x =
    elim (cases_lt x (length w.values)) [
      | inl below ↦ fluent_at w x below ∙ new.each x below
      | inr past ↦
          let beyond : fluents ≤ x = omega (arith, new.count) in
          let out : length v.values ≤ x = omega (arith, count) in
          fluent_past w x past ∙ sym (unwritten (meaning v) x es (none_beyond facts fluents es x beyond inside) ∙ fluent_past v x out)
    ]
  where
    none_beyond : (facts fluents : ℕ) (es : List Effect) (x : ℕ) → fluents ≤ x → list_all (is_effect facts fluents) es ≡ true → list_any (writes x) es ≡ false
    none_beyond facts fluents es x beyond inside =
        elim (cases_Bool (list_any (writes x) es)) [
          | inl some ↦
              let below : x < fluents = below_of (is_effect facts fluents) writes fluents (λ e y. writes_below facts fluents e y) es x inside some in
              absurd (omega arith)
          | inr none ↦ none
        ]

pub list_any-flat_map : {A B : Type 0} (q : B → Bool) (g : A → List B) (xs : List A) → list_any (λ x. list_any q (g x)) xs ≡ list_any q (flat_map g xs)
list_any-flat_map q g [] = refl
list_any-flat_map q g (x ∷ xs) = ap (λ b. list_any q (g x) || b) (list_any-flat_map q g xs) ∙ sym (list_any-append q (g x) (flat_map g xs))

-- what the items delete and then add, as a change of a row of facts
pub facts_after : (p : Ground) → IsWellFormed p → (items : List Item) (old : List ℕ) (mid new : BitRow)
    → length old ≡ words_for (length p.facts) → width mid ≡ length old
    → ((f : ℕ) → is_in_row mid f ≡ (has_bit old f && not (list_any (λ i. list_any (deletes f) (effects p i)) items)))
    → Takes mid new (λ f. list_any (λ i. list_any (adds f) (effects p i)) items)
    → (f : ℕ) → is_in_row new f ≡ ((has_bit old f && not (list_any (deletes f) (effects_of p items))) || list_any (adds f) (effects_of p items))
facts_after p formed items old mid new wide same_width lost taken f =
    let n : ℕ = length p.facts in
    let added : Bool = list_any (adds f) (effects_of p items) in
    let place : has_place (width mid) f ≡ has_place (words_for n) f = ap (λ w. has_place w f) (same_width ∙ wide) in
    taken.has f
    ∙ ap (λ b. b || (has_place (width mid) f && list_any (λ i. list_any (adds f) (effects p i)) items)) (lost f)
    ∙ ap (λ b. (has_bit old f && not b) || (has_place (width mid) f && list_any (λ i. list_any (adds f) (effects p i)) items)) (list_any-flat_map (deletes f) (effects p) items)
    ∙ ap (λ b. (has_bit old f && not (list_any (deletes f) (effects_of p items))) || (has_place (width mid) f && b)) (list_any-flat_map (adds f) (effects p) items)
    ∙ ap (λ b. (has_bit old f && not (list_any (deletes f) (effects_of p items))) || (b && added)) place
    ∙ ap (λ b. (has_bit old f && not (list_any (deletes f) (effects_of p items))) || b)
    (implied (has_place (words_for n) f) added
    (λ is. place_below n f (below_of (is_effect n (length p.fluents)) adds n (λ e g. adds_below n (length p.fluents) e g) (effects_of p items) f (items_inside p formed items) is)))

pub none_after : (p : Ground) (s : State) (items : List Item) → has_after p s items ≡ false → None ≡ after p s items
none_after p s items h = sym (ap (λ b. if b then Some (next s (effects_of p items)) else None) h)

-- the state of the new facts and the new values
pub some_after : (p : Ground) → IsWellFormed p → (items : List Item) (v w : StateView) → length v.values ≡ length p.fluents
    → ((f : ℕ) → has_bit w.words f ≡ (next (meaning v) (effects_of p items)).fact f)
    → AreValuesAfter p (meaning v) items w.values → Some (meaning w) ≡ after p (meaning v) items
some_after p formed items v w count facts values =
    let es : List Effect = effects_of p items in
    let n : ℕ = length p.facts in
    let m : ℕ = length p.fluents in
    let new : AreNewValues (meaning v) es m w.values = record { count = values.count; each = values.each } in
    ap Some (same_state (meaning w) (next (meaning v) es) facts (fluents_after v n m es w count (items_inside p formed items) new))
    ∙ sym (ap (λ b. if b then Some (next (meaning v) es) else None) values.exists)

pub values_exist : (p : Ground) → IsWellFormed p → (items : List Item) (v : StateView) (values : List (Option ℤ)) → list_all fits v.values ≡ true
    → AreNewValues (meaning v) (effects_of p items) (length p.fluents) values → list_all fits values ≡ has_after p (meaning v) items
values_exist p formed items v values narrow new =
    all_fit v (length p.facts) (length p.fluents) (effects_of p items) values narrow (items_inside p formed items) new

-- each value of a fluent fits where the values that are kept do
pub each_fits : (p : Ground) → IsWellFormed p → (items : List Item) (v : StateView) (values : List (Option ℤ)) → list_all fits v.values ≡ true
    → AreNewValues (meaning v) (effects_of p items) (length p.fluents) values → list_all fits values ≡ true
    → (x : ℕ) → fits (changed (meaning v) x (effects_of p items)) ≡ true
each_fits p formed items v values narrow new all x =
    changed_fits v (length p.facts) (length p.fluents) (effects_of p items) x narrow (sym (values_exist p formed items v values narrow new) ∙ all)

init_below : (facts : ℕ) (init : List ℕ) (f : ℕ) → list_all (λ g. ltb g facts) init ≡ true → list_any (λ g. eqb f g) init ≡ true → f < facts
init_below facts init f all some =
    below_of (λ g. ltb g facts) (λ f' g. eqb f' g) facts (λ g f' good is. let same : f' ≡ g = eqb-true f' g is in let below : g < facts = ltb-true g facts good in omega arith) init f all some

-- the row of the facts that are true at the start, and the values
pub state_at_start : (p : Ground) → IsWellFormed p → (v : StateView) → v.values ≡ p.values
    → ((f : ℕ) → has_bit v.words f ≡ (has_place (words_for (length p.facts)) f && list_any (λ g. eqb f g) p.init))
    → meaning v ≡ initial p
state_at_start p formed v values facts =
    let n : ℕ = length p.facts in
    same_state (meaning v) (initial p)
    (λ f. facts f ∙ implied (has_place (words_for n) f) (list_any (λ g. eqb f g) p.init) (λ is. place_below n f (init_below n p.init f (and_parts _ _ formed.starting).0 is)))
    (λ x. ap (λ xs. option_and_then (λ v. v) (slice_get xs x)) values)

change_is : (s : State) (x : ℕ) (how : How) (y : ℕ) (e : Expr) (v : Option ℤ)
    → change s x (Change how y e) v ≡ (if eqb x y then new_value how v (value s e) else v)
change_is s x Increase y e v = refl
change_is s x Decrease y e v = refl
change_is s x Assign y e v = refl

-- one value written
pub value_written : (s : State) (values : List (Option ℤ)) (effect : Effect) (how : How) (y : ℕ) (e : Expr) (r : Option ℤ)
    → effect ≡ Change how y e → y < length values → r ≡ new_value how (get_or values y None) (value s e)
    → (x : ℕ) → get_or (set values y r) x None ≡ change s x effect (get_or values x None)
value_written s values effect how y e r is below new x =
    let other : (if eqb x y then new_value how (get_or values x None) (value s e) else get_or values x None) ≡ change s x effect (get_or values x None) =
    sym (change_is s x how y e (get_or values x None)) ∙ ap (λ f. change s x f (get_or values x None)) (sym is) in
    elim (cases_eq x y) [
      | inl same ↦
          ap (λ z. get_or (set values y r) z None) same
          ∙ get_or-set_same values y r None below ∙ new
          ∙ ap (λ z. new_value how (get_or values z None) (value s e)) (sym same)
          ∙ ap (λ b. if b then new_value how (get_or values x None) (value s e) else get_or values x None) (sym (eq-eqb x y same))
          ∙ other
      | inr apart ↦
          get_or-set_other values y x r None apart
          ∙ ap (λ b. if b then new_value how (get_or values x None) (value s e) else get_or values x None) (sym (ne_eqb x y apart))
          ∙ other
    ]

-- a slice that was lent and written
pub written_back : {A : Type 0} (n : ℕ) (ws xs : List A) → n ≡ length xs → length ws ≡ length xs → take n (ws ++ drop (length ws) xs) ≡ ws
written_back n ws xs len same =
    ap (λ ys. take n (ws ++ ys)) (drop_all (length ws) xs (omega arith)) ∙ ap (take n) (append-nil ws) ∙ take_all n ws (omega arith)

-- the values from which the items start
pub new_value_at : (v : StateView) (x : ℕ) (es : List Effect) → x < length v.values
    → changed_by (meaning v) x es (get_or v.values x None) ≡ changed (meaning v) x es
new_value_at v x es below = ap (changed_by (meaning v) x es) (sym (fluent_at v x below)) ∙ sym (changed-is (meaning v) x es)

pub values_from : (p : Ground) → IsWellFormed p → (items : List Item) (v : StateView) (wide : List (Option ℤ)) → list_all fits v.values ≡ true
    → AreNewValues (meaning v) (effects_of p items) (length p.fluents) wide → (r : Option (Vec (Option ℤ) Global))
    → MatchOption r (list_all fits wide ≡ false) (λ w. (w.items ≡ wide) × (list_all fits wide ≡ true))
    → MatchOption r (has_after p (meaning v) items ≡ false) (λ w. AreValuesAfter p (meaning v) items w.items)
values_from p formed items v wide narrow new None h = sym (values_exist p formed items v wide narrow new) ∙ h
values_from p formed items v wide narrow new (Some w) h =
    subst (AreValuesAfter p (meaning v) items) (sym h.0)
    (record { exists = sym (values_exist p formed items v wide narrow new) ∙ h.1; fit = h.1; count = new.count; each = new.each })

pub values_result : (p : Ground) → IsWellFormed p → (items : List Item) (v : StateView) (wide : List (Option ℤ)) → list_all fits v.values ≡ true
    → AreNewValues (meaning v) (effects_of p items) (length p.fluents) wide → (r : Result (Option (Vec (Option ℤ) Global)) NoMemory)
    → IfOk r (λ o. MatchOption o (list_all fits wide ≡ false) (λ w. (w.items ≡ wide) × (list_all fits wide ≡ true)))
    → IfOk r (λ o. MatchOption o (has_after p (meaning v) items ≡ false) (λ w. AreValuesAfter p (meaning v) items w.items))
values_result p formed items v wide narrow new (Ok o) h = values_from p formed items v wide narrow new o h
values_result p formed items v wide narrow new (Err e) h = tt

-- the first value that does not fit is the first fluent whose new value does not
pub first_from : (s : State) (es : List Effect) (fluents : ℕ) (wide : List (Option ℤ)) → AreNewValues s es fluents wide → (r : Option ℕ)
    → IfSome r (λ y. fits (get_or wide y None) ≡ false) → IfSome r (λ y. (x : ℕ) → x < y → fits (get_or wide x None) ≡ true)
    → IfSome r (λ y. (x : ℕ) → x < y → fits (changed s x es) ≡ true)
first_from s es fluents wide new None some first = tt
first_from s es fluents wide new (Some y) some first = λ x before.
    elim (cases_lt x (length wide)) [
      | inl below ↦ ap fits (sym (new.each x below)) ∙ first x before
      | inr past ↦
          let out : length wide ≤ y = omega arith in
          absurd (false≢true (sym some ∙ ap fits (get_or_past wide y None out)))
    ]

-- the same at a slice of the values
pub new_values_at : (p : Ground) (s : State) (items : List Item) (old : List (Option ℤ)) (made lent : List (Option ℤ)) → length old ≡ length p.fluents
    → length made ≡ length old → ((x : ℕ) → x < length made → get_or made x None ≡ changed s x (effects_of p items)) → lent ≡ made
    → AreNewValues s (effects_of p items) (length p.fluents) lent
new_values_at p s items old made lent valued len each of =
    subst (AreNewValues s (effects_of p items) (length p.fluents)) (sym of) (record { count = len ∙ valued; each = each })
