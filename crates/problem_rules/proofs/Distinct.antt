-- Names that differ from each other, with one name more.
use Rattle.std.proofs.Common.{◌≡◌, ℕ, suc, ◌<◌, Bool, true, false, not, ◌&&◌, ◌||◌, cond, List, [], ◌∷◌, ◌++◌, length, get_or, take, drop, refl, ap, sym, ◌∙◌, bytes_eq, take-append-drop, drop-cons, Bor}
use Rattle.std.specs.BTreeSet.{BTreeSet, contains_by, UpdatesBy}
use Rattle.std.specs.List.{list_all, list_any}
use Rattle.std.specs.Ordering.{nat_cmp}
use Rattle.std.specs.Cmp.Lexicographic.{slice_cmp}
use Rattle.std.proofs.lemmas.Bool.{and_parts, and_from}
use Rattle.std.proofs.lemmas.List.Folds.{list_all-append, list_any-append}
use Rattle.std.proofs.lemmas.Map.Text.{is_eq-slice_cmp}
use Rattle.tp_spec.specs.Lists.{each_pair}
use Rattle.tp_spec.specs.declared.problem.Action.{Action}

abbrev pub apart : Action → Action → Bool
apart a b = not (bytes_eq a.name b.name)

abbrev pub named : List ℕ → Action → Bool
named name a = bytes_eq a.name name

both_false : (a b : Bool) → (a || b) ≡ false → (a ≡ false) × (b ≡ false)
both_false false false h = (refl, refl)
both_false false true h = absurd (cc)
both_false true b h = absurd (cc)

-- one more, of another name
pub apart_more : (before : List Action) (a : Action) → each_pair apart before ≡ true → list_any (named a.name) before ≡ false
    → each_pair apart (before ++ a ∷ []) ≡ true
apart_more [] a h none = refl
apart_more (b ∷ before) a h none =
    let w = and_parts (list_all (apart b) before) (each_pair apart before) h in
    let n = both_false (bytes_eq b.name a.name) (list_any (named a.name) before) none in
    and_from _ _
    (list_all-append (apart b) before (a ∷ []) ∙ and_from _ _ w.0 (ap (λ (is : Bool). not is && true) n.0))
    (apart_more before a w.1 n.1)

-- one of them has the name of a later one
hit : (b : Action) (before : List Action) (a : Action) (rest : List Action) → bytes_eq b.name a.name ≡ true → list_all (apart b) (before ++ a ∷ rest) ≡ false
hit b [] a rest e = ap (λ (is : Bool). not is && list_all (apart b) rest) e
hit b (d ∷ before) a rest e = right (apart b d) _ (hit b before a rest e) where
  right : (x y : Bool) → y ≡ false → (x && y) ≡ false
  right true y e = e
  right false y e = refl

pub apart_twice : (before : List Action) (a : Action) (rest : List Action) → list_any (named a.name) before ≡ true
    → each_pair apart (before ++ a ∷ rest) ≡ false
apart_twice [] a rest some = absurd (cc)
apart_twice (b ∷ before) a rest some = by_first (bytes_eq b.name a.name) refl some (apart_twice before a rest) where
  left : (x y : Bool) → x ≡ false → (x && y) ≡ false
  left x y e = ap (λ (is : Bool). is && y) e

  right : (x y : Bool) → y ≡ false → (x && y) ≡ false
  right true y e = e
  right false y e = refl

  by_first : (is : Bool) → bytes_eq b.name a.name ≡ is → (is || list_any (named a.name) before) ≡ true
      → (list_any (named a.name) before ≡ true → each_pair apart (before ++ a ∷ rest) ≡ false)
      → (list_all (apart b) (before ++ a ∷ rest) && each_pair apart (before ++ a ∷ rest)) ≡ false
  by_first true e s later = left (list_all (apart b) (before ++ a ∷ rest)) (each_pair apart (before ++ a ∷ rest)) (hit b before a rest e)
  by_first false e s later = right (list_all (apart b) (before ++ a ∷ rest)) (each_pair apart (before ++ a ∷ rest)) (later s)

-- the set has the name that was put in, and those before
pub seen_more : (old new : BTreeSet (Bor (List ℕ))) (key : Bor (List ℕ)) (before : List Action) (a : Action) → key.now ≡ a.name
    → UpdatesBy (λ x y. slice_cmp nat_cmp x.now y.now) (λ k. slice_cmp nat_cmp key.now k.now) old new true
    → ((name : List ℕ) → contains_by (λ k. slice_cmp nat_cmp name k.now) old ≡ list_any (named name) before)
    → (name : List ℕ) → contains_by (λ k. slice_cmp nat_cmp name k.now) new ≡ list_any (named name) (before ++ a ∷ [])
seen_more old new key before a same up so_far name =
    up.0 (record { ref_ptr = key.ref_ptr; now = name })
    ∙ ap (λ (is : Bool). cond is true (contains_by (λ k. slice_cmp nat_cmp name k.now) old)) (is_eq-slice_cmp key.now name ∙ ap (λ (n : List ℕ). bytes_eq n name) same)
    ∙ ap (λ (is : Bool). cond (bytes_eq a.name name) true is) (so_far name)
    ∙ either (bytes_eq a.name name) (list_any (named name) before)
    ∙ sym (list_any-append (named name) before (a ∷ []))
  where
    either : (b c : Bool) → cond b true c ≡ (c || (b || false))
    either true true = refl
    either true false = refl
    either false true = refl
    either false false = refl

-- actions before one of them, it, and those behind it
split_at : (actions : List Action) (i : ℕ) (a : Action) → i < length actions → a ≡ get_or actions i a → actions ≡ take i actions ++ a ∷ drop (suc i) actions
split_at actions i a within is =
    sym (take-append-drop i actions) ∙ ap (λ (y : List Action). take i actions ++ y) (drop-cons actions i a within ∙ ap (λ (b : Action). b ∷ drop (suc i) actions) (sym is))

found : (is has : Bool) → is ≡ not has → is ≡ false → has ≡ true
found is true e f = refl
found is false e f = absurd (cc)

unseen : (is has : Bool) → is ≡ not has → is ≡ true → has ≡ false
unseen is false e f = refl
unseen is true e f = absurd (cc)

module _ (actions : List Action) (i : ℕ) (a : Action) (within : i < length actions) (is : a ≡ get_or actions i a) (seen : BTreeSet (Bor (List ℕ))) (key : Bor (List ℕ)) (same : key.now ≡ a.name) (added : Bool) (told : added ≡ not (contains_by (λ k. slice_cmp nat_cmp key.now k.now) seen)) (so_far : (name : List ℕ) → contains_by (λ k. slice_cmp nat_cmp name k.now) seen ≡ list_any (named name) (take i actions)) where
  known : contains_by (λ k. slice_cmp nat_cmp key.now k.now) seen ≡ list_any (named a.name) (take i actions)
  known = so_far key.now ∙ ap (λ (n : List ℕ). list_any (named n) (take i actions)) same

  pub refuses : added ≡ false → false ≡ each_pair apart actions
  refuses f =
      sym (ap (each_pair apart) (split_at actions i a within is)
      ∙ apart_twice (take i actions) a (drop (suc i) actions) (sym known ∙ found added _ told f))

  pub keeps : added ≡ true → each_pair apart (take i actions) ≡ true → each_pair apart (take i actions ++ a ∷ []) ≡ true
  keeps f h = apart_more (take i actions) a h (sym known ∙ unseen added _ told f)
