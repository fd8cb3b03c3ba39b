-- The rank of a longer group of which no item changes a fluent.
use Rattle.std.proofs.Common.{◌≡◌, ◌+◌, refl, sym, ap, ◌∙◌, ℕ, Bool, true, false, not, ◌&&◌, ◌||◌, eqb, List, [], ◌∷◌, ◌++◌, map, length, count_by, Option, Some, None, ℤ, slice_get, if◌then◌else◌}
use Rattle.std.specs.List.{list_any, list_all, fold}
use Rattle.std.proofs.lemmas.Bool.{and_parts, and_from, false≢true, eqb-true, eq-eqb, false_from_ne_true}
use Rattle.std.proofs.lemmas.List.Folds.{list_any-append, list_all-append}
use Rattle.tp_spec.specs.declared.expr.Expr.{Expr, fold-Expr}
use Rattle.tp_spec.specs.declared.expr.Expr.TheOpen.{Expr-F}
use Rattle.tp_spec.specs.declared.plan.Item.{Item}
use Rattle.tp_spec.specs.declared.plan.Item.TheVariants.{TimedAt, End, Start}
use Rattle.tp_spec.specs.declared.problem.Cond.{Cond}
use Rattle.tp_spec.specs.declared.problem.Cond.TheVariants.{Lit, Compare}
use Rattle.tp_spec.specs.declared.problem.Effect.{Effect}
use Rattle.tp_spec.specs.declared.problem.Effect.TheVariants.{Add, Delete, Change}
use Rattle.tp_spec.specs.declared.problem.Problem.{Problem}
use Rattle.tp_spec.specs.declared.problem.TimedItem.{TimedItem}
use Rattle.tp_spec.specs.Items.{adds, deletes, changed, effects, effects_of, fits_new, has_after, next, timed_effects}
use Rattle.tp_spec.specs.Lists.{part_of, some_and}
use Rattle.tp_spec.specs.States.{State, value, value_at, of_both, compares, holds}
use Rattle.tp_spec.specs.Words.{Progress}
use Rattle.world_state.proofs.After.{list_any-flat_map}
use Rattle.world_state.proofs.TimedFacts.{timed_adds, timed_deletes}
use Rattle.node_state.specs.Founds.{unmet_with}
use Rattle.world_state.specs.declared.rows.BitRow.{BitRow}
use Rattle.world_state.specs.Rows.{is_in_row, Loses}
use Rattle.tp_laws.proofs.Orders.{not-true}
use Rattle.std.specs.Prelude.{cond}
use Rattle.node_state.specs.Ranks.{speaks_of, IsFree, writes_in, stays_in, unmet_before, is_of_fact, writes_facts, adds_it, deletes_it, fact_with, holds_with}

adds-of-facts : (xs : List ℕ) → list_all is_of_fact (map Add xs) ≡ true
adds-of-facts [] = refl
adds-of-facts (x ∷ xs) = adds-of-facts xs

deletes-of-facts : (xs : List ℕ) → list_all is_of_fact (map Delete xs) ≡ true
deletes-of-facts [] = refl
deletes-of-facts (x ∷ xs) = deletes-of-facts xs

all-both : {A : Type 0} (q : A → Bool) (xs ys : List A) → list_all q xs ≡ true → list_all q ys ≡ true → list_all q (xs ++ ys) ≡ true
all-both q xs ys h k = list_all-append q xs ys ∙ and_from _ _ h k

timed-of-facts : (o : Option TimedItem) → list_all is_of_fact (part_of o timed_effects) ≡ true
timed-of-facts None = refl
timed-of-facts (Some t) = all-both is_of_fact (map Add t.adds) (map Delete t.deletes) (adds-of-facts t.adds) (deletes-of-facts t.deletes)

-- timed items change no fluent
pub timed-writes : (p : Problem) (k : ℕ) → writes_facts p (TimedAt k) ≡ true
timed-writes p k = timed-of-facts (slice_get p.timed k)

effects-of-timed : (p : Problem) (i : Item) (k : ℕ) (t : TimedItem) → i ≡ TimedAt k → Some t ≡ slice_get p.timed k → timed_effects t ≡ effects p i
effects-of-timed p i k t is got = ap (λ q. part_of q timed_effects) got ∙ ap (effects p) (sym is)

pub timed-adds-it : (p : Problem) (i : Item) (k : ℕ) (t : TimedItem) (xs : List ℕ) (f : ℕ) → i ≡ TimedAt k → Some t ≡ slice_get p.timed k → xs ≡ t.adds
    → list_any (λ g. eqb f g) xs ≡ adds_it p f i
timed-adds-it p i k t xs f is got of = ap (list_any (λ g. eqb f g)) of ∙ timed_adds f t ∙ ap (list_any (adds f)) (effects-of-timed p i k t is got)

pub timed-deletes-it : (p : Problem) (i : Item) (k : ℕ) (t : TimedItem) (xs : List ℕ) (f : ℕ) → i ≡ TimedAt k → Some t ≡ slice_get p.timed k → xs ≡ t.deletes
    → list_any (λ g. eqb f g) xs ≡ deletes_it p f i
timed-deletes-it p i k t xs f is got of = ap (list_any (λ g. eqb f g)) of ∙ timed_deletes f t ∙ ap (list_any (deletes f)) (effects-of-timed p i k t is got)

all-of-facts : (p : Problem) (is : List Item) → list_all (writes_facts p) is ≡ true → list_all is_of_fact (effects_of p is) ≡ true
all-of-facts p [] h = refl
all-of-facts p (i ∷ is) h = all-both is_of_fact (effects p i) (effects_of p is) (and_parts _ _ h).0 (all-of-facts p is (and_parts _ _ h).1)

fits-anyway : (t : State) (es : List Effect) → list_all is_of_fact es ≡ true → list_all (fits_new t) es ≡ true
fits-anyway t [] h = refl
fits-anyway t (Add f ∷ es) h = fits-anyway t es h
fits-anyway t (Delete f ∷ es) h = fits-anyway t es h
fits-anyway t (Change how x e ∷ es) h = absurd (false≢true h)

fluent-kept : (s : State) (x : ℕ) (es : List Effect) → list_all is_of_fact es ≡ true → changed s x es ≡ s.fluent x
fluent-kept s x [] h = refl
fluent-kept s x (Add f ∷ es) h = fluent-kept s x es h
fluent-kept s x (Delete f ∷ es) h = fluent-kept s x es h
fluent-kept s x (Change how y e ∷ es) h = absurd (false≢true h)

layer-same : (s t : State) → ((x : ℕ) → s.fluent x ≡ t.fluent x) → (y : Expr-F (Option ℤ)) → value_at s y ≡ value_at t y
layer-same s t h (Expr-F.Number n) = refl
layer-same s t h (Expr-F.Fluent x) = h x
layer-same s t h (Expr-F.Sum a b) = refl
layer-same s t h (Expr-F.Difference a b) = refl

value-same : (s t : State) → ((x : ℕ) → s.fluent x ≡ t.fluent x) → (e : Expr) → value s e ≡ value t e
value-same s t h e = λ i. fold-Expr (Option ℤ) (λ y. layer-same s t h y i) e

or-none : (b : Bool) → (b || false) ≡ b
or-none true = refl
or-none false = refl

-- a test of effects, over a group with an item more
any-with : (p : Problem) (q : Effect → Bool) (is : List Item) (i : Item) → list_any q (effects_of p (is ++ i ∷ [])) ≡ (list_any (λ j. list_any q (effects p j)) is || list_any q (effects p i))
any-with p q is i =
    sym (list_any-flat_map q (effects p) (is ++ i ∷ []))
    ∙ list_any-append (λ j. list_any q (effects p j)) is (i ∷ [])
    ∙ ap (λ b. list_any (λ j. list_any q (effects p j)) is || b) (or-none (list_any q (effects p i)))

fact-same : (p : Problem) (s : State) (is : List Item) (i : Item) (f : ℕ) → fact_with p s is i f ≡ (next s (effects_of p (is ++ i ∷ []))).fact f
fact-same p s is i f = λ k. (s.fact f && not (sym (any-with p (deletes f) is i) k)) || sym (any-with p (adds f) is i) k

holds-same : (p : Problem) (s : State) (is : List Item) (i : Item) → list_all is_of_fact (effects_of p (is ++ i ∷ [])) ≡ true
    → (g : Cond) → holds_with p s is i g ≡ holds (next s (effects_of p (is ++ i ∷ []))) g
holds-same p s is i h (Lit f true) = fact-same p s is i f
holds-same p s is i h (Lit f false) = ap not (fact-same p s is i f)
holds-same p s is i h (Compare op left right) =
    let t : State = next s (effects_of p (is ++ i ∷ [])) in
    let same : (e : Expr) → value s e ≡ value t e = value-same s t (λ x. sym (fluent-kept s x (effects_of p (is ++ i ∷ [])) h)) in
    λ k. some_and (of_both (compares op) (same left k) (same right k)) (λ b. b)

-- the count by effects is the count over the state after
pub rank-by-effects : (p : Problem) (c : Progress) (i : Item) → (list_all (writes_facts p) c.group && writes_facts p i) ≡ true
    → count_by (λ g. not (holds_with p c.before c.group i g)) p.goal ≡ unmet_with p c i
rank-by-effects p c i h =
    let parts = and_parts _ _ h in
    let items : List Item = c.group ++ i ∷ [] in
    let all : list_all is_of_fact (effects_of p items) ≡ true = all-of-facts p items (all-both (writes_facts p) c.group (i ∷ []) parts.0 (and_from _ _ parts.1 refl)) in
    let t : State = next c.before (effects_of p items) in
    let exists : has_after p c.before items ≡ true = fits-anyway t (effects_of p items) all in
    (λ k. count_by (λ g. not (holds-same p c.before c.group i all g k)) p.goal)
    ∙ sym (ap (λ b. if b then count_by (λ g. not (holds t g)) p.goal else length p.goal) exists)

or-true : (b : Bool) → (b || true) ≡ true
or-true true = refl
or-true false = refl

-- effects that write facts of a row write no fact that is not in it
none-adds : (row : BitRow) (f : ℕ) (es : List Effect) → is_in_row row f ≡ false → list_all (writes_in row) es ≡ true → list_any (adds f) es ≡ false
none-adds row f [] out h = refl
none-adds row f (Add g ∷ es) out h =
    let other : eqb f g ≡ false = false_from_ne_true (eqb f g) (λ e. false≢true (sym out ∙ ap (is_in_row row) (eqb-true f g e) ∙ (and_parts _ _ h).0)) in
    (λ k. other k || none-adds row f es out (and_parts _ _ h).1 k)
none-adds row f (Delete g ∷ es) out h = none-adds row f es out (and_parts _ _ h).1
none-adds row f (Change how x e ∷ es) out h = absurd (false≢true h)

none-deletes : (row : BitRow) (f : ℕ) (es : List Effect) → is_in_row row f ≡ false → list_all (writes_in row) es ≡ true → list_any (deletes f) es ≡ false
none-deletes row f [] out h = refl
none-deletes row f (Add g ∷ es) out h = none-deletes row f es out (and_parts _ _ h).1
none-deletes row f (Delete g ∷ es) out h =
    let other : eqb f g ≡ false = false_from_ne_true (eqb f g) (λ e. false≢true (sym out ∙ ap (is_in_row row) (eqb-true f g e) ∙ (and_parts _ _ h).0)) in
    (λ k. other k || none-deletes row f es out (and_parts _ _ h).1 k)
none-deletes row f (Change how x e ∷ es) out h = absurd (false≢true h)

writes-only : (row : BitRow) (es : List Effect) → list_all (writes_in row) es ≡ true → list_all is_of_fact es ≡ true
writes-only row [] h = refl
writes-only row (Add f ∷ es) h = writes-only row es (and_parts _ _ h).1
writes-only row (Delete f ∷ es) h = writes-only row es (and_parts _ _ h).1
writes-only row (Change how x e ∷ es) h = absurd (false≢true h)

item-in : (p : Problem) (row : BitRow) (i : Item) → stays_in p row i ≡ true → list_all (writes_in row) (effects p i) ≡ true
item-in p row (TimedAt k) h = absurd (false≢true h)
item-in p row (End a) h = h
item-in p row (Start a) h = h

group-writes : (p : Problem) (row : BitRow) (is : List Item) → list_all (stays_in p row) is ≡ true → list_all (writes_facts p) is ≡ true
group-writes p row [] h = refl
group-writes p row (i ∷ is) h = and_from _ _ (writes-only row (effects p i) (item-in p row i (and_parts _ _ h).0)) (group-writes p row is (and_parts _ _ h).1)

group-adds : (p : Problem) (row : BitRow) (f : ℕ) (is : List Item) → is_in_row row f ≡ false → list_all (stays_in p row) is ≡ true → list_any (adds_it p f) is ≡ false
group-adds p row f [] out h = refl
group-adds p row f (i ∷ is) out h = λ k. none-adds row f (effects p i) out (item-in p row i (and_parts _ _ h).0) k || group-adds p row f is out (and_parts _ _ h).1 k

group-deletes : (p : Problem) (row : BitRow) (f : ℕ) (is : List Item) → is_in_row row f ≡ false → list_all (stays_in p row) is ≡ true → list_any (deletes_it p f) is ≡ false
group-deletes p row f [] out h = refl
group-deletes p row f (i ∷ is) out h = λ k. none-deletes row f (effects p i) out (item-in p row i (and_parts _ _ h).0) k || group-deletes p row f is out (and_parts _ _ h).1 k

kept-true : (b : Bool) → ((b && true) || false) ≡ b
kept-true true = refl
kept-true false = refl

module _ (p : Problem) (row : BitRow) (s : State) (is : List Item) (i : Item) (group : list_all (stays_in p row) is ≡ true) (one : stays_in p row i ≡ true) where
  fact-kept : (f : ℕ) → is_in_row row f ≡ false → fact_with p s is i f ≡ s.fact f
  fact-kept f out =
      (λ k. (s.fact f && not (group-deletes p row f is out group k || none-deletes row f (effects p i) out (item-in p row i one) k)) || (group-adds p row f is out group k || none-adds row f (effects p i) out (item-in p row i one) k))
      ∙ kept-true (s.fact f)

  cond-kept : (g : Cond) → ((f : ℕ) → speaks_of f g ≡ true → is_in_row row f ≡ false) → holds_with p s is i g ≡ holds s g
  cond-kept (Lit f true) out = fact-kept f (out f (eq-eqb f f refl))
  cond-kept (Lit f false) out = ap not (fact-kept f (out f (eq-eqb f f refl)))
  cond-kept (Compare op left right) out = refl

  count-from : (gs : List Cond) (n : ℕ) → ((f : ℕ) → list_any (speaks_of f) gs ≡ true → is_in_row row f ≡ false)
      → fold (λ a g. a + cond (not (holds_with p s is i g)) 1 0) n gs ≡ fold (λ a g. a + cond (not (holds s g)) 1 0) n gs
  count-from [] n out = refl
  count-from (g ∷ gs) n out =
      ap (λ b. fold (λ a g. a + cond (not (holds_with p s is i g)) 1 0) (n + cond (not b) 1 0) gs) (cond-kept g (λ f h. out f (ap (λ b. b || list_any (speaks_of f) gs) h)))
      ∙ count-from gs (n + cond (not (holds s g)) 1 0) (λ f h. out f (ap (λ b. speaks_of f g || b) h ∙ or-true (speaks_of f g)))

  count-kept : (gs : List Cond) → ((f : ℕ) → list_any (speaks_of f) gs ≡ true → is_in_row row f ≡ false)
      → count_by (λ g. not (holds_with p s is i g)) gs ≡ count_by (λ g. not (holds s g)) gs
  count-kept gs out = count-from gs 0 out

spoken-out : (p : Problem) (row : BitRow) → IsFree p row → (f : ℕ) → list_any (speaks_of f) p.goal ≡ true → is_in_row row f ≡ false
spoken-out p row free f h = false_from_ne_true (is_in_row row f) (λ e. false≢true (sym (free f e) ∙ h))

-- a row that lost what the goal speaks of
pub free-of : (p : Problem) (old new : BitRow) (conds : List Cond) → conds ≡ p.goal → Loses old new (λ f. list_any (speaks_of f) conds) → IsFree p new
free-of p old new conds e h = λ f is.
    ap (list_any (speaks_of f)) (sym e) ∙ not-true (list_any (speaks_of f) conds) (and_parts (is_in_row old f) (not (list_any (speaks_of f) conds)) (sym (h.has f) ∙ is)).1

-- the rank is as before the group where nothing is written of which the goal speaks
pub rank-untouched : (p : Problem) (row : BitRow) → IsFree p row → (c : Progress) (i : Item) → (list_all (stays_in p row) c.group && stays_in p row i) ≡ true
    → unmet_before p c ≡ unmet_with p c i
rank-untouched p row free c i h =
    let parts = and_parts _ _ h in
    sym (count-kept p row c.before c.group i parts.0 parts.1 p.goal (spoken-out p row free))
    ∙ rank-by-effects p c i (and_from _ _ (group-writes p row c.group parts.0) (writes-only row (effects p i) (item-in p row i parts.1)))
