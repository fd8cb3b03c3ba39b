-- What a well-formed problem's conditions and effects are.
use Rattle.std.proofs.Common.{◌≡◌, refl, sym, ap, subst, ◌∙◌, ℕ, zero, suc, ◌≤◌, ◌<◌, Bool, true, List, [], ◌∷◌, length, map, Option, Some, None, IfSome, Bor, is_some, slice_get, get_or, nat_le, nat_lt}
use Rattle.std.proofs.lemmas.Option.{slice_get_read}
use Rattle.std.specs.List.{list_all}
use Rattle.std.proofs.lemmas.Bool.{false≢true, and_parts, and_from, leb-true, ltb-true}
use Rattle.std.proofs.lemmas.List.Folds.{list_all-append, list_all-map}
use Rattle.tp_spec.specs.declared.expr.Expr.{fold-Expr}
use Rattle.tp_spec.specs.declared.problem.Action.{Action}
use Rattle.tp_spec.specs.declared.problem.Cond.{Cond}
use Rattle.tp_spec.specs.declared.problem.Cond.TheVariants.{Lit, Compare}
use Rattle.tp_spec.specs.declared.problem.Effect.{Effect}
use Rattle.tp_spec.specs.declared.problem.Effect.TheVariants.{Add, Delete, Change}
use Rattle.tp_spec.specs.declared.problem.TimedItem.{TimedItem}
use Rattle.tp_spec.specs.declared.plan.Item.{Item}
use Rattle.tp_spec.specs.declared.plan.Item.TheVariants.{TimedAt, End, Start}
use Rattle.tp_spec.specs.Items.{effects, effects_of, is_defined, timed_effects}
use Rattle.tp_spec.specs.States.{State}
use Rattle.world_state.specs.Happenings.{action_effects}
use Rattle.tp_spec.specs.Lists.{part_of, some_and}
use Rattle.tp_spec.specs.WellFormed.{Ground, IsWellFormed, is_cond, is_effect, is_action, is_timed, is_expr, is_expr_at, depth}
use Rattle.world_state.specs.Exact.{is_shallow, is_shallow_effect, IsExact}

pub all_weaker : {A : Type 0} (p q : A → Bool) → ((x : A) → p x ≡ true → q x ≡ true) → (xs : List A) → list_all p xs ≡ true → list_all q xs ≡ true
all_weaker p q each [] all = refl
all_weaker p q each (x ∷ xs) all = and_from _ _ (each x (and_parts _ _ all).0) (all_weaker p q each xs (and_parts _ _ all).1)

none_some : {A : Type 0} {x : A} → ◌≡◌ {A = Option A} None (Some x) → ⊥
none_some e = false≢true (ap is_some e)

pub member_good : {A : Type 0} (good : A → Bool) (xs : List A) (i : ℕ) (x : A) → list_all good xs ≡ true → slice_get xs i ≡ Some x → good x ≡ true
member_good good [] i x all is = absurd (none_some is)
member_good good (y ∷ ys) zero x all is = subst (λ o. some_and o good ≡ true) is (and_parts _ _ all).0
member_good good (y ∷ ys) (suc i) x all is = member_good good ys i x (and_parts _ _ all).1 is

-- what the rules of the ground text say of an action's conditions and effects
pub record IsInside (facts fluents : ℕ) (a : Action) : Type 0 where
  pub start_conds : list_all (is_cond facts fluents) a.start_conds ≡ true
  pub all_conds : list_all (is_cond facts fluents) a.all_conds ≡ true
  pub end_conds : list_all (is_cond facts fluents) a.end_conds ≡ true
  pub start_effects : list_all (is_effect facts fluents) a.start_effects ≡ true
  pub end_effects : list_all (is_effect facts fluents) a.end_effects ≡ true
  pub start_few : length a.start_effects ≤ 4096
  pub end_few : length a.end_effects ≤ 4096

pub action_inside : (p : Ground) → IsWellFormed p → (i : ℕ) (a : Action) → slice_get p.actions i ≡ Some a → IsInside (length p.facts) (length p.fluents) a
action_inside p formed i a is =
    let n : ℕ = length p.facts in
    let m : ℕ = length p.fluents in
    let good : is_action n m a ≡ true = member_good (is_action n m) p.actions i a (and_parts _ _ formed.acting).1 is in
    let ends = and_parts _ _ good in
    let starts = and_parts _ _ ends.0 in
    let of_end = and_parts _ _ starts.0 in
    let of_all = and_parts _ _ of_end.0 in
    let of_start = and_parts _ _ of_all.0 in
    let end_part = and_parts _ _ (and_parts _ _ ends.1).0 in
    let start_part = and_parts _ _ (and_parts _ _ starts.1).0 in
    record {
      start_conds = of_start.1;
      all_conds = of_all.1;
      end_conds = of_end.1;
      start_effects = start_part.1;
      end_effects = end_part.1;
      start_few = leb-true (length a.start_effects) 4096 start_part.0;
      end_few = leb-true (length a.end_effects) 4096 end_part.0;
    }

pub cond_shallow : (facts fluents : ℕ) (c : Cond) → is_cond facts fluents c ≡ true → is_shallow c ≡ true
cond_shallow facts fluents (Lit fact positive) good = refl
cond_shallow facts fluents (Compare op left right) good =
    let sides = and_parts (is_expr fluents left) (is_expr fluents right) good in
    and_from (nat_le (depth left) 32) (nat_le (depth right) 32)
    (and_parts (fold-Expr Bool (is_expr_at fluents) left) (nat_le (depth left) 32) sides.0).1
    (and_parts (fold-Expr Bool (is_expr_at fluents) right) (nat_le (depth right) 32) sides.1).1

-- conditions over the first facts and fluents are what the calls of this crate ask for
pub conds_shallow : (facts fluents : ℕ) (cs : List Cond) → list_all (is_cond facts fluents) cs ≡ true → list_all is_shallow cs ≡ true
conds_shallow facts fluents cs = all_weaker (is_cond facts fluents) is_shallow (cond_shallow facts fluents) cs

pub effect_shallow : (facts fluents : ℕ) (e : Effect) → is_effect facts fluents e ≡ true → is_shallow_effect e ≡ true
effect_shallow facts fluents (Add f) good = refl
effect_shallow facts fluents (Delete f) good = refl
effect_shallow facts fluents (Change how x e) good = (and_parts (fold-Expr Bool (is_expr_at fluents) e) (nat_le (depth e) 32) (and_parts (nat_lt x fluents) (is_expr fluents e) good).1).1

pub effects_shallow : (facts fluents : ℕ) (es : List Effect) → list_all (is_effect facts fluents) es ≡ true → list_all is_shallow_effect es ≡ true
effects_shallow facts fluents es = all_weaker (is_effect facts fluents) is_shallow_effect (effect_shallow facts fluents) es

timed_inside : (facts fluents : ℕ) (t : TimedItem) → is_timed facts t ≡ true → list_all (is_effect facts fluents) (timed_effects t) ≡ true
timed_inside facts fluents t good =
    let apart = and_parts _ _ good in
    let deletes_next = and_parts _ _ apart.0 in
    let adds_next = and_parts _ _ deletes_next.0 in
    let deleting = and_parts _ _ adds_next.0 in
    let adding = and_parts _ _ deleting.0 in
    list_all-append (is_effect facts fluents) (map Add t.adds) (map Delete t.deletes)
    ∙ and_from _ _ (list_all-map (is_effect facts fluents) Add t.adds ∙ adding.1) (list_all-map (is_effect facts fluents) Delete t.deletes ∙ deleting.1)

part_good : {A B : Type 0} (good : B → Bool) (part : A → List B) (o : Option A) → ((x : A) → o ≡ Some x → list_all good (part x) ≡ true) → list_all good (part_of o part) ≡ true
part_good good part None each = refl
part_good good part (Some x) each = each x refl

-- each effect of an item is over the problem's facts and fluents
pub item_inside : (p : Ground) → IsWellFormed p → (i : Item) → list_all (is_effect (length p.facts) (length p.fluents)) (effects p i) ≡ true
item_inside p formed (TimedAt k) =
    part_good (is_effect (length p.facts) (length p.fluents)) timed_effects (slice_get p.timed k)
    (λ t is. timed_inside (length p.facts) (length p.fluents) t (member_good (is_timed (length p.facts)) p.timed k t (and_parts _ _ (and_parts _ _ formed.timing).0).1 is))
item_inside p formed (End a) =
    part_good (is_effect (length p.facts) (length p.fluents)) (λ x. x.end_effects) (slice_get p.actions a) (λ x is. (action_inside p formed a x is).end_effects)
item_inside p formed (Start a) =
    part_good (is_effect (length p.facts) (length p.fluents)) (λ x. x.start_effects) (slice_get p.actions a) (λ x is. (action_inside p formed a x is).start_effects)

pub items_inside : (p : Ground) → IsWellFormed p → (is : List Item) → list_all (is_effect (length p.facts) (length p.fluents)) (effects_of p is) ≡ true
items_inside p formed [] = refl
items_inside p formed (i ∷ is) =
    list_all-append (is_effect (length p.facts) (length p.fluents)) (effects p i) (effects_of p is)
    ∙ and_from _ _ (item_inside p formed i) (items_inside p formed is)

pub inside_exact : (facts fluents : ℕ) (a : Action) → IsInside facts fluents a → IsExact a
inside_exact facts fluents a h = record {
  start_conds = conds_shallow facts fluents a.start_conds h.start_conds;
  end_conds = conds_shallow facts fluents a.end_conds h.end_conds;
  start_effects = effects_shallow facts fluents a.start_effects h.start_effects;
  end_effects = effects_shallow facts fluents a.end_effects h.end_effects;
  start_few = h.start_few;
  end_few = h.end_few;
}

pub found_exact : (p : Ground) → IsWellFormed p → (xs : List Action) (i : ℕ) (o : Option (Bor Action)) → xs ≡ p.actions
    → is_some o ≡ nat_lt i (length xs) → IfSome o (λ a. a.now ≡ get_or xs i a.now) → IfSome o (λ a. IsExact a.now)
found_exact p formed xs i None of some read = tt
found_exact p formed xs i (Some a) of some read =
    let below : i < length xs = ltb-true i (length xs) (sym some) in
    let got : slice_get p.actions i ≡ Some a.now = ap (λ ys. slice_get ys i) (sym of) ∙ slice_get_read xs (length xs) i a.now refl below read in
    inside_exact (length p.facts) (length p.fluents) a.now (action_inside p formed i a.now got)

timed_defined : (s : State) (o : Option TimedItem) → list_all (is_defined s) (part_of o timed_effects) ≡ true
timed_defined s None = refl
timed_defined s (Some t) =
    list_all-append (is_defined s) (map Add t.adds) (map Delete t.deletes)
    ∙ and_from _ _ (list_all-map (is_defined s) Add t.adds ∙ none_fails t.adds) (list_all-map (is_defined s) Delete t.deletes ∙ none_fails t.deletes)
  where
    none_fails : (xs : List ℕ) → list_all (λ x. true) xs ≡ true
    none_fails [] = refl
    none_fails (x ∷ xs) = none_fails xs

-- what a timed item does is always defined
pub defined_same : (p : Ground) (s : State) (i : Item) → list_all (is_defined s) (action_effects p i) ≡ list_all (is_defined s) (effects p i)
defined_same p s (TimedAt k) = sym (timed_defined s (slice_get p.timed k))
defined_same p s (End a) = refl
defined_same p s (Start a) = refl
