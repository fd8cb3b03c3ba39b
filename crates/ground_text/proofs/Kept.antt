-- The ranges of a problem's numbers, part by part, as the laws of reading take them; the rules of a problem have them.
use Rattle.std.proofs.Common.{◌≡◌, ℕ, ◌^◌, Bool, true, ◌&&◌, List, [], ◌∷◌, length, refl, sym, subst, ◌∙◌}
use Rattle.std.specs.Prelude.{nat_lt, IsTrue}
use Rattle.std.specs.List.{list_all}
use Rattle.std.proofs.lemmas.Bool.{and_parts, and_from}
use Rattle.tp_spec.specs.WellFormed.{Ground, IsWellFormed, is_i64, is_value, is_expr_at, is_expr, is_cond, is_effect, are_effects, is_action}
use Rattle.tp_spec.specs.declared.expr.Expr.{Expr, roll-Expr, map-Expr, fold-Expr}
use Rattle.tp_spec.specs.declared.expr.Expr.TheOpen.{Expr-F}
use Rattle.tp_spec.specs.declared.expr.Expr.TheFolds.{ind-Expr, fold-roll-Expr}
use Rattle.tp_spec.specs.declared.problem.Action.{Action}
use Rattle.tp_spec.specs.declared.problem.Cond.{Cond}
use Rattle.tp_spec.specs.declared.problem.Cond.TheVariants.{Lit, Compare}
use Rattle.tp_spec.specs.declared.problem.Effect.{Effect}
use Rattle.tp_spec.specs.declared.problem.Effect.TheVariants.{Add, Delete, Change}

abbrev pub is_kept_at : Expr-F Bool → Bool
is_kept_at (Expr-F.Number z) = is_i64 z
is_kept_at (Expr-F.Fluent x) = true
is_kept_at (Expr-F.Sum a b) = a && b
is_kept_at (Expr-F.Difference a b) = a && b

abbrev pub is_kept_expr : Expr → Bool
is_kept_expr e = fold-Expr Bool is_kept_at e

abbrev pub is_kept_cond : Cond → Bool
is_kept_cond (Lit fact positive) = true
is_kept_cond (Compare op left right) = is_kept_expr left && is_kept_expr right

abbrev pub is_kept_effect : Effect → Bool
is_kept_effect (Add fact) = true
is_kept_effect (Delete fact) = true
is_kept_effect (Change how fluent e) = is_kept_expr e

abbrev pub is_kept_action : Action → Bool
is_kept_action a =
    list_all is_kept_cond a.start_conds && list_all is_kept_cond a.all_conds && list_all is_kept_cond a.end_conds
    && list_all is_kept_effect a.start_effects && list_all is_kept_effect a.end_effects

-- A problem: well formed, its ticks numbers of 64 bits, and its other numbers of 64 bits with a sign.
pub record IsProblem (p : Ground) : Type 0 where
  pub well_formed : IsWellFormed p
  pub kept_actions : IsTrue (list_all is_kept_action p.actions)
  pub kept_ticks : IsTrue (list_all (λ t. nat_lt t.tick (2 ^ 64)) p.timed)
  pub kept_values : IsTrue (list_all is_value p.values)
  pub kept_goal : IsTrue (list_all is_kept_cond p.goal)

-- ---- the rules of a problem have them

each_kept : {A : Type 0} (p q : A → Bool) → ((x : A) → p x ≡ true → q x ≡ true) → (xs : List A) → list_all p xs ≡ true → list_all q xs ≡ true
each_kept p q keeps [] h = refl
each_kept p q keeps (x ∷ xs) h =
    let w = and_parts (p x) (list_all p xs) h in
    and_from _ _ (keeps x w.0) (each_kept p q keeps xs w.1)

module _ (f n : ℕ) where
  abbrev IsKept : Expr → Type 0
  IsKept e = fold-Expr Bool (is_expr_at n) e ≡ true → is_kept_expr e ≡ true

  abbrev Part : Type 0
  Part = (e : Expr) × IsKept e

  by_layer : (y : Expr-F Part) → IsKept (roll-Expr (map-Expr Part Expr (λ e. e.0) y))
  by_layer (Expr-F.Number z) h = fold-roll-Expr Bool is_kept_at (Expr-F.Number z) ∙ (sym (fold-roll-Expr Bool (is_expr_at n) (Expr-F.Number z)) ∙ h)
  by_layer (Expr-F.Fluent x) h = fold-roll-Expr Bool is_kept_at (Expr-F.Fluent x)
  by_layer (Expr-F.Sum a b) h =
      let p = and_parts _ _ (sym (fold-roll-Expr Bool (is_expr_at n) (Expr-F.Sum a.0 b.0)) ∙ h) in
      fold-roll-Expr Bool is_kept_at (Expr-F.Sum a.0 b.0) ∙ and_from _ _ (a.1 p.0) (b.1 p.1)
  by_layer (Expr-F.Difference a b) h =
      let p = and_parts _ _ (sym (fold-roll-Expr Bool (is_expr_at n) (Expr-F.Difference a.0 b.0)) ∙ h) in
      fold-roll-Expr Bool is_kept_at (Expr-F.Difference a.0 b.0) ∙ and_from _ _ (a.1 p.0) (b.1 p.1)

  over_kept : (e : Expr) → IsKept e
  over_kept = ind-Expr IsKept (λ x y is. subst (λ z. IsKept (roll-Expr z)) is (by_layer y))

  expr_kept : (e : Expr) → is_expr n e ≡ true → is_kept_expr e ≡ true
  expr_kept e h = over_kept e (and_parts _ _ h).0

  cond_kept : (x : Cond) → is_cond f n x ≡ true → is_kept_cond x ≡ true
  cond_kept (Lit fact positive) h = refl
  cond_kept (Compare op left right) h =
      let p = and_parts (is_expr n left) (is_expr n right) h in
      and_from _ _ (expr_kept left p.0) (expr_kept right p.1)

  effect_kept : (x : Effect) → is_effect f n x ≡ true → is_kept_effect x ≡ true
  effect_kept (Add fact) h = refl
  effect_kept (Delete fact) h = refl
  effect_kept (Change how fluent e) h = expr_kept e (and_parts (nat_lt fluent n) (is_expr n e) h).1

  effects_kept : (xs : List Effect) → are_effects f n xs ≡ true → list_all is_kept_effect xs ≡ true
  effects_kept xs h = each_kept (is_effect f n) is_kept_effect effect_kept xs (and_parts _ _ (and_parts _ _ h).0).1

  conds_kept : (xs : List Cond) → list_all (is_cond f n) xs ≡ true → list_all is_kept_cond xs ≡ true
  conds_kept xs h = each_kept (is_cond f n) is_kept_cond cond_kept xs h

  action_kept : (a : Action) → is_action f n a ≡ true → is_kept_action a ≡ true
  action_kept a h =
      let p6 = and_parts _ _ h in
      let p5 = and_parts _ _ p6.0 in
      let p4 = and_parts _ _ p5.0 in
      let p3 = and_parts _ _ p4.0 in
      let p2 = and_parts _ _ p3.0 in
      and_from _ _
      (and_from _ _
      (and_from _ _
      (and_from _ _ (conds_kept a.start_conds p2.1) (conds_kept a.all_conds p3.1)) (conds_kept a.end_conds p4.1))
      (effects_kept a.start_effects p5.1)) (effects_kept a.end_effects p6.1)

pub ranged : (p : Ground) → IsWellFormed p → IsProblem p
ranged p w = record {
  well_formed = w;
  kept_actions = each_kept (is_action (length p.facts) (length p.fluents)) is_kept_action (action_kept (length p.facts) (length p.fluents)) p.actions (and_parts _ _ w.acting).1;
  kept_ticks = w.ticks_fit;
  kept_values = w.values_fit;
  kept_goal = conds_kept (length p.facts) (length p.fluents) p.goal (and_parts _ _ w.aiming).1;
}
