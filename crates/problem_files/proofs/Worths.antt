-- Expressions of ground problems: over fluents that are there, of numbers of 64 bits, as deep as before.
use Rattle.std.proofs.Common.{◌≡◌, ℕ, ℤ, pos, ◌+◌, max, Bool, true, false, cond, List, [], ◌∷◌, length, Option, Some, None, refl, ap, sym, ◌∙◌, subst}
use Rattle.std.specs.Prelude.{nat_le}
use Rattle.std.specs.List.{list_all}
use Rattle.std.proofs.lemmas.Bool.{and_parts, and_from}
use Rattle.tp_spec.specs.WellFormed.{is_i64, is_value, is_expr_at, is_expr, depth_at as deep_at}
use Rattle.tp_spec.specs.declared.expr.Expr.{Expr, fold-Expr}
use Rattle.tp_spec.specs.declared.expr.Expr.TheVariants.{Number, Fluent, Sum, Difference, rolls-Number, rolls-Fluent, rolls-Sum, rolls-Difference}
use Rattle.tp_spec.specs.declared.expr.Expr.TheOpen.{Expr-F}
use Rattle.tp_spec.specs.declared.expr.Expr.TheFolds.{fold-roll-Expr}
use Rattle.pddl_meaning.specs.declared.terms.Atom.{Atom}
use Rattle.pddl_meaning.specs.declared.values.Value.{Value, roll-Value, map-Value, fold-Value}
use Rattle.pddl_meaning.specs.declared.values.Value.TheOpen.{Value-F}
use Rattle.pddl_meaning.specs.declared.values.Value.TheFolds.{ind-Value, fold-roll-Value}
use Rattle.grounder.specs.Sources.{Source, call_name}
use Rattle.grounder.specs.Starts.{given}
use Rattle.grounder.specs.Naming.{stays, fluents_at, value_fluents}
use Rattle.grounder.specs.Parts.{number_in, or_none, expr_at, expr_of}
use Rattle.problem_files.specs.Rules.{is_small_at, depth_at, value_fits}
use Rattle.problem_files.proofs.Tests.{is_found, halves, number_below}

expr_number : {A : Type 0} (layer : Expr-F A → A) (z : ℤ) → fold-Expr A layer (Number z) ≡ layer (Expr-F.Number z)
expr_number {A} layer z = ap (fold-Expr A layer) (sym (rolls-Number z)) ∙ fold-roll-Expr A layer (Expr-F.Number z)

expr_fluent : {A : Type 0} (layer : Expr-F A → A) (x : ℕ) → fold-Expr A layer (Fluent x) ≡ layer (Expr-F.Fluent x)
expr_fluent {A} layer x = ap (fold-Expr A layer) (sym (rolls-Fluent x)) ∙ fold-roll-Expr A layer (Expr-F.Fluent x)

expr_sum : {A : Type 0} (layer : Expr-F A → A) (a b : Expr) → fold-Expr A layer (Sum a b) ≡ layer (Expr-F.Sum (fold-Expr A layer a) (fold-Expr A layer b))
expr_sum {A} layer a b = ap (fold-Expr A layer) (sym (rolls-Sum a b)) ∙ fold-roll-Expr A layer (Expr-F.Sum a b)

expr_difference : {A : Type 0} (layer : Expr-F A → A) (a b : Expr) → fold-Expr A layer (Difference a b) ≡ layer (Expr-F.Difference (fold-Expr A layer a) (fold-Expr A layer b))
expr_difference {A} layer a b = ap (fold-Expr A layer) (sym (rolls-Difference a b)) ∙ fold-roll-Expr A layer (Expr-F.Difference a b)

pub zero_fits : (n : ℕ) → is_expr n (Number (pos 0)) ≡ true
zero_fits n =
    and_from _ _ (expr_number (is_expr_at n) (pos 0))
    (ap (λ d. nat_le d 32) (expr_number deep_at (pos 0)))

none_fits : (o : Option ℤ) → is_value o ≡ true → is_i64 (or_none o) ≡ true
none_fits None h = refl
none_fits (Some z) h = h

module _ (s : Source) (names : List (List ℕ)) (in_goal : Bool) (objects : List ℕ) (starts : (name : List ℕ) → is_value (given s name) ≡ true) where
  abbrev made : Value → Expr
  made v = expr_of s names in_goal objects v

  abbrev Holds : Value → Type 0
  Holds v = list_all (is_found names) (value_fluents s in_goal objects v) ≡ true → fold-Value Bool is_small_at v ≡ true → fold-Expr Bool (is_expr_at (length names)) (made v) ≡ true

  abbrev Part : Type 0
  Part = (v : Value) × Holds v

  call_holds : (a : Atom) (b : Bool) → list_all (is_found names) (cond b (call_name s objects a ∷ []) []) ≡ true → fold-Expr Bool (is_expr_at (length names)) (cond b (Fluent (number_in names (call_name s objects a))) (Number (or_none (given s (call_name s objects a))))) ≡ true
  call_holds a true h =
      expr_fluent (is_expr_at (length names)) (number_in names (call_name s objects a))
      ∙ number_below names (call_name s objects a) (and_parts _ _ h).0
  call_holds a false h =
      expr_number (is_expr_at (length names)) (or_none (given s (call_name s objects a)))
      ∙ none_fits (given s (call_name s objects a)) (starts (call_name s objects a))

  by_layer : (y : Value-F Part) → Holds (roll-Value (map-Value Part Value (λ e. e.0) y))
  by_layer (Value-F.Number z) h g =
      ap (fold-Expr Bool (is_expr_at (length names))) (fold-roll-Value Expr (expr_at s names in_goal objects) (Value-F.Number z))
      ∙ (expr_number (is_expr_at (length names)) z
      ∙ (sym (fold-roll-Value Bool is_small_at (Value-F.Number z)) ∙ g))
  by_layer (Value-F.Call a) h g =
      ap (fold-Expr Bool (is_expr_at (length names))) (fold-roll-Value Expr (expr_at s names in_goal objects) (Value-F.Call a))
      ∙ call_holds a (stays s in_goal a.head) (ap (list_all (is_found names)) (sym (fold-roll-Value (List (List ℕ)) (fluents_at s in_goal objects) (Value-F.Call a))) ∙ h)
  by_layer (Value-F.Sum a b) h g =
      let p = halves (is_found names) (value_fluents s in_goal objects a.0) (value_fluents s in_goal objects b.0) (ap (list_all (is_found names)) (sym (fold-roll-Value (List (List ℕ)) (fluents_at s in_goal objects) (Value-F.Sum a.0 b.0))) ∙ h) in
      let q = and_parts _ _ (sym (fold-roll-Value Bool is_small_at (Value-F.Sum a.0 b.0)) ∙ g) in
      ap (fold-Expr Bool (is_expr_at (length names))) (fold-roll-Value Expr (expr_at s names in_goal objects) (Value-F.Sum a.0 b.0))
      ∙ (expr_sum (is_expr_at (length names)) (made a.0) (made b.0) ∙ and_from _ _ (a.1 p.0 q.0) (b.1 p.1 q.1))
  by_layer (Value-F.Difference a b) h g =
      let p = halves (is_found names) (value_fluents s in_goal objects a.0) (value_fluents s in_goal objects b.0) (ap (list_all (is_found names)) (sym (fold-roll-Value (List (List ℕ)) (fluents_at s in_goal objects) (Value-F.Difference a.0 b.0))) ∙ h) in
      let q = and_parts _ _ (sym (fold-roll-Value Bool is_small_at (Value-F.Difference a.0 b.0)) ∙ g) in
      ap (fold-Expr Bool (is_expr_at (length names))) (fold-roll-Value Expr (expr_at s names in_goal objects) (Value-F.Difference a.0 b.0))
      ∙ (expr_difference (is_expr_at (length names)) (made a.0) (made b.0) ∙ and_from _ _ (a.1 p.0 q.0) (b.1 p.1 q.1))

  all_hold : (v : Value) → Holds v
  all_hold = ind-Value Holds (λ x y is. subst (λ z. Holds (roll-Value z)) is (by_layer y))

  abbrev IsDeep : Value → Type 0
  IsDeep v = fold-Expr ℕ deep_at (made v) ≡ fold-Value ℕ depth_at v

  abbrev Deep : Type 0
  Deep = (v : Value) × IsDeep v

  call_deep : (a : Atom) (b : Bool) → fold-Expr ℕ deep_at (cond b (Fluent (number_in names (call_name s objects a))) (Number (or_none (given s (call_name s objects a))))) ≡ 0
  call_deep a true = expr_fluent deep_at (number_in names (call_name s objects a))
  call_deep a false = expr_number deep_at (or_none (given s (call_name s objects a)))

  deep_layer : (y : Value-F Deep) → IsDeep (roll-Value (map-Value Deep Value (λ e. e.0) y))
  deep_layer (Value-F.Number z) =
      ap (fold-Expr ℕ deep_at) (fold-roll-Value Expr (expr_at s names in_goal objects) (Value-F.Number z))
      ∙ (expr_number deep_at z ∙ sym (fold-roll-Value ℕ depth_at (Value-F.Number z)))
  deep_layer (Value-F.Call a) =
      ap (fold-Expr ℕ deep_at) (fold-roll-Value Expr (expr_at s names in_goal objects) (Value-F.Call a))
      ∙ (call_deep a (stays s in_goal a.head) ∙ sym (fold-roll-Value ℕ depth_at (Value-F.Call a)))
  deep_layer (Value-F.Sum a b) =
      ap (fold-Expr ℕ deep_at) (fold-roll-Value Expr (expr_at s names in_goal objects) (Value-F.Sum a.0 b.0))
      ∙ (expr_sum deep_at (made a.0) (made b.0) ∙ ((λ i. 1 + max (a.1 i) (b.1 i)) ∙ sym (fold-roll-Value ℕ depth_at (Value-F.Sum a.0 b.0))))
  deep_layer (Value-F.Difference a b) =
      ap (fold-Expr ℕ deep_at) (fold-roll-Value Expr (expr_at s names in_goal objects) (Value-F.Difference a.0 b.0))
      ∙ (expr_difference deep_at (made a.0) (made b.0) ∙ ((λ i. 1 + max (a.1 i) (b.1 i)) ∙ sym (fold-roll-Value ℕ depth_at (Value-F.Difference a.0 b.0))))

  all_deep : (v : Value) → IsDeep v
  all_deep = ind-Value IsDeep (λ x y is. subst (λ z. IsDeep (roll-Value z)) is (deep_layer y))

  pub expr_fits : (v : Value) → list_all (is_found names) (value_fluents s in_goal objects v) ≡ true → value_fits v ≡ true → is_expr (length names) (expr_of s names in_goal objects v) ≡ true
  expr_fits v h g =
      let w = and_parts (fold-Value Bool is_small_at v) (nat_le (fold-Value ℕ depth_at v) 32) g in
      and_from _ _ (all_hold v h w.0) (ap (λ d. nat_le d 32) (all_deep v) ∙ w.1)
