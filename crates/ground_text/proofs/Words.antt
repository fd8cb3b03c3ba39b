-- Expressions, conditions and effects that are written are read again.
use Rattle.std.proofs.Common.{◌≡◌, ℕ, zero, suc, ◌≤◌, ◌<◌, Bool, true, false, ◌&&◌, List, [], ◌∷◌, ◌++◌, drop, refl, sym, ap, subst, ◌∙◌, append_assoc, arith}
use Rattle.std.specs.Prelude.{decimal, codes, nat_lt}
use Rattle.std.proofs.lemmas.Bool.{and_parts, ltb-true, leb-true}
use Rattle.tp_spec.specs.WellFormed.{depth, depth_at, is_expr_at, is_expr, is_cond, is_effect}
use Rattle.tp_spec.specs.declared.expr.Expr.{Expr, roll-Expr, map-Expr, fold-Expr}
use Rattle.tp_spec.specs.declared.expr.Expr.TheOpen.{Expr-F}
use Rattle.tp_spec.specs.declared.expr.Expr.TheFolds.{ind-Expr, fold-roll-Expr}
use Rattle.tp_spec.specs.declared.problem.Cond.{Cond}
use Rattle.tp_spec.specs.declared.problem.Cond.TheVariants.{Lit, Compare}
use Rattle.tp_spec.specs.declared.problem.Effect.{Effect}
use Rattle.tp_spec.specs.declared.problem.Effect.TheVariants.{Add, Delete, Change}
use Rattle.tp_spec.specs.declared.problem.How.{How}
use Rattle.tp_spec.specs.declared.problem.How.TheVariants.{Increase, Decrease, Assign}
use Rattle.tp_spec.specs.declared.problem.Op.{Op}
use Rattle.tp_spec.specs.declared.problem.Op.TheVariants.{Less, LessEq, Equal, MoreEq, More}
use Rattle.ground_text.specs.Texts.{expr_text, expr_text_at, op_text, cond_text, effect_text}
use Rattle.ground_text.proofs.Kept.{is_kept_at, is_kept_expr, is_kept_cond, is_kept_effect}
use Rattle.ground_text.specs.Reading.{first_is, index_at, number_expr, fluent_expr, both_expr, expr_at, whole_expr_at, op_at, compared_at, cond_at, changed_at, effect_at}
use Rattle.ground_text.proofs.Numbers.{integer_again, integer_first, index_again}
use Rattle.ground_text.proofs.Members.{Ends, Again}

-- ---- expressions

-- what the two operands of a sum or a difference leave
both_again : (k : ℕ) (plus : Bool) (sign : ℕ) (left right rest : List ℕ) (a b : Expr) → first_is 43 (sign ∷ 32 ∷ []) ≡ plus
    → expr_at k (left ++ (32 ∷ (right ++ (41 ∷ rest)))) ≡ (a, 32 ∷ (right ++ (41 ∷ rest)))
    → expr_at k (right ++ (41 ∷ rest)) ≡ (b, 41 ∷ rest)
    → expr_at (suc k) (40 ∷ sign ∷ 32 ∷ (left ++ (32 ∷ (right ++ (41 ∷ rest))))) ≡ (both_expr plus a b, rest)
both_again k plus sign left right rest a b signed first second =
    ap (λ (s : Bool). (both_expr s (expr_at k behind).0 (expr_at k (drop 1 (expr_at k behind).1)).0, drop 1 (expr_at k (drop 1 (expr_at k behind).1)).1)) signed
    ∙ ap (λ (x : Expr × List ℕ). (both_expr plus x.0 (expr_at k (drop 1 x.1)).0, drop 1 (expr_at k (drop 1 x.1)).1)) first
    ∙ ap (λ (x : Expr × List ℕ). (both_expr plus a x.0, drop 1 x.1)) second where
      behind : List ℕ
      behind = left ++ (32 ∷ (right ++ (41 ∷ rest)))

abbrev ReadsAgain : ℕ → Expr → Type 0
ReadsAgain n e = (k : ℕ) (rest : List ℕ) → depth e < k → fold-Expr Bool (is_expr_at n) e ≡ true → is_kept_expr e ≡ true → Ends rest → expr_at k (expr_text e ++ rest) ≡ (e, rest)

module _ (n : ℕ) (few : n ≤ 256) where
  abbrev Part : Type 0
  Part = (e : Expr) × ReadsAgain n e

  by_layer : (y : Expr-F Part) → ReadsAgain n (roll-Expr (map-Expr Part Expr (λ e. e.0) y))
  unfolding expr_text
  by_layer y zero rest deep below kept ends = absurd (omega arith)
  by_layer (Expr-F.Number z) (suc k) rest deep below kept ends =
      let text = fold-roll-Expr (List ℕ) expr_text_at (Expr-F.Number z) in
      let fits = sym (fold-roll-Expr Bool is_kept_at (Expr-F.Number z)) ∙ kept in
      ap (λ (t : List ℕ). expr_at (suc k) (t ++ rest)) text
      ∙ rw (integer_first 40 z rest fits refl refl, integer_first 110 z rest fits refl refl) (ap number_expr (integer_again z rest fits ends))
  by_layer (Expr-F.Fluent x) (suc k) rest deep below kept ends =
      let text = fold-roll-Expr (List ℕ) expr_text_at (Expr-F.Fluent x) in
      let fits = ltb-true x n (sym (fold-roll-Expr Bool (is_expr_at n) (Expr-F.Fluent x)) ∙ below) in
      ap (λ (t : List ℕ). expr_at (suc k) (t ++ rest)) text
      ∙ ap fluent_expr (index_again x rest (omega arith) ends)
  by_layer (Expr-F.Sum a b) (suc k) rest deep below kept ends =
      let text = fold-roll-Expr (List ℕ) expr_text_at (Expr-F.Sum a.0 b.0) in
      let level = fold-roll-Expr ℕ depth_at (Expr-F.Sum a.0 b.0) in
      let named = and_parts _ _ (sym (fold-roll-Expr Bool (is_expr_at n) (Expr-F.Sum a.0 b.0)) ∙ below) in
      let fits = and_parts _ _ (sym (fold-roll-Expr Bool is_kept_at (Expr-F.Sum a.0 b.0)) ∙ kept) in
      let left = expr_text a.0 in
      let right = expr_text b.0 in
      let shape : (codes "(+ " ++ left ++ codes " " ++ right ++ codes ")") ++ rest ≡ 40 ∷ 43 ∷ 32 ∷ (left ++ (32 ∷ (right ++ (41 ∷ rest)))) = simp append_assoc in
      ap (λ (t : List ℕ). expr_at (suc k) (t ++ rest)) text
      ∙ ap (expr_at (suc k)) shape
      ∙ both_again k true 43 left right rest a.0 b.0 refl
      (a.1 k (32 ∷ (right ++ (41 ∷ rest))) (omega (arith, level, deep)) named.0 fits.0 refl)
      (b.1 k (41 ∷ rest) (omega (arith, level, deep)) named.1 fits.1 refl)
  by_layer (Expr-F.Difference a b) (suc k) rest deep below kept ends =
      let text = fold-roll-Expr (List ℕ) expr_text_at (Expr-F.Difference a.0 b.0) in
      let level = fold-roll-Expr ℕ depth_at (Expr-F.Difference a.0 b.0) in
      let named = and_parts _ _ (sym (fold-roll-Expr Bool (is_expr_at n) (Expr-F.Difference a.0 b.0)) ∙ below) in
      let fits = and_parts _ _ (sym (fold-roll-Expr Bool is_kept_at (Expr-F.Difference a.0 b.0)) ∙ kept) in
      let left = expr_text a.0 in
      let right = expr_text b.0 in
      let shape : (codes "(- " ++ left ++ codes " " ++ right ++ codes ")") ++ rest ≡ 40 ∷ 45 ∷ 32 ∷ (left ++ (32 ∷ (right ++ (41 ∷ rest)))) = simp append_assoc in
      ap (λ (t : List ℕ). expr_at (suc k) (t ++ rest)) text
      ∙ ap (expr_at (suc k)) shape
      ∙ both_again k false 45 left right rest a.0 b.0 refl
      (a.1 k (32 ∷ (right ++ (41 ∷ rest))) (omega (arith, level, deep)) named.0 fits.0 refl)
      (b.1 k (41 ∷ rest) (omega (arith, level, deep)) named.1 fits.1 refl)

  expr_again : (e : Expr) → ReadsAgain n e
  expr_again = ind-Expr (ReadsAgain n) (λ x y is. subst (λ z. ReadsAgain n (roll-Expr z)) is (by_layer y))

  pub whole_expr_again : (e : Expr) (rest : List ℕ) → is_expr n e ≡ true → is_kept_expr e ≡ true → Ends rest → whole_expr_at (expr_text e ++ rest) ≡ (e, rest)
  unfolding whole_expr_at
  whole_expr_again e rest h kept ends =
      let p = and_parts _ _ h in
      let deep : depth e ≤ 32 = leb-true (depth e) 32 p.1 in
      expr_again e 33 rest (omega arith) p.0 kept ends

-- ---- conditions and effects

-- over the first f facts and n fluents
abbrev pub good_cond : ℕ → ℕ → Cond → Bool
good_cond f n x = is_cond f n x && is_kept_cond x

abbrev pub good_effect : ℕ → ℕ → Effect → Bool
good_effect f n x = is_effect f n x && is_kept_effect x

op_again : (op : Op) (rest : List ℕ) → op_at (op_text op ++ (32 ∷ rest)) ≡ (op, 32 ∷ rest)
unfolding op_at
op_again Less rest = refl
op_again LessEq rest = refl
op_again Equal rest = refl
op_again MoreEq rest = refl
op_again More rest = refl

pub cond_again : (f n : ℕ) → f ≤ 4096 → n ≤ 256 → Again cond_at cond_text (good_cond f n)
unfolding cond_at cond_text
cond_again f n small few (Lit fact true) rest h ends =
    let lt = ltb-true fact f (and_parts _ _ h).0 in
    ap (λ (x : ℕ × List ℕ). (Lit x.0 true, x.1)) (index_again fact rest (omega arith) ends)
cond_again f n small few (Lit fact false) rest h ends =
    let lt = ltb-true fact f (and_parts _ _ h).0 in
    ap (λ (x : ℕ × List ℕ). (Lit x.0 false, x.1)) (index_again fact rest (omega arith) ends)
cond_again f n small few (Compare op l r) rest h ends =
    let p = and_parts _ _ h in
    let sides = and_parts _ _ p.0 in
    let kept = and_parts _ _ p.1 in
    let left = expr_text l in
    let right = expr_text r in
    let shape : cond_text (Compare op l r) ++ rest ≡ 40 ∷ (op_text op ++ (32 ∷ (left ++ (32 ∷ (right ++ (41 ∷ rest)))))) = simp append_assoc in
    ap cond_at shape
    ∙ ap compared_at (op_again op (left ++ (32 ∷ (right ++ (41 ∷ rest)))))
    ∙ ap (λ (x : Expr × List ℕ). (Compare op x.0 (whole_expr_at (drop 1 x.1)).0, drop 1 (whole_expr_at (drop 1 x.1)).1)) (whole_expr_again n few l (32 ∷ (right ++ (41 ∷ rest))) sides.0 kept.0 refl)
    ∙ ap (λ (x : Expr × List ℕ). (Compare op l x.0, drop 1 x.1)) (whole_expr_again n few r (41 ∷ rest) sides.1 kept.1 refl)

change_again : (n : ℕ) → n ≤ 256 → (how : How) (fluent : ℕ) (e : Expr) (rest : List ℕ) → nat_lt fluent n ≡ true → is_expr n e ≡ true → is_kept_expr e ≡ true
    → changed_at how (index_at (decimal fluent ++ (32 ∷ (expr_text e ++ (41 ∷ rest))))) ≡ (Change how fluent e, rest)
change_again n few how fluent e rest below whole kept =
    let lt = ltb-true fluent n below in
    ap (changed_at how) (index_again fluent (32 ∷ (expr_text e ++ (41 ∷ rest))) (omega arith) refl)
    ∙ ap (λ (x : Expr × List ℕ). (Change how fluent x.0, drop 1 x.1)) (whole_expr_again n few e (41 ∷ rest) whole kept refl)

pub effect_again : (f n : ℕ) → f ≤ 4096 → n ≤ 256 → Again effect_at effect_text (good_effect f n)
unfolding effect_at effect_text
effect_again f n small few (Add fact) rest h ends =
    let lt = ltb-true fact f (and_parts _ _ h).0 in
    ap (λ (x : ℕ × List ℕ). (Add x.0, x.1)) (index_again fact rest (omega arith) ends)
effect_again f n small few (Delete fact) rest h ends =
    let lt = ltb-true fact f (and_parts _ _ h).0 in
    ap (λ (x : ℕ × List ℕ). (Delete x.0, x.1)) (index_again fact rest (omega arith) ends)
effect_again f n small few (Change Increase fluent e) rest h ends =
    let p = and_parts _ _ h in
    let q = and_parts _ _ p.0 in
    let shape : effect_text (Change Increase fluent e) ++ rest ≡ 40 ∷ 105 ∷ 110 ∷ 99 ∷ 32 ∷ (decimal fluent ++ (32 ∷ (expr_text e ++ (41 ∷ rest)))) = simp append_assoc in
    ap effect_at shape ∙ change_again n few Increase fluent e rest q.0 q.1 p.1
effect_again f n small few (Change Decrease fluent e) rest h ends =
    let p = and_parts _ _ h in
    let q = and_parts _ _ p.0 in
    let shape : effect_text (Change Decrease fluent e) ++ rest ≡ 40 ∷ 100 ∷ 101 ∷ 99 ∷ 32 ∷ (decimal fluent ++ (32 ∷ (expr_text e ++ (41 ∷ rest)))) = simp append_assoc in
    ap effect_at shape ∙ change_again n few Decrease fluent e rest q.0 q.1 p.1
effect_again f n small few (Change Assign fluent e) rest h ends =
    let p = and_parts _ _ h in
    let q = and_parts _ _ p.0 in
    let shape : effect_text (Change Assign fluent e) ++ rest ≡ 40 ∷ 115 ∷ 101 ∷ 116 ∷ 32 ∷ (decimal fluent ++ (32 ∷ (expr_text e ++ (41 ∷ rest)))) = simp append_assoc in
    ap effect_at shape ∙ change_again n few Assign fluent e rest q.0 q.1 p.1
