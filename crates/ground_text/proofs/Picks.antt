-- What is read of a line of members that may be cut off, and the lines behind it.
use Rattle.std.proofs.Common.{◌≡◌, ℕ, zero, suc, ◌-◌, ◌^◌, ◌≤◌, ◌<◌, Bool, true, false, List, [], ◌∷◌, ◌++◌, length, drop, Option, Some, None, refl, sym, ap, subst, ◌∙◌, append_assoc, arith}
use Rattle.std.specs.Prelude.{decimal, codes, ℤ, pos, negsuc, nat_lt}
use Rattle.std.specs.List.{list_all}
use Rattle.std.specs.Fmt.{signed_decimal}
use Rattle.std.proofs.lemmas.Bool.{and_parts, and_from, ltb-true, leb-true}
use Rattle.std.proofs.lemmas.List.Folds.{list_all-append}
use Rattle.tp_spec.specs.WellFormed.{is_expr_at, is_expr, is_cond, is_effect}
use Rattle.tp_spec.specs.declared.expr.Expr.{Expr, roll-Expr, map-Expr, fold-Expr}
use Rattle.tp_spec.specs.declared.expr.Expr.TheOpen.{Expr-F}
use Rattle.tp_spec.specs.declared.expr.Expr.TheFolds.{ind-Expr, fold-roll-Expr}
use Rattle.tp_spec.specs.declared.problem.Cond.{Cond}
use Rattle.tp_spec.specs.declared.problem.Cond.TheVariants.{Lit, Compare}
use Rattle.tp_spec.specs.declared.problem.Effect.{Effect}
use Rattle.tp_spec.specs.declared.problem.Effect.TheVariants.{Add, Delete, Change}
use Rattle.tp_spec.specs.declared.problem.How.TheVariants.{Increase, Decrease, Assign}
use Rattle.tp_spec.specs.declared.problem.Op.{Op}
use Rattle.tp_spec.specs.declared.problem.Op.TheVariants.{Less, LessEq, Equal, MoreEq, More}
use Rattle.ground_text.specs.Texts.{listed, expr_text, expr_text_at, op_text, cond_text, effect_text, value_text}
use Rattle.tp_spec.specs.WellFormed.{is_i64, is_value}
use Rattle.ground_text.proofs.Kept.{is_kept_at, is_kept_expr, is_kept_cond, is_kept_effect}
use Rattle.ground_text.specs.Reading.{index_at, cond_at, effect_at, value_at, members_at, conds_at, effects_at, indices_at, values_at}
use Rattle.line_text.specs.Lines.{lines}
use Rattle.ground_text.proofs.Numbers.{index_again, value_again}
use Rattle.ground_text.proofs.Members.{Again, members_again}
use Rattle.ground_text.proofs.Words.{good_cond, good_effect, cond_again, effect_again}
use Rattle.ground_text.proofs.Blocks.{both_hold}
use Rattle.ground_text.proofs.Cuts.{is_inside, line_first, decimal_inside}

-- what is read of a line where so many lines are left: all or nothing
abbrev pub pick : {A : Type 0} → ℕ → List A → List A
pick zero xs = []
pick (suc k) xs = xs

-- the end of a line where so many lines are left, with this one: its line feed and the lines behind it
abbrev pub line_end : ℕ → List ℕ → List ℕ
line_end zero rest = []
line_end (suc k) rest = 10 ∷ lines k rest

pub behind_end : (j : ℕ) (rest : List ℕ) → drop 1 (line_end j rest) ≡ lines (j - 1) rest
behind_end zero rest = let none : 0 ≡ 0 - 1 = omega arith in ap (λ (n : ℕ). lines n rest) none
behind_end (suc k) rest = let less : k ≡ suc k - 1 = omega arith in ap (λ (n : ℕ). lines n rest) less

-- ---- no part of a line has a line feed

abbrev pub Inside : {A : Type 0} → (A → List ℕ) → (A → Bool) → Type 0
Inside text good = (x : _) → good x ≡ true → list_all is_inside (text x) ≡ true

pub joined_inside : (xs ys : List ℕ) → list_all is_inside xs ≡ true → list_all is_inside ys ≡ true → list_all is_inside (xs ++ ys) ≡ true
joined_inside xs ys h k = list_all-append is_inside xs ys ∙ and_from _ _ h k

pub listed_inside : {A : Type 0} (text : A → List ℕ) (good : A → Bool) → Inside text good → (xs : List A) → list_all good xs ≡ true → list_all is_inside (listed text xs) ≡ true
unfolding listed
listed_inside text good inside [] h = refl
listed_inside text good inside (x ∷ xs) h =
    let p = and_parts _ _ h in
    joined_inside (text x) (listed text xs) (inside x p.0) (listed_inside text good inside xs p.1)

integer_inside : (z : ℤ) → is_i64 z ≡ true → list_all is_inside (signed_decimal z) ≡ true
integer_inside (pos n) kept =
    let le = leb-true n (2 ^ 63 - 1) kept in
    decimal_inside n (omega arith)
integer_inside (negsuc n) kept = decimal_inside (suc n) (below n kept) where
  below : (n : ℕ) → is_i64 (negsuc n) ≡ true → suc n < 2 ^ 64
  below n kept = omega (arith, leb-true n (2 ^ 63 - 1) (and_parts _ _ kept).0)

value_inside : Inside value_text is_value
value_inside None kept = refl
value_inside (Some z) kept = integer_inside z kept

index_inside : (f : ℕ) → f ≤ 4096 → (x : ℕ) → nat_lt x f ≡ true → list_all is_inside (decimal x) ≡ true
index_inside f small x below =
    let lt = ltb-true x f below in
    decimal_inside x (omega arith)

both_inside : (left right : List ℕ) → list_all is_inside left ≡ true → list_all is_inside right ≡ true → list_all is_inside (left ++ (32 ∷ (right ++ (41 ∷ [])))) ≡ true
both_inside left right h k = joined_inside left (32 ∷ (right ++ (41 ∷ []))) h (joined_inside right (41 ∷ []) k refl)

module _ (n : ℕ) (few : n ≤ 256) where
  abbrev InLine : Expr → Type 0
  InLine e = fold-Expr Bool (is_expr_at n) e ≡ true → is_kept_expr e ≡ true → list_all is_inside (expr_text e) ≡ true

  abbrev Part : Type 0
  Part = (e : Expr) × InLine e

  by_layer : (y : Expr-F Part) → InLine (roll-Expr (map-Expr Part Expr (λ e. e.0) y))
  unfolding expr_text
  by_layer (Expr-F.Number z) below kept =
      let text = fold-roll-Expr (List ℕ) expr_text_at (Expr-F.Number z) in
      let fits = sym (fold-roll-Expr Bool is_kept_at (Expr-F.Number z)) ∙ kept in
      ap (list_all is_inside) text ∙ integer_inside z fits
  by_layer (Expr-F.Fluent x) below kept =
      let text = fold-roll-Expr (List ℕ) expr_text_at (Expr-F.Fluent x) in
      let fits = sym (fold-roll-Expr Bool (is_expr_at n) (Expr-F.Fluent x)) ∙ below in
      ap (list_all is_inside) text ∙ index_inside n (omega arith) x fits
  by_layer (Expr-F.Sum a b) below kept =
      let text = fold-roll-Expr (List ℕ) expr_text_at (Expr-F.Sum a.0 b.0) in
      let named = and_parts _ _ (sym (fold-roll-Expr Bool (is_expr_at n) (Expr-F.Sum a.0 b.0)) ∙ below) in
      let fits = and_parts _ _ (sym (fold-roll-Expr Bool is_kept_at (Expr-F.Sum a.0 b.0)) ∙ kept) in
      let left = expr_text a.0 in
      let right = expr_text b.0 in
      let shape : codes "(+ " ++ left ++ codes " " ++ right ++ codes ")" ≡ 40 ∷ 43 ∷ 32 ∷ (left ++ (32 ∷ (right ++ (41 ∷ [])))) = simp append_assoc in
      ap (list_all is_inside) (text ∙ shape) ∙ both_inside left right (a.1 named.0 fits.0) (b.1 named.1 fits.1)
  by_layer (Expr-F.Difference a b) below kept =
      let text = fold-roll-Expr (List ℕ) expr_text_at (Expr-F.Difference a.0 b.0) in
      let named = and_parts _ _ (sym (fold-roll-Expr Bool (is_expr_at n) (Expr-F.Difference a.0 b.0)) ∙ below) in
      let fits = and_parts _ _ (sym (fold-roll-Expr Bool is_kept_at (Expr-F.Difference a.0 b.0)) ∙ kept) in
      let left = expr_text a.0 in
      let right = expr_text b.0 in
      let shape : codes "(- " ++ left ++ codes " " ++ right ++ codes ")" ≡ 40 ∷ 45 ∷ 32 ∷ (left ++ (32 ∷ (right ++ (41 ∷ [])))) = simp append_assoc in
      ap (list_all is_inside) (text ∙ shape) ∙ both_inside left right (a.1 named.0 fits.0) (b.1 named.1 fits.1)

  each_inside : (e : Expr) → InLine e
  each_inside = ind-Expr InLine (λ x y is. subst (λ z. InLine (roll-Expr z)) is (by_layer y))

  expr_inside : (e : Expr) → is_expr n e ≡ true → is_kept_expr e ≡ true → list_all is_inside (expr_text e) ≡ true
  expr_inside e h kept = each_inside e (and_parts _ _ h).0 kept

op_inside : (op : Op) → list_all is_inside (op_text op) ≡ true
op_inside Less = refl
op_inside LessEq = refl
op_inside Equal = refl
op_inside MoreEq = refl
op_inside More = refl

module _ (f n : ℕ) (small : f ≤ 4096) (few : n ≤ 256) where
  cond_inside : Inside cond_text (good_cond f n)
  unfolding cond_text
  cond_inside (Lit fact true) h = index_inside f small fact (and_parts _ _ h).0
  cond_inside (Lit fact false) h = index_inside f small fact (and_parts _ _ h).0
  cond_inside (Compare op l r) h =
      let p = and_parts _ _ h in
      let sides = and_parts _ _ p.0 in
      let kept = and_parts _ _ p.1 in
      let left = expr_text l in
      let right = expr_text r in
      let shape : cond_text (Compare op l r) ≡ 40 ∷ (op_text op ++ (32 ∷ (left ++ (32 ∷ (right ++ (41 ∷ [])))))) = simp append_assoc in
      ap (list_all is_inside) shape
      ∙ joined_inside (op_text op) (32 ∷ (left ++ (32 ∷ (right ++ (41 ∷ []))))) (op_inside op)
      (both_inside left right (expr_inside n few l sides.0 kept.0) (expr_inside n few r sides.1 kept.1))

  change_inside : (fluent : ℕ) (e : Expr) → nat_lt fluent n ≡ true → is_expr n e ≡ true → is_kept_expr e ≡ true
      → list_all is_inside (decimal fluent ++ (32 ∷ (expr_text e ++ (41 ∷ [])))) ≡ true
  change_inside fluent e below whole kept = both_inside (decimal fluent) (expr_text e) (index_inside n (omega arith) fluent below) (expr_inside n few e whole kept)

  pub effect_inside : Inside effect_text (good_effect f n)
  unfolding effect_text
  effect_inside (Add fact) h = index_inside f small fact (and_parts _ _ h).0
  effect_inside (Delete fact) h = index_inside f small fact (and_parts _ _ h).0
  effect_inside (Change Increase fluent e) h =
      let p = and_parts _ _ h in
      let q = and_parts _ _ p.0 in
      let shape : effect_text (Change Increase fluent e) ≡ 40 ∷ 105 ∷ 110 ∷ 99 ∷ 32 ∷ (decimal fluent ++ (32 ∷ (expr_text e ++ (41 ∷ [])))) = simp append_assoc in
      ap (list_all is_inside) shape ∙ change_inside fluent e q.0 q.1 p.1
  effect_inside (Change Decrease fluent e) h =
      let p = and_parts _ _ h in
      let q = and_parts _ _ p.0 in
      let shape : effect_text (Change Decrease fluent e) ≡ 40 ∷ 100 ∷ 101 ∷ 99 ∷ 32 ∷ (decimal fluent ++ (32 ∷ (expr_text e ++ (41 ∷ [])))) = simp append_assoc in
      ap (list_all is_inside) shape ∙ change_inside fluent e q.0 q.1 p.1
  effect_inside (Change Assign fluent e) h =
      let p = and_parts _ _ h in
      let q = and_parts _ _ p.0 in
      let shape : effect_text (Change Assign fluent e) ≡ 40 ∷ 115 ∷ 101 ∷ 116 ∷ 32 ∷ (decimal fluent ++ (32 ∷ (expr_text e ++ (41 ∷ [])))) = simp append_assoc in
      ap (list_all is_inside) shape ∙ change_inside fluent e q.0 q.1 p.1

-- ---- a line of members behind a word

-- a word within a line, and how many bytes it has
pub record Word (word : List ℕ) (skipped : ℕ) : Type 0 where
  pub inside : list_all is_inside word ≡ true
  pub skips : (t : List ℕ) → drop skipped (word ++ t) ≡ t

abbrev pub members_line : {A : Type 0} → (A → List ℕ) → List ℕ → List A → List ℕ → List ℕ
members_line text word xs rest = word ++ (listed text xs ++ (10 ∷ rest))

first_line : {A : Type 0} (text : A → List ℕ) (good : A → Bool) → Inside text good
    → (word : List ℕ) (xs : List A) (rest : List ℕ) (k : ℕ) → list_all is_inside word ≡ true → list_all good xs ≡ true
    → lines (suc k) (members_line text word xs rest) ≡ members_line text word xs (lines k rest)
first_line text good inside word xs rest k plain h =
    ap (lines (suc k)) (sym (append_assoc word (listed text xs) (10 ∷ rest)))
    ∙ line_first (word ++ listed text xs) rest k (joined_inside word (listed text xs) plain (listed_inside text good inside xs h))
    ∙ append_assoc word (listed text xs) (10 ∷ lines k rest)

members_cut : {A : Type 0} (at : List ℕ → A × List ℕ) (text : A → List ℕ) (good : A → Bool) → Again at text good → Inside text good
    → (word : List ℕ) (skipped j : ℕ) (xs : List A) (rest : List ℕ) → Word word skipped → list_all good xs ≡ true
    → (bytes : List ℕ) → bytes ≡ drop (suc skipped) (line_end j (members_line text word xs rest))
    → members_at at (length bytes) bytes ≡ (pick (j - 1) xs, line_end (j - 1) rest)
members_cut {A} at text good again inside word skipped zero xs rest w h bytes is =
    let none : 0 ≡ 0 - 1 = omega arith in
    ap (λ (t : List ℕ). members_at at (length t) t) is
    ∙ ap (λ (n : ℕ). (pick n xs, line_end n rest)) none
members_cut at text good again inside word skipped (suc zero) xs rest w h bytes is =
    ap (λ (t : List ℕ). members_at at (length t) t) (is ∙ gone skipped) where
      gone : (n : ℕ) → drop {A = ℕ} n [] ≡ []
      gone zero = refl
      gone (suc n) = refl
members_cut at text good again inside word skipped (suc (suc m)) xs rest w h bytes is =
    let less : suc m ≡ suc (suc m) - 1 = omega arith in
    ap (λ (t : List ℕ). members_at at (length t) t)
    (is ∙ ap (drop skipped) (first_line text good inside word xs rest m w.inside h) ∙ w.skips (listed text xs ++ (10 ∷ lines m rest)))
    ∙ members_again at text good again xs (10 ∷ lines m rest) h refl refl
    ∙ ap (λ (n : ℕ). (pick n xs, line_end n rest)) less

members_same : {A : Type 0} (text : A → List ℕ) (good : A → Bool) → Inside text good
    → (word : List ℕ) (k : ℕ) (xs : List A) (rest other : List ℕ) → list_all is_inside word ≡ true → list_all good xs ≡ true
    → lines (k - 1) other ≡ lines (k - 1) rest
    → lines k (members_line text word (pick k xs) other) ≡ lines k (members_line text word xs rest)
members_same text good inside word zero xs rest other plain h e = refl
members_same text good inside word (suc m) xs rest other plain h e =
    let less : suc m - 1 ≡ m = omega arith in
    first_line text good inside word xs other m plain h
    ∙ ap (λ (t : List ℕ). members_line text word xs t) (subst (λ (n : ℕ). lines n other ≡ lines n rest) less e)
    ∙ sym (first_line text good inside word xs rest m plain h)

-- ---- conditions, effects, facts and values

module _ (f n : ℕ) (small : f ≤ 4096) (few : n ≤ 256) where
  pub conds_cut : (word : List ℕ) (skipped j : ℕ) (xs : List Cond) (rest : List ℕ) → Word word skipped → list_all (is_cond f n) xs ≡ true → list_all is_kept_cond xs ≡ true
      → conds_at (drop (suc skipped) (line_end j (members_line cond_text word xs rest))) ≡ (pick (j - 1) xs, line_end (j - 1) rest)
  unfolding conds_at
  conds_cut word skipped j xs rest w h k =
      members_cut cond_at cond_text (good_cond f n) (cond_again f n small few) (cond_inside f n small few) word skipped j xs rest w (both_hold (is_cond f n) is_kept_cond xs h k) _ refl

  pub conds_same : (word : List ℕ) (k : ℕ) (xs : List Cond) (rest other : List ℕ) → list_all is_inside word ≡ true → list_all (is_cond f n) xs ≡ true → list_all is_kept_cond xs ≡ true
      → lines (k - 1) other ≡ lines (k - 1) rest
      → lines k (members_line cond_text word (pick k xs) other) ≡ lines k (members_line cond_text word xs rest)
  conds_same word k xs rest other plain h kept e =
      members_same cond_text (good_cond f n) (cond_inside f n small few) word k xs rest other plain (both_hold (is_cond f n) is_kept_cond xs h kept) e

  pub effects_cut : (word : List ℕ) (skipped j : ℕ) (xs : List Effect) (rest : List ℕ) → Word word skipped → list_all (is_effect f n) xs ≡ true → list_all is_kept_effect xs ≡ true
      → effects_at (drop (suc skipped) (line_end j (members_line effect_text word xs rest))) ≡ (pick (j - 1) xs, line_end (j - 1) rest)
  unfolding effects_at
  effects_cut word skipped j xs rest w h k =
      members_cut effect_at effect_text (good_effect f n) (effect_again f n small few) (effect_inside f n small few) word skipped j xs rest w (both_hold (is_effect f n) is_kept_effect xs h k) _ refl

  pub effects_same : (word : List ℕ) (k : ℕ) (xs : List Effect) (rest other : List ℕ) → list_all is_inside word ≡ true → list_all (is_effect f n) xs ≡ true → list_all is_kept_effect xs ≡ true
      → lines (k - 1) other ≡ lines (k - 1) rest
      → lines k (members_line effect_text word (pick k xs) other) ≡ lines k (members_line effect_text word xs rest)
  effects_same word k xs rest other plain h kept e =
      members_same effect_text (good_effect f n) (effect_inside f n small few) word k xs rest other plain (both_hold (is_effect f n) is_kept_effect xs h kept) e

module _ (f : ℕ) (small : f ≤ 4096) where
  below_again : Again index_at decimal (λ x. nat_lt x f)
  below_again x rest below ends = index_again x rest (let lt = ltb-true x f below in omega arith) ends

  pub indices_cut : (word : List ℕ) (skipped j : ℕ) (xs : List ℕ) (rest : List ℕ) → Word word skipped → list_all (λ x. nat_lt x f) xs ≡ true
      → indices_at (drop (suc skipped) (line_end j (members_line decimal word xs rest))) ≡ (pick (j - 1) xs, line_end (j - 1) rest)
  unfolding indices_at
  indices_cut word skipped j xs rest w h =
      members_cut index_at decimal (λ x. nat_lt x f) below_again (index_inside f small) word skipped j xs rest w h _ refl

  pub indices_same : (word : List ℕ) (k : ℕ) (xs : List ℕ) (rest other : List ℕ) → list_all is_inside word ≡ true → list_all (λ x. nat_lt x f) xs ≡ true
      → lines (k - 1) other ≡ lines (k - 1) rest
      → lines k (members_line decimal word (pick k xs) other) ≡ lines k (members_line decimal word xs rest)
  indices_same word k xs rest other plain h e = members_same decimal (λ x. nat_lt x f) (index_inside f small) word k xs rest other plain h e

pub values_cut : (word : List ℕ) (skipped j : ℕ) (xs : List (Option ℤ)) (rest : List ℕ) → Word word skipped → list_all is_value xs ≡ true
    → values_at (drop (suc skipped) (line_end j (members_line value_text word xs rest))) ≡ (pick (j - 1) xs, line_end (j - 1) rest)
unfolding values_at
values_cut word skipped j xs rest w h =
    members_cut value_at value_text is_value (λ x r kept ends. value_again x r kept ends) value_inside word skipped j xs rest w h _ refl

pub values_same : (word : List ℕ) (k : ℕ) (xs : List (Option ℤ)) (rest other : List ℕ) → list_all is_inside word ≡ true → list_all is_value xs ≡ true
    → lines (k - 1) other ≡ lines (k - 1) rest
    → lines k (members_line value_text word (pick k xs) other) ≡ lines k (members_line value_text word xs rest)
values_same word k xs rest other plain h e = members_same value_text is_value value_inside word k xs rest other plain h e
