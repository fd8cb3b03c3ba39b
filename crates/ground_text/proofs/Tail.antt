-- What is read of the last lines of a ground text, and how they are completed.
use Rattle.std.proofs.Common.{◌≡◌, ℕ, zero, suc, ◌-◌, ◌≤◌, ◌<◌, true, List, [], ◌∷◌, length, map, drop, Option, None, refl, sym, ap, ◌∙◌, arith}
use Rattle.std.specs.Prelude.{ℤ, decimal, codes, nat_lt}
use Rattle.std.specs.List.{list_all}
use Rattle.tp_spec.specs.WellFormed.{is_cond}
use Rattle.tp_spec.specs.declared.list.Name.{Name}
use Rattle.tp_spec.specs.declared.problem.Cond.{Cond}
use Rattle.ground_text.specs.Texts.{cond_text, value_text}
use Rattle.tp_spec.specs.WellFormed.{is_value}
use Rattle.ground_text.proofs.Kept.{is_kept_cond}
use Rattle.ground_text.specs.Reading.{indices_at}
use Rattle.problem_rules.specs.Tests.{are_init, is_goal}
use Rattle.line_text.specs.Lines.{lines}
use Rattle.ground_text.specs.Completion.{filled_values}
use Rattle.ground_text.proofs.Picks.{pick, line_end, members_line, indices_cut, indices_same, values_same, conds_same}

-- ---- their texts

abbrev pub goal_line : List Cond → List ℕ
goal_line goal = members_line cond_text (codes "goal") goal (codes "end\n")

abbrev pub values_line : List (Option ℤ) → List Cond → List ℕ
values_line values goal = members_line value_text (codes "values") values (goal_line goal)

abbrev pub init_line : List ℕ → List (Option ℤ) → List Cond → List ℕ
init_line init values goal = members_line decimal (codes "init") init (values_line values goal)

-- ---- what is read of them

module _ (f : ℕ) (small : f ≤ 4096) where
  pub init_cut : (k : ℕ) (init : List ℕ) (rest : List ℕ) → list_all (λ x. nat_lt x f) init ≡ true
      → indices_at (drop 4 (lines k (members_line decimal (codes "init") init rest))) ≡ (pick k init, line_end k rest)
  init_cut k init rest h =
      let less : suc k - 1 ≡ k = omega arith in
      indices_cut f small (codes "init") 4 (suc k) init rest (record { inside = refl; skips = λ t. refl }) h
      ∙ ap (λ (n : ℕ). (pick n init, line_end n rest)) less

  -- ---- the lines of what is filled in

  pub last_same : (n : ℕ) → n ≤ 256 → (names : List Name) (k : ℕ) (init : List ℕ) (values : List (Option ℤ)) (goal : List Cond)
      → list_all (λ x. nat_lt x f) init ≡ true → length names ≤ length values → list_all is_value values ≡ true
      → list_all (is_cond f n) goal ≡ true → list_all is_kept_cond goal ≡ true
      → lines k (init_line (pick k init) (filled_values names (pick (k - 1) values)) (pick (k - 1 - 1) goal)) ≡ lines k (init_line init values goal)
  last_same n few names k init values goal starting many kept aiming kept_goal =
      indices_same f small (codes "init") k init (values_line values goal) _ refl starting
      (values_filled (k - 1) (goal_line goal) (goal_line (pick (k - 1 - 1) goal)) many
      (conds_same f n small few (codes "goal") (k - 1 - 1) goal (codes "end\n") (codes "end\n") refl aiming kept_goal refl)) where
        as_read : (names : List Name) (values : List (Option ℤ)) → length names ≤ length values → filled_values names values ≡ values
        as_read [] [] many = refl
        as_read (name ∷ names) [] many = absurd (omega arith)
        as_read names (value ∷ values) many = refl

        values_filled : (k : ℕ) (rest other : List ℕ) → length names ≤ length values → lines (k - 1) other ≡ lines (k - 1) rest
            → lines k (members_line value_text (codes "values") (filled_values names (pick k values)) other) ≡ lines k (members_line value_text (codes "values") values rest)
        values_filled zero rest other many e = refl
        values_filled (suc k) rest other many e =
            ap (λ (xs : List (Option ℤ)). lines (suc k) (members_line value_text (codes "values") xs other)) (as_read names values many)
            ∙ values_same (codes "values") (suc k) values rest other refl kept e

-- ---- they keep the rules

-- facts and fluents are those of the problem where a line is left
abbrev pub AsMany : ℕ → ℕ → ℕ → Type 0
AsMany k some all = 0 < k → some ≡ all

pub starting_holds : (k f facts : ℕ) (init : List ℕ) → AsMany k f facts → are_init facts init ≡ true → are_init f (pick k init) ≡ true
starting_holds zero f facts init as_many h = refl
starting_holds (suc k) f facts init as_many h = ap (λ (x : ℕ). are_init x init) (as_many (omega arith)) ∙ h

pub aiming_holds : (k f facts n fluents : ℕ) (goal : List Cond) → AsMany k f facts → AsMany k n fluents → is_goal facts fluents goal ≡ true → is_goal f n (pick k goal) ≡ true
aiming_holds zero f facts n fluents goal same_facts same_fluents h = refl
aiming_holds (suc k) f facts n fluents goal same_facts same_fluents h =
    let s = same_facts (omega arith) in
    let t = same_fluents (omega arith) in
    (λ i. is_goal (s i) (t i) goal) ∙ h

pub goal_kept : (k : ℕ) (goal : List Cond) → list_all is_kept_cond goal ≡ true → list_all is_kept_cond (pick k goal) ≡ true
goal_kept zero goal h = refl
goal_kept (suc k) goal h = h

none_long : (names : List Name) → length (map {B = Option ℤ} (λ name. None) names) ≡ length names
none_long [] = refl
none_long (name ∷ names) = ap suc (none_long names)

none_kept : (names : List Name) → list_all is_value (map (λ name. None) names) ≡ true
none_kept [] = refl
none_kept (name ∷ names) = none_kept names

pub valued_holds : (k n fluents : ℕ) (names : List Name) (values : List (Option ℤ)) → length names ≡ n → AsMany k n fluents → length values ≡ fluents → length (filled_values names (pick k values)) ≡ n
valued_holds zero n fluents names values named as_many long = none_long names ∙ named
valued_holds (suc k) n fluents names [] named as_many long = none_long names ∙ named
valued_holds (suc k) n fluents names (value ∷ values) named as_many long = long ∙ sym (as_many (omega arith))

pub values_kept : (k : ℕ) (names : List Name) (values : List (Option ℤ)) → list_all is_value values ≡ true → list_all is_value (filled_values names (pick k values)) ≡ true
values_kept zero names values h = none_kept names
values_kept (suc k) names [] h = none_kept names
values_kept (suc k) names (value ∷ values) h = h
