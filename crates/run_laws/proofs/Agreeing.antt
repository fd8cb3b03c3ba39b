-- A dispatch takes away exactly the possible plans that disagree with it.
use Rattle.std.proofs.Common.{◌≡◌, refl, sym, ap, ◌∙◌, ℕ, ◌==◌, ◌⊎◌, inl, inr, nat_lt, nat_le, Bool, true, false, not, ◌&&◌, ◌||◌, List, [], ◌∷◌, ◌++◌, arith}
use Rattle.std.specs.List.{list_any, list_all}
use Rattle.std.proofs.lemmas.Bool.{and_parts, and_from, or_left, or_right, false≢true, eqb-true, eqb-false, eq-eqb, ne_eqb, ltb-true, ltb-false, le-leb, leb-true}
use Rattle.std.proofs.lemmas.List.Folds.{list_all-append, list_any-append}
use Rattle.tp_spec.specs.declared.event.Event.TheVariants.{Dispatch}
use Rattle.tp_spec.specs.declared.plan.Limits.{Limits}
use Rattle.tp_spec.specs.declared.plan.Plan.{Plan}
use Rattle.tp_spec.specs.declared.plan.Timed.{Timed}
use Rattle.tp_spec.specs.declared.problem.Problem.{Problem}
use Rattle.tp_spec.specs.Courses.{Possible, has_act, same_act}
use Rattle.tp_spec.specs.Lists.{IsIn, each_pair}
use Rattle.tp_spec.specs.Machine.{first, state_of}
use Rattle.run_laws.specs.Commitments.{DispatchKeeps, Agrees}
use Rattle.tp_laws.proofs.EarlyLists.{each-in, each-true, true-each}
use Rattle.tp_laws.proofs.ValidOfLists.{each-of}
use Rattle.run_laws.proofs.Dispatching.{IsNext, IsSame, same-act, is_later, all-push, due-next, possible-fewer}
use Rattle.run_laws.proofs.Runs.{legal-parts}

-- whether an act is a commitment, of another action than the act that is dispatched, or no earlier
abbrev is_behind : List Timed → Timed → Timed → Bool
is_behind commits act x = has_act commits x || not (x.action == act.action) || nat_le act.start x.start

equal-same : (x y : Timed) → x ≡ y → same_act x y ≡ true
equal-same x y e = and_from _ _ (and_from _ _ (eq-eqb x.action y.action (ap (λ z. z.action) e)) (eq-eqb x.start y.start (ap (λ z. z.start) e))) (eq-eqb x.length y.length (ap (λ z. z.length) e))

same-equal : (x y : Timed) → IsSame x y → x ≡ y
same-equal x y s i = record { action = s.action i; start = s.start i; length = s.length i }

in-any : (xs : List Timed) (x : Timed) → has_act xs x ≡ true → IsIn x xs
in-any [] x h = absurd (false≢true h)
in-any (y ∷ ys) x h = by_test (in-any ys x) (same_act x y) refl h where
  by_test : (list_any (same_act x) ys ≡ true → IsIn x ys) → (b : Bool) → same_act x y ≡ b → (b || list_any (same_act x) ys) ≡ true → (y ≡ x) ⊎ IsIn x ys
  by_test ih true e k = inl (sym (same-equal x y (same-act x y e)))
  by_test ih false e k = inr (ih k)

-- no action starts twice at a tick
differs : (x y : Timed) → x.action ≡ y.action → x.start ≡ y.start → not (x.action == y.action && x.start == y.start) ≡ true → ⊥
differs x y a s h = false≢true (sym (ap not (and_from _ _ (eq-eqb x.action y.action a) (eq-eqb x.start y.start s))) ∙ h)

only-one : (xs : List Timed) (x y : Timed) → each_pair (λ u v. not (u.action == v.action && u.start == v.start)) xs ≡ true → IsIn x xs → IsIn y xs → x.action ≡ y.action → x.start ≡ y.start → x ≡ y
only-one [] x y h i j a s = absurd i
only-one (z ∷ zs) x y h (inl e) (inl f) a s = sym e ∙ f
only-one (z ∷ zs) x y h (inl e) (inr j) a s = absurd (differs z y (ap (λ u. u.action) e ∙ a) (ap (λ u. u.start) e ∙ s) (each-in (λ v. not (z.action == v.action && z.start == v.start) ≡ true) zs y (each-true (λ v. not (z.action == v.action && z.start == v.start)) zs (and_parts _ _ h).0) j))
only-one (z ∷ zs) x y h (inr i) (inl f) a s = absurd (differs z x (ap (λ u. u.action) f ∙ sym a) (ap (λ u. u.start) f ∙ sym s) (each-in (λ v. not (z.action == v.action && z.start == v.start) ≡ true) zs x (each-true (λ v. not (z.action == v.action && z.start == v.start)) zs (and_parts _ _ h).0) i))
only-one (z ∷ zs) x y h (inr i) (inr j) a s = only-one zs x y (and_parts _ _ h).1 i j a s

-- the last of three tests
third : (a b c : Bool) → (a && (b && (c && true))) ≡ true → c ≡ true
third true true c h = (and_parts c true h).0
third true false c h = absurd (false≢true h)
third false b c h = absurd (false≢true h)

three : (a b c : Bool) → (a && b) ≡ true → c ≡ true → (a && (b && (c && true))) ≡ true
three true true c h k = and_from c true k refl
three true false c h k = absurd (false≢true h)
three false b c h k = absurd (false≢true h)

-- what is strictly behind the act is not before it
strict-behind : (act x : Timed) → (not (act.action == x.action) || nat_lt act.start x.start) ≡ true → (not (x.action == act.action) || nat_le act.start x.start) ≡ true
strict-behind act x h = by_test (act.action == x.action) refl h where
  by_test : (b : Bool) → (act.action == x.action) ≡ b → (not b || nat_lt act.start x.start) ≡ true → (not (x.action == act.action) || nat_le act.start x.start) ≡ true
  by_test true e k = or_right (not (x.action == act.action)) _ (le-leb act.start x.start (omega (arith, ltb-true act.start x.start k)))
  by_test false e k = or_left _ _ (ap not (ne_eqb x.action act.action (λ s. eqb-false act.action x.action e (sym s))))

-- what is not before the act starts with it or is strictly behind it
behind-strict : (act x : Timed) → (not (x.action == act.action) || nat_le act.start x.start) ≡ true → ((x.action ≡ act.action) × (x.start ≡ act.start)) ⊎ ((not (act.action == x.action) || nat_lt act.start x.start) ≡ true)
behind-strict act x h = by_tests (x.action == act.action) (nat_lt act.start x.start) refl refl h where
  by_tests : (b c : Bool) → (x.action == act.action) ≡ b → nat_lt act.start x.start ≡ c → (not b || nat_le act.start x.start) ≡ true → ((x.action ≡ act.action) × (x.start ≡ act.start)) ⊎ ((not (act.action == x.action) || nat_lt act.start x.start) ≡ true)
  by_tests false c e f k = inr (or_left _ _ (ap not (ne_eqb act.action x.action (λ s. eqb-false x.action act.action e (sym s)))))
  by_tests true true e f k = inr (or_right (not (act.action == x.action)) _ f)
  by_tests true false e f k = inl (eqb-true x.action act.action e, omega (arith, leb-true act.start x.start k, ltb-false act.start x.start f))

module _ (p : Problem) (l : Limits) (now : ℕ) (commits : List Timed) (act : Timed) where
  -- the tests of an act under one commitment more
  more-later : (x : Timed) → is_later now (commits ++ act ∷ []) x ≡ ((has_act commits x || (same_act x act || false)) || (nat_le now x.start && (list_all (λ c. not (c.action == x.action) || nat_lt c.start x.start) commits && ((not (act.action == x.action) || nat_lt act.start x.start) && true))))
  more-later x i = list_any-append (same_act x) commits (act ∷ []) i || (nat_le now x.start && list_all-append (λ c. not (c.action == x.action) || nat_lt c.start x.start) commits (act ∷ []) i)

  behind-one : (x : Timed) → is_later now (commits ++ act ∷ []) x ≡ true → is_behind commits act x ≡ true
  behind-one x h = by_tests (has_act commits x) (same_act x act) refl (sym (more-later x) ∙ h) where
    by_tests : (a b : Bool) → same_act x act ≡ b
        → ((a || (b || false)) || (nat_le now x.start && (list_all (λ c. not (c.action == x.action) || nat_lt c.start x.start) commits && ((not (act.action == x.action) || nat_lt act.start x.start) && true)))) ≡ true
        → (a || not (x.action == act.action) || nat_le act.start x.start) ≡ true
    by_tests true b e k = refl
    by_tests false true e k = let same : IsSame x act = same-act x act e in or_right (not (x.action == act.action)) _ (le-leb act.start x.start (omega (arith, same.start)))
    by_tests false false e k = strict-behind act x (third (nat_le now x.start) (list_all (λ c. not (c.action == x.action) || nat_lt c.start x.start) commits) (not (act.action == x.action) || nat_lt act.start x.start) k)

  later-one : (x : Timed) → (x.action ≡ act.action → x.start ≡ act.start → same_act x act ≡ true) → is_later now commits x ≡ true → is_behind commits act x ≡ true → is_later now (commits ++ act ∷ []) x ≡ true
  later-one x only h behind = more-later x ∙ by_test (has_act commits x) h behind where
    by_test : (a : Bool) → (a || (nat_le now x.start && list_all (λ c. not (c.action == x.action) || nat_lt c.start x.start) commits)) ≡ true
        → (a || not (x.action == act.action) || nat_le act.start x.start) ≡ true
        → ((a || (same_act x act || false)) || (nat_le now x.start && (list_all (λ c. not (c.action == x.action) || nat_lt c.start x.start) commits && ((not (act.action == x.action) || nat_lt act.start x.start) && true)))) ≡ true
    by_test true h k = refl
    by_test false h k = by_case (behind-strict act x k) where
      by_case : ((x.action ≡ act.action) × (x.start ≡ act.start)) ⊎ ((not (act.action == x.action) || nat_lt act.start x.start) ≡ true) → ((false || (same_act x act || false)) || (nat_le now x.start && (list_all (λ c. not (c.action == x.action) || nat_lt c.start x.start) commits && ((not (act.action == x.action) || nat_lt act.start x.start) && true)))) ≡ true
      by_case (inl s) = or_left (same_act x act || false) _ (or_left (same_act x act) false (only s.0 s.1))
      by_case (inr s) = or_right (same_act x act || false) _ (three (nat_le now x.start) (list_all (λ c. not (c.action == x.action) || nat_lt c.start x.start) commits) (not (act.action == x.action) || nat_lt act.start x.start) h s)

  pub agrees-if : IsNext p l now commits act → (plan : Plan) → Possible p l now (commits ++ act ∷ []) plan → Possible p l now commits plan × Agrees commits act plan
  agrees-if next plan h = (
    possible-fewer p l now commits act next plan h,
    record {
      there = (and_parts (has_act plan.acts act) true (and_parts (list_all (has_act plan.acts) commits) _ (sym (list_all-append (has_act plan.acts) commits (act ∷ [])) ∙ h.committed)).1).0;
      next = true-each (is_behind commits act) plan.acts (each-of (λ x. is_behind commits act x ≡ true) plan.acts (λ x i. behind-one x (each-in (λ y. is_later now (commits ++ act ∷ []) y ≡ true) plan.acts x (each-true (is_later now (commits ++ act ∷ [])) plan.acts h.later) i)));
    },
  )

  pub agrees-only : (plan : Plan) → Possible p l now commits plan → Agrees commits act plan → Possible p l now (commits ++ act ∷ []) plan
  agrees-only plan h agrees = record {
    valid = h.valid;
    committed = all-push (has_act plan.acts) commits act h.committed agrees.there;
    later = true-each (is_later now (commits ++ act ∷ [])) plan.acts (each-of (λ x. is_later now (commits ++ act ∷ []) x ≡ true) plan.acts one);
  }
    where
      one : (x : Timed) → IsIn x plan.acts → is_later now (commits ++ act ∷ []) x ≡ true
      one x i =
          later-one x (λ a s. equal-same x act (only-one plan.acts x act h.valid.once i (in-any plan.acts act agrees.there) a s))
          (each-in (λ y. is_later now commits y ≡ true) plan.acts x (each-true (is_later now commits) plan.acts h.later) i)
          (each-in (λ y. is_behind commits act y ≡ true) plan.acts x (each-true (is_behind commits act) plan.acts agrees.next) i)

pub dispatch-keeps : (p : Problem) (l : Limits) → DispatchKeeps p l
dispatch-keeps p l history act plan run =
    let due = (legal-parts p l first history (Dispatch act ∷ []) run.legal).1.0.due in (
      agrees-if p l (state_of l history).now (state_of l history).commits act (due-next p l (state_of l history) act due) plan,
      λ h. agrees-only p l (state_of l history).now (state_of l history).commits act plan h.0 h.1,
    )
