-- A start of a plan's word is the next of the plan's acts.
use Rattle.std.proofs.Common.{◌≡◌, refl, sym, ap, subst, ◌∙◌, ℕ, suc, ◌+◌, Bool, true, false, cond, List, [], ◌∷◌, ◌++◌, Some, None, ◌⊎◌, inl, inr, arith, append_assoc}
use Rattle.std.specs.Prelude.{◌==◌, ◌&&◌}
use Rattle.std.specs.List.{AllByRecursion as Each}
use Rattle.std.proofs.lemmas.Bool.{eqb-true, eq-eqb, and_parts}
use Rattle.tp_spec.specs.declared.plan.Item.TheVariants.{Start}
use Rattle.tp_spec.specs.declared.plan.Mark.{Mark}
use Rattle.tp_spec.specs.declared.plan.Timed.{Timed}
use Rattle.tp_spec.specs.declared.problem.Problem.{Problem}
use Rattle.tp_spec.specs.Lists.{IsIn}
use Rattle.tp_spec.specs.Items.{is_durative}
use Rattle.tp_spec.specs.Courses.{stands}
use Rattle.tp_spec.specs.Words.{acts_of}
use Rattle.tp_laws.proofs.EarlyLists.{each-map, each-in, each-push, in-right}
use Rattle.tp_laws.proofs.Members.{in-append}
use Rattle.tp_laws.proofs.PlanOfBeside.{Beside, beside-push, Pairs}
use Rattle.tp_laws.proofs.PlanOfOrders.{Plays, Ranged, Turn, Earlier, pairs-back, pairs-across}
use Rattle.tp_laws.proofs.PlanOfClocks.{Emits, ticks-more}
use Rattle.tp_laws.proofs.PlanOfPairs.{Passed, Ahead, Due, Closing, Pair, ends-kept, with_end}
use Rattle.tp_laws.proofs.PlanOfStages.{Stage, any-of, due-at}

-- the next act, which starts here
pub record Next (t a : ℕ) (rest : List Timed) : Type 0 where
  pub act : Timed
  pub more : List Timed
  pub is : rest ≡ act ∷ more
  pub named : act.action ≡ a
  pub here : act.start ≡ t

module _ (p : Problem) (acts : List Timed) (tick : ℕ → ℕ) (plays : Plays p acts) where
  next-start : (t a : ℕ) (done rest : List Timed) → acts ≡ done ++ rest → stands p acts t (Start a) ≡ true → Each (Passed t a) done → Each (Ahead t a) rest → Next t a rest
  next-start t a done rest whole on past ahead =
      let z = any-of (λ x. x.action == a && x.start == t) acts on in
      by_part z.0 (eqb-true z.0.action a (and_parts _ _ z.2).0) (eqb-true z.0.start t (and_parts _ _ z.2).1) (in-append z.0 done rest (subst (IsIn z.0) whole z.1))
    where
      not_past : (z : Timed) → z.action ≡ a → z.start ≡ t → Passed t a z → ⊥
      not_past z named here (inl b) = omega (arith, b, here)
      not_past z named here (inr b) = omega (arith, b.1, named)

      not_earlier : (y z : Timed) → z.action ≡ a → z.start ≡ t → Ahead t a y → Earlier y z → ⊥
      not_earlier y z named here (inl b) (inl c) = omega (arith, b, c, here)
      not_earlier y z named here (inl b) (inr c) = omega (arith, b, c.0, here)
      not_earlier y z named here (inr b) (inl c) = omega (arith, b.0, c, here)
      not_earlier y z named here (inr b) (inr c) = omega (arith, b.1, c.1, named)

      sorted : Pairs Earlier rest
      sorted = pairs-back Earlier done rest (subst (Pairs Earlier) whole plays.sorted)

      at_first : (z : Timed) → z.action ≡ a → z.start ≡ t → (xs : List Timed) → Pairs Earlier xs → Each (Ahead t a) xs → IsIn z xs → Next t a xs
      at_first z named here [] s h i = absurd i
      at_first z named here (y ∷ ys) s h (inl e) = record { act = y; more = ys; is = refl; named = ap (λ x. x.action) e ∙ named; here = ap (λ x. x.start) e ∙ here }
      at_first z named here (y ∷ ys) s h (inr i) = absurd (not_earlier y z named here h.0 (each-in (Earlier y) ys z s.0 i))

      by_part : (z : Timed) → z.action ≡ a → z.start ≡ t → IsIn z done ⊎ IsIn z rest → Next t a rest
      by_part z named here (inl i) = absurd (not_past z named here (each-in (Passed t a) done z past i))
      by_part z named here (inr i) = at_first z named here rest sorted ahead i

  -- the act that starts, beside its act in the word
  new-pair : (ends : ℕ → ℕ) (t a g : ℕ) (y : Timed) → Ranged p y → y.action ≡ a → y.start ≡ t → tick g ≡ t
      → Pair p tick (with_end p tick a (y.start + y.length) ends) (suc t) 0 (record { action = a; opens = g; closes = cond (is_durative p a) None (Some g) }) y
  new-pair ends t a g y r named here at = record {
    named = sym named;
    opens = at ∙ sym here;
    closes = by_kind (is_durative p a) refl;
  }
    where
      by_kind : (b : Bool) → is_durative p a ≡ b → Closing p tick (with_end p tick a (y.start + y.length) ends) (suc t) 0 y (cond b None (Some g))
      by_kind true d =
          let durative : is_durative p y.action ≡ true = ap (is_durative p) named ∙ d in
          record {
            durative = durative;
            till = ap (λ b. cond b (y.start + y.length) (ends y.action)) (eq-eqb a y.action (sym named));
            due = due-at (suc t) y (omega (arith, here, r.long durative));
          }
      by_kind false d = omega (arith, at, here, r.at_once (ap (is_durative p) named ∙ d))

  -- a start at a place
  pub start-emit : (t a g : ℕ) (u v : List Mark) → stands p acts t (Start a) ≡ true → Emits p u v (Start a) g → tick g ≡ t → Stage p acts tick (suc t) 0 t a u → Stage p acts tick (suc t) 0 t (suc a) v
  start-emit t a g u v on e at s =
      let n : Next t a s.rest = next-start t a s.done s.rest s.whole on s.passed s.ahead in
      let split : acts ≡ s.done ++ n.act ∷ n.more = s.whole ∙ ap (λ ys. s.done ++ ys) n.is in
      let there : IsIn n.act acts = subst (IsIn n.act) (sym split) (in-right n.act s.done (n.act ∷ n.more) (inl refl)) in
      let till : ℕ = n.act.start + n.act.length in
      let before : Each (λ z. Turn z n.act) s.done = pairs-across Turn s.done n.act n.more (subst (Pairs Turn) split plays.turns) in
      let sorted : Pairs Earlier (n.act ∷ n.more) = pairs-back Earlier s.done (n.act ∷ n.more) (subst (Pairs Earlier) split plays.sorted) in
      record {
        done = s.done ++ n.act ∷ [];
        rest = n.more;
        ends = with_end p tick a till s.ends;
        whole = split ∙ sym (append_assoc s.done (n.act ∷ []) n.more);
        beside = subst (λ xs. Beside (Pair p tick (with_end p tick a till s.ends) (suc t) 0) xs (s.done ++ n.act ∷ [])) (sym e.acts)
            (beside-push (Pair p tick (with_end p tick a till s.ends) (suc t) 0) (acts_of p u) s.done _ n.act
            (ends-kept p tick s.ends a till (suc t) 0 (acts_of p u) s.done (each-map (λ z. Turn z n.act) (λ z. z.action ≡ a → Due (suc t) 0 z → ⊥) s.done (not_running n.act n.named n.here) before) s.beside)
            (new-pair s.ends t a g n.act (each-in (Ranged p) acts n.act plays.ranged there) n.named n.here at));
        passed = each-push (Passed t (suc a)) s.done n.act (each-map (Passed t a) (Passed t (suc a)) s.done wider s.passed) (inr (n.here, omega (arith, n.named)));
        ahead = each-map (Earlier n.act) (Ahead t (suc a)) n.more (behind n.act n.named n.here) sorted.0;
        order = s.order;
        ticks = ticks-more p tick u v (Start a) g t e (omega (arith, at)) s.ticks;
      }
    where
      wider : (y : Timed) → Passed t a y → Passed t (suc a) y
      wider y (inl b) = inl b
      wider y (inr b) = inr (b.0, omega (arith, b.1))

      behind : (x : Timed) → x.action ≡ a → x.start ≡ t → (y : Timed) → Earlier x y → Ahead t (suc a) y
      behind x named here y (inl b) = inl (omega (arith, here, b))
      behind x named here y (inr b) = inr (sym here ∙ b.0, omega (arith, named, b.1))

      not_running : (x : Timed) → x.action ≡ a → x.start ≡ t → (z : Timed) → Turn z x → z.action ≡ a → Due (suc t) 0 z → ⊥
      not_running x named here z turn own (inl b) = omega (arith, b, here, turn (own ∙ sym named))
      not_running x named here z turn own (inr b) = omega (arith, b.0, here, turn (own ∙ sym named))
