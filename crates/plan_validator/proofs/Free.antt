-- From when on actions may start again.
use Rattle.std.proofs.Common.{◌≡◌, refl, sym, ap, subst, ◌∙◌, ℕ, ◌+◌, ◌<◌, ◌≤◌, Bool, true, false, not, ◌&&◌, ◌||◌, ◌==◌, nat_le, List, [], ◌∷◌, ◌++◌, length, get_or, set, take, drop, replicate, max, arith, inl, inr, ◌⊎◌, IsTrue}
use Rattle.std.specs.List.{list_all}
use Rattle.std.proofs.lemmas.Bool.{and_parts, and_from, le-leb, lt-leb, eq-eqb, ne_eqb, cases_eq}
use Rattle.std.proofs.lemmas.Bool.Decides.{nat_tests}
use Rattle.std.proofs.lemmas.List.{get_or-set_same, get_or-set_other, get_or-replicate, length-replicate, length-set, take_more, take-append-drop, drop_more}
use Rattle.std.proofs.lemmas.List.Folds.{list_all-append}
use Rattle.tp_spec.specs.declared.plan.Timed.{Timed}
use Rattle.tp_spec.specs.Lists.{each_pair}
use Rattle.plan_validator.specs.declared.acts.Rule.{Rule}
use Rattle.plan_validator.specs.Acts.{reach, lets, keeps, AreFree}
use Rattle.plan_validator.specs.Verdicts.{IsFirstOut}
use Rattle.plan_validator.proofs.Lists.{pairs_push}

pub free_none : (rule : Rule) (n : ℕ) → AreFree rule [] (replicate n 0)
free_none rule n a t below =
    let inside : a < n = omega (arith, length-replicate {A = ℕ} n 0, below) in
    subst (λ m. true ≡ nat_le m t) (sym (get_or-replicate n a 0 0 inside)) (sym (le-leb 0 t (omega arith)))

max_test : (m n t : ℕ) → (nat_le m t && (nat_le n t && true)) ≡ nat_le (max m n) t
max_test m n t = grind (arith, nat_tests)

right_true : (b : Bool) → (b && true) ≡ b
right_true true = refl
right_true false = refl

pub free_more : (rule : Rule) (acts : List Timed) (free : List ℕ) (x : Timed) → x.action < length free → AreFree rule acts free
    → AreFree rule (acts ++ x ∷ []) (set free x.action (max (get_or free x.action 0) (reach rule x)))
free_more rule acts free x inside are a t below = list_all-append (lets rule a t) acts (x ∷ []) ∙ either (cases_eq a x.action) where
  new : List ℕ
  new = set free x.action (max (get_or free x.action 0) (reach rule x))

  here : a < length free
  here = omega (arith, length-set free x.action (max (get_or free x.action 0) (reach rule x)))

  either : (a ≡ x.action) ⊎ (a ≡ x.action → ⊥) → (list_all (lets rule a t) acts && (lets rule a t x && true)) ≡ nat_le (get_or new a 0) t
  either (inl e) =
      (λ k. are a t here k && ((not (eq-eqb x.action a (sym e) k) || nat_le (reach rule x) t) && true))
      ∙ max_test (get_or free a 0) (reach rule x) t
      ∙ subst (λ b. nat_le (max (get_or free b 0) (reach rule x)) t ≡ nat_le (get_or new b 0) t) (sym e) (ap (λ m. nat_le m t) (sym (get_or-set_same free x.action (max (get_or free x.action 0) (reach rule x)) 0 inside)))
  either (inr other) =
      (λ k. are a t here k && ((not (ne_eqb x.action a (λ e. other (sym e)) k) || nat_le (reach rule x) t) && true))
      ∙ right_true (nat_le (get_or free a 0) t)
      ∙ ap (λ m. nat_le m t) (sym (get_or-set_other free x.action a (max (get_or free x.action 0) (reach rule x)) 0 other))

-- an act that starts before its action is free is the first to break the rule
pub first_out_here : (rule : Rule) (acts : List Timed) (free : List ℕ) (i : ℕ) (x d : Timed) → i < length acts → x ≡ get_or acts i d → x.action < length free
    → IsTrue (each_pair (keeps rule) (take i acts)) → AreFree rule (take i acts) free → x.start < get_or free x.action 0
    → IsFirstOut (keeps rule) acts x.start x.action
first_out_here rule acts free i x d within is inside whole are early = record {
  act = x;
  before = take i acts;
  behind = drop (i + 1) acts;
  split = sym (take-append-drop i acts) ∙ ap (λ ys. take i acts ++ ys) (drop_more acts i d within ∙ ap (λ y. y ∷ drop (i + 1) acts) (sym is));
  starts = refl;
  names = refl;
  whole = whole;
  broken = ap not (are x.action x.start inside ∙ lt-leb (get_or free x.action 0) x.start early);
}

-- an act that starts when its action is free keeps the rule with all before it
pub kept_more : (rule : Rule) (acts : List Timed) (free : List ℕ) (i : ℕ) (x d : Timed) → i < length acts → x ≡ get_or acts i d → x.action < length free
    → IsTrue (each_pair (keeps rule) (take i acts)) → AreFree rule (take i acts) free → get_or free x.action 0 ≤ x.start
    → IsTrue (each_pair (keeps rule) (take (i + 1) acts))
kept_more rule acts free i x d within is inside whole are late =
    ap (each_pair (keeps rule)) (take_more acts i d within ∙ ap (λ y. take i acts ++ y ∷ []) (sym is))
    ∙ pairs_push (keeps rule) (take i acts) x
    ∙ and_from (each_pair (keeps rule) (take i acts)) (list_all (λ y. keeps rule y x) (take i acts)) whole (are x.action x.start inside ∙ le-leb (get_or free x.action 0) x.start late)

pub free_after : (rule : Rule) (acts : List Timed) (free : List ℕ) (i : ℕ) (x d : Timed) → i < length acts → x ≡ get_or acts i d → x.action < length free
    → AreFree rule (take i acts) free → AreFree rule (take (i + 1) acts) (set free x.action (max (get_or free x.action 0) (reach rule x)))
free_after rule acts free i x d within is inside are =
    subst (λ ys. AreFree rule ys (set free x.action (max (get_or free x.action 0) (reach rule x))))
    (sym (take_more acts i d within ∙ ap (λ y. take i acts ++ y ∷ []) (sym is)))
    (free_more rule (take i acts) free x inside are)
