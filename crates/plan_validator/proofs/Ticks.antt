-- What is found at one tick.
use Rattle.std.proofs.Common.{◌≡◌, refl, sym, ap, subst, ◌∙◌, ℕ, zero, suc, ◌+◌, ◌<◌, ◌≤◌, Bool, true, false, not, ◌&&◌, ◌||◌, ◌==◌, nat_lt, nat_le, List, [], ◌∷◌, ◌++◌, map, cond, length, min, take, drop, ◌-◌, get_or, arith, inl, inr, ◌⊎◌, IsTrue, Option, Some, None, IfSome, Bor, is_some, slice_get}
use Rattle.std.specs.Prelude.{MatchOption, IsSome, ℤ, if◌then◌else◌}
use Rattle.std.specs.List.{list_any, list_all, find}
use Rattle.std.specs.Option.{option_and_then, option_map, option_or}
use Rattle.std.proofs.lemmas.Bool.{and_parts, and_from, or_cases, or_from, or_parts, false≢true, true≢false, ltb-true, lt-ltb, eqb-true, eq-eqb, cases_Bool, cases_lt, not-true, not-false, false_from_ne_true, ne_eqb}
use Rattle.std.proofs.lemmas.List.{take_more, take_all}
use Rattle.std.proofs.lemmas.List.Folds.{list_any-append, find-append}
use Rattle.std.proofs.lemmas.Option.{slice_get_read}
use Rattle.tp_spec.specs.declared.plan.Item.{Item}
use Rattle.tp_spec.specs.declared.plan.Timed.{Timed}
use Rattle.tp_spec.specs.declared.problem.Action.{Action}
use Rattle.tp_spec.specs.declared.problem.Effect.{Effect}
use Rattle.tp_spec.specs.declared.problem.Effect.TheVariants.{Add, Delete, Change}
use Rattle.tp_spec.specs.declared.problem.Problem.{Problem}
use Rattle.tp_spec.specs.WellFormed.{Ground, IsWellFormed}
use Rattle.tp_spec.specs.Lists.{each_pair, some_and}
use Rattle.tp_spec.specs.States.{State, holds}
use Rattle.tp_spec.specs.Items.{own, invariants, effects_of, next, changed, fits, fits_new, has_after, after}
use Rattle.tp_spec.specs.Interference.{interfere}
use Rattle.tp_spec.specs.Courses.{happening, runs_at, keeps_invariants, state_before, state_after, Passes}
use Rattle.world_state.specs.Exact.{is_shallow}
use Rattle.world_state.proofs.Problems.{action_inside, conds_shallow}
use Rattle.plan_validator.specs.Verdicts.{pairs, is_broken_in, IsUnmet, IsOverflow, IsBroken}
use Rattle.plan_validator.specs.Course.{is_act_broken, lesser, IsFirstBroken, IsFirstOver}
use Rattle.plan_validator.proofs.Lists.{find-none}

-- an action that is found has shallow invariants
pub found_shallow : (p : Ground) → IsWellFormed p → (xs : List Action) (i : ℕ) (o : Option (Bor Action)) → xs ≡ p.actions
    → is_some o ≡ nat_lt i (length xs) → IfSome o (λ a. a.now ≡ get_or xs i a.now) → IfSome o (λ a. IsTrue (list_all is_shallow a.now.all_conds))
found_shallow p formed xs i None of some read = tt
found_shallow p formed xs i (Some a) of some read =
    let below : i < length xs = ltb-true i (length xs) (sym some) in
    let got : slice_get p.actions i ≡ Some a.now = ap (λ ys. slice_get ys i) (sym of) ∙ slice_get_read xs (length xs) i a.now refl below read in
    conds_shallow (length p.facts) (length p.fluents) a.now.all_conds (action_inside p formed i a.now got).all_conds

-- pairs by their first member
find_map : {A B : Type 0} (test : B → Bool) (f : A → B) (xs : List A) → find test (map f xs) ≡ option_map f (find (λ x. test (f x)) xs)
find_map test f [] = refl
find_map test f (x ∷ xs) = by_test (test (f x)) (find_map test f xs) where
  by_test : (b : Bool) → find test (map f xs) ≡ option_map f (find (λ y. test (f y)) xs) → cond b (Some (f x)) (find test (map f xs)) ≡ option_map f (cond b (Some x) (find (λ y. test (f y)) xs))
  by_test true rest = refl
  by_test false rest = rest

module _ (p : Problem) where
  abbrev pub clash_in : List Item → Option (Item × Item)
  clash_in xs = find (λ x. interfere p x.0 x.1) (pairs xs)

  pub clash_split : (i : Item) (is : List Item) → clash_in (i ∷ is) ≡ option_or (option_map (λ j. (i, j)) (find (λ j. interfere p i j) is)) (clash_in is)
  clash_split i is = find-append (λ x. interfere p x.0 x.1) (map (λ j. (i, j)) is) (pairs is) ∙ ap (λ o. option_or o (clash_in is)) (find_map (λ x. interfere p x.0 x.1) (λ j. (i, j)) is)

  pub clash_here : (i j : Item) (is : List Item) → Some j ≡ find (λ x. interfere p i x) is → Some (i, j) ≡ clash_in (i ∷ is)
  clash_here i j is e = (λ k. option_or (option_map (λ j. (i, j)) (e k)) (clash_in is)) ∙ sym (clash_split i is)

  pub clash_later : (i : Item) (is : List Item) → None ≡ find (λ x. interfere p i x) is → clash_in is ≡ clash_in (i ∷ is)
  clash_later i is e = (λ k. option_or (option_map (λ j. (i, j)) (e k)) (clash_in is)) ∙ sym (clash_split i is)

-- no first pair that interferes: all are apart
none_found : {A : Type 0} (test : A → Bool) (xs : List A) → find test xs ≡ None → list_all (λ x. not (test x)) xs ≡ true
none_found test [] h = refl
none_found {A} test (x ∷ xs) h = by_test (none_found test xs) (test x) h where
  by_test : (find test xs ≡ None → list_all (λ y. not (test y)) xs ≡ true) → (b : Bool) → cond b (Some x) (find test xs) ≡ None → (not b && list_all (λ y. not (test y)) xs) ≡ true
  by_test rest true h = cc
  by_test rest false h = rest h

split_or : {A : Type 0} (o q : Option A) → option_or o q ≡ None → (o ≡ None) × (q ≡ None)
split_or None q h = (refl, h)
split_or (Some x) q h = cc

unmap : {A B : Type 0} (f : A → B) (o : Option A) → option_map f o ≡ None → o ≡ None
unmap f None h = refl
unmap f (Some x) h = cc

pub all_apart : (p : Problem) (xs : List Item) → clash_in p xs ≡ None → each_pair (λ i j. not (interfere p i j)) xs ≡ true
all_apart p [] h = refl
all_apart p (i ∷ is) h =
    let parts = split_or (option_map (λ j. (i, j)) (find (λ j. interfere p i j) is)) (clash_in p is) (sym (clash_split p i is) ∙ h) in
    and_from (list_all (λ j. not (interfere p i j)) is) (each_pair (λ i j. not (interfere p i j)) is)
    (none_found (λ j. interfere p i j) is (unmap (λ j. (i, j)) (find (λ j. interfere p i j) is) parts.0)) (all_apart p is parts.1)

-- where each new value fits there is a state after
all_fit : (s : State) (es fs : List Effect) → ((x : ℕ) → fits (changed s x es) ≡ true) → list_all (fits_new (next s es)) fs ≡ true
all_fit s es [] each = refl
all_fit s es (Add f ∷ fs) each = all_fit s es fs each
all_fit s es (Delete f ∷ fs) each = all_fit s es fs each
all_fit s es (Change how x e ∷ fs) each = and_from (fits (changed s x es)) (list_all (fits_new (next s es)) fs) (each x) (all_fit s es fs each)

pub not_over : (p : Problem) (s : State) (items : List Item) → after p s items ≡ None → ((x : ℕ) → fits (changed s x (effects_of p items)) ≡ true) → ⊥
not_over p s items none each =
    let there : has_after p s items ≡ true = all_fit s (effects_of p items) (effects_of p items) each in
    some_none (sym (ap (λ b. if b then Some (next s (effects_of p items)) else None) there) ∙ none)
  where
    some_none : {A : Type 0} {x : A} → ◌≡◌ {A = Option A} (Some x) None → ⊥
    some_none e = true≢false (ap is_some e)

-- the act by which an action is broken
act_breaks : (p : Problem) (t : ℕ) (s : State) (x : Timed) (a : ℕ) → Bool
act_breaks p t s x a = x.action == a && is_act_broken p t s x

either_way : (p : Problem) (acts : List Timed) (t : ℕ) (s : State) (x : Timed) (a : ℕ) → is_broken_in p (acts ++ x ∷ []) t s a ≡ (is_broken_in p acts t s a || (x.action == a && is_act_broken p t s x))
either_way p acts t s x a =
    ap (λ b. b && not (list_all (holds s) (invariants p a))) (list_any-append (λ y. y.action == a && runs_at t y) acts (x ∷ []))
    ∙ by_action (cases_Bool (x.action == a))
  where
    shared : (b r v : Bool) → ((b || ((true && r) || false)) && v) ≡ ((b && v) || (true && (r && v)))
    shared true true true = refl
    shared true true false = refl
    shared true false true = refl
    shared true false false = refl
    shared false true true = refl
    shared false true false = refl
    shared false false true = refl
    shared false false false = refl

    other : (b r v w : Bool) → ((b || ((false && r) || false)) && v) ≡ ((b && v) || (false && w))
    other true r true w = refl
    other true r false w = refl
    other false r true w = refl
    other false r false w = refl

    before : Bool
    before = list_any (λ y. y.action == a && runs_at t y) acts

    by_action : ((x.action == a) ≡ true) ⊎ ((x.action == a) ≡ false)
        → ((list_any (λ y. y.action == a && runs_at t y) acts || ((x.action == a && runs_at t x) || false)) && not (list_all (holds s) (invariants p a))) ≡ (is_broken_in p acts t s a || (x.action == a && is_act_broken p t s x))
    by_action (inl e) =
        (λ k. (list_any (λ y. y.action == a && runs_at t y) acts || ((e k && runs_at t x) || false)) && not (list_all (holds s) (invariants p a)))
        ∙ shared (list_any (λ y. y.action == a && runs_at t y) acts) (runs_at t x) (not (list_all (holds s) (invariants p a)))
        ∙ (λ k. is_broken_in p acts t s a || (sym e k && (runs_at t x && not (list_all (holds s) (invariants p (sym (eqb-true x.action a e) k))))))
    by_action (inr e) =
        (λ k. (list_any (λ y. y.action == a && runs_at t y) acts || ((e k && runs_at t x) || false)) && not (list_all (holds s) (invariants p a)))
        ∙ other (list_any (λ y. y.action == a && runs_at t y) acts) (runs_at t x) (not (list_all (holds s) (invariants p a))) (is_act_broken p t s x)
        ∙ (λ k. is_broken_in p acts t s a || (sym e k && is_act_broken p t s x))

-- the first action that is broken, or none, among some acts
abbrev pub IsLeast : Problem → List Timed → ℕ → State → Option ℕ → Type 0
IsLeast p acts t s o = MatchOption o ((a : ℕ) → is_broken_in p acts t s a ≡ false) (IsFirstBroken p acts t s)

or_right_false : (b c : Bool) → c ≡ false → (b || c) ≡ b
or_right_false true c e = refl
or_right_false false c e = e

and_false : (b c : Bool) → c ≡ false → (b && c) ≡ false
and_false true c e = e
and_false false c e = refl

-- an act that breaks nothing
same_broken : (p : Problem) (acts : List Timed) (t : ℕ) (s : State) (x : Timed) → is_act_broken p t s x ≡ false → (a : ℕ) → is_broken_in p (acts ++ x ∷ []) t s a ≡ is_broken_in p acts t s a
same_broken p acts t s x fine a = either_way p acts t s x a ∙ or_right_false (is_broken_in p acts t s a) (x.action == a && is_act_broken p t s x) (and_false (x.action == a) (is_act_broken p t s x) fine)

least_same : (p : Problem) (acts : List Timed) (t : ℕ) (s : State) (x : Timed) (o : Option ℕ) → is_act_broken p t s x ≡ false → IsLeast p acts t s o → IsLeast p (acts ++ x ∷ []) t s o
least_same p acts t s x None fine h = λ a. same_broken p acts t s x fine a ∙ h a
least_same p acts t s x (Some f) fine h = record {
  broken = same_broken p acts t s x fine f ∙ h.broken;
  first = λ a less. same_broken p acts t s x fine a ∙ h.first a less;
}

or_true : (b c : Bool) → c ≡ true → (b || c) ≡ true
or_true true c e = refl
or_true false c e = e

or_left_true : (b c : Bool) → b ≡ true → (b || c) ≡ true
or_left_true true c e = refl
or_left_true false c e = absurd (false≢true e)

-- an act that breaks an invariant
its_own : (p : Problem) (acts : List Timed) (t : ℕ) (s : State) (x : Timed) → is_act_broken p t s x ≡ true → is_broken_in p (acts ++ x ∷ []) t s x.action ≡ true
its_own p acts t s x bad = either_way p acts t s x x.action ∙ or_true (is_broken_in p acts t s x.action) (x.action == x.action && is_act_broken p t s x) (and_from (x.action == x.action) (is_act_broken p t s x) (eq-eqb x.action x.action refl) bad)

lower_fine : (p : Problem) (acts : List Timed) (t : ℕ) (s : State) (x : Timed) (a : ℕ) → a < x.action → is_broken_in p acts t s a ≡ false → is_broken_in p (acts ++ x ∷ []) t s a ≡ false
lower_fine p acts t s x a less fine =
    either_way p acts t s x a ∙ or_from (is_broken_in p acts t s a) (x.action == a && is_act_broken p t s x) fine
    (ap (λ b. b && is_act_broken p t s x) (ne_eqb x.action a (λ e. omega (arith, e, less))))

least_lower : (p : Problem) (acts : List Timed) (t : ℕ) (s : State) (x : Timed) (o : Option ℕ) → is_act_broken p t s x ≡ true → IsLeast p acts t s o → IsFirstBroken p (acts ++ x ∷ []) t s (lesser o x.action)
least_lower p acts t s x None bad h = record {
  broken = its_own p acts t s x bad;
  first = λ a less. lower_fine p acts t s x a less (h a);
}
least_lower p acts t s x (Some f) bad h = either (cases_lt f x.action) where
  either : (f < x.action) ⊎ (x.action ≤ f) → IsFirstBroken p (acts ++ x ∷ []) t s (min f x.action)
  either (inl less) =
      let is : f ≡ min f x.action = omega (arith, less) in
      subst (λ m. IsFirstBroken p (acts ++ x ∷ []) t s m) is (record {
        broken = either_way p acts t s x f ∙ or_left_true (is_broken_in p acts t s f) (x.action == f && is_act_broken p t s x) h.broken;
        first = λ a below. lower_fine p acts t s x a (omega (arith, below, less)) (h.first a below);
      })
  either (inr le) =
      let is : x.action ≡ min f x.action = omega (arith, le) in
      subst (λ m. IsFirstBroken p (acts ++ x ∷ []) t s m) is (record {
        broken = its_own p acts t s x bad;
        first = λ a below. lower_fine p acts t s x a below (h.first a (omega (arith, below, le)));
      })

-- one more act of a list
pub least_kept : (p : Problem) (acts : List Timed) (t : ℕ) (s : State) (i : ℕ) (d : Timed) (o : Option ℕ) → i < length acts
    → is_act_broken p t s (get_or acts i d) ≡ false → IsLeast p (take i acts) t s o → IsLeast p (take (i + 1) acts) t s o
least_kept p acts t s i d o inside fine h =
    subst (λ xs. IsLeast p xs t s o) (sym (take_more acts i d inside)) (least_same p (take i acts) t s (get_or acts i d) o fine h)

pub least_more : (p : Problem) (acts : List Timed) (t : ℕ) (s : State) (i : ℕ) (d : Timed) (o : Option ℕ) → i < length acts
    → is_act_broken p t s (get_or acts i d) ≡ true → IsLeast p (take i acts) t s o → IsFirstBroken p (take (i + 1) acts) t s (lesser o (get_or acts i d).action)
least_more p acts t s i d o inside bad h =
    subst (λ xs. IsFirstBroken p xs t s (lesser o (get_or acts i d).action)) (sym (take_more acts i d inside)) (least_lower p (take i acts) t s (get_or acts i d) o bad h)

-- where no action is broken, the invariants of all that runs hold
none_broken : (p : Problem) (t : ℕ) (s : State) (acts : List Timed) → ((a : ℕ) → is_broken_in p acts t s a ≡ false) → keeps_invariants p acts t s ≡ true
none_broken p t s [] each = refl
none_broken p t s (x ∷ xs) each =
    and_from (not (runs_at t x) || list_all (holds s) (invariants p x.action)) (keeps_invariants p xs t s)
    (here (x.action == x.action) (runs_at t x) (list_any (λ y. y.action == x.action && runs_at t y) xs) (list_all (holds s) (invariants p x.action)) (eq-eqb x.action x.action refl) (each x.action))
    (none_broken p t s xs (λ a. rest (x.action == a && runs_at t x) (list_any (λ y. y.action == a && runs_at t y) xs) (not (list_all (holds s) (invariants p a))) (each a)))
  where
    here : (e r l v : Bool) → e ≡ true → (((e && r) || l) && not v) ≡ false → (not r || v) ≡ true
    here true true l true f h = refl
    here true true l false f h = absurd (true≢false h)
    here true false l v f h = refl
    here false r l v f h = absurd (false≢true f)

    rest : (b l v : Bool) → ((b || l) && v) ≡ false → (l && v) ≡ false
    rest true true v h = h
    rest true false v h = refl
    rest false l v h = h

-- what a whole tick is, from the state before it
pub passes_from : (p : Problem) (acts : List Timed) (t : ℕ) (s n : State) → state_before p acts t ≡ Some s → clash_in p (happening p acts t) ≡ None
    → list_all (own p s) (happening p acts t) ≡ true → after p s (happening p acts t) ≡ Some n → ((a : ℕ) → is_broken_in p acts t n a ≡ false)
    → Passes p acts t
passes_from p acts t s n before apart met leads each =
    let there : state_after p acts t ≡ Some n = ap (option_and_then (λ s. after p s (happening p acts t))) before ∙ leads in
    record {
      apart = all_apart p (happening p acts t) apart;
      met = subst (λ o. some_and o (λ s. list_all (own p s) (happening p acts t)) ≡ true) (sym before) met;
      exists = subst IsSome (sym there) refl;
      kept = subst (λ o. some_and o (keeps_invariants p acts t) ≡ true) (sym there) (none_broken p t n acts each);
    }

-- a list that is matched by its first member and the rest
rest_is : {A : Type 0} (xs : List A) (d : A) → 1 ≤ length xs → xs ≡ get_or xs 0 d ∷ take (length xs - 1) (drop 1 xs)
rest_is [] d h = absurd (omega (arith, h))
rest_is (x ∷ xs) d h = ap (λ ys. x ∷ ys) (sym (take_all (length (x ∷ xs) - 1) xs (omega arith)))

pub clash_found : (p : Problem) (rest : List Item) (d j : Item) → 1 ≤ length rest → Some j ≡ find (λ x. interfere p (get_or rest 0 d) x) (take (length rest - 1) (drop 1 rest))
    → Some (get_or rest 0 d, j) ≡ clash_in p rest
clash_found p rest d j h e = clash_here p (get_or rest 0 d) j (take (length rest - 1) (drop 1 rest)) e ∙ ap (clash_in p) (sym (rest_is rest d h))

pub clash_behind : (p : Problem) (rest : List Item) (d : Item) → 1 ≤ length rest → None ≡ find (λ x. interfere p (get_or rest 0 d) x) (take (length rest - 1) (drop 1 rest))
    → clash_in p (take (length rest - 1) (drop 1 rest)) ≡ clash_in p rest
clash_behind p rest d h e = clash_later p (get_or rest 0 d) (take (length rest - 1) (drop 1 rest)) e ∙ ap (clash_in p) (sym (rest_is rest d h))

-- what is found at a happening, by what its items are
module _ (p : Problem) (acts : List Timed) (t : ℕ) (s : State) (here : List Item) (are : here ≡ happening p acts t) (before : state_before p acts t ≡ Some s) (apart : clash_in p here ≡ None) where
  apart_here : IsTrue (each_pair (λ i j. not (interfere p i j)) (happening p acts t))
  apart_here = all_apart p (happening p acts t) (ap (clash_in p) (sym are) ∙ apart)

  pub unmet_at : (item : Item) → find (λ i. not (own p s i)) here ≡ Some item → IsUnmet p acts t item
  unmet_at item first = record { apart = apart_here; state = s; before = before; first = ap (find (λ i. not (own p s i))) (sym are) ∙ first }

  met_here : find (λ i. not (own p s i)) here ≡ None → IsTrue (list_all (own p s) (happening p acts t))
  met_here none = find-none (own p s) (happening p acts t) (ap (find (λ i. not (own p s i))) (sym are) ∙ none)

  pub over_at : (x : ℕ) → find (λ i. not (own p s i)) here ≡ None → after p s here ≡ None → IsFirstOver p s here x → IsOverflow p acts t x
  over_at x none full over =
      let over : IsFirstOver p s (happening p acts t) x = subst (λ xs. IsFirstOver p s xs x) are over in
      record { apart = apart_here; state = s; before = before; met = met_here none; none = ap (option_and_then (λ s. after p s (happening p acts t))) before ∙ ap (after p s) (sym are) ∙ full; wide = ap not over.wide; first = over.first }

  leads_here : (n : State) → after p s here ≡ Some n → after p s (happening p acts t) ≡ Some n
  leads_here n leads = ap (after p s) (sym are) ∙ leads

  pub leads_to : (n : State) → after p s here ≡ Some n → state_after p acts t ≡ Some n
  leads_to n leads = ap (option_and_then (λ s. after p s (happening p acts t))) before ∙ leads_here n leads

  pub broken_at : (a : ℕ) (n : State) → find (λ i. not (own p s i)) here ≡ None → after p s here ≡ Some n → IsFirstBroken p acts t n a → IsBroken p acts t a
  broken_at a n none leads broken = record {
    apart = apart_here;
    state = s;
    before = before;
    met = met_here none;
    next = n;
    behind = leads_to n leads;
    broken = broken.broken;
    first = λ b less. ap not (broken.first b less);
  }

  pub passed_at : (n : State) → find (λ i. not (own p s i)) here ≡ None → after p s here ≡ Some n → ((a : ℕ) → is_broken_in p acts t n a ≡ false) → Passes p acts t
  passed_at n none leads each = passes_from p acts t s n before (ap (clash_in p) (sym are) ∙ apart) (met_here none) (leads_here n leads) each
