-- Rows of the actions that may start as far as their first wanted facts tell.
use Rattle.std.proofs.Common.{◌≡◌, refl, sym, ap, ◌∙◌, subst, ℕ, zero, suc, ◌+◌, ◌*◌, ◌<◌, ◌≤◌, Bool, true, false, not, ◌&&◌, ◌||◌, List, [], ◌∷◌, length, Option, Some, None, slice_get, slice_index, if◌then◌else◌, nat_lt, arith, ◌⊎◌, inl, inr}
use Rattle.std.specs.Prelude.{◌==◌}
use Rattle.std.specs.List.{list_all}
use Rattle.std.proofs.Math.ListN.{set}
use Rattle.std.proofs.lemmas.List.{length-set}
use Rattle.std.proofs.lemmas.Option.{slice_get_within}
use Rattle.std.specs.Int.{bit_at, div_ceil}
use Rattle.std.specs.Prelude.{bit_xor}
use Rattle.std.proofs.lemmas.Bool.{and_parts, false≢true, cases_lt, lt-ltb, ltb-true, le-ltb, eqb-true, eq-eqb, ne_eqb}
use Rattle.tp_spec.specs.declared.problem.Cond.{Cond}
use Rattle.tp_spec.specs.declared.problem.Cond.TheVariants.{Lit, Compare}
use Rattle.tp_spec.specs.declared.problem.Problem.{Problem}
use Rattle.tp_spec.specs.declared.plan.Item.TheVariants.{Start}
use Rattle.tp_spec.specs.States.{State, holds}
use Rattle.tp_spec.specs.Items.{conditions, own, effects, is_defined}
use Rattle.world_state.specs.declared.rows.BitRow.{BitRow}
use Rattle.world_state.specs.Rows.{has_bit, has_place, is_in_row, width, words_for}
use Rattle.world_state.proofs.RowSets.{place_below}
use Rattle.node_state.proofs.Bits.{unchanged}
use Rattle.node_state.specs.Candidates.{wanted_by, or_else, first_wanted, want_of, is_fact, wants, granted, candidate, with_fact, mixed, IsCandidateRow, IsCandidateRowBelow, AreWantsBelow}

some-same : (g f : ℕ) → ◌≡◌ {A = Option ℕ} (Some g) (Some f) → g ≡ f
some-same g f e = cc

none-some : (f : ℕ) → ◌≡◌ {A = Option ℕ} None (Some f) → ⊥
none-some f e = absurd cc

if-some : (b : Bool) (g f : ℕ) → ◌≡◌ {A = Option ℕ} (if b then Some g else None) (Some f) → (b ≡ true) × (g ≡ f)
if-some true g f e = (refl, some-same g f e)
if-some false g f e = absurd (none-some f e)

wanted-below : (n : ℕ) (c : Cond) (f : ℕ) → wanted_by n c ≡ Some f → f < n
wanted-below n (Lit g true) f e =
    let parts = if-some (nat_lt g n) g f e in
    subst (λ (k : ℕ). k < n) parts.1 (ltb-true g n parts.0)
wanted-below n (Lit g false) f e = absurd (none-some f e)
wanted-below n (Compare op left right) f e = absurd (none-some f e)

first-below : (n : ℕ) (cs : List Cond) (f : ℕ) → first_wanted n cs ≡ Some f → f < n
first-below n [] f e = absurd (none-some f e)
first-below n (c ∷ cs) f e = by_want (wanted_by n c) refl (first-below n cs f) e
  where
    by_want : (o : Option ℕ) → wanted_by n c ≡ o → (first_wanted n cs ≡ Some f → f < n) → or_else o (first_wanted n cs) ≡ Some f → f < n
    by_want (Some g) is rest e = wanted-below n c f (is ∙ e)
    by_want None is rest e = rest e

wanted-held : (n : ℕ) (s : State) (c : Cond) (f : ℕ) → wanted_by n c ≡ Some f → holds s c ≡ true → s.fact f ≡ true
wanted-held n s (Lit g true) f e h = subst (λ (k : ℕ). s.fact k ≡ true) (if-some (nat_lt g n) g f e).1 h
wanted-held n s (Lit g false) f e h = absurd (none-some f e)
wanted-held n s (Compare op left right) f e h = absurd (none-some f e)

first-held : (n : ℕ) (s : State) (cs : List Cond) → list_all (holds s) cs ≡ true → granted s.fact (first_wanted n cs) ≡ true
first-held n s [] h = refl
first-held n s (c ∷ cs) h = by_want (wanted_by n c) refl (first-held n s cs (and_parts (holds s c) (list_all (holds s) cs) h).1)
  where
    by_want : (o : Option ℕ) → wanted_by n c ≡ o → granted s.fact (first_wanted n cs) ≡ true → granted s.fact (or_else o (first_wanted n cs)) ≡ true
    by_want (Some g) is rest = wanted-held n s c g is (and_parts (holds s c) (list_all (holds s) cs) h).0
    by_want None is rest = rest

-- an action that may start is a candidate
pub own-candidate : (p : Problem) (s : State) (a : ℕ) → nat_lt a (length p.actions) ≡ true → own p s (Start a) ≡ true → candidate p s.fact a ≡ true
own-candidate p s a below h =
    ap (λ b. b && granted s.fact (want_of p a)) below
    ∙ first-held (length p.facts) s (conditions p (Start a)) (and_parts (list_all (holds s) (conditions p (Start a))) (list_all (is_defined s) (effects p (Start a))) h).0

granted-same : (p : Problem) (facts facts' : ℕ → Bool) → ((f : ℕ) → f < length p.facts → facts f ≡ facts' f) → (a : ℕ) (o : Option ℕ) → want_of p a ≡ o → granted facts o ≡ granted facts' o
granted-same p facts facts' same a None e = refl
granted-same p facts facts' same a (Some f) e = same f (first-below (length p.facts) (conditions p (Start a)) f e)

-- only the problem's facts count
pub row-same : (p : Problem) (facts facts' : ℕ → Bool) (row : BitRow) → ((f : ℕ) → f < length p.facts → facts f ≡ facts' f) → IsCandidateRow p facts row → IsCandidateRow p facts' row
row-same p facts facts' row same h = record {
  wide = h.wide;
  has = λ a. h.has a ∙ ap (λ b. nat_lt a (length p.actions) && b) (granted-same p facts facts' same a (want_of p a) refl);
}

on : (v place b : Bool) → place ≡ true → (v || (place && b)) ≡ (if b then true else v)
on true place true e = refl
on true place false e = refl
on false true true e = refl
on false true false e = refl
on false false b e = absurd (false≢true e)

off : (v b : Bool) → (v && not b) ≡ (if b then false else v)
off true true = refl
off true false = refl
off false true = refl
off false false = refl

place-none : (place : Bool) → (place && false) ≡ false
place-none true = refl
place-none false = refl

settled : (facts : ℕ → Bool) (f : ℕ) (below place holds : Bool) (o : Option ℕ) → (below ≡ true → place ≡ true)
    → (if holds then (below && granted facts o) || (place && (below && is_fact f o)) else (below && granted facts o) && not (below && is_fact f o)) ≡ (below && granted (with_fact facts f holds) o)
settled facts f false place true o h = place-none place
settled facts f false place false o h = refl
settled facts f true place true None h = refl
settled facts f true place false None h = refl
settled facts f true place true (Some g) h = on (facts g) place (g == f) (h refl)
settled facts f true place false (Some g) h = off (facts g) (g == f)

-- one fact set anew
pub row-settled : (p : Problem) (facts : ℕ → Bool) (f : ℕ) (holds : Bool) (old other new : BitRow) → ((a : ℕ) → is_in_row other a ≡ wants p f a) → width new ≡ width old
    → ((a : ℕ) → is_in_row new a ≡ (if holds then is_in_row old a || (has_place (width old) a && is_in_row other a) else is_in_row old a && not (is_in_row other a)))
    → IsCandidateRow p facts old → IsCandidateRow p (with_fact facts f holds) new
row-settled p facts f holds old other new wanting wide has h = record {
  wide = wide ∙ h.wide;
  has = λ a.
      has a
      ∙ (λ i. if holds then h.has a i || (has_place (width old) a && wanting a i) else h.has a i && not (wanting a i))
      ∙ settled facts f (nat_lt a (length p.actions)) (has_place (width old) a) holds (want_of p a)
      (λ below. ap (λ (w : ℕ). has_place w a) h.wide ∙ place_below (length p.actions) a (ltb-true a (length p.actions) below));
}

-- a fact that is none of the problem
pub row-beyond : (p : Problem) (facts : ℕ → Bool) (f : ℕ) (holds : Bool) (row : BitRow) → length p.facts ≤ f → IsCandidateRow p facts row → IsCandidateRow p (with_fact facts f holds) row
row-beyond p facts f holds row above h = row-same p facts (with_fact facts f holds) row
    (λ g below.
    let other : (g == f) ≡ false = ne_eqb g f (λ e. omega (arith, below, above, e)) in
    sym (ap (λ b. if b then holds else facts g) other))
    h

step-at : (g n : ℕ) (new old : ℕ → Bool) (v : Bool) → v ≡ new n → with_fact (mixed n new old) n v g ≡ mixed (n + 1) new old g
step-at g n new old v e = by_order (cases_lt g n) (cases_lt n g)
  where
    by_order : (g < n) ⊎ (n ≤ g) → (n < g) ⊎ (g ≤ n) → with_fact (mixed n new old) n v g ≡ mixed (n + 1) new old g
    by_order (inl below) _ =
        let other : (g == n) ≡ false = ne_eqb g n (λ s. omega (arith, below, s)) in
        let here : nat_lt g n ≡ true = lt-ltb g n below in
        let there : nat_lt g (n + 1) ≡ true = lt-ltb g (n + 1) (omega (arith, below)) in
        (λ i. if other i then v else (if here i then new g else old g)) ∙ sym (ap (λ b. if b then new g else old g) there)
    by_order (inr above) (inl strict) =
        let other : (g == n) ≡ false = ne_eqb g n (λ s. omega (arith, strict, s)) in
        let here : nat_lt g n ≡ false = le-ltb g n above in
        let there : nat_lt g (n + 1) ≡ false = le-ltb g (n + 1) (omega (arith, strict)) in
        (λ i. if other i then v else (if here i then new g else old g)) ∙ sym (ap (λ b. if b then new g else old g) there)
    by_order (inr above) (inr upto) =
        let same : g ≡ n = omega (arith, above, upto) in
        let is : (g == n) ≡ true = eq-eqb g n same in
        let there : nat_lt g (n + 1) ≡ true = lt-ltb g (n + 1) (omega (arith, upto)) in
        ap (λ b. if b then v else mixed n new old g) is ∙ e ∙ ap new (sym same) ∙ sym (ap (λ b. if b then new g else old g) there)

pass-at : (g n : ℕ) (new old : ℕ → Bool) → old n ≡ new n → mixed n new old g ≡ mixed (n + 1) new old g
pass-at g n new old e = by_order (cases_lt g n) (cases_lt n g)
  where
    by_order : (g < n) ⊎ (n ≤ g) → (n < g) ⊎ (g ≤ n) → mixed n new old g ≡ mixed (n + 1) new old g
    by_order (inl below) _ =
        let here : nat_lt g n ≡ true = lt-ltb g n below in
        let there : nat_lt g (n + 1) ≡ true = lt-ltb g (n + 1) (omega (arith, below)) in
        ap (λ b. if b then new g else old g) here ∙ sym (ap (λ b. if b then new g else old g) there)
    by_order (inr above) (inl strict) =
        let here : nat_lt g n ≡ false = le-ltb g n above in
        let there : nat_lt g (n + 1) ≡ false = le-ltb g (n + 1) (omega (arith, strict)) in
        ap (λ b. if b then new g else old g) here ∙ sym (ap (λ b. if b then new g else old g) there)
    by_order (inr above) (inr upto) =
        let same : g ≡ n = omega (arith, above, upto) in
        let here : nat_lt g n ≡ false = le-ltb g n above in
        let there : nat_lt g (n + 1) ≡ true = lt-ltb g (n + 1) (omega (arith, upto)) in
        ap (λ b. if b then new g else old g) here ∙ ap old same ∙ e ∙ ap new (sym same) ∙ sym (ap (λ b. if b then new g else old g) there)

-- the next fact
pub row-taken : (p : Problem) (n : ℕ) (new old : ℕ → Bool) (v : Bool) (row : BitRow) → v ≡ new n → IsCandidateRow p (with_fact (mixed n new old) n v) row → IsCandidateRow p (mixed (n + 1) new old) row
row-taken p n new old v row e h = row-same p (with_fact (mixed n new old) n v) (mixed (n + 1) new old) row (λ g below. step-at g n new old v e) h

pub row-passed : (p : Problem) (n : ℕ) (new old : ℕ → Bool) (row : BitRow) → old n ≡ new n → IsCandidateRow p (mixed n new old) row → IsCandidateRow p (mixed (n + 1) new old) row
row-passed p n new old row e h = row-same p (mixed n new old) (mixed (n + 1) new old) row (λ g below. pass-at g n new old e) h

mixed-same : (n m : ℕ) (new old : ℕ → Bool) → n ≤ m → ((g : ℕ) → n ≤ g → g < m → old g ≡ new g) → (g : ℕ) → mixed n new old g ≡ mixed m new old g
mixed-same n m new old all same g = by_order (cases_lt g n) (cases_lt g m)
  where
    by_order : (g < n) ⊎ (n ≤ g) → (g < m) ⊎ (m ≤ g) → mixed n new old g ≡ mixed m new old g
    by_order (inl below) _ =
        let here : nat_lt g n ≡ true = lt-ltb g n below in
        let there : nat_lt g m ≡ true = lt-ltb g m (omega (arith, all, below)) in
        ap (λ b. if b then new g else old g) here ∙ sym (ap (λ b. if b then new g else old g) there)
    by_order (inr above) (inl within) =
        let here : nat_lt g n ≡ false = le-ltb g n above in
        let there : nat_lt g m ≡ true = lt-ltb g m within in
        ap (λ b. if b then new g else old g) here ∙ same g above within ∙ sym (ap (λ b. if b then new g else old g) there)
    by_order (inr above) (inr past) =
        let here : nat_lt g n ≡ false = le-ltb g n above in
        let there : nat_lt g m ≡ false = le-ltb g m past in
        ap (λ b. if b then new g else old g) here ∙ sym (ap (λ b. if b then new g else old g) there)

-- the facts of a block up to the next changed one
pub row-on : (p : Problem) (k from to n w : ℕ) (new old : List ℕ) (row : BitRow) → n ≡ 64 * k + from → from ≤ to → to ≤ 64
    → w ≡ bit_xor (slice_index old k) (slice_index new k) → ((i : ℕ) → from ≤ i → i < to → bit_at w i ≡ 0)
    → IsCandidateRow p (mixed n (has_bit new) (has_bit old)) row → IsCandidateRow p (mixed (64 * k + to) (has_bit new) (has_bit old)) row
row-on p k from to n w new old row start after small differs none h =
    row-same p (mixed n (has_bit new) (has_bit old)) (mixed (64 * k + to) (has_bit new) (has_bit old)) row
    (λ g below. mixed-same n (64 * k + to) (has_bit new) (has_bit old) (omega (arith, start, after))
    (λ f above before. unchanged k from to old new small (λ i a b. ap (λ x. bit_at x i) (sym differs) ∙ none i a b) f (omega (arith, start, above)) before) g)
    h

pub row-begun : (p : Problem) (new old : ℕ → Bool) (row : BitRow) → IsCandidateRow p old row → IsCandidateRow p (mixed 0 new old) row
row-begun p new old row h = row-same p old (mixed 0 new old) row (λ g below. sym (ap (λ b. if b then new g else old g) (le-ltb g 0 (omega arith)))) h

pub row-done : (p : Problem) (n : ℕ) (new old : ℕ → Bool) (row : BitRow) → length p.facts ≤ n → IsCandidateRow p (mixed n new old) row → IsCandidateRow p new row
row-done p n new old row all h = row-same p (mixed n new old) new row (λ g below. let here : nat_lt g n ≡ true = lt-ltb g n (omega (arith, below, all)) in ap (λ b. if b then new g else old g) here) h

-- a test among the numbers below one more
pub kept-test : (test : ℕ → Bool) (a b : ℕ) → test a ≡ false → (nat_lt b a && test b) ≡ (nat_lt b (a + 1) && test b)
kept-test test a b e = by_order (cases_lt b a) (cases_lt a b)
  where
    by_order : (b < a) ⊎ (a ≤ b) → (a < b) ⊎ (b ≤ a) → (nat_lt b a && test b) ≡ (nat_lt b (a + 1) && test b)
    by_order (inl below) _ =
        let here : nat_lt b a ≡ true = lt-ltb b a below in
        let there : nat_lt b (a + 1) ≡ true = lt-ltb b (a + 1) (omega (arith, below)) in
        ap (λ x. x && test b) here ∙ sym (ap (λ x. x && test b) there)
    by_order (inr above) (inl strict) =
        let here : nat_lt b a ≡ false = le-ltb b a above in
        let there : nat_lt b (a + 1) ≡ false = le-ltb b (a + 1) (omega (arith, strict)) in
        ap (λ x. x && test b) here ∙ sym (ap (λ x. x && test b) there)
    by_order (inr above) (inr upto) =
        let same : b ≡ a = omega (arith, above, upto) in
        let here : nat_lt b a ≡ false = le-ltb b a above in
        let there : nat_lt b (a + 1) ≡ true = lt-ltb b (a + 1) (omega (arith, upto)) in
        ap (λ x. x && test b) here ∙ sym (ap (λ x. x && test b) there ∙ ap test same ∙ e)

pub put-test : (test : ℕ → Bool) (place : ℕ → Bool) (a b : ℕ) → place a ≡ true → test a ≡ true → ((nat_lt b a && test b) || (place b && (b == a))) ≡ (nat_lt b (a + 1) && test b)
put-test test place a b p e = by_order (cases_lt b a) (cases_lt a b)
  where
    none : (x y : Bool) → (x || (y && false)) ≡ x
    none true y = refl
    none false true = refl
    none false false = refl

    by_order : (b < a) ⊎ (a ≤ b) → (a < b) ⊎ (b ≤ a) → ((nat_lt b a && test b) || (place b && (b == a))) ≡ (nat_lt b (a + 1) && test b)
    by_order (inl below) _ =
        let other : (b == a) ≡ false = ne_eqb b a (λ s. omega (arith, below, s)) in
        let here : nat_lt b a ≡ true = lt-ltb b a below in
        let there : nat_lt b (a + 1) ≡ true = lt-ltb b (a + 1) (omega (arith, below)) in
        (λ i. (here i && test b) || (place b && other i)) ∙ none (test b) (place b) ∙ sym (ap (λ x. x && test b) there)
    by_order (inr above) (inl strict) =
        let other : (b == a) ≡ false = ne_eqb b a (λ s. omega (arith, strict, s)) in
        let here : nat_lt b a ≡ false = le-ltb b a above in
        let there : nat_lt b (a + 1) ≡ false = le-ltb b (a + 1) (omega (arith, strict)) in
        (λ i. (here i && test b) || (place b && other i)) ∙ none false (place b) ∙ sym (ap (λ x. x && test b) there)
    by_order (inr above) (inr upto) =
        let same : b ≡ a = omega (arith, above, upto) in
        let is : (b == a) ≡ true = eq-eqb b a same in
        let here : nat_lt b a ≡ false = le-ltb b a above in
        let there : nat_lt b (a + 1) ≡ true = lt-ltb b (a + 1) (omega (arith, upto)) in
        (λ i. (here i && test b) || ((ap place same ∙ p) i && is i)) ∙ sym (ap (λ x. x && test b) there ∙ ap test same ∙ e)

pub below-kept : (p : Problem) (facts : ℕ → Bool) (n : ℕ) (row : BitRow) → granted facts (want_of p n) ≡ false → IsCandidateRowBelow p facts n row → IsCandidateRowBelow p facts (n + 1) row
below-kept p facts n row e h = record { wide = h.wide; has = λ b. h.has b ∙ kept-test (λ a. granted facts (want_of p a)) n b e }

pub below-put : (p : Problem) (facts : ℕ → Bool) (n : ℕ) (old new : BitRow) → n < length p.actions → granted facts (want_of p n) ≡ true → width new ≡ width old
    → ((b : ℕ) → is_in_row new b ≡ (is_in_row old b || (has_place (width old) b && (b == n)))) → IsCandidateRowBelow p facts n old → IsCandidateRowBelow p facts (n + 1) new
below-put p facts n old new below e wide has h = record {
  wide = wide ∙ h.wide;
  has = λ b. has b ∙ ap (λ x. x || (has_place (width old) b && (b == n))) (h.has b) ∙ put-test (λ a. granted facts (want_of p a)) (has_place (width old)) n b (ap (λ (w : ℕ). has_place w n) h.wide ∙ place_below (length p.actions) n below) e;
}

get-set-same : {A : Type 0} (xs : List A) (i : ℕ) (y x : A) → i < length xs → slice_get (set xs i y) i ≡ Some x → y ≡ x
get-set-same [] i y x below e = absurd (omega (arith, below))
get-set-same (z ∷ zs) zero y x below e = cc
get-set-same (z ∷ zs) (suc i) y x below e = get-set-same zs i y x (omega (arith, below)) e

get-set-other : {A : Type 0} (xs : List A) (i j : ℕ) (y : A) → (j ≡ i → ⊥) → slice_get (set xs i y) j ≡ slice_get xs j
get-set-other [] i j y other = refl
get-set-other (z ∷ zs) zero zero y other = absurd (other refl)
get-set-other (z ∷ zs) zero (suc j) y other = refl
get-set-other (z ∷ zs) (suc i) zero y other = refl
get-set-other (z ∷ zs) (suc i) (suc j) y other = get-set-other zs i j y (λ e. other (ap suc e))

-- an action that wants none of the facts
pub entered-none : (p : Problem) (a : ℕ) (rows : List BitRow) → ((g : ℕ) → g < length rows → is_fact g (want_of p a) ≡ false) → AreWantsBelow p a rows → AreWantsBelow p (a + 1) rows
entered-none p a rows none h = record {
  count = h.count;
  wide = h.wide;
  has = λ g row e b. h.has g row e b ∙ kept-test (λ x. is_fact g (want_of p x)) a b (none g (slice_get_within rows g row e));
}

-- an action that wants this one
pub entered : (p : Problem) (a f : ℕ) (rows : List BitRow) (old new : BitRow) → a < length p.actions → want_of p a ≡ Some f → f < length rows → slice_get rows f ≡ Some old → width new ≡ width old
    → ((b : ℕ) → is_in_row new b ≡ (is_in_row old b || (has_place (width old) b && (b == a)))) → AreWantsBelow p a rows → AreWantsBelow p (a + 1) (set rows f new)
entered p a f rows old new inside want below got wide has h = record {
  count = length-set rows f new ∙ h.count;
  wide = λ g row e. wide_at g row e (g == f) refl;
  has = λ g row e b. has_at g row e b (g == f) refl;
}
  where
    same_row : (g : ℕ) (row : BitRow) → slice_get (set rows f new) g ≡ Some row → (g == f) ≡ true → new ≡ row
    same_row g row e is = get-set-same rows f new row below (subst (λ (k : ℕ). slice_get (set rows f new) k ≡ Some row) (eqb-true g f is) e)

    old_row : (g : ℕ) (row : BitRow) → slice_get (set rows f new) g ≡ Some row → (g == f) ≡ false → slice_get rows g ≡ Some row
    old_row g row e is = sym (get-set-other rows f g new (λ s. false≢true (sym is ∙ eq-eqb g f s))) ∙ e

    wide_at : (g : ℕ) (row : BitRow) → slice_get (set rows f new) g ≡ Some row → (t : Bool) → (g == f) ≡ t → width row ≡ words_for (length p.actions)
    wide_at g row e true is = ap width (sym (same_row g row e is)) ∙ wide ∙ h.wide f old got
    wide_at g row e false is = h.wide g row (old_row g row e is)

    put : (b : ℕ) → is_in_row new b ≡ (nat_lt b (a + 1) && is_fact f (want_of p b))
    put b =
        has b ∙ ap (λ x. x || (has_place (width old) b && (b == a))) (h.has f old got b)
        ∙ put-test (λ x. is_fact f (want_of p x)) (has_place (width old)) a b
        (ap (λ (w : ℕ). has_place w a) (h.wide f old got) ∙ place_below (length p.actions) a inside)
        (ap (is_fact f) want ∙ eq-eqb f f refl)

    has_at : (g : ℕ) (row : BitRow) → slice_get (set rows f new) g ≡ Some row → (b : ℕ) (t : Bool) → (g == f) ≡ t → is_in_row row b ≡ (nat_lt b (a + 1) && is_fact g (want_of p b))
    has_at g row e b true is = ap (λ r. is_in_row r b) (sym (same_row g row e is)) ∙ put b ∙ ap (λ k. nat_lt b (a + 1) && is_fact k (want_of p b)) (sym (eqb-true g f is))
    has_at g row e b false is =
        h.has g row (old_row g row e is) b
        ∙ kept-test (λ x. is_fact g (want_of p x)) a b (ap (is_fact g) want ∙ ne_eqb f g (λ s. false≢true (sym is ∙ eq-eqb g f (sym s))))

pub blocks-cover : (n m blocks k : ℕ) → m ≡ n → blocks ≡ div_ceil m 64 → blocks ≤ k → n ≤ 64 * k
blocks-cover n m blocks k same count all = omega (arith, same, count, all)
