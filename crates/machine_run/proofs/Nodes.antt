-- Lists of nodes: one taken out, and the best of some.
use Rattle.std.proofs.Common.{◌≡◌, refl, sym, ap, subst, ◌∙◌, ◌<◌, ◌≤◌, inl, inr, ◌==◌, Bool, true, false, not, cond, List, [], ◌∷◌, length, arith}
use Rattle.std.specs.List.{filter, list_all}
use Rattle.std.proofs.lemmas.Bool.{and_parts, and_from, false≢true, eq-eqb}
use Rattle.tp_spec.specs.Lists.{IsIn, each_pair}
use Rattle.tp_spec.specs.Machine.{Node}
use Rattle.tp_laws.proofs.EarlyLists.{each-in, each-true}

-- a filter gives no more members
filter-fewer : {A : Type 0} (test : A → Bool) (xs : List A) → length (filter test xs) ≤ length xs
filter-fewer test [] = omega arith
filter-fewer test (x ∷ xs) = elim (test x) as (λ b. length (cond b (x ∷ filter test xs) (filter test xs)) ≤ length (x ∷ xs)) [
  | true ↦ omega (arith, filter-fewer test xs)
  | false ↦ omega (arith, filter-fewer test xs)
]

-- a filter that drops a member is shorter
pub filter-less : {A : Type 0} (test : A → Bool) (x : A) (xs : List A) → IsIn x xs → test x ≡ false → length (filter test xs) < length xs
filter-less test x [] h e = absurd h
filter-less {A} test x (y ∷ xs) (inl same) e =
    subst (λ b. length (cond b (y ∷ filter test xs) (filter test xs)) < length (y ∷ xs)) (sym (ap test same ∙ e)) (omega (arith, filter-fewer test xs))
filter-less test x (y ∷ xs) (inr h) e = elim (test y) as (λ b. length (cond b (y ∷ filter test xs) (filter test xs)) < length (y ∷ xs)) [
  | true ↦ omega (arith, filter-less test x xs h e)
  | false ↦ omega (arith, filter-less test x xs h e)
]

-- what passes a test of a filtered list

pub all-filtered : {A : Type 0} (good test : A → Bool) (xs : List A) → list_all good xs ≡ true → list_all good (filter test xs) ≡ true
all-filtered good test [] h = refl
all-filtered good test (x ∷ xs) h = elim (test x) as (λ b. list_all good (cond b (x ∷ filter test xs) (filter test xs)) ≡ true) [
  | true ↦ and_from _ _ (and_parts _ _ h).0 (all-filtered good test xs (and_parts _ _ h).1)
  | false ↦ all-filtered good test xs (and_parts _ _ h).1
]

pub in-passes : {A : Type 0} (test : A → Bool) (x : A) (xs : List A) → IsIn x (filter test xs) → test x ≡ true
in-passes test x [] h = absurd h
in-passes {A} test x (y ∷ xs) h = by_test (λ i. in-passes test x xs i) (test y) refl h where
  by_test : (IsIn x (filter test xs) → test x ≡ true) → (b : Bool) → test y ≡ b → IsIn x (cond b (y ∷ filter test xs) (filter test xs)) → test x ≡ true
  by_test ih true e (inl s) = sym (ap test s) ∙ e
  by_test ih true e (inr i) = ih i
  by_test ih false e i = ih i

-- nodes of one id are one node

pub other-id : (a b : Node) (ns : List Node) → each_pair (λ x y. not (x.id == y.id)) (a ∷ ns) ≡ true → IsIn b ns → a.id ≡ b.id → ⊥
other-id a b ns apart h same =
    let e : not (a.id == b.id) ≡ true = each-in (λ k. not (a.id == k.id) ≡ true) ns b (each-true (λ k. not (a.id == k.id)) ns (and_parts _ _ apart).0) h in
    false≢true (ap not (sym (eq-eqb a.id b.id same)) ∙ e)

pub same-node : (a b : Node) (ns : List Node) → each_pair (λ x y. not (x.id == y.id)) ns ≡ true → IsIn a ns → IsIn b ns → a.id ≡ b.id → a ≡ b
same-node a b [] apart h k same = absurd h
same-node a b (n ∷ ns) apart (inl e) (inl d) same = sym e ∙ d
same-node a b (n ∷ ns) apart (inl e) (inr k) same = absurd (other-id n b ns apart k (ap (λ x. x.id) e ∙ same))
same-node a b (n ∷ ns) apart (inr h) (inl d) same = absurd (other-id n a ns apart h (ap (λ x. x.id) d ∙ sym same))
same-node a b (n ∷ ns) apart (inr h) (inr k) same = same-node a b ns (and_parts _ _ apart).1 h k same
