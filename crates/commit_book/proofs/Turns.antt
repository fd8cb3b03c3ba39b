-- Commitments in turn: one more, and fewer.
use Rattle.std.proofs.Common.{◌≡◌, refl, sym, subst, ◌∙◌, ℕ, zero, suc, cond, Bool, true, false, not, ◌&&◌, ◌||◌, ◌==◌, nat_lt, List, [], ◌∷◌, ◌++◌, take}
use Rattle.std.specs.List.{list_all}
use Rattle.std.proofs.lemmas.Bool.{and_parts, and_from}
use Rattle.std.proofs.lemmas.List.Folds.{list_all-append}
use Rattle.tp_spec.specs.declared.plan.Timed.{Timed}
use Rattle.tp_spec.specs.Lists.{each_pair}
use Rattle.tp_laws.specs.Plans.{AreInTurn}
use Rattle.commit_book.specs.Commits.{IsLater}

all-take : {A : Type 0} (test : A → Bool) (n : ℕ) (xs : List A) → list_all test xs ≡ true → list_all test (take n xs) ≡ true
all-take test zero [] h = refl
all-take test zero (x ∷ xs) h = refl
all-take test (suc n) [] h = refl
all-take test (suc n) (x ∷ xs) h = let r = and_parts (test x) (list_all test xs) h in and_from (test x) (list_all test (take n xs)) r.0 (all-take test n xs r.1)

pairs-take : {A : Type 0} (related : A → A → Bool) (n : ℕ) (xs : List A) → each_pair related xs ≡ true → each_pair related (take n xs) ≡ true
pairs-take related zero [] h = refl
pairs-take related zero (x ∷ xs) h = refl
pairs-take related (suc n) [] h = refl
pairs-take related (suc n) (x ∷ xs) h =
    let r = and_parts (list_all (related x) xs) (each_pair related xs) h in
    and_from (list_all (related x) (take n xs)) (each_pair related (take n xs)) (all-take (related x) n xs r.0) (pairs-take related n xs r.1)

pairs-more : {A : Type 0} (related : A → A → Bool) (xs : List A) (y : A) → each_pair related xs ≡ true → list_all (λ x. related x y) xs ≡ true → each_pair related (xs ++ y ∷ []) ≡ true
pairs-more related [] y h k = refl
pairs-more related (x ∷ xs) y h k =
    let r = and_parts (list_all (related x) xs) (each_pair related xs) h in
    let s = and_parts (related x y) (list_all (λ z. related z y) xs) k in
    and_from (list_all (related x) (xs ++ y ∷ [])) (each_pair related (xs ++ y ∷ []))
    (list_all-append (related x) xs (y ∷ []) ∙ and_from (list_all (related x) xs) (related x y && true) r.0 (and_from (related x y) true s.0 refl))
    (pairs-more related xs y r.1 s.1)

pub fewer-in-turn : (n : ℕ) (commits : List Timed) → AreInTurn commits → AreInTurn (take n commits)
fewer-in-turn n commits h = pairs-take (λ c d. not (c.action == d.action) || nat_lt c.start d.start) n commits h

pub more-in-turn : (commits : List Timed) (act : Timed) → AreInTurn commits → IsLater commits act → AreInTurn (commits ++ act ∷ [])
more-in-turn commits act h k = pairs-more (λ c d. not (c.action == d.action) || nat_lt c.start d.start) commits act h k

pub added-in-turn : (ok : Bool) (commits new : List Timed) (act : Timed) → new ≡ cond ok (commits ++ act ∷ []) commits → AreInTurn commits → IsLater commits act → AreInTurn new
added-in-turn true commits new act e h k = subst AreInTurn (sym e) (more-in-turn commits act h k)
added-in-turn false commits new act e h k = subst AreInTurn (sym e) h
