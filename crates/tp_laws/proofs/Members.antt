-- Members of filtered, joined and mapped lists.
use Rattle.std.proofs.Common.{◌≡◌, refl, ap, Bool, true, false, cond, List, [], ◌∷◌, ◌++◌, map, ◌⊎◌, inl, inr}
use Rattle.std.specs.List.{filter}
use Rattle.tp_spec.specs.Lists.{IsIn}

pub in-filter : {A : Type 0} (test : A → Bool) (x : A) (xs : List A) → IsIn x (filter test xs) → IsIn x xs
in-filter test x [] h = h
in-filter test x (y ∷ xs) h = by_test (λ i. in-filter test x xs i) (test y) h where
  by_test : (IsIn x (filter test xs) → IsIn x xs) → (b : Bool) → IsIn x (cond b (y ∷ filter test xs) (filter test xs)) → IsIn x (y ∷ xs)
  by_test ih true (inl e) = inl e
  by_test ih true (inr i) = inr (ih i)
  by_test ih false i = inr (ih i)

pub in-append : {A : Type 0} (x : A) (xs ys : List A) → IsIn x (xs ++ ys) → IsIn x xs ⊎ IsIn x ys
in-append x [] ys h = inr h
in-append x (y ∷ xs) ys (inl e) = inl (inl e)
in-append x (y ∷ xs) ys (inr h) = elim (in-append x xs ys h) [ inl i ↦ inl (inr i) | inr i ↦ inr i ]

pub in-map : {A B : Type 0} (f : A → B) (y : B) (xs : List A) → IsIn y (map f xs) → (x : A) × IsIn x xs × (f x ≡ y)
in-map f y [] h = absurd h
in-map f y (x ∷ xs) (inl e) = (x, inl refl, e)
in-map f y (x ∷ xs) (inr h) = let r = in-map f y xs h in (r.0, inr r.1, r.2)

pub map-in : {A B : Type 0} (f : A → B) (x : A) (xs : List A) → IsIn x xs → IsIn (f x) (map f xs)
map-in f x [] h = absurd h
map-in f x (y ∷ xs) (inl e) = inl (ap f e)
map-in f x (y ∷ xs) (inr h) = inr (map-in f x xs h)
