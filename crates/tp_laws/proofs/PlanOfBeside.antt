-- Two lists of one length, whose members are related one by one.
use Rattle.std.proofs.Common.{◌≡◌, refl, sym, ap, subst, ℕ, zero, suc, Bool, true, false, cond, List, [], ◌∷◌, ◌++◌, length, map, inl, inr}
use Rattle.std.specs.Prelude.{IfSome, slice_get}
use Rattle.std.specs.List.{AllByRecursion as Each, filter}
use Rattle.std.proofs.lemmas.Bool.{false≢true}
use Rattle.tp_spec.specs.Lists.{IsIn}

abbrev pub Beside : {A B : Type 0} → (A → B → Type 0) → List A → List B → Type 0
Beside R [] [] = Unit {0}
Beside R [] (y ∷ ys) = ⊥
Beside R (x ∷ xs) [] = ⊥
Beside R (x ∷ xs) (y ∷ ys) = R x y × Beside R xs ys

pub beside-map : {A B : Type 0} (R S : A → B → Type 0) (P : B → Type 0) (xs : List A) (ys : List B) → ((x : A) (y : B) → P y → R x y → S x y) → Each P ys → Beside R xs ys → Beside S xs ys
beside-map R S P [] [] f h b = tt
beside-map R S P [] (y ∷ ys) f h b = absurd b
beside-map R S P (x ∷ xs) [] f h b = absurd b
beside-map R S P (x ∷ xs) (y ∷ ys) f h b = (f x y h.0 b.0, beside-map R S P xs ys f h.1 b.1)

pub beside-push : {A B : Type 0} (R : A → B → Type 0) (xs : List A) (ys : List B) (x : A) (y : B) → Beside R xs ys → R x y → Beside R (xs ++ x ∷ []) (ys ++ y ∷ [])
beside-push R [] [] x y b r = (r, tt)
beside-push R [] (z ∷ ys) x y b r = absurd b
beside-push R (z ∷ xs) [] x y b r = absurd b
beside-push R (z ∷ xs) (w ∷ ys) x y b r = (b.0, beside-push R xs ys x y b.1 r)

pub beside-length : {A B : Type 0} (R : A → B → Type 0) (xs : List A) (ys : List B) → Beside R xs ys → length xs ≡ length ys
beside-length R [] [] b = refl
beside-length R [] (y ∷ ys) b = absurd b
beside-length R (x ∷ xs) [] b = absurd b
beside-length R (x ∷ xs) (y ∷ ys) b = ap suc (beside-length R xs ys b.1)

pub beside-in : {A B : Type 0} (R : A → B → Type 0) (xs : List A) (ys : List B) (x : A) → Beside R xs ys → IsIn x xs → (y : B) × IsIn y ys × R x y
beside-in R [] ys x b i = absurd i
beside-in R (z ∷ xs) [] x b i = absurd b
beside-in R (z ∷ xs) (y ∷ ys) x b (inl e) = (y, inl refl, subst (λ w. R w y) e b.0)
beside-in R (z ∷ xs) (y ∷ ys) x b (inr i) = let r = beside-in R xs ys x b.1 i in (r.0, inr r.1, r.2)

pub beside-equal : {A B : Type 0} (R : A → B → Type 0) (f : A → B) (xs : List A) (ys : List B) → ((x : A) (y : B) → R x y → f x ≡ y) → Beside R xs ys → map f xs ≡ ys
beside-equal R f [] [] h b = refl
beside-equal R f [] (y ∷ ys) h b = absurd b
beside-equal R f (x ∷ xs) [] h b = absurd b
beside-equal R f (x ∷ xs) (y ∷ ys) h b = λ i. h x y b.0 i ∷ beside-equal R f xs ys h b.1 i

-- the members that pass tests which say the same of related ones
pub beside-filter : {A B : Type 0} (R : A → B → Type 0) (f : A → Bool) (g : B → Bool) (xs : List A) (ys : List B) → ((x : A) (y : B) → R x y → f x ≡ g y) → Beside R xs ys → Beside R (filter f xs) (filter g ys)
beside-filter R f g [] [] h b = tt
beside-filter R f g [] (y ∷ ys) h b = absurd b
beside-filter R f g (x ∷ xs) [] h b = absurd b
beside-filter R f g (x ∷ xs) (y ∷ ys) h b = by_test (f x) (g y) (h x y b.0) (beside-filter R f g xs ys h b.1)
  where
    by_test : (s t : Bool) → s ≡ t → Beside R (filter f xs) (filter g ys) → Beside R (cond s (x ∷ filter f xs) (filter f xs)) (cond t (y ∷ filter g ys) (filter g ys))
    by_test true true e ih = (b.0, ih)
    by_test true false e ih = absurd (false≢true (sym e))
    by_test false true e ih = absurd (false≢true e)
    by_test false false e ih = ih

-- what holds of the k-th of the second list, longer or not, serves the k-th of the first
pub beside-kth : {A B : Type 0} (R : A → B → Type 0) (P : A → Type 0) (Q : B → Type 0) (xs : List A) (ys zs : List B) (k : ℕ) → ((x : A) (y : B) → R x y → Q y → P x) → Beside R xs ys → IfSome (slice_get (ys ++ zs) k) Q → IfSome (slice_get xs k) P
beside-kth R P Q [] ys zs k f b h = tt
beside-kth R P Q (x ∷ xs) [] zs k f b h = absurd b
beside-kth R P Q (x ∷ xs) (y ∷ ys) zs zero f b h = f x y b.0 h
beside-kth R P Q (x ∷ xs) (y ∷ ys) zs (suc k) f b h = beside-kth R P Q xs ys zs k f b.1 h

-- each two members, the earlier first, are related
abbrev pub Pairs : {A : Type 0} → (A → A → Type 0) → List A → Type 0
Pairs R [] = Unit {0}
Pairs R (x ∷ xs) = Each (R x) xs × Pairs R xs
