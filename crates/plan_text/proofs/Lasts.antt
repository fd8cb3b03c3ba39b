-- Lists without their last element, where that passes a test.
use Rattle.std.proofs.Common.{◌≡◌, ℕ, zero, suc, ◌+◌, ◌-◌, ◌≤◌, Bool, true, false, cond, List, [], ◌∷◌, length, map, take, get_or, Some, None, ap, sym, arith}
use Rattle.plan_text.specs.Files.{Numbered, without_last, last_if}

-- the element at n is the last one, and passes
body_at : {A : Type 0} (f : A → Numbered) (test : Numbered → Bool) (n : ℕ) (xs : List A) (d : A) → n + 1 ≡ length xs
    → test (f (get_or xs n d)) ≡ true → map f (take n xs) ≡ without_last test (map f xs)
body_at f test n [] d e h = absurd (omega arith)
body_at f test zero (x ∷ []) d e h = ap (λ (b : Bool). cond b [] (f x ∷ [])) (sym h)
body_at f test (suc n) (x ∷ []) d e h = absurd (omega arith)
body_at f test zero (x ∷ y ∷ rest) d e h = absurd (omega arith)
body_at f test (suc n) (x ∷ y ∷ rest) d e h =
    ap (λ (l : List Numbered). f x ∷ l) (body_at f test n (y ∷ rest) d (omega arith) h)

end_at : {A : Type 0} (f : A → Numbered) (test : Numbered → Bool) (n : ℕ) (xs : List A) (d : A) → n + 1 ≡ length xs
    → test (f (get_or xs n d)) ≡ true → Some (f (get_or xs n d)) ≡ last_if test (map f xs)
end_at f test n [] d e h = absurd (omega arith)
end_at f test zero (x ∷ []) d e h = ap (λ (b : Bool). cond b (Some (f x)) None) (sym h)
end_at f test (suc n) (x ∷ []) d e h = absurd (omega arith)
end_at f test zero (x ∷ y ∷ rest) d e h = absurd (omega arith)
end_at f test (suc n) (x ∷ y ∷ rest) d e h = end_at f test n (y ∷ rest) d (omega arith) h

-- the element at n is the last one, and does not pass
whole_at : {A : Type 0} (f : A → Numbered) (test : Numbered → Bool) (n : ℕ) (xs : List A) (d : A) → n + 1 ≡ length xs
    → test (f (get_or xs n d)) ≡ false → map f xs ≡ without_last test (map f xs)
whole_at f test n [] d e h = absurd (omega arith)
whole_at f test zero (x ∷ []) d e h = ap (λ (b : Bool). cond b [] (f x ∷ [])) (sym h)
whole_at f test (suc n) (x ∷ []) d e h = absurd (omega arith)
whole_at f test zero (x ∷ y ∷ rest) d e h = absurd (omega arith)
whole_at f test (suc n) (x ∷ y ∷ rest) d e h =
    ap (λ (l : List Numbered). f x ∷ l) (whole_at f test n (y ∷ rest) d (omega arith) h)

none_at : {A : Type 0} (f : A → Numbered) (test : Numbered → Bool) (n : ℕ) (xs : List A) (d : A) → n + 1 ≡ length xs
    → test (f (get_or xs n d)) ≡ false → None ≡ last_if test (map f xs)
none_at f test n [] d e h = absurd (omega arith)
none_at f test zero (x ∷ []) d e h = ap (λ (b : Bool). cond b (Some (f x)) None) (sym h)
none_at f test (suc n) (x ∷ []) d e h = absurd (omega arith)
none_at f test zero (x ∷ y ∷ rest) d e h = absurd (omega arith)
none_at f test (suc n) (x ∷ y ∷ rest) d e h = none_at f test n (y ∷ rest) d (omega arith) h

-- the same by the length
pub body_passed : {A : Type 0} (f : A → Numbered) (test : Numbered → Bool) (xs : List A) (d : A) → 1 ≤ length xs
    → test (f (get_or xs (length xs - 1) d)) ≡ true → map f (take (length xs - 1) xs) ≡ without_last test (map f xs)
body_passed f test xs d some h = body_at f test (length xs - 1) xs d (omega arith) h

pub end_passed : {A : Type 0} (f : A → Numbered) (test : Numbered → Bool) (xs : List A) (d : A) → 1 ≤ length xs
    → test (f (get_or xs (length xs - 1) d)) ≡ true → Some (f (get_or xs (length xs - 1) d)) ≡ last_if test (map f xs)
end_passed f test xs d some h = end_at f test (length xs - 1) xs d (omega arith) h

pub body_whole : {A : Type 0} (f : A → Numbered) (test : Numbered → Bool) (xs : List A) (d : A) → 1 ≤ length xs
    → test (f (get_or xs (length xs - 1) d)) ≡ false → map f xs ≡ without_last test (map f xs)
body_whole f test xs d some h = whole_at f test (length xs - 1) xs d (omega arith) h

pub end_none : {A : Type 0} (f : A → Numbered) (test : Numbered → Bool) (xs : List A) (d : A) → 1 ≤ length xs
    → test (f (get_or xs (length xs - 1) d)) ≡ false → None ≡ last_if test (map f xs)
end_none f test xs d some h = none_at f test (length xs - 1) xs d (omega arith) h
