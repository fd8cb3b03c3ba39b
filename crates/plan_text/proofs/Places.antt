-- Where a mark stands in a text.
use Rattle.std.proofs.Common.{◌≡◌, ℕ, suc, ◌+◌, ◌<◌, ◌≤◌, Bool, true, false, not, cond, nat_lt, List, [], ◌∷◌, ◌++◌, length, take, drop, position, Some, None, refl, ap, sym, ◌∙◌, ◌⊎◌, inl, inr, arith}
use Rattle.std.specs.List.{list_all, slice_split, onto_first, position_or_len, before_first}
use Rattle.std.specs.Option.{option_map}
use Rattle.std.proofs.lemmas.Bool.{and_parts, cases_lt, lt-ltb, le-ltb, not-true}
use Rattle.std.proofs.Math.Seq.{take-append_seam}
use Rattle.std.proofs.lemmas.List.Splits.{slice_split-cons_no, slice_split-cons_yes}
use Rattle.plan_text.specs.Pieces.{is_mark, cut, cut_at}

-- whether no byte passes
abbrev pub none_pass : (ℕ → Bool) → List ℕ → Bool
none_pass test xs = list_all (λ x. not (test x)) xs

yes_case : (b : Bool) (m n : ℕ) → b ≡ true → cond (nat_lt (cond (not b) (1 + m) 0) (suc n)) (Some (cond (not b) (1 + m) 0)) None ≡ Some 0
yes_case true m n e = ap (λ (t : Bool). cond t (Some 0) None) (lt-ltb 0 (suc n) (omega arith))
yes_case false m n e = absurd (cc)

pub position_yes : {A : Type 0} (test : A → Bool) (x : A) (xs : List A) → test x ≡ true → position test (x ∷ xs) ≡ Some 0
position_yes test x xs h = yes_case (test x) (position_or_len test xs) (length xs) h

no_case_by : (m n : ℕ) → (m < n) ⊎ (n ≤ m) → cond (nat_lt (1 + m) (suc n)) (Some (1 + m)) None ≡ option_map suc (cond (nat_lt m n) (Some m) None)
no_case_by m n (inl lt) =
    let e : 1 + m ≡ suc m = omega arith in
    ap (λ (t : Bool). cond t (Some (1 + m)) None) (lt-ltb (1 + m) (suc n) (omega arith))
    ∙ (ap (λ (k : ℕ). Some k) e ∙ ap (λ (t : Bool). option_map suc (cond t (Some m) None)) (sym (lt-ltb m n lt)))
no_case_by m n (inr le) =
    ap (λ (t : Bool). cond t (Some (1 + m)) None) (le-ltb (1 + m) (suc n) (omega arith))
    ∙ ap (λ (t : Bool). option_map suc (cond t (Some m) None)) (sym (le-ltb m n le))

no_case : (b : Bool) (m n : ℕ) → b ≡ false → cond (nat_lt (cond (not b) (1 + m) 0) (suc n)) (Some (cond (not b) (1 + m) 0)) None ≡ option_map suc (cond (nat_lt m n) (Some m) None)
no_case true m n e = absurd (cc)
no_case false m n e = no_case_by m n (cases_lt m n)

pub position_no : {A : Type 0} (test : A → Bool) (x : A) (xs : List A) → test x ≡ false → position test (x ∷ xs) ≡ option_map suc (position test xs)
position_no test x xs h = no_case (test x) (position_or_len test xs) (length xs) h

-- where no byte passes, there is no place
pub position_none : (test : ℕ → Bool) (xs : List ℕ) → none_pass test xs ≡ true → position test xs ≡ None
position_none test [] h = refl
position_none test (x ∷ xs) h =
    let w = and_parts (not (test x)) (none_pass test xs) h in
    position_no test x xs (not-true (test x) w.0) ∙ ap (option_map suc) (position_none test xs w.1)

-- the first byte that passes
pub position_seam : (test : ℕ → Bool) (xs : List ℕ) (y : ℕ) (ys : List ℕ) → none_pass test xs ≡ true → test y ≡ true → position test (xs ++ y ∷ ys) ≡ Some (length xs)
position_seam test [] y ys h e = position_yes test y ys e
position_seam test (x ∷ xs) y ys h e =
    let w = and_parts (not (test x)) (none_pass test xs) h in
    position_no test x (xs ++ y ∷ ys) (not-true (test x) w.0) ∙ ap (option_map suc) (position_seam test xs y ys w.1 e)

pub drop_seam : (xs : List ℕ) (y : ℕ) (ys : List ℕ) → drop (suc (length xs)) (xs ++ y ∷ ys) ≡ ys
drop_seam [] y ys = refl
drop_seam (x ∷ xs) y ys = drop_seam xs y ys

-- a cut at the first mark
pub cut_seam : (c : ℕ) (xs ys : List ℕ) → none_pass (is_mark c) xs ≡ true → is_mark c c ≡ true → cut c (xs ++ c ∷ ys) ≡ Some (xs, ys)
cut_seam c xs ys h e =
    let front = take-append_seam xs (c ∷ ys) in
    let back = drop_seam xs c ys in
    ap (cut_at (xs ++ c ∷ ys)) (position_seam (is_mark c) xs c ys h e)
    ∙ (λ i. Some (front i, back i))

-- a text without the mark stands wholly before it
pub before_none : (test : ℕ → Bool) (xs : List ℕ) → none_pass test xs ≡ true → before_first test xs ≡ xs
before_none test [] h = refl
before_none test (x ∷ xs) h =
    let w = and_parts (not (test x)) (none_pass test xs) h in
    first (test x) (position_or_len test xs) (not-true (test x) w.0) (before_none test xs w.1)
  where
    first : (b : Bool) (m : ℕ) → b ≡ false → take m xs ≡ xs → take (cond (not b) (1 + m) 0) (x ∷ xs) ≡ x ∷ xs
    first true m e t = absurd (cc)
    first false m e t =
        let s : 1 + m ≡ suc m = omega arith in
        ap (λ (k : ℕ). take k (x ∷ xs)) s ∙ ap (λ (l : List ℕ). x ∷ l) t

-- the parts of a text whose first line is known
pub split_seam : (test : ℕ → Bool) (xs : List ℕ) (y : ℕ) (ys : List ℕ) → none_pass test xs ≡ true → test y ≡ true → slice_split test (xs ++ y ∷ ys) ≡ xs ∷ slice_split test ys
split_seam test [] y ys h e = slice_split-cons_yes test y ys e
split_seam test (x ∷ xs) y ys h e =
    let w = and_parts (not (test x)) (none_pass test xs) h in
    slice_split-cons_no test x (xs ++ y ∷ ys) (not-true (test x) w.0) ∙ ap (onto_first x) (split_seam test xs y ys w.1 e)
