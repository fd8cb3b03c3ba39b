-- A cut at the first mark, and the parts between marks.
use Rattle.std.proofs.Common.{◌≡◌, ℕ, suc, ◌+◌, ◌<◌, ◌≤◌, Bool, true, false, not, cond, nat_lt, List, [], ◌∷◌, ◌++◌, length, take, drop, Option, Some, None, refl, ap, sym, ◌∙◌, add-one, append_assoc, length-drop, arith}
use Rattle.std.specs.List.{slice_split, onto_first, position_or_len, filter}
use Rattle.std.proofs.lemmas.List.Splits.{slice_split-cons_no, slice_split_first}
use Rattle.std.proofs.lemmas.Bool.Decides.{nat_tests}
use Rattle.plan_text.specs.Pieces.{is_mark, cut, cut_at}
use Rattle.plan_text.specs.Files.{Numbered, numbered}

unmarked_case : (test : ℕ → Bool) (x m n : ℕ) (b : Bool) → test x ≡ b → suc n ≤ cond (not b) (1 + m) 0 → (test x ≡ false) × (n ≤ m)
unmarked_case test x m n true e h = absurd (omega arith)
unmarked_case test x m n false e h = (e, omega arith)

-- where no mark stands, there is one part
unmarked : (test : ℕ → Bool) (text : List ℕ) → length text ≤ position_or_len test text → slice_split test text ≡ text ∷ []
unmarked test [] h = refl
unmarked test (x ∷ xs) h =
    let w = unmarked_case test x (position_or_len test xs) (length xs) (test x) refl h in
    slice_split-cons_no test x xs w.0 ∙ ap (onto_first x) (unmarked test xs w.1)

abbrev pub parts_by : ℕ → List ℕ → Option (List ℕ × List ℕ) → List (List ℕ)
parts_by c text None = text ∷ []
parts_by c text (Some w) = w.0 ∷ slice_split (is_mark c) w.1

is_less : (k n : ℕ) → nat_lt k n ≡ true → k < n
is_less k n h = grind (arith, nat_tests)

is_far : (k n : ℕ) → nat_lt k n ≡ false → n ≤ k
is_far k n h = grind (arith, nat_tests)

parts_cut_by : (c : ℕ) (text : List ℕ) (b : Bool) → nat_lt (position_or_len (is_mark c) text) (length text) ≡ b
    → slice_split (is_mark c) text ≡ parts_by c text (cut_at text (cond b (Some (position_or_len (is_mark c) text)) None))
parts_cut_by c text true e =
    slice_split_first (is_mark c) text 0 (is_less _ _ e)
    ∙ ap (λ (n : ℕ). take (position_or_len (is_mark c) text) text ∷ slice_split (is_mark c) (drop n text)) (add-one (position_or_len (is_mark c) text))
parts_cut_by c text false e = unmarked (is_mark c) text (is_far _ _ e)

-- the parts of a text are what stands before its first mark, and the parts of what stands behind it
pub parts_cut : (c : ℕ) (text : List ℕ) → slice_split (is_mark c) text ≡ parts_by c text (cut c text)
parts_cut c text = parts_cut_by c text _ refl

abbrev behind_of : Option (List ℕ × List ℕ) → List ℕ
behind_of None = []
behind_of (Some w) = w.1

less_by : (c : ℕ) (text a b : List ℕ) (t : Bool) → nat_lt (position_or_len (is_mark c) text) (length text) ≡ t
    → Some (a, b) ≡ cut_at text (cond t (Some (position_or_len (is_mark c) text)) None) → length b < length text
less_by c text a b true e h =
    let same : b ≡ drop (suc (position_or_len (is_mark c) text)) text = ap behind_of h in
    let less = is_less _ _ e in
    let shorter = length-drop (suc (position_or_len (is_mark c) text)) text in
    rw same (omega arith)
less_by c text a b false e h = absurd (cc)

-- what stands behind a mark is shorter
pub cut_less : (c : ℕ) (text a b : List ℕ) → Some (a, b) ≡ cut c text → length b < length text
cut_less c text a b h = less_by c text a b _ refl h

kept_first : (skip : Bool) (x : Numbered) (rest : List Numbered) → (cond skip [] (x ∷ [])) ++ rest ≡ cond (not skip) (x ∷ rest) rest
kept_first true x rest = refl
kept_first false x rest = refl

-- one line more is kept, unless it is skipped
pub keeps_line : (skipped : List ℕ → Bool) (n : ℕ) (text a b : List ℕ) (old new all : List Numbered) → Some (a, b) ≡ cut 10 text
    → new ≡ old ++ cond (skipped a) [] (record { number = n; text = a } ∷ [])
    → old ++ filter (λ x. not (skipped x.text)) (numbered n (slice_split (is_mark 10) text)) ≡ all
    → new ++ filter (λ x. not (skipped x.text)) (numbered (n + 1) (slice_split (is_mark 10) b)) ≡ all
keeps_line skipped n text a b old new all h e f =
    let first : Numbered = record { number = n; text = a } in
    let rest : List Numbered = filter (λ x. not (skipped x.text)) (numbered (n + 1) (slice_split (is_mark 10) b)) in
    let parts : slice_split (is_mark 10) text ≡ a ∷ slice_split (is_mark 10) b = parts_cut 10 text ∙ ap (parts_by 10 text) (sym h) in
    ap (λ (l : List Numbered). l ++ rest) e
    ∙ (append_assoc old (cond (skipped a) [] (first ∷ [])) rest
    ∙ (ap (λ (l : List Numbered). old ++ l) (kept_first (skipped a) first rest)
    ∙ (ap (λ (l : List (List ℕ)). old ++ filter (λ x. not (skipped x.text)) (numbered n l)) (sym parts) ∙ f)))

-- the last line is kept, unless it is skipped
pub keeps_last : (skipped : List ℕ → Bool) (n : ℕ) (text : List ℕ) (old new all : List Numbered) → None ≡ cut 10 text
    → new ≡ old ++ cond (skipped text) [] (record { number = n; text = text } ∷ [])
    → old ++ filter (λ x. not (skipped x.text)) (numbered n (slice_split (is_mark 10) text)) ≡ all
    → new ≡ all
keeps_last skipped n text old new all h e f =
    let first : Numbered = record { number = n; text = text } in
    let parts : slice_split (is_mark 10) text ≡ text ∷ [] = parts_cut 10 text ∙ ap (parts_by 10 text) (sym h) in
    e
    ∙ (ap (λ (l : List Numbered). old ++ l) (last_first (skipped text) first)
    ∙ (ap (λ (l : List (List ℕ)). old ++ filter (λ x. not (skipped x.text)) (numbered n l)) (sym parts) ∙ f))
  where
    last_first : (skip : Bool) (x : Numbered) → cond skip [] (x ∷ []) ≡ cond (not skip) (x ∷ []) []
    last_first true x = refl
    last_first false x = refl
