-- How words grow, and what the word of an id is made of.
use Rattle.std.proofs.Common.{◌≡◌, ℕ, zero, suc, ◌+◌, ◌-◌, ◌<◌, ◌≤◌, List, [], ◌∷◌, ◌++◌, length, get_or, set, drop, refl, sym, ap, subst, arith, ◌∙◌, append_assoc, length-append, inl, inr}
use Rattle.std.proofs.lemmas.List.{drop-set, get_or_append_left}
use Rattle.std.proofs.Math.Seq.{get_or-append_seam}
use Rattle.std.proofs.lemmas.Bool.{cases_lt}
use Rattle.tp_spec.specs.declared.plan.Mark.{Mark}
use Rattle.std.specs.List.{slice_get}
use Rattle.std.specs.Prelude.{map}
use Rattle.word_frontier.specs.declared.slot.Slot.{Slot}
use Rattle.std.specs.Prelude.{Some}
use Rattle.std.proofs.lemmas.Option.{slice_get_within, get_or_from_slice_get}
use Rattle.word_frontier.proofs.Places.{item-of, map-get, some_same}
use Rattle.word_frontier.specs.Slots.{Step, step_of, word_of, words_from, words_of, GoBack}

pub words-push : (words : List (List Mark)) (links : List Step) (l : Step) → words_from words (links ++ l ∷ []) ≡ words_from words links ++ (word_of (words_from words links) l.parent ++ l.mark ∷ []) ∷ []
words-push words [] l = refl
words-push words (k ∷ links) l = words-push (words ++ (word_of words k.parent ++ k.mark ∷ []) ∷ []) links l

pub words-length : (words : List (List Mark)) (links : List Step) → length (words_from words links) ≡ length words + length links
words-length words [] = omega arith
words-length words (k ∷ links) = omega (arith, words-length (words ++ (word_of words k.parent ++ k.mark ∷ []) ∷ []) links, length-append words ((word_of words k.parent ++ k.mark ∷ []) ∷ []))

pub slice_get-front : {A : Type 0} (xs ys : List A) (n : ℕ) → n < length xs → slice_get (xs ++ ys) n ≡ slice_get xs n
slice_get-front [] ys n h = absurd (omega arith)
slice_get-front (x ∷ xs) ys zero h = refl
slice_get-front (x ∷ xs) ys (suc n) h = slice_get-front xs ys n (omega arith)

pub slice_get-last : {A : Type 0} (xs : List A) (y : A) → slice_get (xs ++ y ∷ []) (length xs) ≡ Some y
slice_get-last [] y = refl
slice_get-last (x ∷ xs) y = slice_get-last xs y

-- earlier words stay
pub words-kept : (words : List (List Mark)) (links : List Step) (n : ℕ) → n < length words → word_of (words_from words links) n ≡ word_of words n
words-kept words [] n h = refl
words-kept words (k ∷ links) n h =
    let w = (word_of words k.parent ++ k.mark ∷ []) ∷ [] in
    words-kept (words ++ w) links n (omega (arith, length-append words w)) ∙ get_or_append_left words w [] n h

-- a word is its parent's and its mark
pub word-step : (words : List (List Mark)) (links : List Step) (n k : ℕ) (d : Step) → n < length links → k ≡ length words + n → (get_or links n d).parent < k → word_of (words_from words links) k ≡ word_of (words_from words links) (get_or links n d).parent ++ (get_or links n d).mark ∷ []
word-step words [] n k d h e back = absurd (omega arith)
word-step words (l ∷ links) zero k d h e back =
    let w = (word_of words l.parent ++ l.mark ∷ []) ∷ [] in
    let more : length (words ++ w) ≡ length words + 1 = length-append words w in
    let top : k ≡ length words = omega arith in
    words-kept (words ++ w) links k (omega arith) ∙ ap (λ j. word_of (words ++ w) j) top ∙ get_or-append_seam words (word_of words l.parent ++ l.mark ∷ []) [] []
    ∙ sym (ap (λ (v : List Mark). v ++ l.mark ∷ []) (words-kept (words ++ w) links l.parent (omega arith) ∙ get_or_append_left words w [] l.parent (omega arith)))
word-step words (l ∷ links) (suc n) k d h e back =
    let w = (word_of words l.parent ++ l.mark ∷ []) ∷ [] in
    word-step (words ++ w) links n k d (omega arith) (omega (arith, length-append words w)) back

-- the words of all steps

pub words_of-length : (steps : List Step) → length (words_of steps) ≡ length steps
words_of-length [] = refl
words_of-length (s ∷ steps) = let n = words-length ([] ∷ []) steps in omega (arith, n)

pub words_of-push : (steps : List Step) (s : Step) → 0 < length steps → words_of (steps ++ s ∷ []) ≡ words_of steps ++ (word_of (words_of steps) s.parent ++ s.mark ∷ []) ∷ []
words_of-push [] s h = absurd (let z : ⊥ = omega arith in z)
words_of-push (r ∷ steps) s h = words-push ([] ∷ []) steps s

pub words_of-root : (steps : List Step) → word_of (words_of steps) 0 ≡ []
words_of-root [] = refl
words_of-root (s ∷ steps) = words-kept ([] ∷ []) steps 0 (omega arith)

pub words_of-step : (steps : List Step) (n : ℕ) (s : Step) → GoBack steps → slice_get steps (suc n) ≡ Some s → word_of (words_of steps) (suc n) ≡ word_of (words_of steps) s.parent ++ s.mark ∷ []
words_of-step [] n s back h = absurd (let z : ⊥ = cc in z)
words_of-step (r ∷ steps) n s back h =
    let is : get_or steps n s ≡ s = get_or_from_slice_get steps n s s h in
    let le = back n s h in
    let within = slice_get_within steps n s h in
    let lt : (get_or steps n s).parent < suc n = subst (λ (k : Step). k.parent < suc n) (sym is) (omega (arith, le)) in
    subst (λ (k : Step). word_of (words_from ([] ∷ []) steps) (suc n) ≡ word_of (words_from ([] ∷ []) steps) k.parent ++ k.mark ∷ []) is
    (word-step ([] ∷ []) steps n (suc n) s within (omega arith) lt)

-- one step more
pub back-push : (steps : List Step) (s : Step) → GoBack steps → s.parent < length steps → GoBack (steps ++ s ∷ [])
back-push steps s back lt n t h = elim (cases_lt (suc n) (length steps)) [
  | inl below ↦ back n t (sym (slice_get-front steps (s ∷ []) (suc n) below) ∙ h)
  | inr above ↦
      let more = length-append steps (s ∷ []) in
      let within = slice_get_within (steps ++ s ∷ []) (suc n) t h in
      let is : suc n ≡ length steps = omega (arith, more, within, above) in
      let e : s ≡ t = some_same (sym (slice_get-last steps s) ∙ ap (slice_get (steps ++ s ∷ [])) (sym is) ∙ h) in
      subst (λ (k : Step). k.parent ≤ n) e (omega (arith, is, lt))
]

-- steps back

pub back-within : (steps : List Step) (at : ℕ) (s : Step) → GoBack steps → 0 < at → slice_get steps at ≡ Some s → s.parent < length steps
back-within steps zero s go some h = absurd (let z : ⊥ = omega arith in z)
back-within steps (suc n) s go some h = let le = go n s h in let within = slice_get_within steps (suc n) s h in omega (arith, le, within)

pub step-at : (slots : List Slot) (at : ℕ) (d : Slot) → at < length slots → slice_get (map step_of slots) at ≡ Some (step_of (get_or slots at d))
step-at [] at d h = absurd (omega arith)
step-at (s ∷ slots) zero d h = refl
step-at (s ∷ slots) (suc at) d h = step-at slots at d (omega arith)

pub back-less : (steps : List Step) (at : ℕ) (s : Step) → GoBack steps → 0 < at → slice_get steps at ≡ Some s → s.parent < at
back-less steps zero s go some h = absurd (let z : ⊥ = omega arith in z)
back-less steps (suc n) s go some h = let le = go n s h in omega (arith, le)

-- a parent's word is one mark shorter
pub back-shorter : (steps : List Step) (at n m : ℕ) (s : Step) → GoBack steps → 0 < at → slice_get steps at ≡ Some s → n + length (word_of (words_of steps) at) ≡ m → (n + 1) + length (word_of (words_of steps) s.parent) ≡ m
back-shorter steps zero n m s go some h is = absurd (let z : ⊥ = omega arith in z)
back-shorter steps (suc at) n m s go some h is =
    let step = ap length (words_of-step steps at s go h) in
    let more = length-append (word_of (words_of steps) s.parent) (s.mark ∷ []) in omega (arith, step, more, is)

pub back-shortest : (steps : List Step) (at n m : ℕ) → at ≤ 0 → n + length (word_of (words_of steps) at) ≡ m → n ≡ m
back-shortest steps at n m le is =
    let none : at ≡ 0 = omega arith in
    let empty = ap length (ap (word_of (words_of steps)) none ∙ words_of-root steps) in omega (arith, empty, is)

-- a word that is written from its end on

-- the mark of a word lies before those behind it
pub fill-step : (steps : List Step) (at left : ℕ) (s : Step) (marks w : List Mark) → GoBack steps → 0 < at → slice_get steps at ≡ Some s → left + 1 ≡ length (word_of (words_of steps) at) → left < length marks
    → word_of (words_of steps) at ++ drop (left + 1) marks ≡ w → word_of (words_of steps) s.parent ++ drop left (set marks left s.mark) ≡ w
fill-step steps zero left s marks w go some h n within is = absurd (let z : ⊥ = omega arith in z)
fill-step steps (suc at) left s marks w go some h n within is =
    let words : List (List Mark) = words_of steps in
    ap (λ (ys : List Mark). word_of words s.parent ++ ys) (drop-set marks left s.mark within)
    ∙ sym (append_assoc (word_of words s.parent) (s.mark ∷ []) (drop (left + 1) marks))
    ∙ ap (λ (ys : List Mark). ys ++ drop (left + 1) marks) (sym (words_of-step steps at s go h))
    ∙ is

-- a word that is not empty is one mark longer than its parent's
pub fill-left : (steps : List Step) (at left : ℕ) (s : Step) → GoBack steps → 0 < at → slice_get steps at ≡ Some s → left ≡ length (word_of (words_of steps) at) → left ≡ length (word_of (words_of steps) s.parent) + 1
fill-left steps zero left s go some h is = absurd (let z : ⊥ = omega arith in z)
fill-left steps (suc at) left s go some h is =
    let step = ap length (words_of-step steps at s go h) in
    let more = length-append (word_of (words_of steps) s.parent) (s.mark ∷ []) in omega (arith, step, more, is)

pub fill-end : (steps : List Step) (at left : ℕ) (marks w : List Mark) → at ≤ 0 → left ≡ length (word_of (words_of steps) at) → word_of (words_of steps) at ++ drop left marks ≡ w → marks ≡ w
fill-end steps at left marks w le n is =
    let none : at ≡ 0 = omega arith in
    let empty : word_of (words_of steps) at ≡ [] = ap (word_of (words_of steps)) none ∙ words_of-root steps in
    let zero-left : left ≡ 0 = n ∙ ap length empty in
    sym (ap (λ (ys : List Mark). ys ++ drop left marks) empty ∙ ap (λ k. drop k marks) zero-left) ∙ is

pub fill-back : (steps : List Step) (at left : ℕ) (s : Step) (mark : Mark) (marks w : List Mark) → GoBack steps → 0 < at → slice_get steps at ≡ Some s → left ≡ length (word_of (words_of steps) at) → left ≤ length marks
    → mark ≡ s.mark → word_of (words_of steps) at ++ drop left marks ≡ w → word_of (words_of steps) s.parent ++ drop (left - 1) (set marks (left - 1) mark) ≡ w
fill-back steps at left s mark marks w go some h n within m is =
    let longer = fill-left steps at left s go some h n in
    let one : left ≡ (left - 1) + 1 = omega (arith, longer) in
    subst (λ (x : Mark). word_of (words_of steps) s.parent ++ drop (left - 1) (set marks (left - 1) x) ≡ w) (sym m)
    (fill-step steps at (left - 1) s marks w go some h (sym one ∙ n) (omega (arith, longer, within)) (ap (λ k. word_of (words_of steps) at ++ drop k marks) (sym one) ∙ is))

pub fill-some : (slots : List Slot) (at left : ℕ) → GoBack (map step_of slots) → 0 < at → at < length slots → left ≡ length (word_of (words_of (map step_of slots)) at) → 0 < left
fill-some slots at left go some within n =
    let s = item-of slots at within in
    let longer = fill-left (map step_of slots) at left (step_of s.0) go some (map-get step_of slots at s.0 s.1) n in omega (arith, longer)
