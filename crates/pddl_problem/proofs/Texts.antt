-- Words that are joined by blanks can be told apart again.
use Rattle.std.proofs.Common.{◌≡◌, ◌<◌, ◌^◌, ℕ, ℤ, Bool, true, false, not, ◌&&◌, ◌||◌, nat_eq, List, [], ◌∷◌, ◌++◌, unsigned_abs, take, drop, refl, ap, sym, ◌∙◌, arith}
use Rattle.std.specs.List.{list_all}
use Rattle.std.specs.Int.{to_be_bytes, from_be_bytes, w64}
use Rattle.std.proofs.lemmas.Nat.{from_be_bytes-to_be_bytes_8}
use Rattle.std.proofs.lemmas.Bool.Decides.{nat_tests}
use Rattle.pddl_tokens.specs.Tokens.{is_letter}
use Rattle.pddl_tokens.specs.Trees.{Trees, Leaf, Node, End, More, have_letters}
use Rattle.pddl_problem.specs.Elements.{joined_words, dated_words, texts_of}

both : (a b : Bool) → a && b ≡ true → (a ≡ true) × (b ≡ true)
both true true h = (refl, refl)
both true false h = absurd (cc)
both false b h = absurd (cc)

abbrev has_no_blank : List ℕ → Bool
has_no_blank text = list_all (λ c. not (nat_eq c 32)) text

no_blank_here : (c : ℕ) → not (nat_eq c 32) ≡ true → c ≡ 32 → ⊥
no_blank_here c h e = grind (arith, nat_tests)

heads : (c d : ℕ) (x y : List ℕ) → c ∷ x ≡ d ∷ y → (c ≡ d) × (x ≡ y)
heads c d x y h = ((cc), (cc))

-- a word ends at the first blank
cut : (a b x y : List ℕ) → has_no_blank a ≡ true → has_no_blank b ≡ true → a ++ (32 ∷ x) ≡ b ++ (32 ∷ y) → (a ≡ b) × (x ≡ y)
cut [] [] x y p q h = (refl, (heads 32 32 x y h).1)
cut [] (d ∷ b) x y p q h =
    let q2 = both (not (nat_eq d 32)) (has_no_blank b) q in
    absurd (no_blank_here d q2.0 (sym ((heads 32 d x (b ++ (32 ∷ y)) h).0)))
cut (c ∷ a) [] x y p q h =
    let p2 = both (not (nat_eq c 32)) (has_no_blank a) p in
    absurd (no_blank_here c p2.0 ((heads c 32 (a ++ (32 ∷ x)) y h).0))
cut (c ∷ a) (d ∷ b) x y p q h =
    let p2 = both (not (nat_eq c 32)) (has_no_blank a) p in
    let q2 = both (not (nat_eq d 32)) (has_no_blank b) q in
    let hs = heads c d (a ++ (32 ∷ x)) (b ++ (32 ∷ y)) h in
    let r = cut a b x y p2.1 q2.1 hs.1 in
    (λ i. hs.0 i ∷ r.0 i, r.1)

abbrev joined : List (List ℕ) → List ℕ
joined [] = []
joined (w ∷ ws) = w ++ (32 ∷ joined ws)

joined_texts : (ts : Trees) → joined_words ts ≡ joined (texts_of ts)
joined_texts End = refl
joined_texts (More (Leaf at text) rest) = ap (λ (x : List ℕ). text ++ (32 ∷ x)) (joined_texts rest)
joined_texts (More (Node at close parts) rest) = joined_texts rest

nothing : (w x : List ℕ) → [] ≡ w ++ (32 ∷ x) → ⊥
nothing [] x h = cc
nothing (c ∷ w) x h = cc

same_texts : (vs ws : List (List ℕ)) → list_all has_no_blank vs ≡ true → list_all has_no_blank ws ≡ true → joined vs ≡ joined ws → vs ≡ ws
same_texts [] [] p q h = refl
same_texts [] (w ∷ ws) p q h = absurd (nothing w (joined ws) h)
same_texts (v ∷ vs) [] p q h = absurd (nothing v (joined vs) (sym h))
same_texts (v ∷ vs) (w ∷ ws) p q h =
    let p2 = both (has_no_blank v) (list_all has_no_blank vs) p in
    let q2 = both (has_no_blank w) (list_all has_no_blank ws) q in
    let r = cut v w (joined vs) (joined ws) p2.0 q2.0 h in
    let s = same_texts vs ws p2.1 q2.1 r.1 in
    λ i. r.0 i ∷ s i

other : (blank a b c d e : Bool) → not ((((blank || a) || b) || c) || d || e) ≡ true → not blank ≡ true
other true a b c d e h = absurd (cc)
other false a b c d e h = refl

letters : (text : List ℕ) → list_all is_letter text ≡ true → has_no_blank text ≡ true
letters [] h = refl
letters (c ∷ text) h =
    let h2 = both (is_letter c) (list_all is_letter text) h in
    ap (λ (b : Bool). b && has_no_blank text) (other (nat_eq c 32) (nat_eq c 9) (nat_eq c 10) (nat_eq c 13) (nat_eq c 40) (nat_eq c 41) h2.0)
    ∙ letters text h2.1

letter_texts : (ts : Trees) → have_letters ts ≡ true → list_all has_no_blank (texts_of ts) ≡ true
letter_texts End h = refl
letter_texts (More (Leaf at text) rest) h =
    let h2 = both (list_all is_letter text) (have_letters rest) h in
    ap (λ (b : Bool). b && list_all has_no_blank (texts_of rest)) (letters text h2.0) ∙ letter_texts rest h2.1
letter_texts (More (Node at close parts) rest) h = letter_texts rest (both (have_letters parts) (have_letters rest) h).1

-- words of letters alone have one text only if they are the same
pub same_words : (ts us : Trees) → have_letters ts ≡ true → have_letters us ≡ true → joined_words ts ≡ joined_words us → texts_of ts ≡ texts_of us
same_words ts us p q h =
    same_texts (texts_of ts) (texts_of us) (letter_texts ts p) (letter_texts us q) (sym (joined_texts ts) ∙ (h ∙ joined_texts us))

eight : (n : ℕ) (x : List ℕ) → take 8 (to_be_bytes w64 n ++ x) ≡ to_be_bytes w64 n
eight n x = refl

behind_eight : (n : ℕ) (x : List ℕ) → drop 8 (to_be_bytes w64 n ++ x) ≡ x
behind_eight n x = refl

-- a dated text has one tick and one atom's text
pub same_date : (s t : ℤ) (a b : List ℕ) → unsigned_abs s < 2 ^ 64 → unsigned_abs t < 2 ^ 64 → dated_words s a ≡ dated_words t b → (unsigned_abs s ≡ unsigned_abs t) × (a ≡ b)
same_date s t a b p q h =
    let m = unsigned_abs s in
    let n = unsigned_abs t in
    let bytes = sym (eight m a) ∙ (ap (λ (x : List ℕ). take 8 x) h ∙ eight n b) in
    let numbers = sym (from_be_bytes-to_be_bytes_8 m p) ∙ (ap (from_be_bytes w64) bytes ∙ from_be_bytes-to_be_bytes_8 n q) in
    (numbers, sym (behind_eight m a) ∙ (ap (λ (x : List ℕ). drop 8 x) h ∙ behind_eight n b))
