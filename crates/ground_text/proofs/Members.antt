-- A part of a ground text that is written is read again.
use Rattle.std.proofs.Common.{◌≡◌, ℕ, zero, suc, ◌+◌, ◌^◌, ◌≤◌, ◌<◌, min, Bool, true, false, not, ◌&&◌, List, [], ◌∷◌, ◌++◌, length, take, drop, refl, ap, ◌∙◌, append_assoc, length-append, arith}
use Rattle.std.specs.Prelude.{decimal, codes, ◌==◌}
use Rattle.std.specs.List.{list_all, filter, flat_map}
use Rattle.std.proofs.lemmas.Bool.{eqb-true, and_parts, and_from}
use Rattle.std.proofs.lemmas.Bool.Decides.{nat_tests}
use Rattle.std.proofs.lemmas.List.{take_at}
use Rattle.tp_spec.specs.WellFormed.{is_name_byte, are_words, is_name}
use Rattle.ground_text.specs.Texts.{listed, name_text, counted}
use Rattle.ground_text.specs.Reading.{first_is, is_ascii_byte, line_len, name_at, members_at, repeated_at, counted_at, begins_with_digit}
use Rattle.ground_text.proofs.Numbers.{number_again}

-- ---- names

-- a byte that a line of ASCII may have
abbrev pub is_plain : ℕ → Bool
is_plain c = is_ascii_byte c && not (c == 10)

space_plain : (b : ℕ) → (b == 32) ≡ true → is_plain b ≡ true
space_plain b h = ap is_plain (eqb-true b 32 h)

byte_plain : (b : ℕ) → is_name_byte b ≡ true → is_plain b ≡ true
byte_plain b h = grind (arith, nat_tests)

byte_of_word : (wanted : Bool) (b : ℕ) (rest : List ℕ) → are_words wanted (b ∷ rest) ≡ true → (is_plain b ≡ true) × ((after : Bool) × (are_words after rest ≡ true))
byte_of_word wanted b rest h = by_space (b == 32) refl where
  by_space : (is : Bool) → (b == 32) ≡ is → (is_plain b ≡ true) × ((after : Bool) × (are_words after rest ≡ true))
  by_space true e = let k = rw e at h in (space_plain b e, (true, (and_parts _ _ k).1))
  by_space false e = let k = rw e at h in (byte_plain b (and_parts _ _ k).0, (false, (and_parts _ _ k).1))

pub words_plain : (wanted : Bool) (name : List ℕ) → are_words wanted name ≡ true → list_all is_plain name ≡ true
words_plain wanted [] h = refl
words_plain wanted (b ∷ rest) h =
    let p = byte_of_word wanted b rest h in
    and_from _ _ p.0 (words_plain p.1.0 rest p.1.1)

line_len_is : (name rest : List ℕ) → list_all is_plain name ≡ true → line_len (name ++ (10 ∷ rest)) ≡ length name
line_len_is [] rest h = refl
line_len_is (c ∷ name) rest h =
    let p : (is_plain c ≡ true) × (list_all is_plain name ≡ true) = and_parts _ _ h in
    let q : (is_ascii_byte c ≡ true) × (not (c == 10) ≡ true) = and_parts _ _ p.0 in
    one c q.1 ∙ ap (λ (n : ℕ). 1 + n) (line_len_is name rest p.1) ∙ one_more (length name) where
      one_more : (n : ℕ) → 1 + n ≡ suc n
      one_more n = omega arith

      one : (c : ℕ) → not (c == 10) ≡ true → line_len (c ∷ (name ++ (10 ∷ rest))) ≡ 1 + line_len (name ++ (10 ∷ rest))
      one c n = grind (arith, nat_tests)

ascii_kept : (name : List ℕ) → list_all is_plain name ≡ true → filter is_ascii_byte name ≡ name
ascii_kept [] h = refl
ascii_kept (c ∷ name) h =
    let p : (is_plain c ≡ true) × (list_all is_plain name ≡ true) = and_parts _ _ h in
    let q : (is_ascii_byte c ≡ true) × (not (c == 10) ≡ true) = and_parts _ _ p.0 in
    rw q.0 (ap (λ (x : List ℕ). c ∷ x) (ascii_kept name p.1))

behind_line : (name rest : List ℕ) → drop (length name + 1) (name ++ (10 ∷ rest)) ≡ rest
behind_line [] rest = refl
behind_line (c ∷ name) rest =
    let k : suc (length name) + 1 ≡ suc (length name + 1) = omega arith in
    ap (λ (n : ℕ). drop n (c ∷ (name ++ (10 ∷ rest)))) k ∙ behind_line name rest

pub name_again : (name rest : List ℕ) → is_name name ≡ true → name_at (name ++ (10 ∷ rest)) ≡ (name, rest)
unfolding name_at
name_again name rest h =
    let plain = words_plain true name h in
    let len = line_len_is name rest plain in
    let front = ap (λ (n : ℕ). take n (name ++ (10 ∷ rest))) len ∙ take_at name (10 ∷ rest) (length name) refl in
    let behind = ap (λ (n : ℕ). drop (n + 1) (name ++ (10 ∷ rest))) len ∙ behind_line name rest in
    λ i. ((ap (filter is_ascii_byte) front ∙ ascii_kept name plain) i, behind i)

pub name_line_again : (name rest : List ℕ) → is_name name ≡ true → name_at (name_text name ++ rest) ≡ (name, rest)
unfolding name_text
name_line_again name rest h = ap name_at (append_assoc name (10 ∷ []) rest) ∙ name_again name rest h

-- ---- members of a line

-- no digit goes on
abbrev pub Ends : List ℕ → Type 0
Ends rest = begins_with_digit rest ≡ false

-- what a reader of one member has to do
abbrev pub Again : {A : Type 0} → (List ℕ → A × List ℕ) → (A → List ℕ) → (A → Bool) → Type 0
Again at text good = (x : _) (rest : List ℕ) → good x ≡ true → Ends rest → at (text x ++ rest) ≡ (x, rest)

listed-cons : {A : Type 0} (text : A → List ℕ) (x : A) (xs : List A) (rest : List ℕ) → listed text (x ∷ xs) ++ rest ≡ 32 ∷ (text x ++ (listed text xs ++ rest))
unfolding listed
listed-cons text x xs rest = ap (λ (y : List ℕ). 32 ∷ y) (append_assoc (text x) (flat_map (λ x. codes " " ++ text x) xs) rest)

listed-none : {A : Type 0} (text : A → List ℕ) (rest : List ℕ) → listed text [] ++ rest ≡ rest
unfolding listed
listed-none text rest = refl

pub listed_ends : {A : Type 0} (text : A → List ℕ) (xs : List A) (rest : List ℕ) → Ends rest → Ends (listed text xs ++ rest)
listed_ends text [] rest ends = rw (listed-none text rest) ends
listed_ends text (x ∷ xs) rest ends = rw (listed-cons text x xs rest) refl

member_first : {A : Type 0} (at : List ℕ → A × List ℕ) (k : ℕ) (bytes after : List ℕ) (x : A) (read : List A × List ℕ)
    → at bytes ≡ (x, after) → members_at at k after ≡ read → members_at at (suc k) (32 ∷ bytes) ≡ (x ∷ read.0, read.1)
member_first {A} at k bytes after x read one others =
    ap (λ (y : A × List ℕ). (y.0 ∷ (members_at at k y.1).0, (members_at at k y.1).1)) one
    ∙ ap (λ (r : List A × List ℕ). (x ∷ r.0, r.1)) others

no_member : {A : Type 0} (at : List ℕ → A × List ℕ) (k : ℕ) (rest : List ℕ) → first_is 32 rest ≡ false → members_at at k rest ≡ ([], rest)
no_member at zero rest h = refl
no_member at (suc k) rest h = rw h refl

members_read : {A : Type 0} (at : List ℕ → A × List ℕ) (text : A → List ℕ) (good : A → Bool) → Again at text good
    → (xs : List A) (k : ℕ) (rest : List ℕ) → list_all good xs ≡ true → length xs ≤ k → first_is 32 rest ≡ false → Ends rest
    → members_at at k (listed text xs ++ rest) ≡ (xs, rest)
members_read at text good again [] k rest h few last ends = ap (members_at at k) (listed-none text rest) ∙ no_member at k rest last
members_read at text good again (x ∷ xs) zero rest h few last ends = absurd (omega arith)
members_read at text good again (x ∷ xs) (suc k) rest h few last ends =
    let p = and_parts _ _ h in
    ap (members_at at (suc k)) (listed-cons text x xs rest)
    ∙ member_first at k (text x ++ (listed text xs ++ rest)) (listed text xs ++ rest) x (xs, rest)
    (again x (listed text xs ++ rest) p.0 (listed_ends text xs rest ends))
    (members_read at text good again xs k rest p.1 (omega arith) last ends)

listed_long : {A : Type 0} (text : A → List ℕ) (xs : List A) (rest : List ℕ) → length xs ≤ length (listed text xs ++ rest)
listed_long text [] rest = omega arith
listed_long text (x ∷ xs) rest =
    let e = ap length (listed-cons text x xs rest) in
    let more = length-append (text x) (listed text xs ++ rest) in
    let others = listed_long text xs rest in
    omega (arith, e, more, others)

pub members_again : {A : Type 0} (at : List ℕ → A × List ℕ) (text : A → List ℕ) (good : A → Bool) → Again at text good
    → (xs : List A) (rest : List ℕ) → list_all good xs ≡ true → first_is 32 rest ≡ false → Ends rest
    → members_at at (length (listed text xs ++ rest)) (listed text xs ++ rest) ≡ (xs, rest)
members_again at text good again xs rest h last ends =
    members_read at text good again xs (length (listed text xs ++ rest)) rest h (listed_long text xs rest) last ends

-- ---- blocks behind a count

repeated_again : {A : Type 0} (at : List ℕ → A × List ℕ) (text : A → List ℕ) (good : A → Bool)
    → ((x : A) (rest : List ℕ) → good x ≡ true → at (text x ++ rest) ≡ (x, rest))
    → (xs : List A) (rest : List ℕ) → list_all good xs ≡ true → repeated_at at (length xs) (flat_map text xs ++ rest) ≡ (xs, rest)
repeated_again at text good again [] rest h = refl
repeated_again {A} at text good again (x ∷ xs) rest h =
    let p = and_parts _ _ h in
    ap (repeated_at at (suc (length xs))) (append_assoc (text x) (flat_map text xs) rest)
    ∙ ap (λ (y : A × List ℕ). (y.0 ∷ (repeated_at at (length xs) y.1).0, (repeated_at at (length xs) y.1).1)) (again x (flat_map text xs ++ rest) p.0)
    ∙ ap (λ (r : List A × List ℕ). (x ∷ r.0, r.1)) (repeated_again at text good again xs rest p.1)

pub counted_again : {A : Type 0} (at : List ℕ → A × List ℕ) (text : A → List ℕ) (good : A → Bool)
    → ((x : A) (rest : List ℕ) → good x ≡ true → at (text x ++ rest) ≡ (x, rest))
    → (most : ℕ) (xs : List A) (rest : List ℕ) → most < 2 ^ 32 → length xs ≤ most → list_all good xs ≡ true → counted_at at most (counted text xs ++ rest) ≡ (xs, rest)
unfolding counted counted_at
counted_again at text good again most xs rest fits few h =
    let shape : counted text xs ++ rest ≡ decimal (length xs) ++ (10 ∷ (flat_map text xs ++ rest)) = simp append_assoc in
    let least : min (length xs) most ≡ length xs = omega arith in
    ap (counted_at at most) shape
    ∙ ap (λ (n : ℕ × List ℕ). repeated_at at (min n.0 most) (drop 1 n.1)) (number_again (length xs) (10 ∷ (flat_map text xs ++ rest)) (omega arith) refl)
    ∙ ap (λ (n : ℕ). repeated_at at n (flat_map text xs ++ rest)) least
    ∙ repeated_again at text good again xs rest h
