-- What a change of words makes of each fact.
use Rattle.std.proofs.Common.{◌≡◌, refl, sym, ap, ◌∙◌, ℕ, zero, suc, ◌-◌, ◌*◌, ◌/◌, ◌%◌, ◌+◌, ◌^◌, ◌<◌, ◌≤◌, inl, inr, Bool, true, false, not, ◌&&◌, ◌||◌, min, max, eqb, List, length, get_or, set, replicate, arith, w64, eq-eqb, get_or-set_same, get_or-set_other}
use Rattle.std.proofs.lemmas.Bool.{cases_lt, cases_eq, lt-ltb, le-ltb, false≢true, ne_eqb, and_parts, and_from}
use Rattle.std.proofs.lemmas.List.{get_or_past, get_or-replicate, length-replicate}
use Rattle.std.proofs.lemmas.Nat.{and_le_l, one_shl, pow_pos}
use Rattle.std.proofs.lemmas.Nat.Bits.{bit_at_or, bit_at_and, bit_at_not, bit_at-zero, bit_at-lt, bit_at-trailing_zeros, bit_at_set_same, bit_at_set_other, bit_at_clear_same, bit_at_clear_other, and_pow}
use Rattle.std.specs.Prelude.{bit_and, bit_or}
use Rattle.std.specs.Int.{bit_at, bit_not, trailing_zeros}
use Rattle.world_state.specs.Rows.{has_bit, has_place, InBoth, IsWithin}

-- the three operations on one bit
either : (x y : ℕ) → x < 2 → y < 2 → eqb (max x y) 1 ≡ (eqb x 1 || eqb y 1)
either zero zero _ _ = refl
either zero (suc zero) _ _ = refl
either (suc zero) zero _ _ = refl
either (suc zero) (suc zero) _ _ = refl
either zero (suc (suc y)) _ h = absurd (omega arith)
either (suc zero) (suc (suc y)) _ h = absurd (omega arith)
either (suc (suc x)) y h _ = absurd (omega arith)

both : (x y : ℕ) → x < 2 → y < 2 → eqb (min x y) 1 ≡ (eqb x 1 && eqb y 1)
both zero zero _ _ = refl
both zero (suc zero) _ _ = refl
both (suc zero) zero _ _ = refl
both (suc zero) (suc zero) _ _ = refl
both zero (suc (suc y)) _ h = absurd (omega arith)
both (suc zero) (suc (suc y)) _ h = absurd (omega arith)
both (suc (suc x)) y h _ = absurd (omega arith)

first_alone : (x y : ℕ) → x < 2 → y < 2 → eqb (min x (1 - y)) 1 ≡ (eqb x 1 && not (eqb y 1))
first_alone zero zero _ _ = refl
first_alone zero (suc zero) _ _ = refl
first_alone (suc zero) zero _ _ = refl
first_alone (suc zero) (suc zero) _ _ = refl
first_alone zero (suc (suc y)) _ h = absurd (omega arith)
first_alone (suc zero) (suc (suc y)) _ h = absurd (omega arith)
first_alone (suc (suc x)) y h _ = absurd (omega arith)

or_none : (a b c : Bool) → b ≡ false → a ≡ (a || (b && c))
or_none true b c h = refl
or_none false false c h = refl
or_none false true c h = absurd (false≢true (sym h))

by_both : (x y : Bool) → x ≡ true → (x && not y) ≡ false → y ≡ true
by_both true true _ _ = refl
by_both true false _ h = sym h
by_both false y h _ = absurd (false≢true h)

positive : (n : ℕ) → (n ≡ 0 → ⊥) → 0 < n
positive zero h = absurd (h refl)
positive (suc n) h = omega arith

le-lt : (a b c : ℕ) → a ≤ b → b < c → a < c
le-lt a b c h k = omega arith

word_or : (a b i : ℕ) → eqb (bit_at (bit_or a b) i) 1 ≡ (eqb (bit_at a i) 1 || eqb (bit_at b i) 1)
word_or a b i = ap (λ x. eqb x 1) (bit_at_or a b i) ∙ either _ _ (bit_at-lt a i) (bit_at-lt b i)

word_and : (a b i : ℕ) → eqb (bit_at (bit_and a b) i) 1 ≡ (eqb (bit_at a i) 1 && eqb (bit_at b i) 1)
word_and a b i = ap (λ x. eqb x 1) (bit_at_and a b i) ∙ both _ _ (bit_at-lt a i) (bit_at-lt b i)

word_less : (a b i : ℕ) → b < 2 ^ 64 → i < 64 → eqb (bit_at (bit_and a (bit_not w64 b)) i) 1 ≡ (eqb (bit_at a i) 1 && not (eqb (bit_at b i) 1))
word_less a b i fits small =
    ap (λ x. eqb x 1) (bit_at_and a (bit_not w64 b) i ∙ ap (min (bit_at a i)) (bit_at_not w64 b i fits small))
    ∙ first_alone _ _ (bit_at-lt a i) (bit_at-lt b i)

-- no fact is in a word of zeros
pub none_at : (words : List ℕ) (f : ℕ) → get_or words (f / 64) 0 ≡ 0 → has_bit words f ≡ false
unfolding has_bit
none_at words f e = ap (λ x. eqb (bit_at x (f % 64)) 1) e ∙ ap (λ x. eqb x 1) (bit_at-zero (f % 64))

-- no fact is behind the last word
pub none_past : (words : List ℕ) (f : ℕ) → length words ≤ f / 64 → has_bit words f ≡ false
none_past words f past = none_at words f (get_or_past words (f / 64) 0 past)

same_bit : (old new : List ℕ) (f : ℕ) → get_or new (f / 64) 0 ≡ get_or old (f / 64) 0 → has_bit new f ≡ has_bit old f
unfolding has_bit
same_bit old new f e = ap (λ x. eqb (bit_at x (f % 64)) 1) e

-- all words taken in
pub added : (old new more : List ℕ) → length new ≡ length old
    → ((j : ℕ) → j < length old → get_or new j 0 ≡ bit_or (get_or old j 0) (get_or more j 0))
    → (f : ℕ) → has_bit new f ≡ (has_bit old f || (has_place (length old) f && has_bit more f))
unfolding has_bit
added old new more len each f =
    elim (cases_lt (f / 64) (length old)) [
      | inl below ↦
          ap (λ x. eqb (bit_at x (f % 64)) 1) (each (f / 64) below)
          ∙ word_or (get_or old (f / 64) 0) (get_or more (f / 64) 0) (f % 64)
          ∙ ap (λ b. has_bit old f || (b && has_bit more f)) (sym (lt-ltb (f / 64) (length old) below))
      | inr past ↦
          none_past new f (omega (arith, len, past))
          ∙ ap (λ b. b || false) (sym (none_past old f past))
          ∙ ap (λ b. has_bit old f || (b && has_bit more f)) (sym (le-ltb (f / 64) (length old) past))
    ]

-- all words taken out
pub removed : (old new less : List ℕ) → length new ≡ length old
    → ((j : ℕ) → j < length old → get_or new j 0 ≡ bit_and (get_or old j 0) (bit_not w64 (get_or less j 0)))
    → ((j : ℕ) → get_or less j 0 < 2 ^ 64)
    → (f : ℕ) → has_bit new f ≡ (has_bit old f && not (has_bit less f))
unfolding has_bit
removed old new less len each fits f =
    elim (cases_lt (f / 64) (length old)) [
      | inl below ↦
          ap (λ x. eqb (bit_at x (f % 64)) 1) (each (f / 64) below)
          ∙ word_less (get_or old (f / 64) 0) (get_or less (f / 64) 0) (f % 64) (fits (f / 64)) (omega arith)
      | inr past ↦
          none_past new f (omega (arith, len, past))
          ∙ ap (λ b. b && not (has_bit less f)) (sym (none_past old f past))
    ]

or_true : (a b : Bool) → b ≡ true → (a || b) ≡ true
or_true true b h = refl
or_true false b h = h

or_nothing : (a b c : Bool) → c ≡ false → a ≡ (a || (b && c))
or_nothing true b c h = refl
or_nothing false true c h = sym h
or_nothing false false c h = refl

bit_kept : (old : List ℕ) (fact f : ℕ) → fact / 64 < length old → (f ≡ fact → ⊥)
    → has_bit (set old (fact / 64) (bit_or (get_or old (fact / 64) 0) (1 * 2 ^ (fact % 64) % 2 ^ 64))) f ≡ has_bit old f
unfolding has_bit
bit_kept old fact f within other =
    let word : ℕ = bit_or (get_or old (fact / 64) 0) (1 * 2 ^ (fact % 64) % 2 ^ 64) in
    elim (cases_eq (f / 64) (fact / 64)) [
      | inl same ↦
          ap (λ k. eqb (bit_at (get_or (set old (fact / 64) word) k 0) (f % 64)) 1) same
          ∙ ap (λ x. eqb (bit_at x (f % 64)) 1) (get_or-set_same old (fact / 64) word 0 within)
          ∙ ap (λ x. eqb x 1) (bit_at_set_other w64 (get_or old (fact / 64) 0) (fact % 64) (omega arith) (f % 64) (λ e. other (omega (arith, e, same))))
          ∙ ap (λ k. eqb (bit_at (get_or old k 0) (f % 64)) 1) (sym same)
      | inr apart ↦ ap (λ x. eqb (bit_at x (f % 64)) 1) (get_or-set_other old (fact / 64) (f / 64) word 0 apart)
    ]

bit_put : (old : List ℕ) (fact : ℕ) → fact / 64 < length old
    → has_bit (set old (fact / 64) (bit_or (get_or old (fact / 64) 0) (1 * 2 ^ (fact % 64) % 2 ^ 64))) fact ≡ true
unfolding has_bit
bit_put old fact within =
    ap (λ x. eqb (bit_at x (fact % 64)) 1) (get_or-set_same old (fact / 64) (bit_or (get_or old (fact / 64) 0) (1 * 2 ^ (fact % 64) % 2 ^ 64)) 0 within)
    ∙ ap (λ x. eqb x 1) (bit_at_set_same w64 (get_or old (fact / 64) 0) (fact % 64) (omega arith))

-- one bit set
pub put_in : (old : List ℕ) (fact : ℕ) → fact / 64 < length old
    → (f : ℕ) → has_bit (set old (fact / 64) (bit_or (get_or old (fact / 64) 0) (1 * 2 ^ (fact % 64) % 2 ^ 64))) f
    ≡ (has_bit old f || (has_place (length old) f && eqb f fact))
put_in old fact within f =
    elim (cases_eq f fact) [
      | inl same ↦
          rw same
          (bit_put old fact within
          ∙ sym (or_true (has_bit old fact) _ (and_from _ _ (lt-ltb (fact / 64) (length old) within) (eq-eqb fact fact refl))))
      | inr other ↦ bit_kept old fact f within other ∙ or_nothing (has_bit old f) (has_place (length old) f) (eqb f fact) (ne_eqb f fact other)
    ]

-- a bit that has no place
pub put_out : (old : List ℕ) (fact : ℕ) → length old ≤ fact / 64 → (f : ℕ) → has_bit old f ≡ (has_bit old f || (has_place (length old) f && eqb f fact))
put_out old fact past f =
    elim (cases_eq f fact) [
      | inl same ↦ rw same (or_none (has_bit old fact) (has_place (length old) fact) (eqb fact fact) (le-ltb (fact / 64) (length old) past))
      | inr other ↦ or_nothing (has_bit old f) (has_place (length old) f) (eqb f fact) (ne_eqb f fact other)
    ]

bit_left : (old : List ℕ) (fact f : ℕ) → fact / 64 < length old → (f ≡ fact → ⊥)
    → has_bit (set old (fact / 64) (bit_and (get_or old (fact / 64) 0) (bit_not w64 (1 * 2 ^ (fact % 64) % 2 ^ 64)))) f ≡ has_bit old f
unfolding has_bit
bit_left old fact f within other =
    let word : ℕ = bit_and (get_or old (fact / 64) 0) (bit_not w64 (1 * 2 ^ (fact % 64) % 2 ^ 64)) in
    elim (cases_eq (f / 64) (fact / 64)) [
      | inl same ↦
          ap (λ k. eqb (bit_at (get_or (set old (fact / 64) word) k 0) (f % 64)) 1) same
          ∙ ap (λ x. eqb (bit_at x (f % 64)) 1) (get_or-set_same old (fact / 64) word 0 within)
          ∙ ap (λ x. eqb x 1) (bit_at_clear_other w64 (get_or old (fact / 64) 0) (fact % 64) (omega arith) (f % 64) (omega arith) (λ e. other (omega (arith, e, same))))
          ∙ ap (λ k. eqb (bit_at (get_or old k 0) (f % 64)) 1) (sym same)
      | inr apart ↦ ap (λ x. eqb (bit_at x (f % 64)) 1) (get_or-set_other old (fact / 64) (f / 64) word 0 apart)
    ]

bit_gone : (old : List ℕ) (fact : ℕ) → fact / 64 < length old
    → has_bit (set old (fact / 64) (bit_and (get_or old (fact / 64) 0) (bit_not w64 (1 * 2 ^ (fact % 64) % 2 ^ 64)))) fact ≡ false
unfolding has_bit
bit_gone old fact within =
    ap (λ x. eqb (bit_at x (fact % 64)) 1) (get_or-set_same old (fact / 64) (bit_and (get_or old (fact / 64) 0) (bit_not w64 (1 * 2 ^ (fact % 64) % 2 ^ 64))) 0 within)
    ∙ ap (λ x. eqb x 1) (bit_at_clear_same w64 (get_or old (fact / 64) 0) (fact % 64) (omega arith))

and_off : (a b : Bool) → b ≡ true → false ≡ (a && not b)
and_off true b h = sym (ap not h)
and_off false b h = refl

and_on : (a b : Bool) → b ≡ false → a ≡ (a && not b)
and_on true b h = sym (ap not h)
and_on false b h = refl

-- one bit cleared
pub taken_out : (old : List ℕ) (fact : ℕ) → fact / 64 < length old
    → (f : ℕ) → has_bit (set old (fact / 64) (bit_and (get_or old (fact / 64) 0) (bit_not w64 (1 * 2 ^ (fact % 64) % 2 ^ 64)))) f
    ≡ (has_bit old f && not (eqb f fact))
taken_out old fact within f =
    elim (cases_eq f fact) [
      | inl same ↦ rw same (bit_gone old fact within ∙ and_off (has_bit old fact) (eqb fact fact) (eq-eqb fact fact refl))
      | inr other ↦ bit_left old fact f within other ∙ and_on (has_bit old f) (eqb f fact) (ne_eqb f fact other)
    ]

-- a bit that has no place
pub taken_past : (old : List ℕ) (fact : ℕ) → length old ≤ fact / 64 → (f : ℕ) → has_bit old f ≡ (has_bit old f && not (eqb f fact))
taken_past old fact past f =
    elim (cases_eq f fact) [
      | inl same ↦ rw same (none_past old fact past ∙ and_off (has_bit old fact) (eqb fact fact) (eq-eqb fact fact refl))
      | inr other ↦ and_on (has_bit old f) (eqb f fact) (ne_eqb f fact other)
    ]

one_bit : (b p : ℕ) → b < 2 → 0 < p → not (eqb (b * p) 0) ≡ eqb b 1
one_bit zero p small some = ap not (eq-eqb (zero * p) 0 (omega arith))
one_bit (suc zero) p small some = ap not (ne_eqb (suc zero * p) 0 (λ e. omega (arith, e)))
one_bit (suc (suc b)) p small some = absurd (omega arith)

-- the test of one bit
pub tested : (words : List ℕ) (fact : ℕ) → not (eqb (bit_and (get_or words (fact / 64) 0) (1 * 2 ^ (fact % 64) % 2 ^ 64)) 0) ≡ has_bit words fact
unfolding has_bit
tested words fact =
    ap (λ m. not (eqb (bit_and (get_or words (fact / 64) 0) m) 0)) (one_shl (fact % 64) 64 (omega arith))
    ∙ ap (λ n. not (eqb n 0)) (and_pow (get_or words (fact / 64) 0) (fact % 64))
    ∙ one_bit (bit_at (get_or words (fact / 64) 0) (fact % 64)) (2 ^ (fact % 64)) (bit_at-lt _ (fact % 64)) (pow_pos (fact % 64))

fact_at : (words : List ℕ) (j k : ℕ) → k < 64 → has_bit words (64 * j + k) ≡ eqb (bit_at (get_or words j 0) k) 1
unfolding has_bit
fact_at words j k small =
    let word : (64 * j + k) / 64 ≡ j = omega arith in
    let place : (64 * j + k) % 64 ≡ k = omega arith in
    ap (λ x. eqb (bit_at (get_or words x 0) ((64 * j + k) % 64)) 1) word ∙ ap (λ x. eqb (bit_at (get_or words j 0) x) 1) place

-- two words with a bit in common
pub met : (a b : List ℕ) (j : ℕ) → (bit_and (get_or a j 0) (get_or b j 0) ≡ 0 → ⊥) → get_or a j 0 < 2 ^ 64 → InBoth a b
met a b j some fits =
    let n : ℕ = bit_and (get_or a j 0) (get_or b j 0) in
    let k : ℕ = trailing_zeros w64 n in
    let low = bit_at-trailing_zeros w64 n (positive n some) (le-lt n _ _ (and_le_l (get_or a j 0) (get_or b j 0)) fits) in
    let parts = and_parts _ _ (sym (word_and (get_or a j 0) (get_or b j 0) k) ∙ eq-eqb (bit_at n k) 1 low.1) in
    record {
      member = 64 * j + k;
      in_first = fact_at a j k low.0 ∙ parts.0;
      in_second = fact_at b j k low.0 ∙ parts.1;
    }

-- no two words with a bit in common
pub apart : (a b : List ℕ) → ((j : ℕ) → j < length a → bit_and (get_or a j 0) (get_or b j 0) ≡ 0) → InBoth a b → ⊥
unfolding has_bit
apart a b each both =
    let f : ℕ = both.member in
    elim (cases_lt (f / 64) (length a)) [
      | inl below ↦
          false≢true
          (sym (ap (λ x. eqb (bit_at x (f % 64)) 1) (each (f / 64) below) ∙ ap (λ x. eqb x 1) (bit_at-zero (f % 64)))
          ∙ word_and (get_or a (f / 64) 0) (get_or b (f / 64) 0) (f % 64) ∙ and_from _ _ both.in_first both.in_second)
      | inr past ↦ false≢true (sym (none_past a f past) ∙ both.in_first)
    ]

-- a bit that only the first word has
pub sticks_out : (a b : List ℕ) (j : ℕ) → (bit_and (get_or a j 0) (bit_not w64 (get_or b j 0)) ≡ 0 → ⊥) → get_or a j 0 < 2 ^ 64 → get_or b j 0 < 2 ^ 64
    → IsWithin a b → ⊥
sticks_out a b j some fits fits' within =
    let n : ℕ = bit_and (get_or a j 0) (bit_not w64 (get_or b j 0)) in
    let k : ℕ = trailing_zeros w64 n in
    let low = bit_at-trailing_zeros w64 n (positive n some) (le-lt n _ _ (and_le_l (get_or a j 0) (bit_not w64 (get_or b j 0))) fits) in
    let parts = and_parts _ _ (sym (word_less (get_or a j 0) (get_or b j 0) k fits' low.0) ∙ eq-eqb (bit_at n k) 1 low.1) in
    let there : has_bit b (64 * j + k) ≡ true = within (64 * j + k) (fact_at a j k low.0 ∙ parts.0) in
    false≢true (sym (ap not (sym (fact_at b j k low.0) ∙ there)) ∙ parts.1)

-- no bit that only a first word has
pub no_more : (a b : List ℕ) → ((j : ℕ) → j < length a → bit_and (get_or a j 0) (bit_not w64 (get_or b j 0)) ≡ 0)
    → ((j : ℕ) → get_or b j 0 < 2 ^ 64) → IsWithin a b
unfolding has_bit
no_more a b each fits f has =
    elim (cases_lt (f / 64) (length a)) [
      | inl below ↦
          by_both (eqb (bit_at (get_or a (f / 64) 0) (f % 64)) 1) (eqb (bit_at (get_or b (f / 64) 0) (f % 64)) 1) has
          (sym (word_less (get_or a (f / 64) 0) (get_or b (f / 64) 0) (f % 64) (fits (f / 64)) (omega arith))
          ∙ ap (λ x. eqb (bit_at x (f % 64)) 1) (each (f / 64) below) ∙ ap (λ x. eqb x 1) (bit_at-zero (f % 64)))
      | inr past ↦ absurd (false≢true (sym (none_past a f past) ∙ has))
    ]

-- all words cleared
pub cleared : (words : List ℕ) → ((j : ℕ) → j < length words → get_or words j 0 ≡ 0) → (f : ℕ) → has_bit words f ≡ false
cleared words each f =
    elim (cases_lt (f / 64) (length words)) [
      | inl below ↦ none_at words f (each (f / 64) below)
      | inr past ↦ none_past words f past
    ]

pub zeros : (n : ℕ) (words : List ℕ) → words ≡ replicate n 0 → (f : ℕ) → has_bit words f ≡ false
zeros n words e =
    cleared words
    (λ j below.
    let inside : j < n = omega (arith, below, ap length e ∙ length-replicate n 0) in
    ap (λ xs. get_or xs j 0) e ∙ get_or-replicate n j 0 0 inside)
