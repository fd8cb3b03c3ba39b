-- Values that are written one behind another.
use Rattle.std.proofs.Common.{◌≡◌, ℕ, Bool, true, false, List, [], ◌∷◌, ◌++◌, length, refl, sym, ap, ◌∙◌, append_assoc, append-nil, arith, Option, Some, None, IfNone}
use Rattle.std.specs.Prelude.{◌&&◌, ◌==◌}
use Rattle.std.proofs.lemmas.Bool.{and_parts, false≢true, eqb-true}
use Rattle.line_text.specs.Numbers.{begins_with_digit}
use Rattle.trace_text.specs.Cuts.{IsCut, NoneCut, IsRead, NoneRead}

-- whether a list is empty, as code tests it
zero_is : (l : List ℕ) → length l ≡ 0 → l ≡ []
zero_is [] h = refl
zero_is (c ∷ l) h = absurd (omega (arith, h))

pub empty_is : (l : List ℕ) → true ≡ (length l == 0) → l ≡ []
empty_is l h = zero_is l (eqb-true (length l) 0 (sym h))

pub not_empty : (l : List ℕ) → false ≡ (length l == 0) → l ≡ [] → ⊥
not_empty l h e = false≢true (h ∙ ap (λ (t : List ℕ). length t == 0) e)

-- what holds in any case
pub if_none : {A P : Type 0} (r : Option A) → P → IfNone r P
if_none None h = h
if_none (Some x) h = tt

-- one value behind another
abbrev pub both : {A B : Type 0} → (A → List ℕ) → (B → List ℕ) → A × B → List ℕ
both first second x = first x.0 ++ second x.1

abbrev pub may_both : {A B : Type 0} → (A → Bool) → (B → Bool) → A × B → Bool
may_both first second x = first x.0 && second x.1

-- what is written of no value begins with a digit
abbrev pub Opens : {B : Type 0} → (B → List ℕ) → Type 0
Opens {B} written = (y : B) (rest : List ℕ) → begins_with_digit rest ≡ false → begins_with_digit (written y ++ rest) ≡ false

-- nor where nothing stands behind it
pub opens_whole : {B : Type 0} (written : B → List ℕ) → Opens written → (y : B) → begins_with_digit (written y) ≡ false
opens_whole written opens y = sym (ap begins_with_digit (append-nil (written y))) ∙ opens y [] refl

pub both_cut : {A B : Type 0} (first : A → List ℕ) (may_first : A → Bool) (second : B → List ℕ) (may_second : B → Bool) (text : List ℕ) (x : A) (y : B) (r s : List ℕ)
    → Opens second → IsCut first may_first text x r → IsCut second may_second r y s
    → IsCut {A = A × B} (both first second) (may_both may_first may_second) text (x, y) s
both_cut first may_first second may_second text x y r s opens c d = record {
  is = c.is ∙ ap (λ (l : List ℕ). first x ++ l) d.is ∙ sym (append_assoc (first x) (second y) s);
  may_be = ap (λ (b : Bool). b && may_second y) c.may_be ∙ d.may_be;
  ends = d.ends;
  only = λ z behind may ends e.
      let w = and_parts (may_first z.0) (may_second z.1) may in
      let f = c.only z.0 (second z.1 ++ behind) w.0 (opens z.1 behind ends) (e ∙ append_assoc (first z.0) (second z.1) behind) in
      let g = d.only z.1 behind w.1 ends (sym f.1) in
      ((λ i. (f.0 i, g.0 i)), g.1);
}

pub none_first : {A B : Type 0} (first : A → List ℕ) (may_first : A → Bool) (second : B → List ℕ) (may_second : B → Bool) (text : List ℕ)
    → Opens second → NoneCut first may_first text → NoneCut {A = A × B} (both first second) (may_both may_first may_second) text
none_first first may_first second may_second text opens none = λ z behind may ends e.
    let w = and_parts (may_first z.0) (may_second z.1) may in
    none z.0 (second z.1 ++ behind) w.0 (opens z.1 behind ends) (e ∙ append_assoc (first z.0) (second z.1) behind)

pub none_second : {A B : Type 0} (first : A → List ℕ) (may_first : A → Bool) (second : B → List ℕ) (may_second : B → Bool) (text : List ℕ) (x : A) (r : List ℕ)
    → Opens second → IsCut first may_first text x r → NoneCut second may_second r → NoneCut {A = A × B} (both first second) (may_both may_first may_second) text
none_second first may_first second may_second text x r opens c none = λ z behind may ends e.
    let w = and_parts (may_first z.0) (may_second z.1) may in
    let f = c.only z.0 (second z.1 ++ behind) w.0 (opens z.1 behind ends) (e ∙ append_assoc (first z.0) (second z.1) behind) in
    none z.1 behind w.1 ends (sym f.1)

-- a value with nothing behind it
pub whole_read : {A : Type 0} (written : A → List ℕ) (may : A → Bool) (text : List ℕ) (x : A) (rest : List ℕ)
    → IsCut written may text x rest → rest ≡ [] → IsRead written may text x
whole_read written may text x rest c empty = record {
  is = c.is ∙ ap (λ (l : List ℕ). written x ++ l) empty ∙ append-nil (written x);
  may_be = c.may_be;
  only = λ y m e. (c.only y [] m refl (e ∙ sym (append-nil (written y)))).0;
}

pub none_read : {A : Type 0} (written : A → List ℕ) (may : A → Bool) (text : List ℕ) → NoneCut written may text → NoneRead written may text
none_read written may text none = λ y m e. none y [] m refl (e ∙ sym (append-nil (written y)))

pub more_read : {A : Type 0} (written : A → List ℕ) (may : A → Bool) (text : List ℕ) (x : A) (rest : List ℕ)
    → IsCut written may text x rest → (rest ≡ [] → ⊥) → NoneRead written may text
more_read written may text x rest c some = λ y m e. some (sym (c.only y [] m refl (e ∙ sym (append-nil (written y)))).1)

-- a value, and one that is all that stands behind it
pub both_read : {A B : Type 0} (first : A → List ℕ) (may_first : A → Bool) (second : B → List ℕ) (may_second : B → Bool) (text : List ℕ) (x : A) (y : B) (r : List ℕ)
    → Opens second → IsCut first may_first text x r → IsRead second may_second r y
    → IsRead {A = A × B} (both first second) (may_both may_first may_second) text (x, y)
both_read first may_first second may_second text x y r opens c d = record {
  is = c.is ∙ ap (λ (l : List ℕ). first x ++ l) d.is;
  may_be = ap (λ (b : Bool). b && may_second y) c.may_be ∙ d.may_be;
  only = λ z may e.
      let w = and_parts (may_first z.0) (may_second z.1) may in
      let f = c.only z.0 (second z.1) w.0 (opens_whole second opens z.1) e in
      let g = d.only z.1 w.1 (sym f.1) in
      (λ i. (f.0 i, g i));
}

pub none_read_first : {A B : Type 0} (first : A → List ℕ) (may_first : A → Bool) (second : B → List ℕ) (may_second : B → Bool) (text : List ℕ)
    → Opens second → NoneCut first may_first text → NoneRead {A = A × B} (both first second) (may_both may_first may_second) text
none_read_first first may_first second may_second text opens none = λ z may e.
    let w = and_parts (may_first z.0) (may_second z.1) may in
    none z.0 (second z.1) w.0 (opens_whole second opens z.1) e

pub none_read_second : {A B : Type 0} (first : A → List ℕ) (may_first : A → Bool) (second : B → List ℕ) (may_second : B → Bool) (text : List ℕ) (x : A) (r : List ℕ)
    → Opens second → IsCut first may_first text x r → NoneRead second may_second r → NoneRead {A = A × B} (both first second) (may_both may_first may_second) text
none_read_second first may_first second may_second text x r opens c none = λ z may e.
    let w = and_parts (may_first z.0) (may_second z.1) may in
    let f = c.only z.0 (second z.1) w.0 (opens_whole second opens z.1) e in
    none z.1 w.1 (sym f.1)

-- the same value under another form
module _ {A B : Type 0} (of_a : A → List ℕ) (may_a : A → Bool) (of_b : B → List ℕ) (may_b : B → Bool) (make : A → B) (parts : B → A)
    (writes : (y : B) → of_b y ≡ of_a (parts y)) (mays : (y : B) → may_b y ≡ may_a (parts y)) (there : (x : A) → parts (make x) ≡ x) (back : (y : B) → make (parts y) ≡ y) where
  pub as_cut : (text : List ℕ) (x : A) (rest : List ℕ) → IsCut of_a may_a text x rest → IsCut of_b may_b text (make x) rest
  as_cut text x rest c = record {
    is = c.is ∙ ap (λ (l : List ℕ). l ++ rest) (sym (writes (make x) ∙ ap of_a (there x)));
    may_be = mays (make x) ∙ ap may_a (there x) ∙ c.may_be;
    ends = c.ends;
    only = λ y behind may ends e.
        let f = c.only (parts y) behind (sym (mays y) ∙ may) ends (e ∙ ap (λ (l : List ℕ). l ++ behind) (writes y)) in
        (sym (back y) ∙ ap make f.0, f.1);
  }

  pub as_none : (text : List ℕ) → NoneCut of_a may_a text → NoneCut of_b may_b text
  as_none text none = λ y behind may ends e. none (parts y) behind (sym (mays y) ∙ may) ends (e ∙ ap (λ (l : List ℕ). l ++ behind) (writes y))

  pub as_read : (text : List ℕ) (x : A) → IsRead of_a may_a text x → IsRead of_b may_b text (make x)
  as_read text x c = record {
    is = c.is ∙ sym (writes (make x) ∙ ap of_a (there x));
    may_be = mays (make x) ∙ ap may_a (there x) ∙ c.may_be;
    only = λ y may e. sym (back y) ∙ ap make (c.only (parts y) (sym (mays y) ∙ may) (e ∙ writes y));
  }

  pub as_none_read : (text : List ℕ) → NoneRead of_a may_a text → NoneRead of_b may_b text
  as_none_read text none = λ y may e. none (parts y) (sym (mays y) ∙ may) (e ∙ writes y)
