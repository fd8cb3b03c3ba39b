-- Values that are written one behind another to the end of a text, each behind one space.
use Rattle.std.proofs.Common.{◌≡◌, ℕ, ◌+◌, ◌<◌, Bool, true, false, List, [], ◌∷◌, ◌++◌, length, refl, sym, ap, ◌∙◌, append_assoc, append-nil, length-append, arith}
use Rattle.std.specs.Prelude.{◌&&◌}
use Rattle.std.specs.List.{list_all}
use Rattle.std.proofs.lemmas.Bool.{and_parts}
use Rattle.line_text.specs.Numbers.{begins_with_digit}
use Rattle.trace_text.specs.Traces.{listed}
use Rattle.trace_text.specs.Cuts.{IsCut, NoneCut, IsRead, NoneRead, spaced}

pub all_more : {A : Type 0} (may : A → Bool) (xs : List A) (x : A) → list_all may xs ≡ true → may x ≡ true → list_all may (xs ++ x ∷ []) ≡ true
all_more may [] x all one = ap (λ (b : Bool). b && true) one
all_more may (y ∷ ys) x all one =
    let w = and_parts (may y) (list_all may ys) all in
    ap (λ (b : Bool). b && list_all may (ys ++ x ∷ [])) w.0 ∙ all_more may ys x w.1 one

pub listed_more : {A : Type 0} (written : A → List ℕ) (xs : List A) (x : A) → listed written (xs ++ x ∷ []) ≡ listed written xs ++ spaced written x
unfolding listed
listed_more written [] x = append-nil (spaced written x)
listed_more written (y ∷ ys) x =
    ap (λ (l : List ℕ). spaced written y ++ l) (listed_more written ys x) ∙ sym (append_assoc (spaced written y) (listed written ys) (spaced written x))

pub listed_opens : {A : Type 0} (written : A → List ℕ) (xs : List A) (rest : List ℕ) → begins_with_digit rest ≡ false → begins_with_digit (listed written xs ++ rest) ≡ false
unfolding listed
listed_opens written [] rest h = h
listed_opens written (x ∷ xs) rest h = refl

-- what is left of the values that a text is, behind the first ones
pub record More {A : Type 0} (written : A → List ℕ) (may : A → Bool) (ys xs : List A) (rest : List ℕ) : Type 0 where
  pub more : List A
  pub parts : ys ≡ xs ++ more
  pub may_be : list_all may more ≡ true
  pub is : rest ≡ listed written more

-- The values at the front of a text, the only ones by which all of it may begin.
pub record Listed {A : Type 0} (written : A → List ℕ) (may : A → Bool) (text : List ℕ) (xs : List A) (rest : List ℕ) : Type 0 where
  pub is : text ≡ listed written xs ++ rest
  pub may_be : list_all may xs ≡ true
  pub only : (ys : List A) → list_all may ys ≡ true → text ≡ listed written ys → More written may ys xs rest

pub none_yet : {A : Type 0} (written : A → List ℕ) (may : A → Bool) (text : List ℕ) → Listed written may text [] text
unfolding listed
none_yet written may text = record {
  is = refl;
  may_be = refl;
  only = λ ys m e. record { more = ys; parts = refl; may_be = m; is = e };
}

module _ {A : Type 0} (written : A → List ℕ) (may : A → Bool) (text : List ℕ) (xs : List A) (rest : List ℕ) (l : Listed written may text xs rest) where
  more_by : (x : A) (behind : List ℕ) → IsCut (spaced written) may rest x behind → (ys more : List A) → ys ≡ xs ++ more → list_all may more ≡ true → rest ≡ listed written more
      → More written may ys (xs ++ x ∷ []) behind
  unfolding listed
  more_by x behind c ys [] parts all is =
      let none : 0 ≡ length (spaced written x ++ behind) = ap length (sym is ∙ c.is) in
      absurd (omega (arith, none))
  more_by x behind c ys (z ∷ zs) parts all is =
      let w = and_parts (may z) (list_all may zs) all in
      let opens = sym (ap begins_with_digit (append-nil (listed written zs))) ∙ listed_opens written zs [] refl in
      let f = c.only z (listed written zs) w.0 opens is in
      record {
        more = zs;
        parts = parts ∙ ap (λ (y : A). xs ++ y ∷ zs) f.0 ∙ sym (append_assoc xs (x ∷ []) zs);
        may_be = w.1;
        is = sym f.1;
      }

  pub one_more : (x : A) (behind : List ℕ) → IsCut (spaced written) may rest x behind → Listed written may text (xs ++ x ∷ []) behind
  one_more x behind c = record {
    is = l.is ∙ ap (λ (t : List ℕ). listed written xs ++ t) c.is ∙ sym (append_assoc (listed written xs) (spaced written x) behind)
        ∙ ap (λ (t : List ℕ). t ++ behind) (sym (listed_more written xs x));
    may_be = all_more may xs x l.may_be c.may_be;
    only = λ ys m e. let k = l.only ys m e in more_by x behind c ys k.more k.parts k.may_be k.is;
  }

  none_left : (ys more : List A) → ys ≡ xs ++ more → rest ≡ listed written more → rest ≡ [] → ys ≡ xs
  unfolding listed
  none_left ys [] parts is empty = parts ∙ append-nil xs
  none_left ys (z ∷ zs) parts is empty =
      let wrong : 0 ≡ length (listed written (z ∷ zs)) = ap length (sym empty ∙ is) in
      absurd (omega (arith, wrong))

  pub all_listed : rest ≡ [] → IsRead (listed written) (list_all may) text xs
  all_listed empty = record {
    is = l.is ∙ ap (λ (t : List ℕ). listed written xs ++ t) empty ∙ append-nil (listed written xs);
    may_be = l.may_be;
    only = λ ys m e. let k = l.only ys m e in none_left ys k.more k.parts k.is empty;
  }

  none_more : NoneCut (spaced written) may rest → (rest ≡ [] → ⊥) → (more : List A) → list_all may more ≡ true → rest ≡ listed written more → ⊥
  unfolding listed
  none_more none some [] all is = some is
  none_more none some (z ∷ zs) all is =
      let w = and_parts (may z) (list_all may zs) all in
      none z (listed written zs) w.0 (sym (ap begins_with_digit (append-nil (listed written zs))) ∙ listed_opens written zs [] refl) is

  pub not_listed : NoneCut (spaced written) may rest → (rest ≡ [] → ⊥) → NoneRead (listed written) (list_all may) text
  not_listed none some = λ ys m e. let k = l.only ys m e in none_more none some k.more k.may_be k.is

-- a value that is cut off leaves fewer bytes
pub fewer : {A : Type 0} (written : A → List ℕ) (may : A → Bool) (text : List ℕ) (x : A) (rest : List ℕ) → IsCut (spaced written) may text x rest → length rest < length text
fewer written may text x rest c =
    let a = ap length c.is in
    let b = length-append (spaced written x) rest in
    let d : length (spaced written x) ≡ length (written x) + 1 = omega arith in
    omega (arith, a, b, d)
