-- The parts of a line are those of which it is a row.
use Rattle.std.proofs.Common.{◌≡◌, ◌↔◌, ℕ, suc, Bool, true, false, cond, nat_eq, List, [], ◌∷◌, ◌++◌, position, Option, Some, None, refl, ap, sym, subst, ◌∙◌}
use Rattle.std.specs.List.{list_all}
use Rattle.std.specs.Option.{option_map}
use Rattle.std.proofs.lemmas.Bool.{and_from, and_parts, eqb-true, not_from_false}
use Rattle.pddl_tokens.specs.Tokens.{is_blank}
use Rattle.plan_text.specs.Pieces.{is_mark, cut, cut_at, unindented, behind_first}
use Rattle.plan_text.specs.Acts.{Parts, are_words, closed, bracket, length_part, with_length, with_name, with_open, with_start, parts_of}
use Rattle.plan_text.specs.Rows.{IsTailOf, IsRow}
use Rattle.plan_text.proofs.Places.{none_pass, position_yes, position_no, cut_seam}

-- a text without its white space
unindented_seam : (front rest : List ℕ) (b : ℕ) → list_all is_blank front ≡ true → is_blank b ≡ false → unindented (front ++ b ∷ rest) ≡ b ∷ rest
unindented_seam [] rest b h e = ap (λ (t : Bool). cond t (unindented rest) (b ∷ rest)) e
unindented_seam (x ∷ front) rest b h e =
    let w = and_parts (is_blank x) (list_all is_blank front) h in
    ap (λ (t : Bool). cond t (unindented (front ++ b ∷ rest)) (x ∷ (front ++ b ∷ rest))) w.0 ∙ unindented_seam front rest b w.1 e

unindented_blank : (text : List ℕ) → list_all is_blank text ≡ true → unindented text ≡ []
unindented_blank [] h = refl
unindented_blank (x ∷ rest) h =
    let w = and_parts (is_blank x) (list_all is_blank rest) h in
    ap (λ (t : Bool). cond t (unindented rest) (x ∷ rest)) w.0 ∙ unindented_blank rest w.1

tail_found : (l : Option (List ℕ)) (tail : List ℕ) → IsTailOf l tail → length_part tail ≡ Some l
tail_found None tail h = ap bracket (unindented_blank tail h)
tail_found (Some l) tail h =
    ap length_part h.is
    ∙ (ap bracket (unindented_seam h.before (l ++ 93 ∷ h.behind) 91 h.before_blank refl)
    ∙ (ap closed (cut_seam 93 l h.behind h.first_end refl)
    ∙ ap (λ (t : Bool). cond t (Some (Some l)) None) h.behind_blank))

-- the parts of a row are found
found : (text : List ℕ) (x : Parts) → IsRow text x → parts_of text ≡ Some x
found text x r =
    ap parts_of r.is
    ∙ (ap with_start (cut_seam 58 x.start (r.between ++ 40 ∷ (x.name ++ 41 ∷ r.tail)) r.first_colon refl)
    ∙ (ap (λ (t : List ℕ). with_open x.start (behind_first 40 t)) (unindented_seam r.between (x.name ++ 41 ∷ r.tail) 40 r.between_blank refl)
    ∙ (ap (with_name x.start) (cut_seam 41 x.name r.tail r.first_close refl)
    ∙ (ap (λ (t : Bool). cond t (with_length x.start x.name (length_part r.tail)) None) r.name
    ∙ ap (with_length x.start x.name) (tail_found x.length r.tail r.length)))))

-- what a cut finds
record IsCut (c : ℕ) (text a b : List ℕ) : Type 0 where
  pub is : text ≡ a ++ c ∷ b
  pub first : none_pass (is_mark c) a ≡ true

abbrev onto : ℕ → Option (List ℕ × List ℕ) → Option (List ℕ × List ℕ)
onto x None = None
onto x (Some w) = Some (x ∷ w.0, w.1)

cut_more : (x : ℕ) (xs : List ℕ) (i : Option ℕ) → cut_at (x ∷ xs) (option_map suc i) ≡ onto x (cut_at xs i)
cut_more x xs None = refl
cut_more x xs (Some i) = refl

cut_no : (c x : ℕ) (xs : List ℕ) → is_mark c x ≡ false → cut c (x ∷ xs) ≡ onto x (cut c xs)
cut_no c x xs h = ap (cut_at (x ∷ xs)) (position_no (is_mark c) x xs h) ∙ cut_more x xs (position (is_mark c) xs)

cut_yes : (c x : ℕ) (xs : List ℕ) → is_mark c x ≡ true → cut c (x ∷ xs) ≡ Some ([], xs)
cut_yes c x xs h = ap (cut_at (x ∷ xs)) (position_yes (is_mark c) x xs h)

abbrev front_of : Option (List ℕ × List ℕ) → List ℕ
front_of None = []
front_of (Some w) = w.0

abbrev back_of : Option (List ℕ × List ℕ) → List ℕ
back_of None = []
back_of (Some w) = w.1

abbrev CutIs : ℕ → List ℕ → Option (List ℕ × List ℕ) → Type 0
CutIs c text None = Unit {0}
CutIs c text (Some w) = IsCut c text w.0 w.1

cut_onto : (c x : ℕ) (xs : List ℕ) (o : Option (List ℕ × List ℕ)) → is_mark c x ≡ false → CutIs c xs o → CutIs c (x ∷ xs) (onto x o)
cut_onto c x xs None e h = tt
cut_onto c x xs (Some w) e h = record {
  is = ap (λ (l : List ℕ). x ∷ l) h.is;
  first = and_from _ _ (not_from_false _ e) h.first;
}

cut_case : (c x : ℕ) (xs : List ℕ) (t : Bool) → is_mark c x ≡ t → CutIs c xs (cut c xs) → CutIs c (x ∷ xs) (cut c (x ∷ xs))
cut_case c x xs true e h =
    let same : x ≡ c = eqb-true x c e in
    subst (CutIs c (x ∷ xs)) (sym (cut_yes c x xs e)) (record { is = ap (λ (b : ℕ). b ∷ xs) same; first = refl })
cut_case c x xs false e h = subst (CutIs c (x ∷ xs)) (sym (cut_no c x xs e)) (cut_onto c x xs (cut c xs) e h)

cut_is : (c : ℕ) (text : List ℕ) → CutIs c text (cut c text)
cut_is c [] = tt
cut_is c (x ∷ xs) = cut_case c x xs _ refl (cut_is c xs)

-- what stands behind white space
record IsBehind (text rest : List ℕ) : Type 0 where
  pub front : List ℕ
  pub is : text ≡ front ++ rest
  pub blank : list_all is_blank front ≡ true

behind_case : (b : ℕ) (rest : List ℕ) (t : Bool) → is_blank b ≡ t → IsBehind rest (unindented rest) → IsBehind (b ∷ rest) (cond t (unindented rest) (b ∷ rest))
behind_case b rest true e h = record {
  front = b ∷ h.front;
  is = ap (λ (l : List ℕ). b ∷ l) h.is;
  blank = and_from _ _ e h.blank;
}
behind_case b rest false e h = record { front = []; is = refl; blank = refl }

behind_is : (text : List ℕ) → IsBehind text (unindented text)
behind_is [] = record { front = []; is = refl; blank = refl }
behind_is (b ∷ rest) = behind_case b rest _ refl (behind_is rest)

-- the rest of the line, for each way that it can go on
abbrev IsSome : {A : Type 0} → Option A → (A → Type 0) → Type 0
IsSome None P = Unit {0}
IsSome (Some x) P = P x

append_blank : (front : List ℕ) → list_all is_blank front ≡ true → list_all is_blank (front ++ []) ≡ true
append_blank [] h = refl
append_blank (b ∷ front) h =
    let w = and_parts (is_blank b) (list_all is_blank front) h in
    and_from _ _ w.0 (append_blank front w.1)

closed_is : (text before rest : List ℕ) → text ≡ before ++ 91 ∷ rest → list_all is_blank before ≡ true → (o : Option (List ℕ × List ℕ)) → CutIs 93 rest o → IsSome (closed o) (λ l. IsTailOf l text)
closed_is text before rest e h None k = tt
closed_is text before rest e h (Some w) k = last (list_all is_blank w.1) refl
  where
    last : (t : Bool) → list_all is_blank w.1 ≡ t → IsSome (cond t (Some (Some w.0)) None) (λ l. IsTailOf l text)
    last true b = record {
      before = before;
      behind = w.1;
      is = e ∙ ap (λ (l : List ℕ). before ++ 91 ∷ l) k.is;
      before_blank = h;
      behind_blank = b;
      first_end = k.first;
    }
    last false b = tt

bracket_is : (text rest : List ℕ) → IsBehind text rest → IsSome (bracket rest) (λ l. IsTailOf l text)
bracket_is text [] h = subst (λ (l : List ℕ). list_all is_blank l ≡ true) (sym h.is) (append_blank h.front h.blank)
bracket_is text (b ∷ rest) h = open_case (nat_eq b 91) refl
  where
    open_case : (t : Bool) → nat_eq b 91 ≡ t → IsSome (cond t (closed (cut 93 rest)) None) (λ l. IsTailOf l text)
    open_case true e = closed_is text h.front rest (h.is ∙ ap (λ (c : ℕ). h.front ++ c ∷ rest) (eqb-true b 91 e)) h.blank (cut 93 rest) (cut_is 93 rest)
    open_case false e = tt

length_is : (text start name between tail : List ℕ) → text ≡ start ++ 58 ∷ (between ++ 40 ∷ (name ++ 41 ∷ tail)) → none_pass (is_mark 58) start ≡ true → list_all is_blank between ≡ true
    → none_pass (is_mark 41) name ≡ true → are_words name ≡ true → (o : Option (Option (List ℕ))) → IsSome o (λ l. IsTailOf l tail) → IsSome (with_length start name o) (λ x. IsRow text x)
length_is text start name between tail e a b c d None h = tt
length_is text start name between tail e a b c d (Some l) h = record {
  between = between;
  tail = tail;
  is = e;
  first_colon = a;
  between_blank = b;
  first_close = c;
  name = d;
  length = h;
}

name_is : (text start between rest : List ℕ) → text ≡ start ++ 58 ∷ (between ++ 40 ∷ rest) → none_pass (is_mark 58) start ≡ true → list_all is_blank between ≡ true
    → (o : Option (List ℕ × List ℕ)) → CutIs 41 rest o → IsSome (with_name start o) (λ x. IsRow text x)
name_is text start between rest e a b None h = tt
name_is text start between rest e a b (Some w) h = word_case (are_words w.0) refl
  where
    word_case : (t : Bool) → are_words w.0 ≡ t → IsSome (cond t (with_length start w.0 (length_part w.1)) None) (λ x. IsRow text x)
    word_case true d =
        length_is text start w.0 between w.1 (e ∙ ap (λ (l : List ℕ). start ++ 58 ∷ (between ++ 40 ∷ l)) h.is) a b h.first d
        (length_part w.1) (bracket_is w.1 (unindented w.1) (behind_is w.1))
    word_case false d = tt

open_is : (text start rest inner : List ℕ) → text ≡ start ++ 58 ∷ rest → none_pass (is_mark 58) start ≡ true → IsBehind rest inner → IsSome (with_open start (behind_first 40 inner)) (λ x. IsRow text x)
open_is text start rest [] e a h = tt
open_is text start rest (b ∷ inner) e a h = open_case (nat_eq b 40) refl
  where
    open_case : (t : Bool) → nat_eq b 40 ≡ t → IsSome (with_open start (cond t (Some inner) None)) (λ x. IsRow text x)
    open_case true d =
        name_is text start h.front inner
        (e ∙ (ap (λ (l : List ℕ). start ++ 58 ∷ l) h.is ∙ ap (λ (c : ℕ). start ++ 58 ∷ (h.front ++ c ∷ inner)) (eqb-true b 40 d)))
        a h.blank (cut 41 inner) (cut_is 41 inner)
    open_case false d = tt

start_is : (text : List ℕ) (o : Option (List ℕ × List ℕ)) → CutIs 58 text o → IsSome (with_start o) (λ x. IsRow text x)
start_is text None h = tt
start_is text (Some w) h = open_is text w.0 w.1 (unindented w.1) h.is h.first (behind_is w.1)

row_is : (text : List ℕ) → IsSome (parts_of text) (λ x. IsRow text x)
row_is text = start_is text (cut 58 text) (cut_is 58 text)

pub parts_are_rows : (text : List ℕ) (x : Parts) → (parts_of text ≡ Some x) ↔ IsRow text x
parts_are_rows text x =
    (λ (e : parts_of text ≡ Some x). subst (λ (o : Option Parts). IsSome o (λ y. IsRow text y)) e (row_is text), λ (r : IsRow text x). found text x r)
