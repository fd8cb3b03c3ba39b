-- What a text spells are words of letters.
use Rattle.std.proofs.Common.{◌≡◌, ℕ, suc, Bool, true, false, ◌&&◌, if◌then◌else◌, cond, nat_eq, List, [], ◌∷◌, ◌++◌, refl, ap, sym, ◌∙◌}
use Rattle.std.specs.List.{list_all}
use Rattle.std.proofs.lemmas.Bool.{and_from, and_parts}
use Rattle.std.proofs.lemmas.List.Folds.{list_all-append}
use Rattle.pddl_tokens.specs.Tokens.{Token, Opens, Closes, Spells, is_letter, word_before, mark_at, tokens_from, tokens_of_text, plain}
use Rattle.pddl_tokens.specs.Trees.{Tree, Trees, Leaf, Node, End, More, spelled, all_spelled, has_letters, have_letters}

-- whether a token is no word, or a word of letters
abbrev is_lettered : Token → Bool
is_lettered (Opens at) = true
is_lettered (Closes at) = true
is_lettered (Spells at text) = list_all is_letter text

of_two : (xs ys : List Token) → list_all is_lettered xs ≡ true → list_all is_lettered ys ≡ true → list_all is_lettered (xs ++ ys) ≡ true
of_two xs ys h k = list_all-append is_lettered xs ys ∙ and_from (list_all is_lettered xs) (list_all is_lettered ys) h k

word_is : (at : ℕ) (word : List ℕ) → list_all is_letter word ≡ true → list_all is_lettered (word_before at word) ≡ true
word_is at [] h = refl
word_is at (c ∷ word) h = and_from (list_all is_letter (c ∷ word)) true h refl

mark_if : (a b : Bool) (at : ℕ) → list_all is_lettered (cond a (Opens at ∷ []) (cond b (Closes at ∷ []) [])) ≡ true
mark_if true b at = refl
mark_if false true at = refl
mark_if false false at = refl

letter_more : (word : List ℕ) (c : ℕ) → list_all is_letter word ≡ true → is_letter c ≡ true → list_all is_letter (word ++ c ∷ []) ≡ true
letter_more word c h k =
    list_all-append is_letter word (c ∷ []) ∙ and_from (list_all is_letter word) (is_letter c && true) h (and_from (is_letter c) true k refl)

-- behind the beginning of a word of letters there are words of letters alone
tokens_are : (text : List ℕ) (at : ℕ) (word : List ℕ) → list_all is_letter word ≡ true → list_all is_lettered (tokens_from at word text) ≡ true
tokens_are [] at word h = word_is at word h
tokens_are (c ∷ rest) at word h = here (is_letter c) refl (λ e. tokens_are rest (suc at) (word ++ c ∷ []) (letter_more word c h e)) (tokens_are rest (suc at) [] refl)
  where
    here : (b : Bool) → is_letter c ≡ b
        → (is_letter c ≡ true → list_all is_lettered (tokens_from (suc at) (word ++ c ∷ []) rest) ≡ true)
        → list_all is_lettered (tokens_from (suc at) [] rest) ≡ true
        → list_all is_lettered (cond b (tokens_from (suc at) (word ++ c ∷ []) rest) (word_before at word ++ mark_at at c ++ tokens_from (suc at) [] rest)) ≡ true
    here true e longer behind = longer e
    here false e longer behind = of_two (word_before at word ++ mark_at at c) (tokens_from (suc at) [] rest)
        (of_two (word_before at word) (mark_at at c) (word_is at word h) (mark_if (nat_eq c 40) (nat_eq c 41) at)) behind

mutual
  tree_has : (t : Tree) → list_all is_lettered (spelled t) ≡ true → has_letters t ≡ true
  tree_has (Leaf at text) h = (and_parts (list_all is_letter text) true h).0
  tree_has (Node at close parts) h =
      let e = sym (list_all-append is_lettered (all_spelled parts) (Closes close ∷ [])) ∙ h in
      trees_have parts (and_parts (list_all is_lettered (all_spelled parts)) (list_all is_lettered (Closes close ∷ [])) e).0

  trees_have : (ts : Trees) → list_all is_lettered (all_spelled ts) ≡ true → have_letters ts ≡ true
  trees_have End h = refl
  trees_have (More t rest) h =
      let e = and_parts (list_all is_lettered (spelled t)) (list_all is_lettered (all_spelled rest)) (sym (list_all-append is_lettered (spelled t) (all_spelled rest)) ∙ h) in
      and_from (has_letters t) (have_letters rest) (tree_has t e.0) (trees_have rest e.1)

-- trees that a text spells
pub spelled_letters : (ts : Trees) (text : List ℕ) → all_spelled ts ≡ tokens_of_text text → have_letters ts ≡ true
spelled_letters ts text h = trees_have ts (ap (list_all is_lettered) h ∙ tokens_are (plain text) 0 [] refl)
