-- Names and numbers that are put into a set one after another.
use Rattle.std.proofs.Common.{◌≡◌, ℕ, ◌+◌, ◌<◌, List, [], ◌∷◌, ◌++◌, length, map, get_or, take, refl, ap, sym, ◌∙◌}
use Rattle.std.specs.declared.cmp.Ordering.TheVariants.{Less, Equal, Greater}
use Rattle.std.specs.Ordering.{nat_cmp, match_ordering}
use Rattle.std.specs.Cmp.Lexicographic.{slice_cmp}
use Rattle.std.specs.BTreeSet.{insert_key}
use Rattle.std.proofs.lemmas.List.{take_more}
use denote.Ref.{Bor}
use Rattle.grounder.specs.Naming.{with_names}
use Rattle.grounder.specs.Grounded.{with_numbers}

names_push : (sorted names : List (List ℕ)) (x : List ℕ) → with_names sorted (names ++ x ∷ []) ≡ insert_key (slice_cmp nat_cmp) (with_names sorted names) x
names_push sorted [] x = refl
names_push sorted (n ∷ ns) x = names_push (insert_key (slice_cmp nat_cmp) sorted n) ns x

numbers_push : (sorted ns : List ℕ) (x : ℕ) → with_numbers sorted (ns ++ x ∷ []) ≡ insert_key nat_cmp (with_numbers sorted ns) x
numbers_push sorted [] x = refl
numbers_push sorted (n ∷ ns) x = numbers_push (insert_key nat_cmp sorted n) ns x

abbrev pub text_of : Bor (List ℕ) → List ℕ
text_of k = k.now

map_insert : (ks : List (Bor (List ℕ))) (k : Bor (List ℕ)) → map text_of (insert_key (λ x y. slice_cmp nat_cmp x.now y.now) ks k) ≡ insert_key (slice_cmp nat_cmp) (map text_of ks) k.now
map_insert [] k = refl
map_insert (x ∷ xs) k =
    elim (slice_cmp nat_cmp k.now x.now) as (λ o. map text_of (match_ordering o (k ∷ x ∷ xs) (x ∷ xs) (x ∷ insert_key (λ a b. slice_cmp nat_cmp a.now b.now) xs k)) ≡ match_ordering o (k.now ∷ x.now ∷ map text_of xs) (x.now ∷ map text_of xs) (x.now ∷ insert_key (slice_cmp nat_cmp) (map text_of xs) k.now)) [
      | Less ↦ refl
      | Equal ↦ refl
      | Greater ↦ ap (λ l. x.now ∷ l) (map_insert xs k)
    ]

-- one more name in a set
pub names_step : (names : List (List ℕ)) (i : ℕ) (x : List ℕ) (k : Bor (List ℕ)) (old new : List (Bor (List ℕ))) → i < length names → x ≡ get_or names i x → k.now ≡ x → map text_of old ≡ with_names [] (take i names) → new ≡ insert_key (λ a b. slice_cmp nat_cmp a.now b.now) old k → map text_of new ≡ with_names [] (take (i + 1) names)
names_step names i x k old new inside here is before after =
    ap (map text_of) after
    ∙ map_insert old k
    ∙ ap (λ l. insert_key (slice_cmp nat_cmp) l k.now) before
    ∙ ap (λ y. insert_key (slice_cmp nat_cmp) (with_names [] (take i names)) y) (is ∙ here)
    ∙ sym (names_push [] (take i names) (get_or names i x))
    ∙ ap (with_names []) (sym (take_more names i x inside))

-- one more number in a set
pub numbers_step : (ns : List ℕ) (i d : ℕ) (old new : List ℕ) → i < length ns → old ≡ with_numbers [] (take i ns) → new ≡ insert_key nat_cmp old (get_or ns i d) → new ≡ with_numbers [] (take (i + 1) ns)
numbers_step ns i d old new inside before after =
    after
    ∙ ap (λ l. insert_key nat_cmp l (get_or ns i d)) before
    ∙ sym (numbers_push [] (take i ns) (get_or ns i d))
    ∙ ap (with_numbers []) (sym (take_more ns i d inside))
