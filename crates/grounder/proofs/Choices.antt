-- Lists with a member of each of some lists, behind a common front, as a search meets them.
use Rattle.std.proofs.Common.{◌≡◌, ℕ, ◌+◌, ◌<◌, Bool, true, false, cond, List, [], ◌∷◌, ◌++◌, length, map, get_or, take, refl, ap, sym, ◌∙◌, append_assoc}
use Rattle.std.specs.List.{filter, flat_map}
use Rattle.std.proofs.lemmas.List.{map-append, take_more, append-nil}
use Rattle.std.proofs.lemmas.List.Concat.{flat_map-append}
use Rattle.std.proofs.lemmas.List.Elements.{filter-append}
use Rattle.grounder.specs.Objects.{choices}

-- those behind a front that pass a test
abbrev pub behind : (List ℕ → Bool) → List ℕ → List (List ℕ) → List (List ℕ)
behind p front lists = filter p (map (λ l. front ++ l) lists)

-- the lists that go on with one of some members
abbrev pub onward : List (List ℕ) → List ℕ → List (List ℕ)
onward ranges ks = flat_map (λ k. map (λ rest. k ∷ rest) (choices ranges)) ks

-- a front and a member, or a longer front
pub longer_front : (front : List ℕ) (k : ℕ) (lists : List (List ℕ)) → map (λ l. front ++ l) (map (λ rest. k ∷ rest) lists) ≡ map (λ l. (front ++ k ∷ []) ++ l) lists
longer_front front k [] = refl
longer_front front k (l ∷ ls) =
    ap (λ x. x ∷ map (λ m. front ++ m) (map (λ rest. k ∷ rest) ls)) (sym (append_assoc front (k ∷ []) l))
    ∙ ap (λ xs. ((front ++ k ∷ []) ++ l) ∷ xs) (longer_front front k ls)

-- one more member to go on with
pub behind_step : (p : List ℕ → Bool) (front range : List ℕ) (ranges : List (List ℕ)) (i k d : ℕ) (base old new : List (List ℕ)) → i < length range → k ≡ get_or range i d → old ≡ base ++ behind p front (onward ranges (take i range)) → new ≡ old ++ behind p (front ++ k ∷ []) (choices ranges) → new ≡ base ++ behind p front (onward ranges (take (i + 1) range))
behind_step p front range ranges i k d base old new inside here before after =
    let go = λ (m : ℕ). map (λ rest. m ∷ rest) (choices ranges) in
    let front_map = λ (ls : List (List ℕ)). map (λ l. front ++ l) ls in
    let rows = onward ranges (take i range) in
    let one : behind p (front ++ k ∷ []) (choices ranges) ≡ behind p front (go k) = ap (filter p) (sym (longer_front front k (choices ranges))) in
    let more : onward ranges (take (i + 1) range) ≡ rows ++ go (get_or range i d) = ap (flat_map go) (take_more range i d inside) ∙ flat_map-append go (take i range) (get_or range i d ∷ []) ∙ ap (λ l. rows ++ l) (append-nil (go (get_or range i d))) in
    let split : behind p front (onward ranges (take (i + 1) range)) ≡ behind p front rows ++ behind p front (go k) =
    ap (behind p front) more
    ∙ ap (λ m. behind p front (rows ++ go m)) (sym here)
    ∙ ap (filter p) (map-append (λ l. front ++ l) rows (go k))
    ∙ filter-append p (front_map rows) (front_map (go k)) in
    after
    ∙ ap (λ l. l ++ behind p (front ++ k ∷ []) (choices ranges)) before
    ∙ append_assoc base (behind p front rows) (behind p (front ++ k ∷ []) (choices ranges))
    ∙ ap (λ l. base ++ (behind p front rows ++ l)) one
    ∙ ap (λ l. base ++ l) (sym split)

-- a front with nothing behind it
pub behind_none : (p : List ℕ → Bool) (front : List ℕ) (b : Bool) (base new : List (List ℕ)) → b ≡ p front → new ≡ base ++ cond b (front ∷ []) [] → new ≡ base ++ behind p front (choices [])
behind_none p front b base new is after =
    let whole : front ≡ front ++ [] = sym (append-nil front) in
    after
    ∙ ap (λ t. base ++ cond t (front ∷ []) []) is
    ∙ ap (λ (f : List ℕ). base ++ cond (p f) (f ∷ []) []) whole

-- nothing before
pub behind_nothing : (p : List ℕ → Bool) (lists : List (List ℕ)) → behind p [] lists ≡ filter p lists
behind_nothing p [] = refl
behind_nothing p (l ∷ ls) = elim (p l) as (λ b. cond b (l ∷ behind p [] ls) (behind p [] ls) ≡ cond b (l ∷ filter p ls) (filter p ls)) [ true ↦ ap (λ x. l ∷ x) (behind_nothing p ls) | false ↦ behind_nothing p ls ]
