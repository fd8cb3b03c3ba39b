-- Steps of loops over tables, over plain variables.
use Rattle.std.proofs.Common.{◌≡◌, ℕ, zero, suc, ℤ, ◌+◌, ◌<◌, Bool, true, false, cond, List, [], ◌∷◌, ◌++◌, length, map, get_or, take, Option, Some, None, refl, ap, sym, ◌∙◌, arith, slice_get, zero-add, ◌||◌, append_assoc}
use Rattle.std.specs.List.{range_with_len, list_any, flat_map}
use Rattle.std.specs.Str.{bytes_eq}
use Rattle.std.proofs.lemmas.List.{take_more, map_more, append-nil}
use Rattle.std.proofs.lemmas.List.Concat.{flat_map-append}
use Rattle.std.proofs.lemmas.List.FromFn.{map-range_with_len_more, get_or-map-range_with_len, length-map-range_with_len}
use Rattle.std.proofs.lemmas.List.Folds.{list_any_more}
use Rattle.std.proofs.lemmas.Option.{get_or_from_slice_get, slice_get_within}
use Rattle.pddl_problem.specs.declared.task.Given.{Given}
use Rattle.grounder.specs.Sources.{Source, call_name}
use Rattle.grounder.specs.Starts.{given_among, or_else}

-- one more row of a table
pub table_step : {X : Type 0} (f : ℕ → X) (i : ℕ) (x : X) (old new : List X) → old ≡ map f (range_with_len 0 i) → x ≡ f i → new ≡ old ++ x ∷ [] → new ≡ map f (range_with_len 0 (i + 1))
table_step f i x old new before here after =
    after
    ∙ ap (λ l. l ++ x ∷ []) before
    ∙ ap (λ y. map f (range_with_len 0 i) ++ y ∷ []) here
    ∙ sym (map-range_with_len_more f 0 i i (zero-add i))

-- what a row of a table says
pub row_at : {X : Type 0} (f : ℕ → X) (n k : ℕ) (x : X) (rows : List X) → rows ≡ map f (range_with_len 0 n) → slice_get rows k ≡ Some x → x ≡ f k
row_at f n k x rows is here =
    let there : slice_get (map f (range_with_len 0 n)) k ≡ Some x = ap (λ r. slice_get r k) (sym is) ∙ here in
    let inside : k < length (map f (range_with_len 0 n)) = slice_get_within (map f (range_with_len 0 n)) k x there in
    let below : k < n = omega (arith, inside, length-map-range_with_len f 0 n) in
    sym (get_or_from_slice_get (map f (range_with_len 0 n)) k x x there) ∙ get_or-map-range_with_len f 0 n k k x below (zero-add k)

cond_or : (b o : Bool) → cond b true o ≡ (o || b)
cond_or true true = refl
cond_or true false = refl
cond_or false true = refl
cond_or false false = refl

-- one more name among those that are there
pub any_step : {X : Type 0} (test : X → Bool) (xs : List X) (i : ℕ) (x : X) (b old new : Bool) → i < length xs → x ≡ get_or xs i x → b ≡ test x → old ≡ list_any test (take i xs) → new ≡ cond b true old → new ≡ list_any test (take (i + 1) xs)
any_step test xs i x b old new inside here is before after =
    after
    ∙ cond_or b old
    ∙ ap (λ o. o || b) before
    ∙ ap (λ t. list_any test (take i xs) || t) (is ∙ ap test here)
    ∙ sym (list_any_more test xs i x inside)

else_last : (b : Bool) (v : ℤ) (a o : Option ℤ) → or_else (cond b (Some v) a) o ≡ cond b (Some v) (or_else a o)
else_last true v a o = refl
else_last false v a o = refl

given_append : (s : Source) (name : List ℕ) (xs : List Given) (g : Given) → given_among s name (xs ++ g ∷ []) ≡ cond (bytes_eq (call_name s [] g.target) name) (Some g.value) (given_among s name xs)
given_append s name [] g = refl
given_append s name (x ∷ xs) g =
    ap (λ o. or_else o (cond (bytes_eq (call_name s [] x.target) name) (Some x.value) None)) (given_append s name xs g)
    ∙ else_last (bytes_eq (call_name s [] g.target) name) g.value (given_among s name xs) (cond (bytes_eq (call_name s [] x.target) name) (Some x.value) None)

-- one more value
pub given_step : (s : Source) (name : List ℕ) (xs : List Given) (i : ℕ) (x : Given) (old new : Option ℤ) → i < length xs → x ≡ get_or xs i x → old ≡ given_among s name (take i xs) → new ≡ cond (bytes_eq (call_name s [] x.target) name) (Some x.value) old → new ≡ given_among s name (take (i + 1) xs)
given_step s name xs i x old new inside here before after =
    after
    ∙ ap (λ o. cond (bytes_eq (call_name s [] x.target) name) (Some x.value) o) before
    ∙ sym (given_append s name (take i xs) x)
    ∙ ap (λ y. given_among s name (take i xs ++ y ∷ [])) here
    ∙ ap (given_among s name) (sym (take_more xs i x inside))

-- what one more member gives goes behind the rest
pub gather_step : {X Y : Type 0} (f : X → List Y) (xs : List X) (i : ℕ) (x : X) (base old new : List Y) → i < length xs → x ≡ get_or xs i x → old ≡ base ++ flat_map f (take i xs) → new ≡ old ++ f x → new ≡ base ++ flat_map f (take (i + 1) xs)
gather_step f xs i x base old new inside here before after =
    after
    ∙ ap (λ l. l ++ f x) before
    ∙ append_assoc base (flat_map f (take i xs)) (f x)
    ∙ ap (λ y. base ++ (flat_map f (take i xs) ++ f y)) here
    ∙ ap (λ l. base ++ (flat_map f (take i xs) ++ l)) (sym (append-nil (f (get_or xs i x))))
    ∙ ap (λ l. base ++ l) (sym (flat_map-append f (take i xs) (get_or xs i x ∷ [])))
    ∙ ap (λ t. base ++ flat_map f t) (sym (take_more xs i x inside))

pub map_step : {X Y : Type 0} (f : X → Y) (xs : List X) (i : ℕ) (x : X) (y : Y) (base old new : List Y) → i < length xs → x ≡ get_or xs i x → y ≡ f x → old ≡ base ++ map f (take i xs) → new ≡ old ++ y ∷ [] → new ≡ base ++ map f (take (i + 1) xs)
map_step f xs i x y base old new inside here is before after =
    after
    ∙ ap (λ l. l ++ y ∷ []) before
    ∙ append_assoc base (map f (take i xs)) (y ∷ [])
    ∙ ap (λ z. base ++ (map f (take i xs) ++ z ∷ [])) (is ∙ ap f here)
    ∙ ap (λ l. base ++ l) (sym (map_more f xs i x inside))

get_or_map_here : {X Y : Type 0} (f : X → Y) (xs : List X) (i : ℕ) (d : X) (e : Y) → i < length xs → get_or (map f xs) i e ≡ f (get_or xs i d)
get_or_map_here f [] i d e h = absurd (omega arith)
get_or_map_here f (x ∷ xs) zero d e h = refl
get_or_map_here f (x ∷ xs) (suc i) d e h = get_or_map_here f xs i d e (omega arith)

-- a row of a table that has one for each member of a list
pub row_of : {X Y : Type 0} (f : X → List Y) (xs : List X) (i : ℕ) (x : X) (rows : List (List Y)) → rows ≡ map f xs → i < length xs → x ≡ get_or xs i x → get_or rows i [] ≡ f x
row_of f xs i x rows is inside here =
    ap (λ r. get_or r i []) is
    ∙ get_or_map_here f xs i x [] inside
    ∙ ap f (sym here)
