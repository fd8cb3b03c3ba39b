-- A table read as the list of its names.
use Rattle.std.proofs.Common.{◌≡◌, ℕ, Bool, true, false, not, ◌||◌, ◌+◌, cond, List, [], ◌∷◌, ◌++◌, length, map, position, Some, None, refl, ap, sym, ◌∙◌, nat_lt, Option, slice_get, get_or}
use Rattle.std.specs.List.{list_any, prefix_len}
use Rattle.std.specs.Str.{bytes_eq}
use Rattle.std.proofs.lemmas.List.{map-append, length-map}
use Rattle.std.proofs.lemmas.Option.{slice_get-map, unwrap_or-slice_get}
use Rattle.std.specs.Option.{option_map, unwrap_or}
use Rattle.std.specs.declared.alloc.Global.{Global}
use Rattle.std.specs.declared.vec.Vec.{Vec}
use Rattle.pddl_parts.specs.Names.{with_name}

pub any_map : {X Y : Type 0} (p : Y → Bool) (f : X → Y) (xs : List X) → list_any p (map f xs) ≡ list_any (λ x. p (f x)) xs
any_map p f [] = refl
any_map p f (x ∷ xs) = ap (λ b. p (f x) || b) (any_map p f xs)

pub prefix_map : {X Y : Type 0} (p : Y → Bool) (f : X → Y) (xs : List X) → prefix_len p (map f xs) ≡ prefix_len (λ x. p (f x)) xs
prefix_map p f [] = refl
prefix_map p f (x ∷ xs) = ap (λ n. cond (p (f x)) (1 + n) 0) (prefix_map p f xs)

pub position_map : {X Y : Type 0} (p : Y → Bool) (f : X → Y) (xs : List X) → position p (map f xs) ≡ position (λ x. p (f x)) xs
position_map p f xs =
    ap (λ n. cond (nat_lt n (length (map f xs))) (Some n) None) (prefix_map (λ y. not (p y)) f xs)
    ∙ ap (λ m. cond (nat_lt (prefix_len (λ x. not (p (f x))) xs) m) (Some (prefix_len (λ x. not (p (f x))) xs)) None) (length-map xs f)

map_choice : {X Y : Type 0} (b : Bool) (f : X → Y) (xs : List X) (x : X) → map f (cond b xs (xs ++ x ∷ [])) ≡ cond b (map f xs) (map f xs ++ f x ∷ [])
map_choice true f xs x = refl
map_choice false f xs x = map-append f xs (x ∷ [])

pub table_with : {X : Type 0} (key : X → List ℕ) (xs : List X) (x : X) → map key (cond (list_any (λ y. bytes_eq (key x) (key y)) xs) xs (xs ++ x ∷ [])) ≡ with_name (map key xs) (key x)
table_with key xs x =
    map_choice (list_any (λ y. bytes_eq (key x) (key y)) xs) key xs x
    ∙ ap (λ b. cond b (map key xs) (map key xs ++ key x ∷ [])) (sym (any_map (bytes_eq (key x)) key xs))

abbrev pub items_of : Vec ℕ Global → List ℕ
items_of v = v.items

-- a key by its number, as a name
pub name_of : (keys : List (Vec ℕ Global)) (i : ℕ) (names : List (List ℕ)) (o : Option (Vec ℕ Global)) → o ≡ slice_get keys i → map items_of keys ≡ names → unwrap_or (option_map items_of o) [] ≡ get_or names i []
name_of keys i names o e v =
    ap (λ (k : Option (Vec ℕ Global)). unwrap_or (option_map items_of k) []) e
    ∙ (ap (λ (k : Option (List ℕ)). unwrap_or k []) (sym (slice_get-map items_of keys i))
    ∙ (unwrap_or-slice_get (map items_of keys) i [] ∙ ap (λ (ns : List (List ℕ)). get_or ns i []) v))

pub number_of_names : (keys : List (Vec ℕ Global)) (names : List (List ℕ)) → map items_of keys ≡ names → length keys ≡ length names
number_of_names keys names v = sym (length-map keys items_of) ∙ ap length v
