-- Tests of lists: of all members, of each two, of the members that are found.
use Rattle.std.proofs.Common.{◌≡◌, ℕ, suc, ◌+◌, ◌<◌, Bool, true, false, not, ◌||◌, cond, List, [], ◌∷◌, ◌++◌, length, map, get_or, Some, None, inl, inr, refl, ap, sym, ◌∙◌, arith}
use Rattle.std.specs.Prelude.{nat_lt, ◌==◌}
use Rattle.std.specs.declared.cmp.Ordering.{Ordering}
use Rattle.std.specs.declared.cmp.Ordering.TheVariants.{Less, Equal, Greater}
use Rattle.std.specs.List.{list_all, list_any, flat_map, filter, position_or_len}
use Rattle.std.specs.Ordering.{nat_cmp, is_eq, match_ordering}
use Rattle.std.specs.Cmp.Lexicographic.{slice_cmp}
use Rattle.std.specs.Str.{bytes_eq}
use Rattle.std.specs.BTreeSet.{insert_key}
use Rattle.std.proofs.lemmas.Bool.{and_parts, and_from, lt-ltb, eqb-true}
use Rattle.std.proofs.lemmas.List.Sums.{prefix_len_stops}
use Rattle.std.proofs.lemmas.List.Concat.{flat_map-cons}
use Rattle.std.proofs.lemmas.List.Folds.{list_all-append, list_all-map}
use Rattle.std.proofs.lemmas.Map.Text.{is_eq-slice_cmp}
use Rattle.std.proofs.lemmas.Slice.Eq.{bytes_eq-Decides}
use Rattle.tp_spec.specs.Lists.{is_empty, each_pair, IsIn}
use Rattle.pddl_meaning.specs.Terms.{or_zero}
use Rattle.grounder.specs.Naming.{with_names}
use Rattle.grounder.specs.Parts.{number_in}
use Rattle.grounder.specs.Grounded.{with_numbers}

or_keeps : (a b c : Bool) → (b ≡ true → c ≡ true) → (a || b) ≡ true → (a || c) ≡ true
or_keeps true b c f h = refl
or_keeps false b c f h = f h

or_right : (a b : Bool) → b ≡ true → (a || b) ≡ true
or_right true b h = refl
or_right false b h = h

unnot : (a : Bool) → not a ≡ false → a ≡ true
unnot true h = refl
unnot false h = absurd (cc)

or_left : (a b : Bool) → a ≡ true → (a || b) ≡ true
or_left a b h = ap (λ t. t || b) h

pub each : {A : Type 0} (p q : A → Bool) → ((x : A) → p x ≡ true → q x ≡ true) → (xs : List A) → list_all p xs ≡ true → list_all q xs ≡ true
each p q keeps [] h = refl
each p q keeps (x ∷ xs) h =
    let w = and_parts (p x) (list_all p xs) h in
    and_from _ _ (keeps x w.0) (each p q keeps xs w.1)

pub each_both : {A : Type 0} (p r q : A → Bool) → ((x : A) → p x ≡ true → r x ≡ true → q x ≡ true) → (xs : List A) → list_all p xs ≡ true → list_all r xs ≡ true → list_all q xs ≡ true
each_both p r q keeps [] h g = refl
each_both p r q keeps (x ∷ xs) h g =
    let w = and_parts (p x) (list_all p xs) h in
    let v = and_parts (r x) (list_all r xs) g in
    and_from _ _ (keeps x w.0 v.0) (each_both p r q keeps xs w.1 v.1)

pub halves : {A : Type 0} (p : A → Bool) (xs ys : List A) → list_all p (xs ++ ys) ≡ true → (list_all p xs ≡ true) × (list_all p ys ≡ true)
halves p xs ys h = and_parts _ _ (sym (list_all-append p xs ys) ∙ h)

pub joined : {A : Type 0} (p : A → Bool) (xs ys : List A) → list_all p xs ≡ true → list_all p ys ≡ true → list_all p (xs ++ ys) ≡ true
joined p xs ys h g = list_all-append p xs ys ∙ and_from _ _ h g

-- the lists of which a list is put together
pub from_flat : {A B : Type 0} (p : B → Bool) (f : A → List B) (xs : List A) → list_all p (flat_map f xs) ≡ true → list_all (λ x. list_all p (f x)) xs ≡ true
from_flat p f [] h = refl
from_flat p f (x ∷ xs) h =
    let w = halves p (f x) (flat_map f xs) (ap (list_all p) (sym (flat_map-cons f x xs)) ∙ h) in
    and_from _ _ w.0 (from_flat p f xs w.1)

pub to_flat : {A B : Type 0} (p : B → Bool) (f : A → List B) (xs : List A) → list_all (λ x. list_all p (f x)) xs ≡ true → list_all p (flat_map f xs) ≡ true
to_flat p f [] h = refl
to_flat p f (x ∷ xs) h =
    let w = and_parts (list_all p (f x)) (list_all (λ y. list_all p (f y)) xs) h in
    ap (list_all p) (flat_map-cons f x xs) ∙ joined p (f x) (flat_map f xs) w.0 (to_flat p f xs w.1)

pub to_map : {A B : Type 0} (p : B → Bool) (f : A → B) (xs : List A) → list_all (λ x. p (f x)) xs ≡ true → list_all p (map f xs) ≡ true
to_map p f xs h = list_all-map p f xs ∙ h

filter_step : {A : Type 0} (p : A → Bool) (x : A) (xs : List A) → list_all p (filter p xs) ≡ true → (b : Bool) → p x ≡ b → list_all p (cond b (x ∷ filter p xs) (filter p xs)) ≡ true
filter_step p x xs h true e = and_from _ _ e h
filter_step p x xs h false e = h

pub all_filter : {A : Type 0} (p : A → Bool) (xs : List A) → list_all p (filter p xs) ≡ true
all_filter p [] = refl
all_filter p (x ∷ xs) = filter_step p x xs (all_filter p xs) (p x) refl

pub empty_flat : {A B : Type 0} (f : A → List B) (xs : List A) → is_empty xs ≡ true → is_empty (flat_map f xs) ≡ true
empty_flat f [] h = refl
empty_flat f (x ∷ xs) h = absurd (cc)

pub empty_map : {A B : Type 0} (f : A → B) (xs : List A) → is_empty xs ≡ true → is_empty (map f xs) ≡ true
empty_map f [] h = refl
empty_map f (x ∷ xs) h = absurd (cc)

-- each two members of a list whose members all pass a test
pub pairs : {A B : Type 0} (p : A → Bool) (r : A → A → Bool) (q : B → B → Bool) (f : A → B) → ((x y : A) → p x ≡ true → p y ≡ true → r x y ≡ true → q (f x) (f y) ≡ true) → (xs : List A) → list_all p xs ≡ true → each_pair r xs ≡ true → each_pair q (map f xs) ≡ true
pairs p r q f keeps [] h g = refl
pairs p r q f keeps (x ∷ xs) h g =
    let w = and_parts (p x) (list_all p xs) h in
    let v = and_parts (list_all (r x) xs) (each_pair r xs) g in
    and_from _ _
    (to_map (q (f x)) f xs (each_both p (r x) (λ y. q (f x) (f y)) (λ y a b. keeps x y w.0 a b) xs w.1 v.0))
    (pairs p r q f keeps xs w.1 v.1)

-- one more member in a set, and more of them
pub all_insert : {K : Type 0} (p : K → Bool) (R : K → K → Ordering) (ks : List K) (k : K) → p k ≡ true → list_all p ks ≡ true → list_all p (insert_key R ks k) ≡ true
all_insert p R [] k h a = and_from _ _ h refl
all_insert p R (x ∷ xs) k h a =
    let w = and_parts (p x) (list_all p xs) a in
    elim (R k x) as (λ o. list_all p (match_ordering o (k ∷ x ∷ xs) (x ∷ xs) (x ∷ insert_key R xs k)) ≡ true) [
      | Less ↦ and_from _ _ h a
      | Equal ↦ a
      | Greater ↦ and_from _ _ w.0 (all_insert p R xs k h w.1)
    ]

pub all_names : (p : List ℕ → Bool) (sorted names : List (List ℕ)) → list_all p sorted ≡ true → list_all p names ≡ true → list_all p (with_names sorted names) ≡ true
all_names p sorted [] h g = h
all_names p sorted (n ∷ ns) h g =
    let w = and_parts (p n) (list_all p ns) g in
    all_names p (insert_key (slice_cmp nat_cmp) sorted n) ns (all_insert p (slice_cmp nat_cmp) sorted n w.0 h) w.1

pub all_numbers : (p : ℕ → Bool) (sorted ns : List ℕ) → list_all p sorted ≡ true → list_all p ns ≡ true → list_all p (with_numbers sorted ns) ≡ true
all_numbers p sorted [] h g = h
all_numbers p sorted (n ∷ ns) h g =
    let w = and_parts (p n) (list_all p ns) g in
    all_numbers p (insert_key nat_cmp sorted n) ns (all_insert p nat_cmp sorted n w.0 h) w.1

pub each_three : {A : Type 0} (p r t q : A → Bool) → ((x : A) → p x ≡ true → r x ≡ true → t x ≡ true → q x ≡ true) → (xs : List A) → list_all p xs ≡ true → list_all r xs ≡ true → list_all t xs ≡ true → list_all q xs ≡ true
each_three p r t q keeps [] h g f = refl
each_three p r t q keeps (x ∷ xs) h g f =
    let w = and_parts (p x) (list_all p xs) h in
    let v = and_parts (r x) (list_all r xs) g in
    let u = and_parts (t x) (list_all t xs) f in
    and_from _ _ (keeps x w.0 v.0 u.0) (each_three p r t q keeps xs w.1 v.1 u.1)

-- members
pub each_in : {A : Type 0} (p : A → Bool) (xs : List A) → ((x : A) → IsIn x xs → p x ≡ true) → list_all p xs ≡ true
each_in p [] h = refl
each_in p (x ∷ xs) h = and_from _ _ (h x (inl refl)) (each_in p xs (λ y i. h y (inr i)))

pub in_all : {A : Type 0} (p : A → Bool) (xs : List A) (x : A) → IsIn x xs → list_all p xs ≡ true → p x ≡ true
in_all p [] x i h = absurd i
in_all p (y ∷ ys) x (inl e) h = ap p (sym e) ∙ (and_parts (p y) (list_all p ys) h).0
in_all p (y ∷ ys) x (inr i) h = in_all p ys x i (and_parts (p y) (list_all p ys) h).1

-- ---- names that are found

abbrev pub is_found : List (List ℕ) → List ℕ → Bool
is_found names x = list_any (bytes_eq x) names

pub same_bytes : (x : List ℕ) → bytes_eq x x ≡ true
same_bytes x = (bytes_eq-Decides x x).1 refl

pub in_any : {A : Type 0} (p : A → Bool) (xs : List A) (x : A) → IsIn x xs → p x ≡ true → list_any p xs ≡ true
in_any p [] x i h = absurd i
in_any p (y ∷ ys) x (inl e) h = or_left (p y) (list_any p ys) (ap p e ∙ h)
in_any p (y ∷ ys) x (inr i) h = or_right (p y) (list_any p ys) (in_any p ys x i h)

-- a test that one of the names passes
found_at : (test : List ℕ → Bool) (x y : List ℕ) (ys : List (List ℕ)) → test x ≡ true → (b : Bool) → bytes_eq x y ≡ b → (b || is_found ys x) ≡ true → (is_found ys x ≡ true → list_any test ys ≡ true) → list_any test (y ∷ ys) ≡ true
found_at test x y ys h true e g later = or_left (test y) (list_any test ys) (ap test (sym ((bytes_eq-Decides x y).0 e)) ∙ h)
found_at test x y ys h false e g later = or_right (test y) (list_any test ys) (later g)

pub any_found : (test : List ℕ → Bool) (names : List (List ℕ)) (x : List ℕ) → test x ≡ true → is_found names x ≡ true → list_any test names ≡ true
any_found test [] x h g = absurd (cc)
any_found test (y ∷ ys) x h g = found_at test x y ys h (bytes_eq x y) refl g (any_found test ys x h)

has_old : (x k : List ℕ) (ks : List (List ℕ)) → is_found ks x ≡ true → is_found (insert_key (slice_cmp nat_cmp) ks k) x ≡ true
has_old x k [] h = absurd (cc)
has_old x k (y ∷ ys) h =
    elim (slice_cmp nat_cmp k y) as (λ o. is_found (match_ordering o (k ∷ y ∷ ys) (y ∷ ys) (y ∷ insert_key (slice_cmp nat_cmp) ys k)) x ≡ true) [
      | Less ↦ or_right (bytes_eq x k) (is_found (y ∷ ys) x) h
      | Equal ↦ h
      | Greater ↦ or_keeps (bytes_eq x y) (is_found ys x) (is_found (insert_key (slice_cmp nat_cmp) ys k) x) (has_old x k ys) h
    ]

new_at : (x y : List ℕ) (ys : List (List ℕ)) → is_found (insert_key (slice_cmp nat_cmp) ys x) x ≡ true → (o : Ordering) → slice_cmp nat_cmp x y ≡ o → is_found (match_ordering o (x ∷ y ∷ ys) (y ∷ ys) (y ∷ insert_key (slice_cmp nat_cmp) ys x)) x ≡ true
new_at x y ys later Less e = or_left (bytes_eq x x) (is_found (y ∷ ys) x) (same_bytes x)
new_at x y ys later Equal e = or_left (bytes_eq x y) (is_found ys x) (sym (is_eq-slice_cmp x y) ∙ ap is_eq e)
new_at x y ys later Greater e = or_right (bytes_eq x y) (is_found (insert_key (slice_cmp nat_cmp) ys x) x) later

has_new : (x : List ℕ) (ks : List (List ℕ)) → is_found (insert_key (slice_cmp nat_cmp) ks x) x ≡ true
has_new x [] = or_left (bytes_eq x x) false (same_bytes x)
has_new x (y ∷ ys) = new_at x y ys (has_new x ys) (slice_cmp nat_cmp x y) refl

stays_found : (sorted names : List (List ℕ)) (x : List ℕ) → is_found sorted x ≡ true → is_found (with_names sorted names) x ≡ true
stays_found sorted [] x h = h
stays_found sorted (n ∷ ns) x h = stays_found (insert_key (slice_cmp nat_cmp) sorted n) ns x (has_old x n sorted h)

-- each name is among the sorted ones
pub all_found : (sorted names : List (List ℕ)) → list_all (is_found (with_names sorted names)) names ≡ true
all_found sorted [] = refl
all_found sorted (n ∷ ns) =
    let more = insert_key (slice_cmp nat_cmp) sorted n in
    and_from _ _ (stays_found more ns n (has_new n sorted)) (all_found more ns)

-- ---- the place of a name that is found

place_step : {A : Type 0} (p : A → Bool) (xs : List A) (b : Bool) → (list_any p xs ≡ true → position_or_len p xs < length xs) → (b || list_any p xs) ≡ true → cond (not b) (1 + position_or_len p xs) 0 < suc (length xs)
place_step p xs true later h = omega arith
place_step p xs false later h = let r = later h in omega (arith, r)

pub place_below : {A : Type 0} (p : A → Bool) (xs : List A) → list_any p xs ≡ true → position_or_len p xs < length xs
place_below p [] h = absurd (cc)
place_below p (x ∷ xs) h = place_step p xs (p x) (place_below p xs) h

number_is : (names : List (List ℕ)) (x : List ℕ) → is_found names x ≡ true → number_in names x ≡ position_or_len (bytes_eq x) names
number_is names x h =
    let place = position_or_len (bytes_eq x) names in
    ap (λ b. or_zero (cond b (Some place) None)) (lt-ltb place (length names) (place_below (bytes_eq x) names h))

pub number_below : (names : List (List ℕ)) (x : List ℕ) → is_found names x ≡ true → nat_lt (number_in names x) (length names) ≡ true
number_below names x h =
    ap (λ n. nat_lt n (length names)) (number_is names x h)
    ∙ lt-ltb (position_or_len (bytes_eq x) names) (length names) (place_below (bytes_eq x) names h)

name_at : (names : List (List ℕ)) (x : List ℕ) → is_found names x ≡ true → x ≡ get_or names (number_in names x) []
name_at names x h =
    let place = position_or_len (bytes_eq x) names in
    let stops = prefix_len_stops (λ y. not (bytes_eq x y)) names [] (place_below (bytes_eq x) names h) in
    (bytes_eq-Decides x (get_or names place [])).0 (unnot (bytes_eq x (get_or names place [])) stops)
    ∙ ap (λ n. get_or names n []) (sym (number_is names x h))

-- names of one number are the same
pub one_name : (names : List (List ℕ)) (x y : List ℕ) → is_found names x ≡ true → is_found names y ≡ true → (number_in names x == number_in names y) ≡ true → bytes_eq x y ≡ true
one_name names x y h g e =
    let same = eqb-true (number_in names x) (number_in names y) e in
    (bytes_eq-Decides x y).1 (name_at names x h ∙ ap (λ n. get_or names n []) same ∙ sym (name_at names y g))
