-- Files by name, after a write over one and after one more.
use Rattle.std.proofs.Common.{◌≡◌, ◌≢◌, ℕ, Bool, true, false, cond, List, [], ◌∷◌, ◌++◌, length, get_or, Option, Some, None, refl, sym, ap, ◌∙◌, subst, arith, position, find, map, nat_lt, Result, Ok, Err, OnOk, not, ◌+◌, string_bytes}
use Rattle.std.specs.Prelude.{Vec, String}
use Rattle.std.specs.Str.{bytes_eq}
use Rattle.std.specs.List.{position_or_len, prefix_len, slice_get}
use Rattle.std.specs.Option.{option_map, option_or}
use Rattle.std.proofs.Math.ListN.{set, get_or-map}
use Rattle.std.proofs.lemmas.List.{map-set, length-map}
use Rattle.std.proofs.lemmas.Bool.{false_from_ne_true, ltb-false}
use Rattle.std.proofs.lemmas.Option.{slice_get_past}
use Rattle.std.proofs.lemmas.List.Quantifiers.{position-Some}
use Rattle.std.proofs.lemmas.List.Sums.{position_or_len_is}
use Rattle.std.proofs.lemmas.List.Folds.{find_at, find-set, find_past, find-append}
use Rattle.std.proofs.lemmas.Slice.Eq.{bytes_eq-Decides}
use Rattle.tp_world.specs.Contents.{Stores, content_of, file_of}

-- a name with its bytes
abbrev pub File : Type 0
File = List ℕ × List ℕ

abbrev pub is_named : List ℕ → File → Bool
is_named name file = bytes_eq file.0 name

is_named-other : (file : File) (name other : List ℕ) → file.0 ≡ name → other ≢ name → is_named other file ≡ false
is_named-other file name other is_name apart =
    false_from_ne_true _ (λ h. apart (sym ((bytes_eq-Decides file.0 other).0 h) ∙ is_name))

-- the contents after a write over the first file of this name
pub Stores-set : (files : List File) (i : ℕ) (file : File) (name bytes : List ℕ)
    → position (is_named name) files ≡ Some i → file ≡ get_or files i file
    → Stores (Some (content_of files)) (Some (content_of (set files i (file.0, bytes)))) name bytes
Stores-set files i file name bytes at is_there =
    let found = position-Some (is_named name) files i file at in
    let first = position_or_len_is (is_named name) files i file (omega (arith, found.0)) found.2 (λ _. found.1) in
    let passes : is_named name file ≡ true = subst (λ (x : File). is_named name x ≡ true) (sym is_there) found.1 in
    let is_name = (bytes_eq-Decides file.0 name).0 passes in (
      ap (option_map (λ (x : File). x.1)) (find-set (is_named name) files i (file.0, bytes) (sym first) found.0 passes),
      λ other apart. ap (option_map (λ (x : File). x.1))
          (find_past (is_named other) files i (file.0, bytes) file
          (subst (λ (x : File). is_named other x ≡ false) is_there (is_named-other file name other is_name apart))
          (is_named-other (file.0, bytes) name other is_name apart)),
    )

none_at : {X : Type 0} (xs : List X) (i : ℕ) (b : Bool) → nat_lt i (length xs) ≡ b → cond b (Some i) None ≡ None → slice_get xs i ≡ None
none_at xs i true e none = cc
none_at xs i false e none = slice_get_past xs i (ltb-false i (length xs) e)

none_found : {X : Type 0} (p : X → Bool) (xs : List X) → position p xs ≡ None → find p xs ≡ None
none_found p xs none = find_at p xs ∙ none_at xs (position_or_len p xs) _ refl none

or_none : {X : Type 0} (o : Option X) → option_or o None ≡ o
or_none None = refl
or_none (Some x) = refl

-- the contents after one more file, of a name that had none
pub Stores-append : (files now : List File) (name bytes : List ℕ)
    → position (is_named name) files ≡ None → now ≡ files ++ (name, bytes) ∷ []
    → Stores (Some (content_of files)) (Some (content_of now)) name bytes
Stores-append files now name bytes absent added =
    let file : File = (name, bytes) in
    let bytes_of : Option File → Option (List ℕ) = option_map (λ (x : File). x.1) in
    let itself : is_named name file ≡ true = (bytes_eq-Decides name name).1 refl in (
      ap bytes_of
          (ap (find (is_named name)) added ∙ find-append (is_named name) files (file ∷ [])
          ∙ ap (λ (o : Option File). option_or o (find (is_named name) (file ∷ []))) (none_found (is_named name) files absent)
          ∙ ap (λ (b : Bool). cond b (Some file) None) itself),
      λ other apart. ap bytes_of
          (ap (find (is_named other)) added ∙ find-append (is_named other) files (file ∷ [])
          ∙ ap (λ (b : Bool). option_or (find (is_named other) files) (cond b (Some file) None)) (is_named-other file name other refl apart)
          ∙ or_none (find (is_named other) files)),
    )

-- the same for a call that may be refused
pub Stores-append_ok : {E : Type 0} (files now : List File) (name content bytes : List ℕ) (r : Result (Unit {0}) E)
    → position (is_named name) files ≡ None → content ≡ bytes → OnOk r (now ≡ files ++ (name, content) ∷ [])
    → OnOk r (Stores (Some (content_of files)) (Some (content_of now)) name bytes)
Stores-append_ok files now name content bytes (Ok u) absent has added =
    Stores-append files now name bytes absent (added ∙ ap (λ (b : List ℕ). files ++ (name, b) ∷ []) has)
Stores-append_ok files now name content bytes (Err e) absent has added = tt

-- the first that passes, of a list that is mapped
option_map-cond : {X Y : Type 0} (f : X → Y) (b : Bool) (x : X) (o : Option X) → cond b (Some (f x)) (option_map f o) ≡ option_map f (cond b (Some x) o)
option_map-cond f true x o = refl
option_map-cond f false x o = refl

find-map : {X Y : Type 0} (p : Y → Bool) (f : X → Y) (xs : List X) → find p (map f xs) ≡ option_map f (find (λ x. p (f x)) xs)
find-map p f [] = refl
find-map p f (x ∷ xs) = ap (λ o. cond (p (f x)) (Some (f x)) o) (find-map p f xs) ∙ option_map-cond f (p (f x)) x (find (λ y. p (f y)) xs)

prefix_len-map : {X Y : Type 0} (p : Y → Bool) (f : X → Y) (xs : List X) → prefix_len p (map f xs) ≡ prefix_len (λ x. p (f x)) xs
prefix_len-map p f [] = refl
prefix_len-map p f (x ∷ xs) = ap (λ n. cond (p (f x)) (1 + n) 0) (prefix_len-map p f xs)

position-map : {X Y : Type 0} (p : Y → Bool) (f : X → Y) (xs : List X) → position p (map f xs) ≡ position (λ x. p (f x)) xs
position-map p f xs =
    ap (λ n. cond (nat_lt n (length (map f xs))) (Some n) None) (prefix_len-map (λ y. not (p y)) f xs)
    ∙ ap (λ m. cond (nat_lt (position_or_len (λ x. p (f x)) xs) m) (Some (position_or_len (λ x. p (f x)) xs)) None) (length-map xs f)

-- the content of a name among entries
pub content_of-entries : {Y Z : Type 0} (es : List (String Y × Vec ℕ Z)) (name : List ℕ)
    → content_of (map file_of es) name ≡ option_map (λ (e : String Y × Vec ℕ Z). e.1.items) (find (λ e. bytes_eq (string_bytes e.0) name) es)
content_of-entries {Y} {Z} es name =
    ap (option_map (λ (x : File). x.1)) (find-map (is_named name) file_of es) ∙ option_map-twice (find (λ e. bytes_eq (string_bytes e.0) name) es)
  where
    option_map-twice : (o : Option (String Y × Vec ℕ Z)) → option_map (λ (x : File). x.1) (option_map file_of o) ≡ option_map (λ (e : String Y × Vec ℕ Z). e.1.items) o
    option_map-twice None = refl
    option_map-twice (Some e) = refl

-- the contents after a write over the first entry of this name
pub Stores-set_entry : {Y Z : Type 0} (es : List (String Y × Vec ℕ Z)) (i : ℕ) (entry : String Y × Vec ℕ Z) (content : Vec ℕ Z) (name bytes : List ℕ)
    → position (λ e. bytes_eq (string_bytes e.0) name) es ≡ Some i → entry ≡ get_or es i entry → content.items ≡ bytes
    → Stores (Some (content_of (map file_of es))) (Some (content_of (map file_of (set es i (entry.0, content))))) name bytes
Stores-set_entry {Y} {Z} es i entry content name bytes at is_there has =
    let written : map file_of (set es i (entry.0, content)) ≡ set (map file_of es) i (string_bytes entry.0, bytes) =
    map-set file_of es i (entry.0, content) ∙ ap (λ (b : List ℕ). set (map file_of es) i (string_bytes entry.0, b)) has in
    subst (λ (now : List File). Stores (Some (content_of (map file_of es))) (Some (content_of now)) name bytes) (sym written)
    (Stores-set (map file_of es) i (file_of entry) name bytes (position-map (is_named name) file_of es ∙ at) (ap file_of is_there ∙ sym (get_or-map file_of es i entry)))

pub absent_entry : {Y Z : Type 0} (es : List (String Y × Vec ℕ Z)) (name : List ℕ) → position (λ e. bytes_eq (string_bytes e.0) name) es ≡ None → position (is_named name) (map file_of es) ≡ None
absent_entry es name none = position-map (is_named name) file_of es ∙ none
