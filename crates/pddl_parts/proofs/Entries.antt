-- A map read as the list of its names with their numbers.
use Rattle.std.proofs.Common.{◌≡◌, ℕ, List, [], ◌∷◌, ◌++◌, Bool, cond, map, Option, Some, None, refl, ap, sym, ◌∙◌}
use Rattle.std.proofs.Common.{is_some, false}
use Rattle.std.proofs.lemmas.List.{map-append}
use Rattle.std.specs.Map.{lookup}
use Rattle.pddl_parts.specs.Tables.{value_of, with_value}
use Rattle.std.specs.declared.alloc.Global.{Global}
use Rattle.std.specs.declared.vec.Vec.{Vec}

-- an entry by its name's bytes
abbrev pub named : Vec ℕ Global × ℕ → List ℕ × ℕ
named e = (e.0.items, e.1)

pub lookup_map : (test : List ℕ → Bool) (es : List (Vec ℕ Global × ℕ)) → lookup test (map named es) ≡ lookup (λ (k : Vec ℕ Global). test k.items) es
lookup_map test [] = refl
lookup_map test (e ∷ es) = ap (λ (o : Option ℕ). cond (test e.0.items) (Some e.1) o) (lookup_map test es)

chosen : {A : Type 0} (o : Option ℕ) (x y : A) → o ≡ None → cond (is_some o) x y ≡ y
chosen o x y n = rw n refl

-- one name more
pub entered : (es new : List (Vec ℕ Global × ℕ)) (key : Vec ℕ Global) (value : ℕ) (table : List (List ℕ × ℕ)) (name : List ℕ)
    → map named es ≡ table → key.items ≡ name → value_of table name ≡ None → new ≡ es ++ (key, value) ∷ [] → map named new ≡ with_value table name value
entered es new key value table name v k n e =
    let more : map named new ≡ map named es ++ (key.items, value) ∷ [] = ap (map named) e ∙ map-append named es ((key, value) ∷ []) in
    let with = chosen (value_of table name) table (table ++ (name, value) ∷ []) n in
    let same : map named es ++ (key.items, value) ∷ [] ≡ table ++ (name, value) ∷ [] = cc in
    more ∙ (same ∙ sym with)

pub none_of_not_some : (o : Option ℕ) → is_some o ≡ false → o ≡ None
none_of_not_some None h = refl
none_of_not_some (Some x) h = absurd (cc)
