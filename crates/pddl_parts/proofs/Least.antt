-- The first of some faults is one of them, and none of them goes before it.
use Rattle.std.proofs.Common.{◌≡◌, inl, inr, Bool, true, false, cond, List, [], ◌∷◌, Option, Some, None, refl, sym, subst, arith}
use Rattle.std.proofs.lemmas.Bool.Decides.{nat_tests}
use Rattle.pddl_parts.specs.declared.faults.Fault.{Fault}
use Rattle.pddl_parts.specs.First.{first, earlier, goes_before, IsIn, IsLeast}

-- where none is listed there is no first one
pub first_none : (fs : List Fault) → first fs ≡ None → fs ≡ []
first_none [] h = refl
first_none (f ∷ fs) h = absurd (never_none f (first fs) h)
  where
    never_none : (f : Fault) (y : Option Fault) → earlier (Some f) y ≡ None → ⊥
    never_none f None h = cc
    never_none f (Some g) h = picked (goes_before g f) f g h
      where
        picked : (b : Bool) (f g : Fault) → cond b (Some g) (Some f) ≡ None → ⊥
        picked true f g h = cc
        picked false f g h = cc

not_itself : (a : Fault) → goes_before a a ≡ false
not_itself a = grind (arith, nat_tests)

one_way : (a b : Fault) → goes_before a b ≡ true → goes_before b a ≡ false
one_way a b h = grind (arith, nat_tests)

chain : (a b c : Fault) → goes_before a b ≡ false → goes_before b c ≡ false → goes_before a c ≡ false
chain a b c h k = grind (arith, nat_tests)

none_in : (g : Fault) (fs : List Fault) → fs ≡ [] → IsIn g fs → ⊥
none_in g fs e i = subst (IsIn g) e i

chosen : (x m f : Fault) (fs : List Fault) (b : Bool) → goes_before m x ≡ b → cond b (Some m) (Some x) ≡ Some f → IsLeast m fs → IsLeast f (x ∷ fs)
chosen x m f fs true t h r =
    let e : m ≡ f = cc in
    subst (λ (k : Fault). IsLeast k (x ∷ fs)) e (record {
      listed = inr r.listed;
      least = λ g i. elim i [ inl p ↦ subst (λ (k : Fault). goes_before k m ≡ false) (sym p) (one_way m x t) | inr j ↦ r.least g j ];
    })
chosen x m f fs false t h r =
    let e : x ≡ f = cc in
    subst (λ (k : Fault). IsLeast k (x ∷ fs)) e (record {
      listed = inl refl;
      least = λ g i. elim i [ inl p ↦ subst (λ (k : Fault). goes_before k x ≡ false) (sym p) (not_itself x) | inr j ↦ chain g m x (r.least g j) t ];
    })

among : (x f : Fault) (fs : List Fault) (y : Option Fault) → first fs ≡ y → earlier (Some x) y ≡ Some f → ((m : Fault) → first fs ≡ Some m → IsLeast m fs) → IsLeast f (x ∷ fs)
among x f fs None e h r =
    let same : x ≡ f = cc in
    subst (λ (k : Fault). IsLeast k (x ∷ fs)) same (record {
      listed = inl refl;
      least = λ g i. elim i [ inl p ↦ subst (λ (k : Fault). goes_before k x ≡ false) (sym p) (not_itself x) | inr j ↦ absurd (none_in g fs (first_none fs e) j) ];
    })
among x f fs (Some m) e h r = chosen x m f fs (goes_before m x) refl h (r m e)

pub first_least : (fs : List Fault) (f : Fault) → first fs ≡ Some f → IsLeast f fs
first_least [] f h = absurd (cc)
first_least (x ∷ fs) f h = among x f fs (first fs) refl h (first_least fs)
