-- What the first objects rule out, no further objects mend.
use Rattle.std.proofs.Common.{◌≡◌, ℕ, Bool, true, false, not, ◌&&◌, ◌||◌, ◌==◌, cond, List, [], ◌∷◌, ◌++◌, length, map, refl, ap, sym, ◌∙◌, subst}
use Rattle.std.specs.Prelude.{ℤ, ◌+ℤ◌, ◌-ℤ◌, Option}
use Rattle.std.specs.List.{list_all, list_any, filter}
use Rattle.std.proofs.lemmas.Bool.{ltb-true}
use Rattle.std.proofs.lemmas.List.{get_or_append_left, append-nil}
use Rattle.pddl_meaning.specs.declared.terms.Term.{Term}
use Rattle.pddl_meaning.specs.declared.terms.Term.TheVariants.{Parameter, Object}
use Rattle.pddl_meaning.specs.declared.values.Value.{Value, roll-Value, map-Value}
use Rattle.pddl_meaning.specs.declared.values.Value.TheOpen.{Value-F}
use Rattle.pddl_meaning.specs.declared.values.Value.TheFolds.{ind-Value, fold-roll-Value}
use Rattle.pddl_meaning.specs.declared.conditions.Condition.{Condition}
use Rattle.pddl_meaning.specs.declared.conditions.Condition.TheVariants.{Lit, Same, Compare}
use Rattle.pddl_domain.specs.declared.domain.Schema.{Schema}
use Rattle.grounder.specs.Sources.{Source, object_of, named, head_name}
use Rattle.grounder.specs.Starts.{is_true, given, within, worth, worth_at}
use Rattle.tp_spec.specs.Lists.{some_and}
use Rattle.tp_spec.specs.States.{of_both, compares}
use Rattle.grounder.specs.Rigid.{is_so, is_static, holds}
use Rattle.grounder.specs.Kept.{allows, is_known_in, conditions_allow, is_kept, are_sound, kept_behind}
use Rattle.grounder.specs.Lengths.{has_length}
use Rattle.grounder.specs.Objects.{choices}
use Rattle.grounder.specs.Cuts.{is_bound, is_bound_at, is_bound_value, is_bound_in, fails, has_failed}
use Rattle.grounder.proofs.Rising.{and_left, and_right}

same_object : (objects rest : List ℕ) (t : Term) → is_bound (length objects) t ≡ true → object_of (objects ++ rest) t ≡ object_of objects t
same_object objects rest (Object k) h = refl
same_object objects rest (Parameter k) h = get_or_append_left objects rest 0 k (ltb-true k (length objects) h)

same_objects : (objects rest : List ℕ) (ts : List Term) → list_all (is_bound (length objects)) ts ≡ true → map (object_of (objects ++ rest)) ts ≡ map (object_of objects) ts
same_objects objects rest [] h = refl
same_objects objects rest (t ∷ ts) h =
    let n = length objects in
    ap (λ k. k ∷ map (object_of (objects ++ rest)) ts) (same_object objects rest t (and_left (is_bound n t) (list_all (is_bound n) ts) h))
    ∙ ap (λ l. object_of objects t ∷ l) (same_objects objects rest ts (and_right (is_bound n t) (list_all (is_bound n) ts) h))

module _ (s : Source) (objects rest : List ℕ) where
  abbrev SameWorth : Value → Type 0
  SameWorth v = is_bound_value (length objects) v ≡ true → worth s (objects ++ rest) v ≡ worth s objects v

  abbrev Part : Type 0
  Part = (v : Value) × SameWorth v

  by_layer : (y : Value-F Part) → SameWorth (roll-Value (map-Value Part Value (λ v. v.0) y))
  by_layer (Value-F.Number z) h = fold-roll-Value (Option ℤ) (worth_at s (objects ++ rest)) (Value-F.Number z) ∙ sym (fold-roll-Value (Option ℤ) (worth_at s objects) (Value-F.Number z))
  by_layer (Value-F.Call a) h =
      let bound : list_all (is_bound (length objects)) a.terms ≡ true = sym (fold-roll-Value Bool (is_bound_at (length objects)) (Value-F.Call a)) ∙ h in
      fold-roll-Value (Option ℤ) (worth_at s (objects ++ rest)) (Value-F.Call a)
      ∙ ap (λ (l : List ℕ). given s (named s (head_name s.domain.functions a.head) l)) (same_objects objects rest a.terms bound)
      ∙ sym (fold-roll-Value (Option ℤ) (worth_at s objects) (Value-F.Call a))
  by_layer (Value-F.Sum a b) h =
      let both : (is_bound_value (length objects) a.0 && is_bound_value (length objects) b.0) ≡ true = sym (fold-roll-Value Bool (is_bound_at (length objects)) (Value-F.Sum a.0 b.0)) ∙ h in
      let left = a.1 (and_left (is_bound_value (length objects) a.0) (is_bound_value (length objects) b.0) both) in
      let right = b.1 (and_right (is_bound_value (length objects) a.0) (is_bound_value (length objects) b.0) both) in
      fold-roll-Value (Option ℤ) (worth_at s (objects ++ rest)) (Value-F.Sum a.0 b.0)
      ∙ (λ k. within (of_both (λ m n. m +ℤ n) (left k) (right k)))
      ∙ sym (fold-roll-Value (Option ℤ) (worth_at s objects) (Value-F.Sum a.0 b.0))
  by_layer (Value-F.Difference a b) h =
      let both : (is_bound_value (length objects) a.0 && is_bound_value (length objects) b.0) ≡ true = sym (fold-roll-Value Bool (is_bound_at (length objects)) (Value-F.Difference a.0 b.0)) ∙ h in
      let left = a.1 (and_left (is_bound_value (length objects) a.0) (is_bound_value (length objects) b.0) both) in
      let right = b.1 (and_right (is_bound_value (length objects) a.0) (is_bound_value (length objects) b.0) both) in
      fold-roll-Value (Option ℤ) (worth_at s (objects ++ rest)) (Value-F.Difference a.0 b.0)
      ∙ (λ k. within (of_both (λ m n. m -ℤ n) (left k) (right k)))
      ∙ sym (fold-roll-Value (Option ℤ) (worth_at s objects) (Value-F.Difference a.0 b.0))

  -- a value over bound parameters depends on their objects alone
  same_worth : (v : Value) → SameWorth v
  same_worth = ind-Value SameWorth (λ x y is. subst (λ z. SameWorth (roll-Value z)) is (by_layer y))

same_holds : (s : Source) (objects rest : List ℕ) (c : Condition) → is_bound_in (length objects) c ≡ true → holds s (objects ++ rest) c ≡ holds s objects c
same_holds s objects rest (Lit positive atom) h =
    ap (λ (l : List ℕ). is_so positive (is_true s (named s (head_name s.domain.predicates atom.head) l))) (same_objects objects rest atom.terms h)
same_holds s objects rest (Same positive left right) h =
    let n = length objects in
    ap (λ (k : ℕ). is_so positive (k == object_of (objects ++ rest) right)) (same_object objects rest left (and_left (is_bound n left) (is_bound n right) h))
    ∙ ap (λ (k : ℕ). is_so positive (object_of objects left == k)) (same_object objects rest right (and_right (is_bound n left) (is_bound n right) h))
same_holds s objects rest (Compare op left right) h =
    let n = length objects in
    let l = same_worth s objects rest left (and_left (is_bound_value n left) (is_bound_value n right) h) in
    let r = same_worth s objects rest right (and_right (is_bound_value n left) (is_bound_value n right) h) in
    λ k. some_and (of_both (compares op) (l k) (r k)) (λ b. b)

is_false : (b : Bool) → not b ≡ true → b ≡ false
is_false false h = refl
is_false true h = absurd (cc)

and_false : (a b : Bool) → b ≡ false → (a && b) ≡ false
and_false true b h = h
and_false false b h = refl

false_and : (a b : Bool) → a ≡ false → (a && b) ≡ false
false_and a b h = ap (λ t. t && b) h

not_allowed : (s : Source) (objects rest : List ℕ) (c : Condition) → fails s objects c ≡ true → allows s (objects ++ rest) c ≡ false
not_allowed s objects rest c h =
    let both = and_left (is_bound_in (length objects) c && is_static s c) (not (holds s objects c)) h in
    let bound = and_left (is_bound_in (length objects) c) (is_static s c) both in
    let rigid = and_right (is_bound_in (length objects) c) (is_static s c) both in
    let broken = same_holds s objects rest c bound ∙ is_false (holds s objects c) (and_right (is_bound_in (length objects) c && is_static s c) (not (holds s objects c)) h) in
    false_and (not (is_static s c) || holds s (objects ++ rest) c) (is_known_in s (objects ++ rest) c)
    (ap (λ b. not b || holds s (objects ++ rest) c) rigid ∙ broken)

at_first : (s : Source) (objects rest : List ℕ) (c : Condition) (cs : List Condition) (b : Bool) → fails s objects c ≡ b → (b || list_any (fails s objects) cs) ≡ true → (list_any (fails s objects) cs ≡ true → list_all (allows s (objects ++ rest)) cs ≡ false) → list_all (allows s (objects ++ rest)) (c ∷ cs) ≡ false
at_first s objects rest c cs true e h later = false_and (allows s (objects ++ rest) c) (list_all (allows s (objects ++ rest)) cs) (not_allowed s objects rest c e)
at_first s objects rest c cs false e h later = and_false (allows s (objects ++ rest) c) (list_all (allows s (objects ++ rest)) cs) (later h)

none_allowed : (s : Source) (objects rest : List ℕ) (cs : List Condition) → list_any (fails s objects) cs ≡ true → list_all (allows s (objects ++ rest)) cs ≡ false
none_allowed s objects rest [] h = absurd (cc)
none_allowed s objects rest (c ∷ cs) h = at_first s objects rest c cs (fails s objects c) refl h (none_allowed s objects rest cs)

one_of : (a b c : Bool) (x y z : Bool) → (a ≡ true → x ≡ false) → (b ≡ true → y ≡ false) → (c ≡ true → z ≡ false) → (a || b || c) ≡ true → (x && y && z) ≡ false
one_of true b c x y z f g k h = false_and (x && y) z (false_and x y (f refl))
one_of false true c x y z f g k h = false_and (x && y) z (and_false x y (g refl))
one_of false false true x y z f g k h = and_false (x && y) z (k refl)
one_of false false false x y z f g k h = absurd (cc)

pub not_kept : (s : Source) (a : Schema) (objects rest : List ℕ) → has_failed s a objects ≡ true → is_kept s a (objects ++ rest) ≡ false
not_kept s a objects rest h =
    let all = objects ++ rest in
    let refused : conditions_allow s a all ≡ false = one_of (list_any (fails s objects) a.start_conds) (list_any (fails s objects) a.all_conds) (list_any (fails s objects) a.end_conds) (list_all (allows s all) a.start_conds) (list_all (allows s all) a.all_conds) (list_all (allows s all) a.end_conds) (none_allowed s objects rest a.start_conds) (none_allowed s objects rest a.all_conds) (none_allowed s objects rest a.end_conds) h in
    false_and (conditions_allow s a all && has_length s all a.bounds && are_sound s all a.start_effects) (are_sound s all a.end_effects)
    (false_and (conditions_allow s a all && has_length s all a.bounds) (are_sound s all a.start_effects)
    (false_and (conditions_allow s a all) (has_length s all a.bounds) refused))

none_behind : (p : List ℕ → Bool) (front : List ℕ) (lists : List (List ℕ)) → ((rest : List ℕ) → p (front ++ rest) ≡ false) → filter p (map (λ l. front ++ l) lists) ≡ []
none_behind p front [] h = refl
none_behind p front (l ∷ ls) h =
    ap (λ b. cond b ((front ++ l) ∷ filter p (map (λ m. front ++ m) ls)) (filter p (map (λ m. front ++ m) ls))) (h l)
    ∙ none_behind p front ls h

-- where the first objects fail, the whole branch is left out
pub cut_branch : (s : Source) (a : Schema) (objects : List ℕ) (ranges base : List (List ℕ)) → has_failed s a objects ≡ true → base ≡ base ++ kept_behind s a objects ranges
cut_branch s a objects ranges base h =
    sym (append-nil base)
    ∙ ap (λ l. base ++ l) (sym (none_behind (is_kept s a) objects (choices ranges) (λ rest. not_kept s a objects rest h)))
