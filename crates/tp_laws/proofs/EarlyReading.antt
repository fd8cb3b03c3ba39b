-- Reading a word: its parts, the states of its course, and the word of a plan.
use Rattle.std.proofs.Common.{◌≡◌, refl, sym, ap, ◌∙◌, ℕ, zero, suc, ◌≤◌, Bool, true, false, not, ◌&&◌, List, [], ◌∷◌, ◌++◌, map, arith, nat_lt, append_assoc, append-nil}
use Rattle.std.specs.List.{AllByRecursion as Each, list_all}
use Rattle.std.proofs.lemmas.Bool.{and_parts, and_from, ltb-true, ltb-false}
use Rattle.std.proofs.lemmas.List.Folds.{list_all-append}
use Rattle.tp_spec.specs.declared.plan.Item.{Item}
use Rattle.tp_spec.specs.declared.plan.Mark.{Mark}
use Rattle.tp_spec.specs.declared.plan.Timed.{Timed}
use Rattle.tp_spec.specs.declared.problem.Problem.{Problem}
use Rattle.tp_spec.specs.Lists.{is_empty, each_pair}
use Rattle.tp_spec.specs.Items.{own, item_before}
use Rattle.tp_spec.specs.Interference.{interfere}
use Rattle.tp_spec.specs.Courses.{happening}
use Rattle.tp_spec.specs.Words.{Progress, Follow, past_group, state_past, read_mark, read_on, with_item, marked, joining, spelled}

pub follow-front : (p : Problem) (c : Progress) (u v : List Mark) → Follow p c (u ++ v) → Follow p c u
follow-front p c [] v r = tt
follow-front p c (m ∷ u) v r = (r.0, follow-front p (read_mark p c m) u v r.1)

pub follow-back : (p : Problem) (c : Progress) (u v : List Mark) → Follow p c (u ++ v) → Follow p (read_on p c u) v
follow-back p c [] v r = r
follow-back p c (m ∷ u) v r = follow-back p (read_mark p c m) u v r.1

pub follow-append : (p : Problem) (c : Progress) (u v : List Mark) → Follow p c u → Follow p (read_on p c u) v → Follow p c (u ++ v)
follow-append p c [] v r s = s
follow-append p c (m ∷ u) v r s = (r.0, follow-append p (read_mark p c m) u v r.1 s)

-- its first mark, where it has one, opens a group
abbrev pub Opens : List Mark → Type 0
Opens [] = Unit {0}
Opens (m ∷ w) = m.fresh ≡ true

opens-marked : (v : List Mark) (is : List Item) → Opens v → Opens (v ++ marked is)
opens-marked [] [] h = tt
opens-marked [] (i ∷ is) h = refl
opens-marked (m ∷ v) is h = h

-- what is spelled from a tick on
pub spelled-rest : (p : Problem) (acts : List Timed) (t n : ℕ) → t ≤ n → (rest : List Mark) × (spelled p acts n ≡ spelled p acts t ++ rest) × Opens rest
spelled-rest p acts t zero b = let e : t ≡ 0 = omega (arith, b) in ([], ap (spelled p acts) (sym e) ∙ sym (append-nil (spelled p acts t)), tt)
spelled-rest p acts t (suc n) b = by_order (nat_lt t (suc n)) refl (λ le. spelled-rest p acts t n le) where
  by_order : (before : Bool) → nat_lt t (suc n) ≡ before → (t ≤ n → (rest : List Mark) × (spelled p acts n ≡ spelled p acts t ++ rest) × Opens rest) → (rest : List Mark) × (spelled p acts (suc n) ≡ spelled p acts t ++ rest) × Opens rest
  by_order true e ih =
      let r = ih (omega (arith, ltb-true t (suc n) e)) in
      let is : List Item = happening p acts n in
      (r.0 ++ marked is, ap (λ w. w ++ marked is) r.1 ∙ append_assoc (spelled p acts t) r.0 (marked is), opens-marked r.0 is r.2)
  by_order false e ih = let same : t ≡ suc n = omega (arith, b, ltb-false t (suc n) e) in ([], ap (spelled p acts) (sym same) ∙ sym (append-nil (spelled p acts t)), tt)

-- a front of what is spelled up to a later tick
pub spelled-front : (p : Problem) (acts : List Timed) (t n : ℕ) → t ≤ n → (rest : List Mark) × (spelled p acts n ≡ spelled p acts t ++ rest)
spelled-front p acts t n b = let r = spelled-rest p acts t n b in (r.0, r.1)

-- a group with one item more is not empty
pub grown : (xs : List Item) (i : Item) → is_empty (xs ++ i ∷ []) ≡ false
grown [] i = refl
grown (x ∷ xs) i = refl

module _ (p : Problem) where
  abbrev pub good : Item → Item → Bool
  good k j = item_before k j && not (interfere p k j)

  -- each of the items may follow the group and those before it
  abbrev pub Chain : List Item → List Item → Type 0
  Chain group [] = Unit {0}
  Chain group (j ∷ is) = (list_all (λ k. good k j) group ≡ true) × Chain (group ++ j ∷ []) is

  abbrev After : List Item → List Item → Type 0
  After group is = Each (λ j. list_all (λ k. good k j) group ≡ true) is

  after-less : (group : List Item) (j : Item) (is : List Item) → After (group ++ j ∷ []) is → After group is × (list_all (good j) is ≡ true)
  after-less group j [] h = (tt, refl)
  after-less group j (i ∷ is) h =
      let both = and_parts _ _ (sym (list_all-append (λ g. good g i) group (j ∷ [])) ∙ h.0) in
      let rest = after-less group j is h.1 in
      ((both.0, rest.0), and_from _ _ (and_parts _ _ both.1).0 rest.1)

  pub chain-to : (group is : List Item) → Chain group is → After group is × (each_pair good is ≡ true)
  chain-to group [] h = (tt, refl)
  chain-to group (j ∷ is) h =
      let rest = chain-to (group ++ j ∷ []) is h.1 in
      let less = after-less group j is rest.0 in
      ((h.0, less.0), and_from _ _ less.1 rest.1)

  -- what the marks of a happening ask, where they follow
  joining-follow : (d : Progress) (is : List Item) → Follow p d (map joining is) → (list_all (own p d.before) is ≡ true) × Chain d.group is
  joining-follow d [] r = (refl, tt)
  joining-follow d (j ∷ is) r =
      let joins = and_parts _ _ (and_parts _ _ r.0).1 in
      let rest = joining-follow (with_item d j) is r.1 in
      (and_from _ _ (and_parts _ _ joins.0).1 rest.0, (joins.1, rest.1))

  pub marked-follow : (c : Progress) (is : List Item) → Follow p c (marked is) → (list_all (own p (state_past p c)) is ≡ true) × Chain [] is
  marked-follow c [] r = (refl, tt)
  marked-follow c (i ∷ is) r =
      let joins = and_parts _ _ (and_parts _ _ r.0).1 in
      let rest = joining-follow (with_item (past_group p c) i) is r.1 in
      (and_from _ _ (and_parts _ _ joins.0).1 rest.0, (refl, rest.1))

  -- items in such an order don't interfere
  pub only-apart : (is : List Item) → each_pair (good) is ≡ true → each_pair (λ i j. not (interfere p i j)) is ≡ true
  only-apart [] h = refl
  only-apart (i ∷ is) h = and_from _ _ (only i is (and_parts _ _ h).0) (only-apart is (and_parts _ _ h).1) where
    only : (i : Item) (is : List Item) → list_all (good i) is ≡ true → list_all (λ j. not (interfere p i j)) is ≡ true
    only i [] h = refl
    only i (j ∷ is) h = and_from _ _ (and_parts _ _ (and_parts _ _ h).0).1 (only i is (and_parts _ _ h).1)
