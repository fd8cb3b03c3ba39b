-- A walk along the word of a plan, mark by mark: what is known of each front.
use Rattle.std.proofs.Common.{◌≡◌, refl, sym, ap, subst, ◌∙◌, ℕ, zero, suc, ◌+◌, ◌<◌, Bool, true, false, cond, List, [], ◌∷◌, ◌++◌, map, arith, append_assoc, append-nil}
use Rattle.std.specs.List.{filter, range_with_len}
use Rattle.tp_spec.specs.declared.plan.Item.{Item}
use Rattle.tp_spec.specs.declared.plan.Mark.{Mark}
use Rattle.tp_spec.specs.Words.{groups, joining, marked}

-- the marks of a happening, or those that join what is there of it
abbrev pub marks_by : Bool → List Item → List Mark
marks_by fresh [] = []
marks_by fresh (i ∷ is) = record { fresh = fresh; item = i } ∷ marks_by false is

-- whether the next mark opens a group, behind some items
abbrev pub opens_behind : Bool → List Item → Bool
opens_behind fresh [] = fresh
opens_behind fresh (i ∷ is) = false

marks-joining : (is : List Item) → marks_by false is ≡ map joining is
marks-joining [] = refl
marks-joining (i ∷ is) = ap (λ w. joining i ∷ w) (marks-joining is)

pub marks-fresh : (is : List Item) → marks_by true is ≡ marked is
marks-fresh [] = refl
marks-fresh (i ∷ is) = ap (λ w. record { fresh = true; item = i } ∷ w) (marks-joining is)

marks-append : (fresh : Bool) (is js : List Item) → marks_by fresh (is ++ js) ≡ marks_by fresh is ++ marks_by (opens_behind fresh is) js
marks-append fresh [] js = refl
marks-append fresh (i ∷ is) js = ap (λ w. record { fresh = fresh; item = i } ∷ w) (marks-append false is js ∙ ap (λ b. marks_by false is ++ marks_by b js) (still is))
  where
    still : (is : List Item) → opens_behind false is ≡ false
    still [] = refl
    still (i ∷ is) = refl

opens-append : (fresh : Bool) (is js : List Item) → opens_behind fresh (is ++ js) ≡ opens_behind (opens_behind fresh is) js
opens-append fresh [] js = refl
opens-append fresh (i ∷ is) [] = refl
opens-append fresh (i ∷ is) (j ∷ js) = refl

module _ (Good : List Mark → Type 0) where
  -- each front of the marks, behind what was read, is good
  abbrev pub Along : List Mark → List Mark → Type 0
  Along u [] = Good u
  Along u (m ∷ v) = Good u × Along (u ++ m ∷ []) v

  pub along-append : (u v w : List Mark) → Along u v → Along (u ++ v) w → Along u (v ++ w)
  along-append u [] w h k = subst (λ x. Along x w) (append-nil u) k
  along-append u (m ∷ v) w h k = (h.0, along-append (u ++ m ∷ []) v w h.1 (subst (λ x. Along x w) (sym (append_assoc u (m ∷ []) v)) k))

  along-first : (u v : List Mark) → Along u v → Good u
  along-first u [] h = h
  along-first u (m ∷ v) h = h.0

  pub along-front : (u f rest : List Mark) → Along u (f ++ rest) → Good (u ++ f)
  along-front u [] rest h = subst Good (sym (append-nil u)) (along-first u rest h)
  along-front u (m ∷ f) rest h = subst Good (append_assoc u (m ∷ []) f) (along-front (u ++ m ∷ []) f rest h.1)

  -- what is known behind the items of a part of a tick, before which g groups stand
  pub record Walked (g : ℕ) (P : List Mark → Type 0) (fresh : Bool) (u : List Mark) (is : List Item) : Type 0 where
    pub along : Along u (marks_by fresh is)
    pub counted : groups (u ++ marks_by fresh is) ≡ cond (opens_behind fresh is) g (suc g)
    pub behind : P (u ++ marks_by fresh is)

  -- one part of a tick after another
  pub walk-on : (g : ℕ) (P Q : List Mark → Type 0) (fresh : Bool) (u : List Mark) (is js : List Item) → Walked g P fresh u is
      → ((b : Bool) (v : List Mark) → groups v ≡ cond b g (suc g) → P v → Walked g Q b v js) → Walked g Q fresh u (is ++ js)
  walk-on g P Q fresh u is js first then =
      let s : Walked g Q (opens_behind fresh is) (u ++ marks_by fresh is) js = then (opens_behind fresh is) (u ++ marks_by fresh is) first.counted first.behind in
      let split : marks_by fresh (is ++ js) ≡ marks_by fresh is ++ marks_by (opens_behind fresh is) js = marks-append fresh is js in
      let word : (u ++ marks_by fresh is) ++ marks_by (opens_behind fresh is) js ≡ u ++ marks_by fresh (is ++ js) = append_assoc u (marks_by fresh is) (marks_by (opens_behind fresh is) js) ∙ ap (λ w. u ++ w) (sym split) in
      record {
        along = subst (Along u) (sym split) (along-append u (marks_by fresh is) (marks_by (opens_behind fresh is) js) first.along s.along);
        counted = ap groups (sym word) ∙ s.counted ∙ ap (λ b. cond b g (suc g)) (sym (opens-append fresh is js));
        behind = subst Q word s.behind;
      }

  pub walk-changed : (g : ℕ) (P Q : List Mark → Type 0) (fresh : Bool) (u : List Mark) (is : List Item) → ((v : List Mark) → P v → Q v) → Walked g P fresh u is → Walked g Q fresh u is
  walk-changed g P Q fresh u is f w = record { along = w.along; counted = w.counted; behind = f (u ++ marks_by fresh is) w.behind }

  module _ (g : ℕ) (stand : Item → Bool) (item : ℕ → Item) (P : ℕ → List Mark → Type 0) (top : ℕ)
      (good : (k : ℕ) (u : List Mark) → P k u → Good u)
      (skip : (k : ℕ) (u : List Mark) → k < top → stand (item k) ≡ false → P k u → P (suc k) u)
      (emit : (k : ℕ) (u : List Mark) (fresh : Bool) → k < top → stand (item k) ≡ true → groups u ≡ cond fresh g (suc g) → P k u → P (suc k) (u ++ record { fresh = fresh; item = item k } ∷ []))
      (count : (u : List Mark) (fresh : Bool) (i : Item) → groups u ≡ cond fresh g (suc g) → groups (u ++ record { fresh = fresh; item = i } ∷ []) ≡ suc g) where
    -- the items of one kind, those that stand
    pub walk : (n k : ℕ) → k + n ≡ top → (fresh : Bool) (u : List Mark) → groups u ≡ cond fresh g (suc g) → P k u → Walked g (P top) fresh u (filter stand (map item (range_with_len k n)))
    walk zero k sum fresh u counted at =
        let same : k ≡ top = omega (arith, sum) in
        record {
          along = good k u at;
          counted = ap groups (append-nil u) ∙ counted;
          behind = subst (λ j. P j (u ++ [])) same (subst (P k) (sym (append-nil u)) at);
        }
    walk (suc n) k sum fresh u counted at =
        by_test (stand (item k)) refl (λ b v c h. walk n (k + 1) (omega (arith, sum)) b v c h)
      where
        rest : List Item
        rest = filter stand (map item (range_with_len (k + 1) n))

        one : suc k ≡ k + 1
        one = omega arith

        by_test : (b : Bool) → stand (item k) ≡ b → ((f : Bool) (v : List Mark) → groups v ≡ cond f g (suc g) → P (k + 1) v → Walked g (P top) f v (filter stand (map item (range_with_len (k + 1) n))))
            → Walked g (P top) fresh u (cond b (item k ∷ filter stand (map item (range_with_len (k + 1) n))) (filter stand (map item (range_with_len (k + 1) n))))
        by_test false e ih = ih fresh u counted (subst (λ j. P j u) one (skip k u (omega (arith, sum)) e at))
        by_test true e ih =
            let v : List Mark = u ++ record { fresh = fresh; item = item k } ∷ [] in
            let s : Walked g (P top) false v rest = ih false v (count u fresh (item k) counted) (subst (λ j. P j v) one (emit k u fresh (omega (arith, sum)) e counted at)) in
            let word : v ++ marks_by false rest ≡ u ++ record { fresh = fresh; item = item k } ∷ marks_by false rest = append_assoc u (record { fresh = fresh; item = item k } ∷ []) (marks_by false rest) in
            record {
              along = (good k u at, s.along);
              counted = ap groups (sym word) ∙ s.counted ∙ ap (λ b. cond b g (suc g)) (still rest);
              behind = subst (P top) word s.behind;
            }
          where
            still : (is : List Item) → opens_behind false is ≡ false
            still [] = refl
            still (i ∷ is) = refl
