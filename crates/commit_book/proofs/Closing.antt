-- The act that a start of a sound word begins: where it stands among the acts, and where it ends.
use Rattle.std.proofs.Common.{◌≡◌, refl, sym, ap, subst, ◌∙◌, ℕ, suc, ◌+◌, ◌-◌, ◌<◌, ◌≤◌, Bool, true, false, cond, List, [], ◌∷◌, ◌++◌, length, get_or, take, drop, Option, Some, None, arith, append_assoc}
use Rattle.std.specs.Prelude.{IfSome, nat_lt, ◌==◌, if◌then◌else◌}
use Rattle.std.proofs.Math.Seq.{drop-cons}
use Rattle.std.specs.List.{AllByRecursion as Each}
use Rattle.std.proofs.lemmas.Bool.{le-ltb, eqb-true, false≢true}
use Rattle.std.proofs.lemmas.List.{take-append-drop}
use Rattle.std.proofs.lemmas.Option.{slice_get_within, get_or_from_slice_get}
use Rattle.tp_spec.specs.declared.plan.Item.{Item}
use Rattle.tp_spec.specs.declared.plan.Item.TheVariants.{TimedAt, End, Start}
use Rattle.tp_spec.specs.declared.plan.Limits.{Limits}
use Rattle.tp_spec.specs.declared.plan.Mark.{Mark}
use Rattle.tp_spec.specs.declared.plan.Timed.{Timed}
use Rattle.tp_spec.specs.declared.problem.Problem.{Problem}
use Rattle.tp_spec.specs.Items.{is_durative}
use Rattle.tp_spec.specs.Machine.{candidate}
use Rattle.tp_spec.specs.Schedules.{Schedule, finish}
use Rattle.tp_spec.specs.Words.{Act, Sound, Follow, at_start, groups, ended, with_act, acts_from, acts_of, is_end_of}
use Rattle.tp_laws.proofs.ClockOpens.{ended-cons}
use Rattle.tp_laws.proofs.EarlyReading.{follow-front}
use Rattle.tp_laws.proofs.Ends.{acts-append}
use Rattle.tp_laws.proofs.ValidOfActs.{Behind, kept}
use Rattle.tp_laws.proofs.ValidOfLists.{Pairs}
use Rattle.commit_book.specs.declared.rule.Place.{Place}
use Rattle.commit_book.specs.Commits.{IsNextStart, IsUrgent}
use Rattle.commit_book.specs.Starts.{commits_by, closing_from, started, IsFree}
use Rattle.commit_book.proofs.Starts.{acts_count, actions, same-count, starts-count, candidate-same, candidate-append, groups-next, acts-next, Frees, frees}

-- each act of an action has ended
abbrev pub Quiet : ℕ → List Act → Type 0
Quiet a xs = Each (λ x. x.action ≡ a → (h : ℕ) × (x.closes ≡ Some h)) xs

-- an act stands among others, behind acts of the same actions as these
pub record Splits (acts xs : List Act) (x : Act) : Type 0 where
  pub front : List Act
  pub back : List Act
  pub is : acts ≡ front ++ x ∷ back
  pub same : actions front ≡ actions xs
  pub quiet : (a : ℕ) → Quiet a xs → Quiet a front

abbrev closed : Act → ℕ → Act
closed x g = record { action = x.action; opens = x.opens; closes = Some g }

-- an end of something else
other : (b g : ℕ) (x : Act) (ys : List Act) → (x.closes ≡ None → (x.action == b) ≡ false) → ended b g (x ∷ ys) ≡ x ∷ ended b g ys
other b g x ys h = by_end x.closes (x.action == b) h
  where
    by_end : (o : Option ℕ) (t : Bool) → (o ≡ None → t ≡ false) → elim o as (λ _. List Act) [ Some k ↦ x ∷ ended b g ys | None ↦ if t then closed x g ∷ ys else x ∷ ended b g ys ] ≡ x ∷ ended b g ys
    by_end (Some k) t q = refl
    by_end None true q = absurd (false≢true (sym (q refl)))
    by_end None false q = refl

-- its own end
mine : (b g : ℕ) (x : Act) (ys : List Act) → x.closes ≡ None → (x.action == b) ≡ true → ended b g (x ∷ ys) ≡ closed x g ∷ ys
mine b g x ys e h = by_end x.closes (x.action == b) e h
  where
    by_end : (o : Option ℕ) (t : Bool) → o ≡ None → t ≡ true → elim o as (λ _. List Act) [ Some k ↦ x ∷ ended b g ys | None ↦ if t then closed x g ∷ ys else x ∷ ended b g ys ] ≡ closed x g ∷ ys
    by_end (Some k) t q r = absurd cc
    by_end None true q r = refl
    by_end None false q r = absurd (false≢true r)

passed : (b g : ℕ) (xs : List Act) (x : Act) (ys : List Act) → (x.closes ≡ None → (x.action == b) ≡ false) → Splits (ended b g (xs ++ x ∷ ys)) xs x
passed b g [] x ys h = record { front = []; back = ended b g ys; is = other b g x ys h; same = refl; quiet = λ a q. tt }
passed b g (y ∷ xs) x ys h = ended-cons (λ zs. Splits zs (y ∷ xs) x) b g y (xs ++ x ∷ ys)
    (let s = passed b g xs x ys h in record { front = y ∷ s.front; back = s.back; is = ap (λ zs. y ∷ zs) s.is; same = ap (λ rest. y.action ∷ rest) s.same; quiet = λ a q. (q.0, s.quiet a q.1) })
    (record { front = closed y g ∷ xs; back = ys; is = refl; same = refl; quiet = λ a q. ((λ e. (g, refl)), q.1) })

-- behind acts that have ended
ends-here : (b g : ℕ) (xs : List Act) (x : Act) (ys : List Act) → x.closes ≡ None → (x.action == b) ≡ true → Quiet b xs → ended b g (xs ++ x ∷ ys) ≡ xs ++ closed x g ∷ ys
ends-here b g [] x ys e h q = mine b g x ys e h
ends-here b g (y ∷ xs) x ys e h q = other b g y (xs ++ x ∷ ys) (λ f. over f (y.action == b) refl) ∙ ap (λ zs. y ∷ zs) (ends-here b g xs x ys e h q.1)
  where
    over : y.closes ≡ None → (t : Bool) → (y.action == b) ≡ t → t ≡ false
    over f true k = let s = q.0 (eqb-true y.action b k) in absurd (no-both s.0 s.1)
      where
        no-both : (h : ℕ) → y.closes ≡ Some h → ⊥
        no-both h s = absurd cc
    over f false k = refl

carry : (F : List Act → List Act) (zs xs : List Act) (x y : Act) (s : Splits zs xs x) → Splits (F (s.front ++ x ∷ s.back)) s.front y → Splits (F zs) xs y
carry F zs xs x y s r = record { front = r.front; back = r.back; is = ap F s.is ∙ r.is; same = r.same ∙ s.same; quiet = λ a q. r.quiet a (s.quiet a q) }

-- an act that has ended stays as it is
ended-stays : (p : Problem) (n : ℕ) (w : List Mark) (xs : List Act) (x : Act) (ys : List Act) (h : ℕ) → x.closes ≡ Some h → Splits (acts_from p n w (xs ++ x ∷ ys)) xs x
ended-stays p n [] xs x ys h e = record { front = xs; back = ys; is = refl; same = refl; quiet = λ a q. q }
ended-stays p n (m ∷ w) xs x ys h e = by_item (cond m.fresh (n + 1) n) (λ k us vs. ended-stays p k w us x vs h e) m.item
  where
    by_item : (k : ℕ) → ((k : ℕ) (us vs : List Act) → Splits (acts_from p k w (us ++ x ∷ vs)) us x) → (i : Item) → Splits (acts_from p k w (with_act p (k - 1) i (xs ++ x ∷ ys))) xs x
    by_item k again (TimedAt j) = again k xs ys
    by_item k again (End b) = carry (acts_from p k w) _ xs x x (passed b (k - 1) xs x ys (λ f. absurd (both f))) (again k _ _)
      where
        both : x.closes ≡ None → ⊥
        both f = absurd cc
    by_item k again (Start b) =
        let new : Act = record { action = b; opens = k - 1; closes = if is_durative p b then None else Some (k - 1) } in
        subst (λ zs. Splits (acts_from p k w zs) xs x) (sym (append_assoc xs (x ∷ ys) (new ∷ []))) (again k xs (ys ++ new ∷ []))

-- the one act of an action that runs ends at its first end
ends-first : (p : Problem) (n : ℕ) (w : List Mark) (xs : List Act) (x : Act) (ys : List Act) → x.closes ≡ None → Quiet x.action xs
    → Splits (acts_from p n w (xs ++ x ∷ ys)) xs (record { action = x.action; opens = x.opens; closes = closing_from n x.action w })
ends-first p n [] xs x ys e q = record {
  front = xs;
  back = ys;
  is = ap (λ o. xs ++ (let y : Act = record { action = x.action; opens = x.opens; closes = o } in y) ∷ ys) e;
  same = refl;
  quiet = λ a r. r;
}
ends-first p n (m ∷ w) xs x ys e q = by_item (cond m.fresh (n + 1) n) (λ k us vs r. ends-first p k w us x vs e r) m.item
  where
    with_end : Option ℕ → Act
    with_end o = record { action = x.action; opens = x.opens; closes = o }

    by_item : (k : ℕ) → ((k : ℕ) (us vs : List Act) → Quiet x.action us → Splits (acts_from p k w (us ++ x ∷ vs)) us (with_end (closing_from k x.action w)))
        → (i : Item) → Splits (acts_from p k w (with_act p (k - 1) i (xs ++ x ∷ ys))) xs (with_end (if is_end_of x.action i then Some (k - 1) else closing_from k x.action w))
    by_item k again (TimedAt j) = again k xs ys q
    by_item k again (End b) = by_test (x.action == b) refl
      where
        by_test : (t : Bool) → (x.action == b) ≡ t → Splits (acts_from p k w (ended b (k - 1) (xs ++ x ∷ ys))) xs (with_end (if t then Some (k - 1) else closing_from k x.action w))
        by_test true f = subst (λ zs. Splits (acts_from p k w zs) xs (closed x (k - 1)))
            (sym (ends-here b (k - 1) xs x ys e f (subst (λ a. Quiet a xs) (eqb-true x.action b f) q)))
            (ended-stays p k w xs (closed x (k - 1)) ys (k - 1) refl)
        by_test false f =
            let s = passed b (k - 1) xs x ys (λ g. f) in
            carry (acts_from p k w) (ended b (k - 1) (xs ++ x ∷ ys)) xs x (with_end (closing_from k x.action w)) s (again k s.front s.back (s.quiet x.action q))
    by_item k again (Start b) =
        let new : Act = record { action = b; opens = k - 1; closes = if is_durative p b then None else Some (k - 1) } in
        subst (λ zs. Splits (acts_from p k w zs) xs (with_end (closing_from k x.action w))) (sym (append_assoc xs (x ∷ ys) (new ∷ []))) (again k xs (ys ++ new ∷ []) q)

-- of a sound word's acts each one of the last one's action has ended

last-pairs : (xs : List Act) (x : Act) → Pairs Behind (xs ++ x ∷ []) → Quiet x.action xs
last-pairs [] x r = tt
last-pairs (y ∷ ys) x r = ((λ e. let h = (last-of ys r.0).over e in (h.0, h.1)), last-pairs ys x r.1)
  where
    last-of : (zs : List Act) → Each (Behind y) (zs ++ x ∷ []) → Behind y x
    last-of [] k = k.0
    last-of (z ∷ zs) k = last-of zs k.1

sound-front : (p : Problem) (w : List Mark) (n : ℕ) → Sound p w → Sound p (take n w)
sound-front p w n sound = record { follows = follow-front p (at_start p) (take n w) (drop n w) (subst (Follow p (at_start p)) (sym (take-append-drop n w)) sound.follows) }

-- the act that a free start begins is the first that is no commitment
module _ (p : Problem) (w : List Mark) (c : List Timed) (sound : Sound p w) (at : Place) (found : IsFree w c at) where
  here : Frees (take at.mark w) c found.mark.item at.action
  here = frees (take at.mark w) c found.mark.item at.action found.free

  pub place-within : at.mark < length w
  place-within = slice_get_within w at.mark found.mark found.at

  abbrev xs : List Act
  xs = acts_of p (take at.mark w)

  abbrev g : ℕ
  g = groups (take (at.mark + 1) w) - 1

  abbrev new : Act
  new = record { action = at.action; opens = g; closes = if is_durative p at.action then None else Some g }

  item-is : (get_or w at.mark found.mark).item ≡ Start at.action
  item-is = ap (λ (m : Mark). m.item) (get_or_from_slice_get w at.mark found.mark found.mark found.at) ∙ here.item

  acts-are : acts_of p (take (at.mark + 1) w) ≡ xs ++ new ∷ []
  acts-are = acts-next p w at.mark found.mark place-within ∙ ap (λ (i : Item). with_act p g i xs) item-is

  quiet : Quiet at.action xs
  quiet = last-pairs xs new (subst (λ (ys : List Act). Pairs Behind ys) acts-are (kept p (take (at.mark + 1) w) (sound-front p w (at.mark + 1) sound)).pairs)

  whole : acts_of p w ≡ acts_from p (groups (take (at.mark + 1) w)) (drop (at.mark + 1) w) (xs ++ new ∷ [])
  whole =
      ap (acts_of p) (sym (take-append-drop (at.mark + 1) w)) ∙ acts-append p 0 (take (at.mark + 1) w) (drop (at.mark + 1) w) []
      ∙ (λ i. acts_from p (zero-more (groups (take (at.mark + 1) w)) i) (drop (at.mark + 1) w) (acts-are i))
    where
      zero-more : (n : ℕ) → 0 + n ≡ n
      zero-more n = omega arith

  abbrev begun : ℕ → Act
  begun h = record { action = at.action; opens = h; closes = if is_durative p at.action then closing_from (groups (take (at.mark + 1) w)) at.action (drop (at.mark + 1) w) else Some h }

  split : Splits (acts_of p w) xs (begun g)
  split = subst (λ (ys : List Act). Splits ys xs (begun g)) (sym whole) (by_kind (is_durative p at.action))
    where
      by_kind : (b : Bool) → Splits (acts_from p (groups (take (at.mark + 1) w)) (drop (at.mark + 1) w) (xs ++ (let y : Act = record { action = at.action; opens = g; closes = if b then None else Some g } in y) ∷ [])) xs
          (record { action = at.action; opens = g; closes = if b then closing_from (groups (take (at.mark + 1) w)) at.action (drop (at.mark + 1) w) else Some g })
      by_kind true = ends-first p (groups (take (at.mark + 1) w)) (drop (at.mark + 1) w) xs (record { action = at.action; opens = g; closes = None }) [] refl quiet
      by_kind false = ended-stays p (groups (take (at.mark + 1) w)) (drop (at.mark + 1) w) xs (record { action = at.action; opens = g; closes = Some g }) [] g refl

  enough : nat_lt (acts_count at.action split.front) (commits_by at.action c) ≡ false
  enough =
      let n = same-count at.action split.front xs split.same in
      let k = starts-count p at.action (take at.mark w) in
      let h = here.enough in
      le-ltb (acts_count at.action split.front) (commits_by at.action c) (omega (arith, n, k, h))

  first-is : candidate [] c (acts_of p w) ≡ Some (begun g)
  first-is =
      ap (candidate [] c) split.is
      ∙ candidate-append [] c split.front (begun g ∷ split.back) (candidate-same c [] [] xs split.front (λ a. refl) (sym split.same) (found.before p))
      ∙ ap (λ (t : Bool). if t then candidate (split.front ++ begun g ∷ []) c split.back else Some (begun g)) enough

  pub first-start : candidate [] c (acts_of p w) ≡ Some (started p w at)
  first-start = first-is ∙ ap (λ (h : ℕ). Some (begun h)) (sym found.within)

  pub next-start : IsNextStart p w c at
  next-start = record {
    next = started p w at;
    is_next = first-start;
    action = refl;
    group = refl;
    mark = found.mark;
    at = found.at;
    starts = here.item;
    within = found.within;
  }

pub next-some : (p : Problem) (w : List Mark) (c : List Timed) → Sound p w → (o : Option Place) → IfSome o (IsFree w c) → IfSome o (IsNextStart p w c)
next-some p w c sound None h = tt
next-some p w c sound (Some at) h = next-start p w c sound at h

-- the first end from an index on

end-step : (w : List Mark) (a i : ℕ) (d : Mark) → i < length w
    → closing_from (groups (take i w)) a (drop i w) ≡ (if is_end_of a (get_or w i d).item then Some (groups (take (i + 1) w) - 1) else closing_from (groups (take (i + 1) w)) a (drop (i + 1) w))
end-step w a i d b =
    let m : Mark = get_or w i d in
    let next : suc i ≡ i + 1 = omega arith in
    let split : drop i w ≡ m ∷ drop (i + 1) w = drop-cons w i d b ∙ ap (λ (j : ℕ). m ∷ drop j w) next in
    ap (closing_from (groups (take i w)) a) split
    ∙ ap (λ (k : ℕ). if is_end_of a m.item then Some (k - 1) else closing_from k a (drop (i + 1) w)) (groups-next w i d b)

pub ends-now : (w : List Mark) (a i : ℕ) (d : Mark) (o : Option ℕ) (g : ℕ) → i < length w → is_end_of a (get_or w i d).item ≡ true → g ≡ groups (take (i + 1) w) - 1 → closing_from (groups (take i w)) a (drop i w) ≡ o → Some g ≡ o
ends-now w a i d o g b e is h = ap Some is ∙ sym (end-step w a i d b ∙ ap (λ (t : Bool). if t then Some (groups (take (i + 1) w) - 1) else closing_from (groups (take (i + 1) w)) a (drop (i + 1) w)) e) ∙ h

pub ends-later : (w : List Mark) (a i : ℕ) (d : Mark) (o : Option ℕ) → i < length w → is_end_of a (get_or w i d).item ≡ false → closing_from (groups (take i w)) a (drop i w) ≡ o → closing_from (groups (take (i + 1) w)) a (drop (i + 1) w) ≡ o
ends-later w a i d o b e h = sym (end-step w a i d b ∙ ap (λ (t : Bool). if t then Some (groups (take (i + 1) w) - 1) else closing_from (groups (take (i + 1) w)) a (drop (i + 1) w)) e) ∙ h

-- the commit rule

module _ (p : Problem) (l : Limits) (now : ℕ) (c : List Timed) (w : List Mark) (x : Schedule) (sound : Sound p w) (at : Place) (found : IsFree w c at) where
  pub is-urgent : (start end length_is : ℕ) → start ≡ x.tick at.group → start ≤ now + l.lead → end ≡ finish x (started p w at) → length_is ≡ end - start
      → IsUrgent p l now c w x (record { action = at.action; start = start; length = length_is })
  is-urgent start end length_is s soon e n =
      let length_of : length_is ≡ finish x (started p w at) - x.tick at.group = n ∙ (λ i. e i - s i) in record {
        next = started p w at;
        is_next = first-start p w c sound at found;
        soon = subst (λ (t : ℕ). t ≤ now + l.lead) s soon;
        is = λ i. record { action = at.action; start = s i; length = length_of i };
      }

  pub is-late : (start : ℕ) (act : Timed) → start ≡ x.tick at.group → now + l.lead < start → IsUrgent p l now c w x act → ⊥
  is-late start act s late u =
      let first : Some u.next ≡ Some (started p w at) = sym u.is_next ∙ first-start p w c sound at found in
      let same : u.next ≡ started p w at = ap (λ (o : Option Act). elim o [ None ↦ u.next | Some y ↦ y ]) first in
      let soon : x.tick at.group ≤ now + l.lead = subst (λ (y : Act). x.tick y.opens ≤ now + l.lead) same u.soon in
      omega (arith, s, late, soon)
