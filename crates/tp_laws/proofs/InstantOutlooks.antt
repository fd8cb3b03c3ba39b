-- What is kept of a word, mark by mark.
use Rattle.std.proofs.Common.{◌≡◌, refl, ap, subst, ◌∙◌, ℕ, suc, ◌+◌, ◌-◌, Bool, true, false, ◌&&◌, cond, List, [], ◌∷◌, ◌++◌, length, Some, None, arith, length-append, append-nil, slice_get}
use Rattle.std.proofs.Math.Bool.{and-true}
use Rattle.std.proofs.lemmas.List.Folds.{list_all-append}
use Rattle.tp_spec.specs.declared.plan.Item.{Item}
use Rattle.tp_spec.specs.declared.plan.Item.TheVariants.{TimedAt, End, Start}
use Rattle.tp_spec.specs.declared.plan.Mark.{Mark}
use Rattle.tp_spec.specs.declared.problem.Problem.{Problem}
use Rattle.tp_spec.specs.Items.{is_durative}
use Rattle.tp_spec.specs.Words.{Act, groups, acts_of, timed_of, with_act, timed_group, ended}
use Rattle.tp_laws.specs.Instants.{Outlook, is_instant_mark, of_instants, first_group, last_group, outlook_of, outlook_with, outlook_after, InstantsByMark, OutlooksByMark}
use Rattle.tp_laws.proofs.Ends.{acts-append, groups-append}
use Rattle.tp_laws.proofs.ClockOpens.{ended-cons}
use Rattle.tp_laws.proofs.PlanOfClocks.{timed-append}
use Rattle.tp_laws.proofs.InstantJoins.{first-push}
use Rattle.tp_laws.proofs.InstantTimes.{get-push}

abbrev seen : ℕ → List Act → List ℕ → Outlook
seen n xs ts = record { opened = n; starts = length xs; first = first_group xs; timed = length ts; last = last_group ts }

last-push : (ts : List ℕ) (g : ℕ) → last_group (ts ++ g ∷ []) ≡ Some g
last-push ts g =
    let place : length ts ≡ length (ts ++ g ∷ []) - 1 = omega (arith, length-append ts (g ∷ [])) in
    subst (λ (k : ℕ). slice_get (ts ++ g ∷ []) k ≡ Some g) place (get-push ts g)

-- an end leaves the number of acts and where they start
length-ended : (a g : ℕ) (xs : List Act) → length (ended a g xs) ≡ length xs
length-ended a g [] = refl
length-ended a g (x ∷ xs) = ended-cons (λ ys. length ys ≡ suc (length xs)) a g x xs (ap suc (length-ended a g xs)) refl

first-ended : (a g : ℕ) (xs : List Act) → first_group (ended a g xs) ≡ first_group xs
first-ended a g [] = refl
first-ended a g (x ∷ xs) = ended-cons (λ ys. first_group ys ≡ Some x.opens) a g x xs refl refl

-- an item more in group g, where n groups are open
seen-more : (p : Problem) (m n g : ℕ) (xs : List Act) (ts : List ℕ) (i : Item) → seen n (with_act p g i xs) (ts ++ timed_group g i) ≡ outlook_with n g (seen m xs ts) i
seen-more p m n g xs ts (TimedAt k) = λ j. record { opened = n; starts = length xs; first = first_group xs; timed = length-append ts (g ∷ []) j; last = last-push ts g j }
seen-more p m n g xs ts (End a) = λ j. record {
  opened = n;
  starts = length-ended a g xs j;
  first = first-ended a g xs j;
  timed = length (append-nil ts j);
  last = last_group (append-nil ts j);
}
seen-more p m n g xs ts (Start a) = λ j. record {
  opened = n;
  starts = length-append xs (record { action = a; opens = g; closes = cond (is_durative p a) None (Some g) } ∷ []) j;
  first = first-push xs (record { action = a; opens = g; closes = cond (is_durative p a) None (Some g) }) j;
  timed = length (append-nil ts j);
  last = last_group (append-nil ts j);
}

pub outlooks-by-mark : OutlooksByMark
outlooks-by-mark p w a = by_fresh a.fresh a.item
  where
    seen-at : (n g : ℕ) (i : Item) (v : List Mark) → groups v ≡ n → acts_of p v ≡ with_act p g i (acts_of p w) → timed_of v ≡ timed_of w ++ timed_group g i → outlook_of p v ≡ outlook_with n g (outlook_of p w) i
    seen-at n g i v e f h = (λ j. seen (e j) (f j) (h j)) ∙ seen-more p (groups w) n g (acts_of p w) (timed_of w) i

    by_fresh : (b : Bool) (i : Item) → outlook_of p (w ++ record { fresh = b; item = i } ∷ []) ≡ outlook_after (outlook_of p w) (record { fresh = b; item = i })
    by_fresh true i =
        let v : List Mark = w ++ record { fresh = true; item = i } ∷ [] in
        let place : 0 + groups w + 1 - 1 ≡ groups w = omega arith in
        seen-at (groups w + 1) (groups w) i v (groups-append w (record { fresh = true; item = i } ∷ []) ∙ more) (acts-append p 0 w (record { fresh = true; item = i } ∷ []) [] ∙ ap (λ k. with_act p k i (acts_of p w)) place)
        (timed-append 0 w (record { fresh = true; item = i } ∷ []) ∙ ap (λ ks. timed_of w ++ ks) (append-nil (timed_group (0 + groups w + 1 - 1) i) ∙ ap (λ k. timed_group k i) place))
      where
        more : groups w + (1 + 0) ≡ groups w + 1
        more = omega arith
    by_fresh false i =
        let v : List Mark = w ++ record { fresh = false; item = i } ∷ [] in
        let place : 0 + groups w - 1 ≡ groups w - 1 = omega arith in
        seen-at (groups w) (groups w - 1) i v (groups-append w (record { fresh = false; item = i } ∷ []) ∙ more) (acts-append p 0 w (record { fresh = false; item = i } ∷ []) [] ∙ ap (λ k. with_act p k i (acts_of p w)) place)
        (timed-append 0 w (record { fresh = false; item = i } ∷ []) ∙ ap (λ ks. timed_of w ++ ks) (append-nil (timed_group (0 + groups w - 1) i) ∙ ap (λ k. timed_group k i) place))
      where
        more : groups w + (0 + 0) ≡ groups w
        more = omega arith

pub instants-by-mark : InstantsByMark
instants-by-mark p w a = list_all-append (is_instant_mark p) w (a ∷ []) ∙ ap (λ b. of_instants p w && b) (and-true (is_instant_mark p a))
