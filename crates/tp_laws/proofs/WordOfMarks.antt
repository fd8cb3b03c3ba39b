-- What reading the marks of one happening changes, over any items.
use Rattle.std.proofs.Common.{◌≡◌, refl, sym, ap, ◌∙◌, ℕ, ◌+◌, Bool, true, false, not, ◌&&◌, ◌||◌, cond, List, [], ◌∷◌, ◌++◌, map, Some, None, IsSome, arith, append_assoc}
use Rattle.std.specs.List.{AllByRecursion as Each, list_any, list_all}
use Rattle.std.proofs.lemmas.Bool.{and_parts, and_from, or_right, false≢true}
use Rattle.std.proofs.lemmas.List.{map-append}
use Rattle.tp_spec.specs.declared.plan.Item.{Item}
use Rattle.tp_spec.specs.declared.problem.Problem.{Problem}
use Rattle.tp_spec.specs.Lists.{is_empty, each_pair}
use Rattle.tp_spec.specs.States.{State}
use Rattle.tp_spec.specs.Items.{own, after, has_after, next, effects_of, is_durative, item_before}
use Rattle.tp_spec.specs.Interference.{interfere}
use Rattle.tp_spec.specs.Words.{Progress, Follow, in_turn, may_join, closes, keeps_running, past_group, state_past, runs_after, read_on, with_item, is_start_of, is_end_of, marked, joining}
use Rattle.tp_laws.proofs.Readings.{read_on-append, before-joining, group-joining}
use Rattle.tp_laws.proofs.EarlyReading.{grown}
use Rattle.tp_laws.proofs.WordOfHappenings.{times, times-count}

pub running-joining : (p : Problem) (c : Progress) (is : List Item) (a : ℕ) → (read_on p c (map joining is)).running a ≡ c.running a
running-joining p c [] a = refl
running-joining p c (i ∷ is) a = running-joining p (with_item c i) is a

pub timed-joining : (p : Problem) (c : Progress) (is : List Item) → (read_on p c (map joining is)).timed ≡ c.timed + times is
timed-joining p c [] = omega arith
timed-joining p c (i ∷ is) = timed-joining p (with_item c i) is ∙ times-count i c.timed (times is)

pub timed-marked : (p : Problem) (c : Progress) (is : List Item) → (read_on p c (marked is)).timed ≡ c.timed + times is
timed-marked p c [] = omega arith
timed-marked p c (i ∷ is) = timed-joining p (with_item (past_group p c) i) is ∙ times-count i c.timed (times is)

-- what runs after the happening, by its starts and ends
pub runs-marked : (p : Problem) (c : Progress) (is : List Item) (a : ℕ)
    → runs_after p (read_on p c (marked is)) a ≡ ((list_any (is_start_of a) is && is_durative p a) || (runs_after p c a && not (list_any (is_end_of a) is)))
runs-marked p c [] a = kept (runs_after p c a) where
  kept : (b : Bool) → b ≡ ((false && is_durative p a) || (b && not false))
  kept true = refl
  kept false = refl
runs-marked p c (i ∷ is) a =
    let opened : Progress = with_item (past_group p c) i in
    let group : (read_on p opened (map joining is)).group ≡ i ∷ is = group-joining p opened is in
    let running : (read_on p opened (map joining is)).running a ≡ runs_after p c a = running-joining p opened is a in
    λ k. (list_any (is_start_of a) (group k) && is_durative p a) || (running k && not (list_any (is_end_of a) (group k)))

-- the happening's group closes where there is a state after it that keeps what runs
pub shut-marked : (p : Problem) (c : Progress) (is : List Item) → closes p c ≡ true → has_after p (state_past p c) is ≡ true → keeps_running p (read_on p c (marked is)) ≡ true
    → closes p (read_on p c (marked is)) ≡ true
shut-marked p c [] shut fits keeps = shut
shut-marked p c (i ∷ is) shut fits keeps =
    let opened : Progress = with_item (past_group p c) i in
    let from : (read_on p opened (map joining is)).before ≡ state_past p c = before-joining p opened is in
    let group : (read_on p opened (map joining is)).group ≡ i ∷ is = group-joining p opened is in
    or_right (is_empty (read_on p opened (map joining is)).group) _ (and_from _ _ ((λ k. has_after p (from k) (group k)) ∙ fits) keeps)

pub fits-after : (p : Problem) (s : State) (is : List Item) → IsSome (after p s is) → has_after p s is ≡ true
fits-after p s is h = by_test (has_after p s is) h where
  by_test : (b : Bool) → IsSome (cond b (Some (next s (effects_of p is))) None) → b ≡ true
  by_test true h = refl
  by_test false h = absurd (false≢true h)

-- an item may join where it is in turn, its own conditions hold, and those before it are fine
pub may-join : (p : Problem) (d : Progress) (i : Item) (s : State) (u : List Item) → d.before ≡ s → d.group ≡ u → in_turn p d i ≡ true → own p s i ≡ true
    → list_all (λ j. item_before j i && not (interfere p j i)) u ≡ true → may_join p d i ≡ true
may-join p d i s u before group turn own_holds apart =
    and_from _ _ (and_from _ _ turn (ap (λ s. own p s i) before ∙ own_holds)) (ap (λ u. list_all (λ j. item_before j i && not (interfere p j i)) u) group ∙ apart)

pub pair-around : (p : Problem) (u : List Item) (i : Item) (v : List Item) → Each (λ j. item_before j i ≡ true) u → each_pair (λ i j. not (interfere p i j)) (u ++ i ∷ v) ≡ true
    → list_all (λ j. item_before j i && not (interfere p j i)) u ≡ true
pair-around p [] i v below h = refl
pair-around p (j ∷ u) i v below h = and_from _ _ (and_from _ _ below.0 (middle u (and_parts _ _ h).0)) (pair-around p u i v below.1 (and_parts _ _ h).1) where
  middle : (u : List Item) → list_all (λ k. not (interfere p j k)) (u ++ i ∷ v) ≡ true → not (interfere p j i) ≡ true
  middle [] h = (and_parts _ _ h).0
  middle (k ∷ u) h = middle u (and_parts _ _ h).1

-- what may join after each front of the items
abbrev MayJoin : Problem → Progress → List Item → Type 0
MayJoin p b is = (u v : List Item) (i : Item) → u ++ i ∷ v ≡ is → may_join p (read_on p b (map joining u)) i ≡ true

follow-joins : (p : Problem) (b d : Progress) (is u v : List Item) → d ≡ read_on p b (map joining u) → u ++ v ≡ is → is_empty d.group ≡ false → MayJoin p b is → Follow p d (map joining v)
follow-joins p b d is u [] e whole some may = tt
follow-joins p b d is u (i ∷ v) e whole some may =
    let more : read_on p b (map joining (u ++ i ∷ [])) ≡ with_item (read_on p b (map joining u)) i
    = ap (read_on p b) (map-append joining u (i ∷ [])) ∙ read_on-append p b (map joining u) (joining i ∷ []) in (
      and_from _ _ (ap not some) (ap (λ d. may_join p d i) e ∙ may u v i whole),
      follow-joins p b (with_item d i) is (u ++ i ∷ []) v (ap (λ d. with_item d i) e ∙ sym more) (append_assoc u (i ∷ []) v ∙ whole) (grown d.group i) may,
    )

-- a happening may follow a group that closes
pub follow-marked : (p : Problem) (c : Progress) (is : List Item) → closes p c ≡ true → MayJoin p (past_group p c) is → Follow p c (marked is)
follow-marked p c [] shut may = tt
follow-marked p c (i ∷ is) shut may = (
  and_from _ _ shut (may [] is i refl),
  follow-joins p (past_group p c) (with_item (past_group p c) i) (i ∷ is) (i ∷ []) is refl refl refl may,
)
