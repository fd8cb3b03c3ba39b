-- What the first start that is no commitment tells of all others.
use Rattle.std.proofs.Common.{◌≡◌, ℕ, zero, suc, ◌+◌, ◌<◌, ◌≤◌, Bool, true, false, cond, eqb, List, [], ◌∷◌, ◌++◌, length, Option, Some, None, refl, sym, subst, arith}
use Rattle.std.specs.Prelude.{slice_get, count_by, nat_lt, ◌==◌, if◌then◌else◌}
use Rattle.std.proofs.lemmas.Bool.{ltb-true, ltb-false}
use Rattle.std.proofs.lemmas.List.Sums.{sum_by-append, length-filter}
use Rattle.std.proofs.lemmas.Option.{slice_get_past}
use Rattle.tp_spec.specs.declared.plan.Timed.{Timed}
use Rattle.tp_spec.specs.Words.{Act}
use Rattle.tp_spec.specs.Schedules.{Schedule, commits_by, IsOnTime}
use Rattle.tp_spec.specs.Machine.{candidate}
use Rattle.tp_laws.proofs.ClockKth.{IsFrom}
use Rattle.tp_laws.proofs.ClockKth.{bumped, EachWith}
use Rattle.tp_laws.proofs.ClockOpens.{InOrder, AllFrom, UpTo}

-- so many acts of each action came before
abbrev pub Counts : (ℕ → ℕ) → List Act → Type 0
Counts seen before = (a : ℕ) → seen a ≡ count_by (λ y. y.action == a) before

pub counts_none : Counts (λ a. 0) []
counts_none a = refl

pub counts_more : (seen : ℕ → ℕ) (before : List Act) (x : Act) → Counts seen before → Counts (bumped x.action seen) (before ++ x ∷ [])
counts_more seen before x h a =
    let e = sum_by-append (λ y. cond (y.action == a) 1 0) before (x ∷ []) in
    by_test (eqb x.action a) e
  where
    by_test : (b : Bool) → count_by (λ y. y.action == a) (before ++ x ∷ []) ≡ count_by (λ y. y.action == a) before + (0 + cond b 1 0) → cond b (suc (seen a)) (seen a) ≡ count_by (λ y. y.action == a) (before ++ x ∷ [])
    by_test true e = omega (arith, h a)
    by_test false e = omega (arith, h a)

late_enough : (x : Schedule) (later : ℕ) (act : Act) (o : Option Timed) → later ≤ x.tick act.opens → IsFrom x later act o
late_enough x later act None le = le
late_enough x later act (Some c) le = tt

pub past_end : {A : Type 0} (xs : List A) (a : ℕ) → slice_get xs a ≡ None → length xs ≤ a
past_end [] a e = omega arith
past_end (x ∷ xs) zero e = absurd cc
past_end (x ∷ xs) (suc a) e = omega (arith, past_end xs a e)

counted : (a : ℕ) (c : List Timed) → length (commits_by a c) ≡ count_by (λ q. q.action == a) c
counted a c = length-filter (λ q. q.action == a) c

committed : (x : Schedule) (later : ℕ) (act : Act) (c : List Timed) (k : ℕ) → k < length c → IsFrom x later act (slice_get c k)
committed x later act c k h = at (slice_get c k) refl
  where
    at : (o : Option Timed) → slice_get c k ≡ o → IsFrom x later act o
    at None e = absurd (omega (arith, past_end c k e))
    at (Some t) e = tt

-- all acts from a group on
all_late : (x : Schedule) (later top g : ℕ) (c : List Timed) (seen : ℕ → ℕ) (xs : List Act) → ((i j : ℕ) → i ≤ j → j ≤ top → x.tick i ≤ x.tick j) → later ≤ x.tick g → AllFrom g xs → UpTo top xs → EachWith (IsFrom x later) c seen xs
all_late x later top g c seen [] mono le from up = tt
all_late x later top g c seen (y ∷ ys) mono le from up = (
  late_enough x later y (slice_get (commits_by y.action c) (seen y.action)) (omega (arith, mono g y.opens from.0 up.0)),
  all_late x later top g c (bumped y.action seen) ys mono le from.1 up.1,
)

pub from-candidate : (x : Schedule) (later top : ℕ) (c : List Timed) (seen : ℕ → ℕ) (before xs : List Act) (next : Act) → ((i j : ℕ) → i ≤ j → j ≤ top → x.tick i ≤ x.tick j) → Counts seen before → InOrder xs → UpTo top xs → candidate before c xs ≡ Some next → later ≤ x.tick next.opens → EachWith (IsFrom x later) c seen xs
from-candidate x later top c seen before [] next mono counts order up is le = tt
from-candidate x later top c seen before (y ∷ ys) next mono counts order up is le =
    by_test (λ e. from-candidate x later top c (bumped y.action seen) (before ++ y ∷ []) ys next mono (counts_more seen before y counts) order.1 up.1 e le) (nat_lt (count_by (λ z. z.action == y.action) before) (count_by (λ q. q.action == y.action) c)) refl is
  where
    by_test : (candidate (before ++ y ∷ []) c ys ≡ Some next → EachWith (IsFrom x later) c (bumped y.action seen) ys) → (b : Bool) → nat_lt (count_by (λ z. z.action == y.action) before) (count_by (λ q. q.action == y.action) c) ≡ b → (if b then candidate (before ++ y ∷ []) c ys else Some y) ≡ Some next → EachWith (IsFrom x later) c seen (y ∷ ys)
    by_test ih true e is = (committed x later y (commits_by y.action c) (seen y.action) (omega (arith, counts y.action, counted y.action c, ltb-true _ _ e)), ih is)
    by_test ih false e is =
        let same : y ≡ next = cc in
        let from : later ≤ x.tick y.opens = subst (λ (z : Act). later ≤ x.tick z.opens) (sym same) le in
        (late_enough x later y (slice_get (commits_by y.action c) (seen y.action)) from, all_late x later top y.opens c (bumped y.action seen) ys mono from order.0 up.1)

pub to-candidate : (x : Schedule) (later : ℕ) (c : List Timed) (seen : ℕ → ℕ) (before xs : List Act) (next : Act) → Counts seen before → candidate before c xs ≡ Some next → EachWith (IsOnTime x later) c seen xs → later ≤ x.tick next.opens
to-candidate x later c seen before [] next counts is each = absurd cc
to-candidate x later c seen before (y ∷ ys) next counts is each =
    by_test (λ e. to-candidate x later c (bumped y.action seen) (before ++ y ∷ []) ys next (counts_more seen before y counts) e each.1) (nat_lt (count_by (λ z. z.action == y.action) before) (count_by (λ q. q.action == y.action) c)) refl is
  where
    by_test : (candidate (before ++ y ∷ []) c ys ≡ Some next → later ≤ x.tick next.opens) → (b : Bool) → nat_lt (count_by (λ z. z.action == y.action) before) (count_by (λ q. q.action == y.action) c) ≡ b → (if b then candidate (before ++ y ∷ []) c ys else Some y) ≡ Some next → later ≤ x.tick next.opens
    by_test ih true e is = ih is
    by_test ih false e is =
        let same : y ≡ next = cc in
        let late : later ≤ x.tick y.opens = subst (IsOnTime x later y) (slice_get_past (commits_by y.action c) (seen y.action) (omega (arith, counts y.action, counted y.action c, ltb-false _ _ e))) each.0 in
        subst (λ (z : Act). later ≤ x.tick z.opens) same late

pub no-candidate : (x : Schedule) (later : ℕ) (c : List Timed) (seen : ℕ → ℕ) (before xs : List Act) → Counts seen before → candidate before c xs ≡ None → EachWith (IsFrom x later) c seen xs
no-candidate x later c seen before [] counts is = tt
no-candidate x later c seen before (y ∷ ys) counts is =
    by_test (λ e. no-candidate x later c (bumped y.action seen) (before ++ y ∷ []) ys (counts_more seen before y counts) e) (nat_lt (count_by (λ z. z.action == y.action) before) (count_by (λ q. q.action == y.action) c)) refl is
  where
    by_test : (candidate (before ++ y ∷ []) c ys ≡ None → EachWith (IsFrom x later) c (bumped y.action seen) ys) → (b : Bool) → nat_lt (count_by (λ z. z.action == y.action) before) (count_by (λ q. q.action == y.action) c) ≡ b → (if b then candidate (before ++ y ∷ []) c ys else Some y) ≡ None → EachWith (IsFrom x later) c seen (y ∷ ys)
    by_test ih true e is = (committed x later y (commits_by y.action c) (seen y.action) (omega (arith, counts y.action, counted y.action c, ltb-true _ _ e)), ih is)
    by_test ih false e is = absurd cc

-- it is one of the acts
pub candidate-up : (g : ℕ) (c : List Timed) (before xs : List Act) (next : Act) → candidate before c xs ≡ Some next → UpTo g xs → next.opens ≤ g
candidate-up g c before [] next is up = absurd cc
candidate-up g c before (y ∷ ys) next is up = by_test (λ e. candidate-up g c (before ++ y ∷ []) ys next e up.1) (nat_lt (count_by (λ z. z.action == y.action) before) (count_by (λ q. q.action == y.action) c)) is
  where
    by_test : (candidate (before ++ y ∷ []) c ys ≡ Some next → next.opens ≤ g) → (b : Bool) → (if b then candidate (before ++ y ∷ []) c ys else Some y) ≡ Some next → next.opens ≤ g
    by_test ih true is = ih is
    by_test ih false is = let same : y ≡ next = cc in subst (λ (z : Act). z.opens ≤ g) same up.0
