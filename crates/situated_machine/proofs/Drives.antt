-- The words of the drive: which are live, their marks, their greatest and least schedules, and when they are quiet.
use Rattle.std.proofs.Common.{◌≡◌, refl, sym, ap, subst, ◌∙◌, ℕ, zero, suc, ◌+◌, ◌<◌, ◌≤◌, ◌==◌, inl, inr, Bool, true, false, not, cond, List, [], ◌∷◌, ◌++◌, Option, Some, None, arith}
use Rattle.std.specs.Prelude.{◌-◌, ◌&&◌, ◌||◌, nat_lt, nat_le, IfSome, slice_get}
use Rattle.std.specs.List.{list_all, list_any}
use Rattle.std.proofs.lemmas.Bool.{and_parts, and_from, or_right, false≢true, eq-eqb, le-leb, leb-true, ltb-true}
use Rattle.tp_spec.specs.declared.plan.Item.{Item}
use Rattle.tp_spec.specs.declared.plan.Item.TheVariants.{TimedAt, End, Start}
use Rattle.tp_spec.specs.declared.plan.Mark.{Mark}
use Rattle.tp_spec.specs.declared.plan.Timed.{Timed}
use Rattle.tp_spec.specs.Courses.{Passes, Possible, in_range}
use Rattle.tp_spec.specs.Interference.{interfere}
use Rattle.tp_spec.specs.Items.{item_before, own}
use Rattle.tp_spec.specs.Lists.{IsIn}
use Rattle.tp_spec.specs.Machine.{Machine, Node, Turn, candidate, no_worse, rank, AreLiveMarks, IsBest, IsDue, IsQuiet, SpellsNone}
use Rattle.tp_spec.specs.Schedules.{Schedule, IsSchedule, IsOnTime, IsInLength, IsGreatest, IsLeast, Live, finish}
use Rattle.tp_spec.specs.WellFormed.{IsWellFormed}
use Rattle.tp_spec.specs.Words.{Act, Progress, acts_of, at_start, in_turn, is_end_of, may_follow, may_join, past_group, progress}
use Rattle.tp_spec.proofs.Few.{below_one, below_two, next_below_two, one_in, some_none}
use Rattle.tp_spec.proofs.Ticks.{each_tick}
use Rattle.tp_laws.specs.Examples.{act, opens}
use Rattle.tp_laws.specs.Plans.{is_whole}
use Rattle.tp_laws.proofs.WordLaws.{word-laws}
use Rattle.situated_machine.specs.Samples.{drive, narrow, driving, arrived, drives_at, node}

-- a machine with nothing committed and no outcome
abbrev pub mach : ℕ → List Node → ℕ → Option Turn → Machine
mach now nodes made turn = record { now = now; commits = []; nodes = nodes; made = made; turn = turn; over = false }

abbrev pub runs : Act
runs = record { action = 0; opens = 0; closes = None }

abbrev pub ran : Act
ran = record { action = 0; opens = 0; closes = Some 1 }

abbrev pub leaving : ℕ → Schedule
leaving t = record { tick = λ g. t; end = λ a. t + 5 }

abbrev pub arriving : ℕ → Schedule
arriving t = record { tick = λ g. cond (g == 0) t (t + 5); end = λ a. 0 }

abbrev nothing : List Timed
nothing = []

five : (t : ℕ) → in_range drive 0 (t + 5 - t) ≡ true
five t = let e : t + 5 - t ≡ 5 = omega arith in ap (in_range drive 0) e

timely : (x : Schedule) (now : ℕ) (a : Act) → now ≤ x.tick a.opens → (b : Bool) (k : ℕ) → IfSome (slice_get (cond b (a ∷ []) []) k) (λ y. IsOnTime x now y (slice_get nothing k))
timely x now a le true zero = le
timely x now a le true (suc k) = tt
timely x now a le false k = tt

-- the empty word

schedule-root : (now : ℕ) → IsSchedule drive narrow now [] [] (leaving 0)
schedule-root now = record {
  rises = λ g b. absurd (omega (arith, b));
  within = λ g b. absurd (omega (arith, b));
  timed = λ k. tt;
  before_next = λ g b. absurd (omega (arith, b));
  lengths = λ a i. absurd i;
  open_late = λ a g i. absurd i;
  on_time = λ a k. tt;
  late = λ c g i. absurd i;
  few = omega arith;
}

pub live-root : (now : ℕ) → Live drive narrow now [] []
live-root now = record { sound = record { follows = tt }; schedule = leaving 0; is = schedule-root now }

-- the word of one that drives

schedule-driving : (now t : ℕ) → now ≤ t → t + 5 ≤ 20 → IsSchedule drive narrow now [] driving (leaving t)
schedule-driving now t le in_time = record {
  rises = λ g b. absurd (omega (arith, b));
  within = below_one (λ g. (leaving t).tick g ≤ 20) (omega (arith, in_time));
  timed = λ k. tt;
  before_next = λ g b. tt;
  lengths = one_in (IsInLength drive narrow (leaving t)) runs (record { forward = omega arith; allowed = five t; within = in_time });
  open_late = λ a g i e b. one_in (λ y. (leaving t).tick g ≤ finish (leaving t) y) runs (omega arith) a i;
  on_time = λ a k. timely (leaving t) now runs le (0 == a) k;
  late = λ c g i. absurd i;
  few = omega arith;
}

pub live-driving : (now : ℕ) → now + 5 ≤ 20 → Live drive narrow now [] driving
live-driving now in_time = record { sound = record { follows = (refl, tt) }; schedule = leaving now; is = schedule-driving now now (omega arith) in_time }

-- it leaves by 15
pub drives_by : (x : Schedule) (a : Act) → a.action ≡ 0 → IsInLength drive narrow x a → (x.tick a.opens + 5 ≤ finish x a) × (finish x a ≤ 20)
drives_by x a e h =
    let allowed : in_range drive 0 (finish x a - x.tick a.opens) ≡ true = subst (λ n. in_range drive n (finish x a - x.tick a.opens) ≡ true) e h.allowed in
    let least : 5 ≤ finish x a - x.tick a.opens = leb-true 5 (finish x a - x.tick a.opens) (and_parts _ _ allowed).0 in
    (omega (arith, least), h.within)

pub last-driving : (now : ℕ) (x : Schedule) → IsSchedule drive narrow now [] driving x → x.tick 0 ≤ 15
last-driving now x s = let r = drives_by x runs refl (s.lengths runs (inl refl)) in omega (arith, r.0, r.1)

pub greatest-driving : (now : ℕ) → now ≤ 15 → IsGreatest drive narrow now [] driving (leaving 15)
greatest-driving now le = record {
  is = schedule-driving now 15 le (omega arith);
  last = λ y s. record {
    ticks = below_one (λ g. y.tick g ≤ 15) (last-driving now y s);
    ends = λ a i e. one_in (λ b. y.end b.action ≤ 20) runs (s.lengths runs (inl refl)).within a i;
  };
}

-- the word of one that has arrived

schedule-arrived : (now t : ℕ) → now ≤ t → t + 5 ≤ 20 → IsSchedule drive narrow now [] arrived (arriving t)
schedule-arrived now t le in_time = record {
  rises = next_below_two (λ g. (arriving t).tick g < (arriving t).tick (suc g)) (omega arith);
  within = below_two (λ g. (arriving t).tick g ≤ 20) (omega (arith, in_time)) in_time;
  timed = λ k. tt;
  before_next = λ g b. tt;
  lengths = one_in (IsInLength drive narrow (arriving t)) ran (record { forward = omega arith; allowed = five t; within = in_time });
  open_late = λ a g i e b. one_in (λ y. y.closes ≡ None → (arriving t).tick g ≤ finish (arriving t) y) ran (λ f. absurd (some_none 1 f)) a i e;
  on_time = λ a k. timely (arriving t) now ran le (0 == a) k;
  late = λ c g i. absurd i;
  few = omega arith;
}

pub live-arrived : (now : ℕ) → now + 5 ≤ 20 → Live drive narrow now [] arrived
live-arrived now in_time = record { sound = record { follows = (refl, (refl, tt)) }; schedule = arriving now; is = schedule-arrived now now (omega arith) in_time }

pub least-arrived : IsLeast drive narrow 0 [] arrived (arriving 0)
least-arrived = record {
  is = schedule-arrived 0 0 (omega arith) (omega arith);
  first = λ y s. record {
    ticks = below_two (λ g. (arriving 0).tick g ≤ y.tick g) (omega arith) (let r = drives_by y ran refl (s.lengths ran (inl refl)) in omega (arith, r.0));
    ends = λ a i e. one_in (λ b. b.closes ≡ None → 0 ≤ y.end b.action) ran (λ f. absurd (some_none 1 f)) a i e;
  };
}

-- which marks may come next

joins-turn : (c : Progress) (i : Item) → may_join drive c i ≡ true → in_turn drive c i ≡ true
joins-turn c i h = (and_parts (in_turn drive c i) (own drive c.before i) (and_parts (in_turn drive c i && own drive c.before i) (list_all (λ j. item_before j i && not (interfere drive j i)) c.group) h).0).0

no-timed : (c : Progress) (k : ℕ) → may_join drive c (TimedAt k) ≡ true → ⊥
no-timed c k h = omega (arith, ltb-true k 0 (and_parts (k == c.timed) (nat_lt k 0) (joins-turn c (TimedAt k) h)).1)

no-other : (c : Progress) (a : ℕ) → may_join drive c (Start (suc a)) ≡ true → ⊥
no-other c a h = omega (arith, ltb-true (suc a) 1 (and_parts (nat_lt (suc a) 1) (not (c.running (suc a)) || list_any (is_end_of (suc a)) c.group) (joins-turn c (Start (suc a)) h)).0)

-- no other action runs
not-running : (b : Bool) → ((((b || false) && false) || false) && true) ≡ true → ⊥
not-running true h = false≢true h
not-running false h = false≢true h

root-marks : (fresh : Bool) (item : Item) → may_follow drive (at_start drive) (record { fresh = fresh; item = item }) ≡ true → IsIn (record { fresh = fresh; item = item }) driving
root-marks false item h = absurd (false≢true h)
root-marks true (TimedAt k) h = absurd (no-timed (past_group drive (at_start drive)) k h)
root-marks true (End a) h = absurd (false≢true h)
root-marks true (Start zero) h = inl refl
root-marks true (Start (suc a)) h = absurd (no-other (past_group drive (at_start drive)) a h)

abbrev driven : Progress
driven = progress drive driving

driving-marks : (fresh : Bool) (item : Item) → may_follow drive driven (record { fresh = fresh; item = item }) ≡ true → IsIn (record { fresh = fresh; item = item }) (opens (End 0) ∷ [])
driving-marks false (TimedAt k) h = absurd (no-timed driven k h)
driving-marks false (End a) h = absurd (false≢true h)
driving-marks false (Start zero) h = absurd (false≢true h)
driving-marks false (Start (suc a)) h = absurd (no-other driven a h)
driving-marks true (TimedAt k) h = absurd (no-timed (past_group drive driven) k h)
driving-marks true (End zero) h = inl refl
driving-marks true (End (suc a)) h = absurd (not-running (suc a == 0) (joins-turn (past_group drive driven) (End (suc a)) h))
driving-marks true (Start zero) h = absurd (false≢true h)
driving-marks true (Start (suc a)) h = absurd (no-other (past_group drive driven) a h)

pub marks-root : (nodes : List Node) (made : ℕ) (turn : Option Turn) → AreLiveMarks drive narrow (mach 0 nodes made turn) [] driving
marks-root nodes made turn = record {
  in_order = refl;
  live = λ a i. one_in (λ b. Live drive narrow 0 [] (b ∷ [])) (opens (Start 0)) (live-driving 0 (omega arith)) a i;
  all = λ a h. root-marks a.fresh a.item h.sound.follows.0;
}

pub marks-driving : (nodes : List Node) (made : ℕ) (turn : Option Turn) → AreLiveMarks drive narrow (mach 0 nodes made turn) driving (opens (End 0) ∷ [])
marks-driving nodes made turn = record {
  in_order = refl;
  live = λ a i. one_in (λ b. Live drive narrow 0 [] (driving ++ b ∷ [])) (opens (End 0)) (live-arrived 0 (omega arith)) a i;
  all = λ a h. driving-marks a.fresh a.item h.sound.follows.1.0;
}

-- no plan ends before it has arrived

drive-formed : IsWellFormed drive
drive-formed = record {
  scaled = refl;
  fact_names = refl;
  fluent_names = refl;
  acting = refl;
  told_apart = refl;
  timing = refl;
  ticks_fit = refl;
  starting = refl;
  valued = refl;
  values_fit = refl;
  aiming = refl;
}

spells-none : (m : Machine) (w : List Mark) → is_whole drive w ≡ false → SpellsNone drive narrow m w
spells-none m w f plan h e = false≢true (sym f ∙ ap (is_whole drive) (sym e) ∙ (word-laws drive narrow drive-formed).whole plan h.valid)

pub root-spells-none : (m : Machine) → SpellsNone drive narrow m []
root-spells-none m = spells-none m [] refl

pub driving-spells-none : (m : Machine) → SpellsNone drive narrow m driving
driving-spells-none m = spells-none m driving refl

pub possible-drive : Possible drive narrow 0 [] (drives_at 0)
possible-drive = record {
  valid = record {
    in_order = refl;
    few = omega arith;
    once = refl;
    lengths = refl;
    in_turn = refl;
    closing = refl;
    within = omega arith;
    all_ended = refl;
    course = each_tick (Passes drive (act 0 0 5 ∷ [])) 5 ((
      (
        (
          (
            (
              record { apart = refl; met = refl; exists = refl; kept = refl },
              record { apart = refl; met = refl; exists = refl; kept = refl },
            ),
            record { apart = refl; met = refl; exists = refl; kept = refl },
          ),
          record { apart = refl; met = refl; exists = refl; kept = refl },
        ),
        record { apart = refl; met = refl; exists = refl; kept = refl },
      ),
      record { apart = refl; met = refl; exists = refl; kept = refl },
    ));
    goal = refl;
  };
  committed = refl;
  later = refl;
}

none-some : (x : Act) → ◌≡◌ {A = Option Act} None (Some x) → ⊥
none-some x e = cc

some-same : (x y : Act) → ◌≡◌ {A = Option Act} (Some x) (Some y) → x ≡ y
some-same x y e = cc

-- the only node is the best, and quiet where its start is not due

pub best-one : (n : Node) → IsBest drive (n ∷ []) n
best-one n = record { there = inl refl; least = and_from (no_worse drive n n) true no-less refl } where
  r : ℕ
  r = rank drive n.word

  no-less : no_worse drive n n ≡ true
  no-less = or_right (nat_lt r r) (r == r && nat_le n.id n.id) (and_from (r == r) (nat_le n.id n.id) (eq-eqb r r refl) (le-leb n.id n.id (omega arith)))

only : (n : Node) (b : Node) → IsIn b (n ∷ []) → n.word ≡ b.word
only n b i = elim i [ inl e ↦ ap (λ k. k.word) e | inr h ↦ absurd h ]

pub quiet-root : (now : ℕ) (taker : Option ℕ) (turn : Option Turn) → IsQuiet drive narrow (mach now (node 0 [] taker ∷ []) 1 turn)
quiet-root now taker turn = record {
  node = node 0 [] taker;
  best = best-one (node 0 [] taker);
  live = live-root now;
  not_urgent = λ a due. none-due a due;
}
  where
    none-due : (a : Timed) → IsDue drive narrow (mach now (node 0 [] taker ∷ []) 1 turn) a → ⊥
    none-due a due = none-some due.next (subst (λ w. candidate [] [] (acts_of drive w) ≡ Some due.next) (sym (only (node 0 [] taker) due.node due.best.there)) due.is_next)

pub quiet-driving : (now : ℕ) (taker : Option ℕ) (made : ℕ) (turn : Option Turn) → now + 3 < 15 → IsQuiet drive narrow (mach now (node 1 driving taker ∷ []) made turn)
quiet-driving now taker made turn early = record {
  node = node 1 driving taker;
  best = best-one (node 1 driving taker);
  live = live-driving now (omega (arith, early));
  not_urgent = λ a due. none-due a due;
}
  where
    none-due : (a : Timed) → IsDue drive narrow (mach now (node 1 driving taker ∷ []) made turn) a → ⊥
    none-due a due =
        let w : due.node.word ≡ driving = sym (only (node 1 driving taker) due.node due.best.there) in
        let next : ◌≡◌ {A = Option Act} (Some runs) (Some due.next) = subst (λ v. candidate [] [] (acts_of drive v) ≡ Some due.next) w due.is_next in
        let same : runs ≡ due.next = some-same runs due.next next in
        let top : IsGreatest drive narrow now [] driving due.schedule = subst (λ v. IsGreatest drive narrow now [] v due.schedule) w due.greatest in
        let late : 15 ≤ due.schedule.tick 0 = (top.last (leaving 15) (schedule-driving now 15 (omega (arith, early)) (omega arith))).ticks 0 (omega arith) in
        let soon : due.schedule.tick 0 ≤ now + 3 = subst (λ (x : Act). due.schedule.tick x.opens ≤ now + 3) (sym same) due.soon in
        omega (arith, early, late, soon)

pub quiet-arrived : (now : ℕ) (taker : Option ℕ) (made : ℕ) (turn : Option Turn) → now + 3 < 15 → IsQuiet drive narrow (mach now (node 2 arrived taker ∷ []) made turn)
quiet-arrived now taker made turn early = record {
  node = node 2 arrived taker;
  best = best-one (node 2 arrived taker);
  live = live-arrived now (omega (arith, early));
  not_urgent = λ a due. none-due a due;
}
  where
    none-due : (a : Timed) → IsDue drive narrow (mach now (node 2 arrived taker ∷ []) made turn) a → ⊥
    none-due a due =
        let w : due.node.word ≡ arrived = sym (only (node 2 arrived taker) due.node due.best.there) in
        let next : ◌≡◌ {A = Option Act} (Some ran) (Some due.next) = subst (λ v. candidate [] [] (acts_of drive v) ≡ Some due.next) w due.is_next in
        let same : ran ≡ due.next = some-same ran due.next next in
        let top : IsGreatest drive narrow now [] arrived due.schedule = subst (λ v. IsGreatest drive narrow now [] v due.schedule) w due.greatest in
        let late : 15 ≤ due.schedule.tick 0 = (top.last (arriving 15) (schedule-arrived now 15 (omega (arith, early)) (omega arith))).ticks 0 (omega arith) in
        let soon : due.schedule.tick 0 ≤ now + 3 = subst (λ (x : Act). due.schedule.tick x.opens ≤ now + 3) (sym same) due.soon in
        omega (arith, early, late, soon)

-- the drive is due at 12
pub due-driving : (made : ℕ) (turn : Option Turn) → IsDue drive narrow (mach 12 (node 1 driving None ∷ []) made turn) (act 0 15 5)
due-driving made turn = record {
  node = node 1 driving None;
  best = best-one (node 1 driving None);
  live = live-driving 12 (omega arith);
  schedule = leaving 15;
  greatest = greatest-driving 12 (omega arith);
  next = runs;
  is_next = refl;
  soon = omega arith;
  is = refl;
}
