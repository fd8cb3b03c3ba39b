-- The children of a word at a clock and at a later one, and words that no plan has.
use Rattle.std.proofs.Common.{◌≡◌, refl, sym, ap, subst, ◌∙◌, ℕ, ◌+◌, ◌≤◌, ◌==◌, ◌||◌, ◌&&◌, not, nat_lt, nat_le, Bool, true, false, cond, List, [], ◌∷◌, ◌++◌, append-nil, inl, inr, All, None, arith}
use Rattle.std.specs.List.{AllByRecursion as Each, filter, list_all}
use Rattle.std.proofs.lemmas.Bool.{and_parts, and_from, false≢true, leb-true, le-leb}
use Rattle.std.proofs.lemmas.Bool.Decides.{nat_tests}
use Rattle.std.proofs.lemmas.List.Elements.{All-nil, All-cons, All-head, All-tail, All-filter}
use Rattle.tp_spec.specs.declared.plan.Item.{Item}
use Rattle.tp_spec.specs.declared.plan.Limits.{Limits}
use Rattle.tp_spec.specs.declared.plan.Mark.{Mark}
use Rattle.tp_spec.specs.declared.plan.Plan.{Plan}
use Rattle.tp_spec.specs.declared.plan.Timed.{Timed}
use Rattle.tp_spec.specs.declared.problem.Problem.{Problem}
use Rattle.tp_spec.specs.Courses.{Possible}
use Rattle.tp_spec.specs.Items.{item_before, kind_index, number}
use Rattle.tp_spec.specs.Lists.{IsIn, each_next, is_empty}
use Rattle.tp_spec.specs.Machine.{mark_before, rank}
use Rattle.tp_spec.specs.Schedules.{Live, awaited}
use Rattle.tp_spec.specs.States.{holds}
use Rattle.tp_spec.specs.WellFormed.{IsWellFormed}
use Rattle.tp_spec.specs.Words.{spell, acts_of, closes, progress, state_past}
use Rattle.tp_laws.specs.Clocks.{IsDeadline, StartFrom}
use Rattle.tp_laws.specs.Plans.{AreInTurn, is_whole, is_complete, none_run, begins_timed}
use Rattle.tp_laws.proofs.ClockCommits.{live-earlier}
use Rattle.tp_laws.proofs.EarlyLists.{Rising, each-map, rising-filter}
use Rattle.tp_laws.proofs.Members.{in-filter, in-map, map-in}
use Rattle.tp_laws.proofs.PlanOfLaws.{complete-words}
use Rattle.tp_laws.proofs.WordLaws.{word-laws}
use Rattle.word_frontier.specs.declared.child.Child.{Child}
use Rattle.word_frontier.specs.Nodes.{live_at}
use Rattle.machine_run.specs.Children.{AreChildren, IsChild, marks_of}
use Rattle.open_tree.specs.Broods.{AreRenewed, IsRenewed, Renews}
use Rattle.open_tree.proofs.Held.{in-passes}

-- marks are ordered

numbers-before : (a b c x y z : ℕ) → (nat_lt a b || (a == b && nat_lt x y)) ≡ true → (nat_lt b c || (b == c && nat_lt y z)) ≡ true → (nat_lt a c || (a == c && nat_lt x z)) ≡ true
numbers-before a b c x y z h k = grind (arith, nat_tests)

items-before : (i j k : Item) → item_before i j ≡ true → item_before j k ≡ true → item_before i k ≡ true
items-before i j k = numbers-before (kind_index i) (kind_index j) (kind_index k) (number i) (number j) (number k)

kinds-before : (f g h : Bool) (i j k : Item) → cond f (g && item_before i j) (g || item_before i j) ≡ true → cond g (h && item_before j k) (h || item_before j k) ≡ true → cond f (h && item_before i k) (h || item_before i k) ≡ true
kinds-before true true true i j k a b = items-before i j k a b
kinds-before true true false i j k a b = absurd (false≢true b)
kinds-before true false h i j k a b = absurd (false≢true a)
kinds-before false true true i j k a b = refl
kinds-before false true false i j k a b = absurd (false≢true b)
kinds-before false false true i j k a b = refl
kinds-before false false false i j k a b = items-before i j k a b

-- a child's mark comes before another's
abbrev before : Child → Child → Bool
before c d = mark_before c.mark d.mark

before-both : (c d e : Child) → before c d ≡ true → before d e ≡ true → before c e ≡ true
before-both c d e = kinds-before c.mark.fresh d.mark.fresh e.mark.fresh c.mark.item d.mark.item e.mark.item

marks-rise : (cs : List Child) → each_next mark_before (marks_of cs) ≡ true → Rising before cs
marks-rise [] h = tt
marks-rise (c ∷ []) h = (tt, tt)
marks-rise (c ∷ d ∷ cs) h =
    let r : Rising before (d ∷ cs) = marks-rise (d ∷ cs) (and_parts _ _ h).1 in
    (((and_parts _ _ h).0, each-map (λ e. before d e ≡ true) (λ e. before c e ≡ true) cs (λ e. before-both c d e (and_parts _ _ h).0) r.0), r)

rise-marks : (cs : List Child) → Rising before cs → each_next mark_before (marks_of cs) ≡ true
rise-marks [] r = refl
rise-marks (c ∷ []) r = refl
rise-marks (c ∷ d ∷ cs) r = and_from _ _ r.0.0 (rise-marks (d ∷ cs) r.1)

-- members

pub all-in : {A : Type 0} (P : A → Type 0) (x : A) (xs : List A) → All P xs → IsIn x xs → P x
all-in P x [] h i = absurd i
all-in P x (y ∷ xs) h (inl e) = subst P e (All-head P y xs h)
all-in P x (y ∷ xs) h (inr i) = all-in P x xs (All-tail P y xs h) i

pub in-all : {A : Type 0} (P : A → Type 0) (xs : List A) → ((x : A) → IsIn x xs → P x) → All P xs
in-all P [] h = All-nil P
in-all P (x ∷ xs) h = All-cons P x xs (h x (inl refl)) (in-all P xs (λ y i. h y (inr i)))

filter-in : {A : Type 0} (test : A → Bool) (x : A) (xs : List A) → test x ≡ true → IsIn x xs → IsIn x (filter test xs)
filter-in test x [] e h = absurd h
filter-in {A} test x (y ∷ xs) e (inl s) = subst (λ b. IsIn x (cond b (y ∷ filter test xs) (filter test xs))) (sym (ap test s ∙ e)) (inl s)
filter-in {A} test x (y ∷ xs) e (inr i) = by_test (test y) (filter-in test x xs e i) where
  by_test : (b : Bool) → IsIn x (filter test xs) → IsIn x (cond b (y ∷ filter test xs) (filter test xs))
  by_test true k = inr k
  by_test false k = k

-- What becomes of children that are told anew.
module _ (p : Problem) (l : Limits) (commits : List Timed) (w : List Mark) where
  abbrev Told : List Child → List Child → Type 0
  Told olds news = AreRenewed p l commits w olds news

  -- one child more
  pub told-push : (olds news : List Child) (x y : Child) → Told olds news → IsRenewed p l commits w x y → Told (olds ++ x ∷ []) (news ++ y ∷ [])
  told-push [] news x y h is = inr (y, [], ap (λ ns. ns ++ y ∷ []) h, is, refl)
  told-push (z ∷ olds) news x y (inl h) is = inl (h.0, told-push olds news x y h.1 is)
  told-push (z ∷ olds) news x y (inr h) is = inr (h.0, h.1 ++ y ∷ [], ap (λ ns. ns ++ y ∷ []) h.2, h.3, told-push olds h.1 x y h.4 is)

  -- one more that is dead at every clock
  pub told-skip : (olds news : List Child) (x : Child) → Told olds news → Renews p l commits w x None → Told (olds ++ x ∷ []) news
  told-skip [] news x h dead = inl (dead, h)
  told-skip (z ∷ olds) news x (inl h) dead = inl (h.0, told-skip olds news x h.1 dead)
  told-skip (z ∷ olds) news x (inr h) dead = inr (h.0, h.1, h.2, h.3, told-skip olds h.1 x h.4 dead)

  -- children that are told under these commitments are as they were
  pub told-same : (cs : List Child) → All (IsChild p l commits w) cs → Told cs cs
  told-same [] h = refl
  told-same (c ∷ cs) h =
      inr (c, cs, refl, record { mark = refl; rank = refl; timely = (All-head (IsChild p l commits w) c cs h).timely }, told-same cs (All-tail (IsChild p l commits w) c cs h))

  -- whatever holds of the marks holds of them
  told-each : (P : Mark → Type 0) (olds news : List Child) → Told olds news → Each (λ (c : Child). P c.mark) olds → Each (λ (c : Child). P c.mark) news
  told-each P [] news h e = subst (Each (λ (c : Child). P c.mark)) (sym h) tt
  told-each P (x ∷ olds) news (inl h) e = told-each P olds news h.1 e.1
  told-each P (x ∷ olds) news (inr h) e = subst (Each (λ (c : Child). P c.mark)) (sym h.2) (subst P (sym h.3.mark) e.0, told-each P olds h.1 h.4 e.1)

  told-rises : (olds news : List Child) → Told olds news → Rising before olds → Rising before news
  told-rises [] news h r = subst (Rising before) (sym h) tt
  told-rises (x ∷ olds) news (inl h) r = told-rises olds news h.1 r.1
  told-rises (x ∷ olds) news (inr h) r =
      subst (Rising before) (sym h.2)
      (subst (λ a. Each (λ (c : Child). mark_before a c.mark ≡ true) h.1) (sym h.3.mark) (told-each (λ a. mark_before x.mark a ≡ true) olds h.1 h.4 r.0), told-rises olds h.1 h.4 r.1)

  -- each of them tells its own longer word
  told-children : (olds news : List Child) → Told olds news → ((x : Child) → IsIn x olds → x.rank ≡ rank p (w ++ x.mark ∷ [])) → (y : Child) → IsIn y news → IsChild p l commits w y
  told-children [] news h ranked y i = absurd (subst (λ ns. IsIn y ns) h i)
  told-children (x ∷ olds) news (inl h) ranked y i = told-children olds news h.1 (λ z k. ranked z (inr k)) y i
  told-children (x ∷ olds) news (inr h) ranked y i = by_place (subst (λ ns. IsIn y ns) h.2 i) (told-children olds h.1 h.4 (λ z k. ranked z (inr k)) y) where
    by_place : IsIn y (h.0 ∷ h.1) → (IsIn y h.1 → IsChild p l commits w y) → IsChild p l commits w y
    by_place (inl e) ih = subst (IsChild p l commits w) e (record {
      ranked = h.3.rank ∙ ranked x (inl refl) ∙ ap (λ a. rank p (w ++ a ∷ [])) (sym h.3.mark);
      timely = subst (λ a. IsDeadline p l commits (w ++ a ∷ []) h.0.deadline) (sym h.3.mark) h.3.timely;
    })
    by_place (inr k) ih = ih k

  -- no mark of a word that is live at some clock is missing
  told-keeps : (olds news : List Child) → Told olds news → (x : Child) → IsIn x olds → Live p l 0 commits (w ++ x.mark ∷ []) → (y : Child) × IsIn y news × (y.mark ≡ x.mark)
  told-keeps [] news h x i live = absurd i
  told-keeps (z ∷ olds) news (inl h) x (inl e) live = absurd (h.0 (subst (λ (c : Child). Live p l 0 commits (w ++ c.mark ∷ [])) (sym e) live))
  told-keeps (z ∷ olds) news (inl h) x (inr k) live = told-keeps olds news h.1 x k live
  told-keeps (z ∷ olds) news (inr h) x (inl e) live = (h.0, subst (λ ns. IsIn h.0 ns) (sym h.2) (inl refl), h.3.mark ∙ ap (λ (c : Child). c.mark) e)
  told-keeps (z ∷ olds) news (inr h) x (inr k) live = let r = told-keeps olds h.1 h.4 x k live in (r.0, subst (λ ns. IsIn r.0 ns) (sym h.2) (inr r.1), r.2)

-- The children that are live at a later clock, under the commitments that came since, are the word's children then.
module _ (p : Problem) (l : Limits) (now later : ℕ) (c more : List Timed) (w : List Mark) (cs news : List Child)
    (forward : now ≤ later) (top : later ≤ l.horizon + 1) (from : StartFrom now more)
    (h : AreChildren p l now c w cs) (told : AreRenewed p l (c ++ more) w cs news) where
  abbrev test : Child → Bool
  test d = nat_le later d.deadline

  child : (d : Child) → IsIn d news → IsChild p l (c ++ more) w d
  child = told-children p l (c ++ more) w cs news told (λ x i. (all-in (IsChild p l c w) x cs h.each i).ranked)

  live-kept : (a : Mark) → IsIn a (marks_of (live_at later news)) → Live p l later (c ++ more) (w ++ a ∷ [])
  live-kept a i =
      let of = in-map (λ (d : Child). d.mark) a (live_at later news) i in
      let d : Child = of.0 in
      subst (λ b. Live p l later (c ++ more) (w ++ b ∷ [])) of.2 (((child d (in-filter test d news of.1)).timely.tells later top).1 (leb-true later d.deadline (in-passes test d news of.1)))

  kept-live : (a : Mark) → Live p l later (c ++ more) (w ++ a ∷ []) → IsIn a (marks_of (live_at later news))
  kept-live a live =
      let of = in-map (λ (d : Child). d.mark) a cs (h.exact.all a (live-earlier p l c (w ++ a ∷ []) now later more forward from live)) in
      let first : Live p l 0 (c ++ more) (w ++ a ∷ []) = live-earlier p l (c ++ more) (w ++ a ∷ []) 0 later [] (omega arith) (λ d i. absurd i) (subst (λ k. Live p l later k (w ++ a ∷ [])) (sym (append-nil (c ++ more))) live) in
      let r = told-keeps p l (c ++ more) w cs news told of.0 of.1 (subst (λ b. Live p l 0 (c ++ more) (w ++ b ∷ [])) (sym of.2) first) in
      let d : Child = r.0 in
      let same : d.mark ≡ a = r.2 ∙ of.2 in
      let timely : later ≤ d.deadline = ((child d r.1).timely.tells later top).0 (subst (λ b. Live p l later (c ++ more) (w ++ b ∷ [])) (sym same) live) in
      subst (λ b. IsIn b (marks_of (live_at later news))) same (map-in (λ (e : Child). e.mark) d (live_at later news) (filter-in test d news (le-leb later d.deadline timely) r.1))

  pub each-later : All (IsChild p l (c ++ more) w) news
  each-later = in-all (IsChild p l (c ++ more) w) news child

  pub children-later : AreChildren p l later (c ++ more) w (live_at later news)
  children-later = record {
    exact = record {
      in_order = rise-marks (live_at later news) (rising-filter before test news (told-rises p l (c ++ more) w cs news told (marks-rise cs h.exact.in_order)));
      live = live-kept;
      all = kept-live;
    };
    each = All-filter test (IsChild p l (c ++ more) w) news each-later;
  }

-- A word that is not whole is no plan's, and neither is one that is dead or lacks a commitment.

pub part-spells : (p : Problem) (l : Limits) → IsWellFormed p → (w : List Mark) → is_whole p w ≡ false → (now : ℕ) (commits : List Timed) (plan : Plan) → Possible p l now commits plan → ¬ (spell p plan ≡ w)
part-spells p l formed w part now commits plan possible is = false≢true (sym part ∙ ap (is_whole p) (sym is) ∙ (word-laws p l formed).whole plan possible.valid)

pub lacking-spells : (p : Problem) (l : Limits) → IsWellFormed p → (w : List Mark) (now : ℕ) (commits : List Timed) → AreInTurn commits → is_empty (awaited (acts_of p w) commits) ≡ false → (plan : Plan) → Possible p l now commits plan → ¬ (spell p plan ≡ w)
lacking-spells p l formed w now commits turn lacks plan possible is =
    let complete : is_complete p commits (spell p plan) ≡ true = complete-words p l formed (word-laws p l formed).whole now commits plan turn possible in
    false≢true (sym lacks ∙ ap (λ v. is_empty (awaited (acts_of p v) commits)) (sym is) ∙ (and_parts (is_whole p (spell p plan)) (is_empty (awaited (acts_of p (spell p plan)) commits)) complete).1)

pub dead-spells : (p : Problem) (l : Limits) → IsWellFormed p → (w : List Mark) (now : ℕ) (commits : List Timed) → AreInTurn commits → ¬ (Live p l now commits w) → (plan : Plan) → Possible p l now commits plan → ¬ (spell p plan ≡ w)
dead-spells p l formed w now commits turn dead plan possible is = dead ((word-laws p l formed).fronts now commits plan w turn possible (record { rest = []; is = is ∙ sym (append-nil w) }))

-- nothing runs after a whole word
pub whole-ended : (p : Problem) (w : List Mark) → is_whole p w ≡ true → none_run p (progress p w) ≡ true
whole-ended p w whole =
    let front = (and_parts (closes p (progress p w) && none_run p (progress p w) && list_all (holds (state_past p (progress p w))) p.goal) (not (is_empty w && begins_timed p)) whole).0 in
    let parts = (and_parts (closes p (progress p w) && none_run p (progress p w)) (list_all (holds (state_past p (progress p w))) p.goal) front).0 in
    (and_parts (closes p (progress p w)) (none_run p (progress p w)) parts).1

pub empty-none : {A : Type 0} (xs : List A) → is_empty xs ≡ true → xs ≡ []
empty-none [] e = refl
empty-none (x ∷ xs) e = absurd (false≢true e)
