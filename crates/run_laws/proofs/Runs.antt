-- What holds in every state of a run: its commitments are in turn, in range and few, the clock is at most one tick past the
-- horizon, ids tell nodes apart, each word was live when the clock began and is no longer than its id, and each plan that is
-- still possible begins with the word of a node.
use Rattle.std.proofs.Common.{◌≡◌, refl, sym, ap, subst, ◌∙◌, ℕ, suc, ◌+◌, ◌<◌, ◌≤◌, inl, inr, ◌==◌, max, nat_lt, nat_le, Bool, true, false, not, ◌&&◌, ◌||◌, cond, List, [], ◌∷◌, ◌++◌, length, map, Some, arith}
use Rattle.std.specs.List.{filter, list_all}
use Rattle.std.proofs.lemmas.Bool.{and_parts, and_from, lt-ltb, ltb-true, leb-true, le-leb, eq-eqb}
use Rattle.std.proofs.lemmas.Bool.Decides.{nat_tests}
use Rattle.std.proofs.lemmas.List.{length-append}
use Rattle.std.proofs.lemmas.List.Folds.{list_all-append}
use Rattle.tp_spec.specs.declared.event.Event.{Event}
use Rattle.tp_spec.specs.declared.event.Event.TheVariants.{Tick, Drop, Dispatch, Take, Expand, Publish, Limit, Exhaust, Halt}
use Rattle.tp_spec.specs.declared.plan.Limits.{Limits}
use Rattle.tp_spec.specs.declared.plan.Mark.{Mark}
use Rattle.tp_spec.specs.declared.plan.Plan.{Plan}
use Rattle.tp_spec.specs.declared.plan.Timed.{Timed}
use Rattle.tp_spec.specs.declared.problem.Problem.{Problem}
use Rattle.tp_spec.specs.Courses.{Possible, has_act}
use Rattle.tp_spec.specs.Lists.{IsIn, BeginsWith, each_pair}
use Rattle.tp_spec.specs.Machine.{Machine, Node, first, root, step, end_of, state_of, AreLegal, Legal, IsRun, IsCovered, IsDue, DropIsLegal, ExpandIsLegal, taken_by, without, children, word_of}
use Rattle.tp_spec.specs.Schedules.{Live}
use Rattle.tp_spec.specs.Words.{spell}
use Rattle.run_laws.specs.Histories.{IsTree, is_below}
use Rattle.tp_laws.proofs.EarlyLists.{each-in, each-true}
use Rattle.run_laws.specs.Commitments.{AreCommitted}
use Rattle.tp_laws.specs.Plans.{FrontsAreLive}
use Rattle.run_laws.proofs.Dispatching.{IsNext, due-next, committed-more, possible-fewer}
use Rattle.run_laws.proofs.Covering.{FrontsLiveAt, cover-expand, in-without, word_of-in}
use Rattle.tp_laws.proofs.ClockCommits.{live-earlier}
use Rattle.tp_laws.proofs.Members.{in-filter, in-append, in-map, map-in}

-- histories in parts

pub end-append : (l : Limits) (m : Machine) (es fs : List Event) → end_of l m (es ++ fs) ≡ end_of l (end_of l m es) fs
end-append l m [] fs = refl
end-append l m (e ∷ es) fs = end-append l (step l m e) es fs

pub legal-append : (p : Problem) (l : Limits) (m : Machine) (es fs : List Event) → AreLegal p l m es → AreLegal p l (end_of l m es) fs → AreLegal p l m (es ++ fs)
legal-append p l m [] fs h k = k
legal-append p l m (e ∷ es) fs h k = (h.0, legal-append p l (step l m e) es fs h.1 k)

pub legal-parts : (p : Problem) (l : Limits) (m : Machine) (es fs : List Event) → AreLegal p l m (es ++ fs) → AreLegal p l m es × AreLegal p l (end_of l m es) fs
legal-parts p l m [] fs h = (tt, h)
legal-parts p l m (e ∷ es) fs h = let r = legal-parts p l (step l m e) es fs h.1 in ((h.0, r.0), r.1)

-- ids that tell nodes apart, and are below a bound

abbrev pub differ : Node → Node → Bool
differ a b = not (a.id == b.id)

unequal : (a b : ℕ) → a < b → (a == b) ≡ false
unequal a b h = grind (arith, nat_tests)

all-filter : {A : Type 0} (good test : A → Bool) (xs : List A) → list_all good xs ≡ true → list_all good (filter test xs) ≡ true
all-filter good test [] h = refl
all-filter good test (x ∷ xs) h = elim (test x) as (λ b. list_all good (cond b (x ∷ filter test xs) (filter test xs)) ≡ true) [
  | true ↦ and_from _ _ (and_parts _ _ h).0 (all-filter good test xs (and_parts _ _ h).1)
  | false ↦ all-filter good test xs (and_parts _ _ h).1
]

apart-filter : (test : Node → Bool) (ns : List Node) → each_pair differ ns ≡ true → each_pair differ (filter test ns) ≡ true
apart-filter test [] h = refl
apart-filter test (n ∷ ns) h = elim (test n) as (λ b. each_pair differ (cond b (n ∷ filter test ns) (filter test ns)) ≡ true) [
  | true ↦ and_from _ _ (all-filter (differ n) test ns (and_parts _ _ h).0) (apart-filter test ns (and_parts _ _ h).1)
  | false ↦ apart-filter test ns (and_parts _ _ h).1
]

all-map : (f : Node → Node) → ((n : Node) → (f n).id ≡ n.id) → (n : Node) (ns : List Node) → list_all (differ (f n)) (map f ns) ≡ list_all (differ n) ns
all-map f same n [] = refl
all-map f same n (m ∷ ns) = λ i. not (same n i == same m i) && all-map f same n ns i

apart-map : (f : Node → Node) → ((n : Node) → (f n).id ≡ n.id) → (ns : List Node) → each_pair differ (map f ns) ≡ each_pair differ ns
apart-map f same [] = refl
apart-map f same (n ∷ ns) = λ i. all-map f same n ns i && apart-map f same ns i

below-map : (f : Node → Node) → ((n : Node) → (f n).id ≡ n.id) → (made : ℕ) (ns : List Node) → list_all (is_below made) (map f ns) ≡ list_all (is_below made) ns
below-map f same made [] = refl
below-map f same made (n ∷ ns) = λ i. nat_lt (same n i) made && below-map f same made ns i

below-more : (a b : ℕ) (ns : List Node) → a ≤ b → list_all (is_below a) ns ≡ true → list_all (is_below b) ns ≡ true
below-more a b [] le h = refl
below-more a b (n ∷ ns) le h = and_from _ _ (lt-ltb n.id b (omega (arith, le, ltb-true n.id a (and_parts _ _ h).0))) (below-more a b ns le (and_parts _ _ h).1)

-- children have the next ids

children-below : (w : List Mark) (made top : ℕ) (marks : List Mark) → made + length marks ≤ top → list_all (is_below top) (children w made marks) ≡ true
children-below w made top [] le = refl
children-below w made top (a ∷ marks) le = and_from _ _ (lt-ltb made top (omega (arith, le))) (children-below w (suc made) top marks (omega (arith, le)))

children-differ : (k : ℕ) (w : List Mark) (made : ℕ) (marks : List Mark) → k < made → list_all (λ n. not (k == n.id)) (children w made marks) ≡ true
children-differ k w made [] lt = refl
children-differ k w made (a ∷ marks) lt = and_from _ _ (ap not (unequal k made lt)) (children-differ k w (suc made) marks (omega (arith, lt)))

children-apart : (w : List Mark) (made : ℕ) (marks : List Mark) → each_pair differ (children w made marks) ≡ true
children-apart w made [] = refl
children-apart w made (a ∷ marks) = and_from _ _ (children-differ made w (suc made) marks (omega arith)) (children-apart w (suc made) marks)

apart-children : (ns : List Node) (w : List Mark) (made : ℕ) (marks : List Mark) → list_all (is_below made) ns ≡ true → each_pair differ ns ≡ true → each_pair differ (ns ++ children w made marks) ≡ true
apart-children [] w made marks b h = children-apart w made marks
apart-children (n ∷ ns) w made marks b h =
    and_from _ _
    (list_all-append (differ n) ns (children w made marks) ∙ and_from _ _ (and_parts _ _ h).0 (children-differ n.id w made marks (ltb-true n.id made (and_parts _ _ b).0)))
    (apart-children ns w made marks (and_parts _ _ b).1 (and_parts _ _ h).1)

-- a child's word has a mark more, and its id is new
pub record IsChild (w : List Mark) (made : ℕ) (marks : List Mark) (n : Node) : Type 0 where
  pub mark : Mark
  pub there : IsIn mark marks
  pub word : n.word ≡ w ++ mark ∷ []
  pub new : made ≤ n.id

pub in-children : (w : List Mark) (made : ℕ) (marks : List Mark) (n : Node) → IsIn n (children w made marks) → IsChild w made marks n
in-children w made [] n h = absurd h
in-children w made (a ∷ marks) n (inl e) = record { mark = a; there = inl refl; word = sym (ap (λ k. k.word) e); new = subst (λ k. made ≤ k) (ap (λ k. k.id) e) (omega arith) }
in-children w made (a ∷ marks) n (inr h) = let r = in-children w (suc made) marks n h in record { mark = r.mark; there = inr r.there; word = r.word; new = omega (arith, r.new) }

pub taken-id : (actor id : ℕ) (n : Node) → (taken_by actor id n).id ≡ n.id
taken-id actor id n = elim (n.id == id) as (λ b. (cond b (record n { taker = Some actor }) n).id ≡ n.id) [ true ↦ refl | false ↦ refl ]

pub taken-word : (actor id : ℕ) (n : Node) → (taken_by actor id n).word ≡ n.word
taken-word actor id n = elim (n.id == id) as (λ b. (cond b (record n { taker = Some actor }) n).word ≡ n.word) [ true ↦ refl | false ↦ refl ]

taken-short : (actor id : ℕ) (n : Node) → length n.word ≤ n.id → length (taken_by actor id n).word ≤ (taken_by actor id n).id
taken-short actor id n e = elim (n.id == id) as (λ b. length (cond b (record n { taker = Some actor }) n).word ≤ (cond b (record n { taker = Some actor }) n).id) [ true ↦ e | false ↦ e ]

-- a later clock has fewer possible plans

abbrev starts_later : ℕ → List Timed → Timed → Bool
starts_later now commits x = has_act commits x || (nat_le now x.start && list_all (λ c. not (c.action == x.action) || nat_lt c.start x.start) commits)

-- two tests on plain values, of which only the middle one changes
one-later : (a b c d : Bool) → (b ≡ true → d ≡ true) → (a || (b && c)) ≡ true → (a || (d && c)) ≡ true
one-later true b c d f h = refl
one-later false b c d f h = and_from _ _ (f (and_parts _ _ h).0) (and_parts _ _ h).1

later-starts : (now later : ℕ) (commits xs : List Timed) → now ≤ later → list_all (starts_later later commits) xs ≡ true → list_all (starts_later now commits) xs ≡ true
later-starts now later commits [] le h = refl
later-starts now later commits (x ∷ xs) le h =
    and_from _ _
    (one-later (has_act commits x) (nat_le later x.start) (list_all (λ c. not (c.action == x.action) || nat_lt c.start x.start) commits) (nat_le now x.start)
    (λ e. le-leb now x.start (omega (arith, le, leb-true later x.start e))) (and_parts _ _ h).0)
    (later-starts now later commits xs le (and_parts _ _ h).1)

pub possible-before : (p : Problem) (l : Limits) (now later : ℕ) (commits : List Timed) (plan : Plan) → now ≤ later → Possible p l later commits plan → Possible p l now commits plan
possible-before p l now later commits plan le h = record {
  valid = h.valid;
  committed = h.committed;
  later = later-starts now later commits plan.acts le h.later;
}

module _ (p : Problem) (l : Limits) (fronts : FrontsAreLive p l) where
  -- the empty word is live
  live-root : Live p l 0 [] []
  live-root = record {
    sound = record { follows = tt };
    schedule = record { tick = λ g. g; end = λ a. 0 };
    is = record {
      rises = λ g below. absurd (omega (arith, below));
      within = λ g below. absurd (omega (arith, below));
      timed = λ k. tt;
      before_next = λ g below. absurd (omega (arith, below));
      lengths = λ a h. absurd h;
      open_late = λ a g h. absurd h;
      on_time = λ a k. tt;
      late = λ c g h. absurd h;
      few = omega arith;
    };
  }

  pub tree-first : IsTree p l first
  tree-first = record {
    committed = record { in_turn = refl; within = refl; ranged = refl; few = omega arith };
    clocked = omega arith;
    told_apart = refl;
    below = refl;
    live = λ n h. elim h [ inl e ↦ subst (λ w. Live p l 0 [] w) (ap (λ k. k.word) e) live-root | inr k ↦ absurd k ];
    covers = λ plan h. record { node = root; there = inl refl; begins = record { rest = spell p plan; is = refl } };
    few = omega arith;
    short = λ n h. elim h [ inl e ↦ subst (λ (k : Node). length k.word ≤ k.id) e (omega arith) | inr k ↦ absurd k ];
  }

  -- the same nodes at the same clock or a later one
  tree-same : (m n : Machine) → m.now ≤ n.now → n.now ≤ l.horizon + 1 → n.commits ≡ m.commits → n.nodes ≡ m.nodes → n.made ≡ m.made → IsTree p l m → IsTree p l n
  tree-same m n now top commits nodes made t = record {
    committed = subst (AreCommitted p l) (sym commits) t.committed;
    clocked = top;
    told_apart = subst (λ ns. each_pair differ ns ≡ true) (sym nodes) t.told_apart;
    below = (λ i. list_all (is_below (made i)) (nodes i)) ∙ t.below;
    live = λ k h. t.live k (subst (λ ns. IsIn k ns) nodes h);
    covers = λ plan h.
        let c : IsCovered p m plan = t.covers plan (possible-before p l m.now n.now m.commits plan now (subst (λ cs. Possible p l n.now cs plan) commits h)) in
        record { node = c.node; there = subst (λ ns. IsIn c.node ns) (sym nodes) c.there; begins = c.begins };
    few = subst (λ k. k ≤ max 1 l.nodes) (sym made) t.few;
    short = λ k h. t.short k (subst (λ ns. IsIn k ns) nodes h);
  }

  module _ (m : Machine) (t : IsTree p l m) where
    -- what is live was live when the clock began
    pub first-live : (w : List Mark) → Live p l m.now m.commits w → Live p l 0 [] w
    first-live w h = live-earlier p l [] w 0 m.now m.commits (omega arith) (λ d i. omega arith) h

    tree-drop : (id : ℕ) → DropIsLegal p l m id → IsTree p l (step l m (Drop id))
    tree-drop id legal = record {
      committed = t.committed;
      clocked = t.clocked;
      told_apart = apart-filter (λ n. not (n.id == id)) m.nodes t.told_apart;
      below = all-filter (is_below m.made) (λ n. not (n.id == id)) m.nodes t.below;
      live = λ n h. t.live n (in-filter (λ k. not (k.id == id)) n m.nodes h);
      covers = λ plan h. let c : IsCovered p m plan = t.covers plan h in by_test plan h c (c.node.id == id) refl;
      few = t.few;
      short = λ n h. t.short n (in-filter (λ k. not (k.id == id)) n m.nodes h);
    }
      where
        by_test : (plan : Plan) → Possible p l m.now m.commits plan → (c : IsCovered p m plan) → (b : Bool) → (c.node.id == id) ≡ b → IsCovered p (step l m (Drop id)) plan
        by_test plan h c false e = record { node = c.node; there = in-without id c.node m.nodes e c.there; begins = c.begins }
        by_test plan h c true e =
            let same : c.node.word ≡ legal.node.word =
            sym (word_of-in id c.node m.nodes t.told_apart c.there e)
            ∙ word_of-in id legal.node m.nodes t.told_apart legal.there (eq-eqb legal.node.id id legal.named) in
            absurd (legal.hopeless plan h (subst (λ w. BeginsWith (spell p plan) w) same c.begins))

    tree-dispatch : (act : Timed) → IsDue p l m act → IsTree p l (step l m (Dispatch act))
    tree-dispatch act due = record {
      committed = committed-more p l m.now m.commits act next t.committed;
      clocked = t.clocked;
      told_apart = t.told_apart;
      below = t.below;
      live = t.live;
      covers = λ plan h.
          let c : IsCovered p m plan = t.covers plan (possible-fewer p l m.now m.commits act next plan h) in
          record { node = c.node; there = c.there; begins = c.begins };
      few = t.few;
      short = t.short;
    }
      where
        next : IsNext p l m.now m.commits act
        next = due-next p l m act due

    tree-take : (actor id : ℕ) → IsTree p l (step l m (Take actor id))
    tree-take actor id = record {
      committed = t.committed;
      clocked = t.clocked;
      told_apart = apart-map (taken_by actor id) (taken-id actor id) m.nodes ∙ t.told_apart;
      below = below-map (taken_by actor id) (taken-id actor id) m.made m.nodes ∙ t.below;
      live = λ n h.
          let from = in-map (taken_by actor id) n m.nodes h in
          subst (λ w. Live p l 0 [] w) (sym (taken-word actor id from.0) ∙ ap (λ k. k.word) from.2) (t.live from.0 from.1);
      covers = λ plan h.
          let c : IsCovered p m plan = t.covers plan h in record {
            node = taken_by actor id c.node;
            there = map-in (taken_by actor id) c.node m.nodes c.there;
            begins = subst (λ w. BeginsWith (spell p plan) w) (sym (taken-word actor id c.node)) c.begins;
          };
      few = t.few;
      short = λ n h.
          let from = in-map (taken_by actor id) n m.nodes h in
          subst (λ (k : Node). length k.word ≤ k.id) from.2 (taken-short actor id from.0 (t.short from.0 from.1));
    }

    tree-expand : (actor id : ℕ) (marks : List Mark) → ExpandIsLegal p l m actor id marks → IsTree p l (step l m (Expand actor id marks))
    tree-expand actor id marks legal = record {
      committed = t.committed;
      clocked = t.clocked;
      told_apart = apart-children (without id m.nodes) w m.made marks left (apart-filter (λ n. not (n.id == id)) m.nodes t.told_apart);
      below = list_all-append (is_below (m.made + length marks)) (without id m.nodes) (children w m.made marks)
          ∙ and_from _ _ (below-more m.made (m.made + length marks) (without id m.nodes) (omega arith) left) (children-below w m.made (m.made + length marks) marks (omega arith));
      live = λ n h. elim (in-append n (without id m.nodes) (children w m.made marks) h) [
        | inl i ↦ t.live n (in-filter (λ k. not (k.id == id)) n m.nodes i)
        | inr i ↦ live-child n (in-children w m.made marks n i)
      ];
      covers = λ plan h. cover-expand p l m t.told_apart fronts-now actor id marks legal plan h (t.covers plan h);
      few = omega (arith, legal.room);
      short = λ n h. elim (in-append n (without id m.nodes) (children w m.made marks) h) [
        | inl i ↦ t.short n (in-filter (λ k. not (k.id == id)) n m.nodes i)
        | inr i ↦ short-child n (in-children w m.made marks n i)
      ];
    }
      where
        w : List Mark
        w = word_of id m.nodes

        fronts-now : FrontsLiveAt p l m
        fronts-now plan front possible begins = fronts m.now m.commits plan front t.committed.in_turn possible begins

        left : list_all (is_below m.made) (without id m.nodes) ≡ true
        left = all-filter (is_below m.made) (λ n. not (n.id == id)) m.nodes t.below

        word : w ≡ legal.node.word
        word = word_of-in id legal.node m.nodes t.told_apart legal.taken.there (eq-eqb legal.node.id id legal.taken.named)

        -- the node was given an id below those of its children
        below-made : legal.node.id < m.made
        below-made = ltb-true legal.node.id m.made (each-in (λ n. is_below m.made n ≡ true) m.nodes legal.node (each-true (is_below m.made) m.nodes t.below) legal.taken.there)

        short-child : (n : Node) → IsChild w m.made marks n → length n.word ≤ n.id
        short-child n c =
            let longer : length n.word ≡ length legal.node.word + 1 = ap length c.word ∙ length-append w (c.mark ∷ []) ∙ ap (λ v. length v + 1) word in
            omega (arith, longer, t.short legal.node legal.taken.there, below-made, c.new)

        live-child : (n : Node) → IsChild w m.made marks n → Live p l 0 [] n.word
        live-child n c = subst (λ v. Live p l 0 [] v) (ap (λ v. v ++ c.mark ∷ []) (sym word) ∙ sym c.word) (first-live (legal.node.word ++ c.mark ∷ []) (legal.exact.live c.mark c.there))

    -- a deed or an outcome that leaves clock, commitments and nodes as they are
    tree-kept : (n : Machine) → n.now ≡ m.now → n.commits ≡ m.commits → n.nodes ≡ m.nodes → n.made ≡ m.made → IsTree p l n
    tree-kept n now commits nodes made = tree-same m n (omega (arith, now)) (omega (arith, now, t.clocked)) commits nodes made t

    pub tree-step : (e : Event) → Legal p l m e → IsTree p l (step l m e)
    tree-step (Tick actor reading) legal = tree-same m (step l m (Tick actor reading)) (omega arith) (omega (arith, t.clocked)) refl refl refl t
    tree-step (Drop id) legal = tree-drop id legal
    tree-step (Dispatch act) legal = tree-dispatch act legal.due
    tree-step (Take actor id) legal = tree-take actor id
    tree-step (Expand actor id marks) legal = tree-expand actor id marks legal
    tree-step (Publish actor id plan) legal = tree-kept (step l m (Publish actor id plan)) refl refl refl refl
    tree-step (Limit actor id made marks) legal = tree-kept (step l m (Limit actor id made marks)) refl refl refl refl
    tree-step Exhaust legal = tree-kept (step l m Exhaust) refl refl refl refl
    tree-step (Halt cause) legal = tree-kept (step l m (Halt cause)) refl refl refl refl

  pub tree-run : (m : Machine) (es : List Event) → AreLegal p l m es → IsTree p l m → IsTree p l (end_of l m es)
  tree-run m [] legal t = t
  tree-run m (e ∷ es) legal t = tree-run (step l m e) es legal.1 (tree-step m t e legal.0)

  pub tree-of : (h : List Event) → IsRun p l h → IsTree p l (state_of l h)
  tree-of h run = tree-run first h run.legal tree-first
