-- What holds in the state behind each history whose events keep every rule, founded or not.
use Rattle.std.proofs.Common.{◌≡◌, refl, sym, ap, subst, ◌∙◌, ℕ, suc, ◌+◌, ◌<◌, ◌≤◌, inl, inr, ◌==◌, max, nat_lt, Bool, true, false, not, ◌&&◌, cond, List, [], ◌∷◌, ◌++◌, length, map, Some, arith}
use Rattle.std.specs.List.{filter, list_all}
use Rattle.std.proofs.lemmas.Bool.{and_parts, and_from, lt-ltb, ltb-true}
use Rattle.std.proofs.lemmas.Bool.Decides.{nat_tests}
use Rattle.std.proofs.lemmas.List.{length-append}
use Rattle.std.proofs.lemmas.List.Folds.{list_all-append}
use Rattle.tp_spec.specs.declared.event.Event.{Event}
use Rattle.tp_spec.specs.declared.event.Event.TheVariants.{Tick, Drop, Dispatch, Take, Expand, Publish, Limit, Exhaust, Halt}
use Rattle.tp_spec.specs.declared.plan.Limits.{Limits}
use Rattle.tp_spec.specs.declared.plan.Mark.{Mark}
use Rattle.tp_spec.specs.declared.plan.Timed.{Timed}
use Rattle.tp_spec.specs.declared.problem.Problem.{Problem}
use Rattle.tp_spec.specs.Lists.{IsIn, each_pair}
use Rattle.tp_spec.specs.Machine.{Machine, Node, IsDue, IsTaken, first, step, end_of, taken_by, without, children, word_of}
use Rattle.tp_spec.specs.Schedules.{Live}
use Rattle.tp_laws.proofs.ClockCommits.{live-earlier}
use Rattle.tp_laws.proofs.EarlyLists.{each-in, each-true}
use Rattle.tp_laws.proofs.Members.{in-filter, in-append, in-map}
use Rattle.run_laws.specs.Commitments.{AreCommitted}
use Rattle.run_laws.specs.Histories.{is_below}
use Rattle.run_laws.proofs.Dispatching.{due-next, committed-more}
use Rattle.run_laws.proofs.Runs.{differ, IsChild, in-children, taken-id, taken-word}
use Rattle.situated_machine.specs.declared.replayed.Rule.TheVariants as rules
use Rattle.situated_machine.specs.Laws.{IsOrderly}
use Rattle.situated_machine.specs.Replays.{AreKept}
use Rattle.situated_machine.specs.Rules.{KeepsAll, has_id, taken_nodes}
use Rattle.situated_machine.proofs.Judging.{taken-node, word-of}

-- ids that tell nodes apart, and are below a bound

unequal : (a b : ℕ) → a < b → (a == b) ≡ false
unequal a b h = grind (arith, nat_tests)

all-filter : {A : Type 0} (good test : A → Bool) (xs : List A) → list_all good xs ≡ true → list_all good (filter test xs) ≡ true
all-filter good test [] h = refl
all-filter good test (x ∷ xs) h = elim (test x) as (λ b. list_all good (cond b (x ∷ filter test xs) (filter test xs)) ≡ true) [
  | true ↦ and_from _ _ (and_parts _ _ h).0 (all-filter good test xs (and_parts _ _ h).1)
  | false ↦ all-filter good test xs (and_parts _ _ h).1
]

apart-filter : (test : Node → Bool) (ns : List Node) → each_pair differ ns ≡ true → each_pair differ (filter test ns) ≡ true
apart-filter test [] h = refl
apart-filter test (n ∷ ns) h = elim (test n) as (λ b. each_pair differ (cond b (n ∷ filter test ns) (filter test ns)) ≡ true) [
  | true ↦ and_from _ _ (all-filter (differ n) test ns (and_parts _ _ h).0) (apart-filter test ns (and_parts _ _ h).1)
  | false ↦ apart-filter test ns (and_parts _ _ h).1
]

all-map : (f : Node → Node) → ((n : Node) → (f n).id ≡ n.id) → (n : Node) (ns : List Node) → list_all (differ (f n)) (map f ns) ≡ list_all (differ n) ns
all-map f same n [] = refl
all-map f same n (m ∷ ns) = λ i. not (same n i == same m i) && all-map f same n ns i

apart-map : (f : Node → Node) → ((n : Node) → (f n).id ≡ n.id) → (ns : List Node) → each_pair differ (map f ns) ≡ each_pair differ ns
apart-map f same [] = refl
apart-map f same (n ∷ ns) = λ i. all-map f same n ns i && apart-map f same ns i

below-map : (f : Node → Node) → ((n : Node) → (f n).id ≡ n.id) → (made : ℕ) (ns : List Node) → list_all (is_below made) (map f ns) ≡ list_all (is_below made) ns
below-map f same made [] = refl
below-map f same made (n ∷ ns) = λ i. nat_lt (same n i) made && below-map f same made ns i

below-more : (a b : ℕ) (ns : List Node) → a ≤ b → list_all (is_below a) ns ≡ true → list_all (is_below b) ns ≡ true
below-more a b [] le h = refl
below-more a b (n ∷ ns) le h = and_from _ _ (lt-ltb n.id b (omega (arith, le, ltb-true n.id a (and_parts _ _ h).0))) (below-more a b ns le (and_parts _ _ h).1)

children-below : (w : List Mark) (made top : ℕ) (marks : List Mark) → made + length marks ≤ top → list_all (is_below top) (children w made marks) ≡ true
children-below w made top [] le = refl
children-below w made top (a ∷ marks) le = and_from _ _ (lt-ltb made top (omega (arith, le))) (children-below w (suc made) top marks (omega (arith, le)))

children-differ : (k : ℕ) (w : List Mark) (made : ℕ) (marks : List Mark) → k < made → list_all (λ n. not (k == n.id)) (children w made marks) ≡ true
children-differ k w made [] lt = refl
children-differ k w made (a ∷ marks) lt = and_from _ _ (ap not (unequal k made lt)) (children-differ k w (suc made) marks (omega (arith, lt)))

children-apart : (w : List Mark) (made : ℕ) (marks : List Mark) → each_pair differ (children w made marks) ≡ true
children-apart w made [] = refl
children-apart w made (a ∷ marks) = and_from _ _ (children-differ made w (suc made) marks (omega arith)) (children-apart w (suc made) marks)

apart-children : (ns : List Node) (w : List Mark) (made : ℕ) (marks : List Mark) → list_all (is_below made) ns ≡ true → each_pair differ ns ≡ true → each_pair differ (ns ++ children w made marks) ≡ true
apart-children [] w made marks b h = children-apart w made marks
apart-children (n ∷ ns) w made marks b h =
    and_from _ _
    (list_all-append (differ n) ns (children w made marks) ∙ and_from _ _ (and_parts _ _ h).0 (children-differ n.id w made marks (ltb-true n.id made (and_parts _ _ b).0)))
    (apart-children ns w made marks (and_parts _ _ b).1 (and_parts _ _ h).1)

module _ (p : Problem) (l : Limits) where
  live-root : Live p l 0 [] []
  live-root = record {
    sound = record { follows = tt };
    schedule = record { tick = λ g. g; end = λ a. 0 };
    is = record {
      rises = λ g below. absurd (omega (arith, below));
      within = λ g below. absurd (omega (arith, below));
      timed = λ k. tt;
      before_next = λ g below. absurd (omega (arith, below));
      lengths = λ a h. absurd h;
      open_late = λ a g h. absurd h;
      on_time = λ a k. tt;
      late = λ c g h. absurd h;
      few = omega arith;
    };
  }

  pub orderly-first : IsOrderly p l first
  orderly-first = record {
    committed = record { in_turn = refl; within = refl; ranged = refl; few = omega arith };
    clocked = omega arith;
    told_apart = refl;
    below = refl;
    live = λ n h. elim h [ inl e ↦ subst (λ w. Live p l 0 [] w) (ap (λ k. k.word) e) live-root | inr k ↦ absurd k ];
    few = omega arith;
    short = λ n h. elim h [ inl e ↦ subst (λ (k : Node). length k.word ≤ k.id) e (omega arith) | inr k ↦ absurd k ];
  }

  module _ (m : Machine) (t : IsOrderly p l m) where
    -- the same nodes at this clock
    pub orderly-same : (n : Machine) → n.now ≤ l.horizon + 1 → n.commits ≡ m.commits → n.nodes ≡ m.nodes → n.made ≡ m.made → IsOrderly p l n
    orderly-same n top commits nodes made = record {
      committed = subst (AreCommitted p l) (sym commits) t.committed;
      clocked = top;
      told_apart = subst (λ ns. each_pair differ ns ≡ true) (sym nodes) t.told_apart;
      below = (λ i. list_all (is_below (made i)) (nodes i)) ∙ t.below;
      live = λ k h. t.live k (subst (λ ns. IsIn k ns) nodes h);
      few = subst (λ k. k ≤ max 1 l.nodes) (sym made) t.few;
      short = λ k h. t.short k (subst (λ ns. IsIn k ns) nodes h);
    }

    orderly-drop : (id : ℕ) → IsOrderly p l (step l m (Drop id))
    orderly-drop id = record {
      committed = t.committed;
      clocked = t.clocked;
      told_apart = apart-filter (λ n. not (n.id == id)) m.nodes t.told_apart;
      below = all-filter (is_below m.made) (λ n. not (n.id == id)) m.nodes t.below;
      live = λ n h. t.live n (in-filter (λ k. not (k.id == id)) n m.nodes h);
      few = t.few;
      short = λ n h. t.short n (in-filter (λ k. not (k.id == id)) n m.nodes h);
    }

    orderly-dispatch : (act : Timed) → IsDue p l m act → IsOrderly p l (step l m (Dispatch act))
    orderly-dispatch act due = record {
      committed = committed-more p l m.now m.commits act (due-next p l m act due) t.committed;
      clocked = t.clocked;
      told_apart = t.told_apart;
      below = t.below;
      live = t.live;
      few = t.few;
      short = t.short;
    }

    taken-short : (actor id : ℕ) (n : Node) → length n.word ≤ n.id → length (taken_by actor id n).word ≤ (taken_by actor id n).id
    taken-short actor id n e = elim (n.id == id) as (λ b. length (cond b (record n { taker = Some actor }) n).word ≤ (cond b (record n { taker = Some actor }) n).id) [ true ↦ e | false ↦ e ]

    orderly-take : (actor id : ℕ) → IsOrderly p l (step l m (Take actor id))
    orderly-take actor id = record {
      committed = t.committed;
      clocked = t.clocked;
      told_apart = apart-map (taken_by actor id) (taken-id actor id) m.nodes ∙ t.told_apart;
      below = below-map (taken_by actor id) (taken-id actor id) m.made m.nodes ∙ t.below;
      live = λ n h.
          let from = in-map (taken_by actor id) n m.nodes h in
          subst (λ w. Live p l 0 [] w) (sym (taken-word actor id from.0) ∙ ap (λ k. k.word) from.2) (t.live from.0 from.1);
      few = t.few;
      short = λ n h.
          let from = in-map (taken_by actor id) n m.nodes h in
          subst (λ (k : Node). length k.word ≤ k.id) from.2 (taken-short actor id from.0 (t.short from.0 from.1));
    }

    orderly-expand : (actor id : ℕ) (marks : List Mark) → KeepsAll p l m (Expand actor id marks) → IsOrderly p l (step l m (Expand actor id marks))
    orderly-expand actor id marks k = record {
      committed = t.committed;
      clocked = t.clocked;
      told_apart = apart-children (without id m.nodes) w m.made marks left (apart-filter (λ n. not (n.id == id)) m.nodes t.told_apart);
      below = list_all-append (is_below (m.made + length marks)) (without id m.nodes) (children w m.made marks)
          ∙ and_from _ _ (below-more m.made (m.made + length marks) (without id m.nodes) (omega arith) left) (children-below w m.made (m.made + length marks) marks (omega arith));
      live = λ n h. elim (in-append n (without id m.nodes) (children w m.made marks) h) [
        | inl i ↦ t.live n (in-filter (λ k. not (k.id == id)) n m.nodes i)
        | inr i ↦ live-child n (in-children w m.made marks n i)
      ];
      few = omega (arith, k rules.Number);
      short = λ n h. elim (in-append n (without id m.nodes) (children w m.made marks) h) [
        | inl i ↦ t.short n (in-filter (λ k. not (k.id == id)) n m.nodes i)
        | inr i ↦ short-child n (in-children w m.made marks n i)
      ];
    }
      where
        w : List Mark
        w = word_of id m.nodes

        has : has_id id (taken_nodes actor m.nodes) ≡ true
        has = k rules.Id

        parent : (n : Node) × IsTaken m actor id n
        parent = taken-node m actor id has

        left : list_all (is_below m.made) (without id m.nodes) ≡ true
        left = all-filter (is_below m.made) (λ n. not (n.id == id)) m.nodes t.below

        word : w ≡ parent.0.word
        word = word-of p l m t.told_apart id parent.0 parent.1.there parent.1.named

        -- the node was given an id below those of its children
        below-made : parent.0.id < m.made
        below-made = ltb-true parent.0.id m.made (each-in (λ n. is_below m.made n ≡ true) m.nodes parent.0 (each-true (is_below m.made) m.nodes t.below) parent.1.there)

        short-child : (n : Node) → IsChild w m.made marks n → length n.word ≤ n.id
        short-child n c =
            let longer : length n.word ≡ length parent.0.word + 1 = ap length c.word ∙ length-append w (c.mark ∷ []) ∙ ap (λ v. length v + 1) word in
            omega (arith, longer, t.short parent.0 parent.1.there, below-made, c.new)

        live-child : (n : Node) → IsChild w m.made marks n → Live p l 0 [] n.word
        live-child n c = subst (λ v. Live p l 0 [] v) (sym c.word)
            (live-earlier p l [] (w ++ c.mark ∷ []) 0 m.now m.commits (omega arith) (λ d i. omega arith) ((k rules.Marks).1.live c.mark c.there))

    pub orderly-step : (e : Event) → KeepsAll p l m e → IsOrderly p l (step l m e)
    orderly-step (Tick actor reading) k = orderly-same (step l m (Tick actor reading)) (omega (arith, t.clocked)) refl refl refl
    orderly-step (Drop id) k = orderly-drop id
    orderly-step (Dispatch act) k = orderly-dispatch act (k rules.Commit)
    orderly-step (Take actor id) k = orderly-take actor id
    orderly-step (Expand actor id marks) k = orderly-expand actor id marks k
    orderly-step (Publish actor id plan) k = orderly-same (step l m (Publish actor id plan)) t.clocked refl refl refl
    orderly-step (Limit actor id made marks) k = orderly-same (step l m (Limit actor id made marks)) t.clocked refl refl refl
    orderly-step Exhaust k = orderly-same (step l m Exhaust) t.clocked refl refl refl
    orderly-step (Halt cause) k = orderly-same (step l m (Halt cause)) t.clocked refl refl refl

  orderly-end : (m : Machine) (es : List Event) → AreKept p l m es → IsOrderly p l m → IsOrderly p l (end_of l m es)
  orderly-end m [] k t = t
  orderly-end m (e ∷ es) k t = orderly-end (step l m e) es k.1 (orderly-step m t e k.0)

  pub orderly-of : (h : List Event) → AreKept p l first h → IsOrderly p l (end_of l first h)
  orderly-of h k = orderly-end first h k orderly-first
