-- Which events are legal, by what the frontier holds.
use Rattle.std.proofs.Common.{◌≡◌, refl, sym, ap, subst, ◌∙◌, ℕ, ◌+◌, ◌<◌, ◌≤◌, ◌==◌, ◌||◌, ◌&&◌, Bool, true, false, not, List, [], ◌∷◌, length, map, nat_lt, nat_le, Some, arith}
use Rattle.std.specs.List.{list_all}
use Rattle.std.proofs.lemmas.Bool.{and_parts, and_from, eqb-true}
use Rattle.std.proofs.lemmas.Bool.Decides.{nat_tests}
use Rattle.tp_spec.specs.declared.event.Event.TheVariants.{Drop, Take}
use Rattle.tp_spec.specs.declared.plan.Limits.{Limits}
use Rattle.tp_spec.specs.declared.plan.Mark.{Mark}
use Rattle.tp_spec.specs.declared.plan.Plan.{Plan}
use Rattle.tp_spec.specs.declared.plan.Timed.{Timed}
use Rattle.tp_spec.specs.declared.problem.Problem.{Problem}
use Rattle.tp_spec.specs.Courses.{Possible}
use Rattle.tp_spec.specs.Lists.{IsIn, is_empty}
use Rattle.tp_spec.specs.Machine.{Machine, Node, step, rank, no_worse, taken_by, without, candidate, IsBest, IsDue, IsQuiet, IsInTurn, MayAct, AreLiveMarks, SpellsNone, DropIsLegal, DispatchIsLegal, TakeIsLegal, ExpandIsLegal, PublishIsLegal, LimitIsLegal, ExhaustIsLegal}
use Rattle.tp_spec.specs.Schedules.{Live, Schedule, IsGreatest, IsLeast as IsLeastOf, awaited, plan_of}
use Rattle.tp_spec.specs.Words.{Sound, acts_of, spell}
use Rattle.tp_spec.specs.WellFormed.{IsWellFormed}
use Rattle.tp_laws.specs.Clocks.{IsDeadline}
use Rattle.run_laws.specs.Histories.{IsTree}
use Rattle.tp_laws.specs.Plans.{is_whole, is_complete}
use Rattle.run_laws.proofs.Covering.{in-without}
use Rattle.tp_laws.proofs.EarlyLists.{each-in, each-true}
use Rattle.tp_laws.proofs.Members.{in-filter, in-map, map-in}
use Rattle.run_laws.proofs.Runs.{taken-id, taken-word}
use Rattle.tp_laws.proofs.WordLaws.{word-laws}
use Rattle.word_frontier.specs.Nodes.{RankedNode, FrontierView, IsLeast}
use Rattle.word_frontier.specs.Nodes as kept
use Rattle.word_network.specs.Schedules.{IsEarliest}
use Rattle.machine_run.specs.Frontiers.{IsFrontierOf, plain_node}
use Rattle.machine_run.proofs.Frontiers.{IsFound, least-best, least-open-best, stands-in, told-all, told-in}
use Rattle.machine_run.proofs.Nodes.{all-filtered, same-node}

-- two best nodes have one id
worse-both : (a b i j : ℕ) → (nat_lt a b || (a == b && nat_le i j)) ≡ true → (nat_lt b a || (b == a && nat_le j i)) ≡ true → i ≡ j
worse-both a b i j h k = grind (arith, nat_tests)

best-id : (p : Problem) (ns : List Node) (a b : Node) → IsBest p ns a → IsBest p ns b → a.id ≡ b.id
best-id p ns a b h k =
    worse-both (rank p a.word) (rank p b.word) a.id b.id
    (each-in (λ n. no_worse p a n ≡ true) ns b (each-true (no_worse p a) ns h.least) k.there)
    (each-in (λ n. no_worse p b n ≡ true) ns a (each-true (no_worse p b) ns k.least) h.there)

-- an act that is due of a word is due where the best node has this word
due-by : (p : Problem) (l : Limits) (m n : Machine) (act : Timed) (node : Node) → n.now ≡ m.now → n.commits ≡ m.commits → IsBest p m.nodes node → (d : IsDue p l n act) → d.node.word ≡ node.word → IsDue p l m act
due-by p l m n act node now commits best d word = record {
  node = node;
  best = best;
  live = subst (λ w. Live p l m.now m.commits w) word (here-at (λ t cs. Live p l t cs d.node.word) d.live);
  schedule = d.schedule;
  greatest = subst (λ w. IsGreatest p l m.now m.commits w d.schedule) word (here-at (λ t cs. IsGreatest p l t cs d.node.word d.schedule) d.greatest);
  next = d.next;
  is_next = subst (λ w. candidate [] m.commits (acts_of p w) ≡ Some d.next) word (here-at (λ t cs. candidate [] cs (acts_of p d.node.word) ≡ Some d.next) d.is_next);
  soon = subst (λ t. d.schedule.tick d.next.opens ≤ t + l.lead) now d.soon;
  is = d.is;
}
  where
    here-at : (P : ℕ → List Timed → Type 0) → P n.now n.commits → P m.now m.commits
    here-at P h = subst (λ cs. P m.now cs) commits (subst (λ t. P t n.commits) now h)

module _ (p : Problem) (l : Limits) (formed : IsWellFormed p) (m : Machine) (t : IsTree p l m) where
  -- a word is live as long as the clock has not passed its deadline
  pub live-until : (w : List Mark) (deadline : ℕ) → IsDeadline p l m.commits w deadline → m.now ≤ deadline → Live p l m.now m.commits w
  live-until w deadline d early = (d.tells m.now t.clocked).1 early

  pub until-live : (w : List Mark) (deadline : ℕ) → IsDeadline p l m.commits w deadline → Live p l m.now m.commits w → m.now ≤ deadline
  until-live w deadline d live = (d.tells m.now t.clocked).0 live

  -- the best node
  pub best-word : (a b : Node) → IsBest p m.nodes a → IsBest p m.nodes b → a.word ≡ b.word
  best-word a b h k = ap (λ (n : Node). n.word) (same-node a b m.nodes t.told_apart h.there k.there (best-id p m.nodes a b h k))

  pub dispatch-legal : (act : Timed) → IsInTurn m → IsDue p l m act → DispatchIsLegal p l m act
  dispatch-legal act turn due = record { in_turn = turn; due = due }

  module _ (f : FrontierView) (is : IsFrontierOf p l f m) where
    -- a node whose word is dead
    pub drop-legal : (n : RankedNode) → IsIn n f.nodes → IsInTurn m → ¬ (Live p l m.now m.commits n.word) → DropIsLegal p l m n.id
    drop-legal n there turn dead = record {
      in_turn = turn;
      node = plain_node n;
      there = stands-in p l f m n is there;
      named = refl;
      hopeless = λ plan possible begins. dead ((word-laws p l formed).fronts m.now m.commits plan n.word t.committed.in_turn possible begins);
    }

    -- a node whose deadline was found under all commitments, and has not passed
    pub live-node : (n : RankedNode) → IsIn n f.nodes → n.known ≡ length m.commits → m.now ≤ n.deadline → Live p l m.now m.commits n.word
    live-node n there known early = live-until n.word n.deadline (told-all p l m.commits n (told-in p l f m is n there) known) early

    -- such a node is the best one, and nothing is due
    pub quiet-by : (n : RankedNode) → IsLeast f.nodes n → n.known ≡ length m.commits → m.now ≤ n.deadline → ((act : Timed) → ¬ (IsDue p l m act)) → IsQuiet p l m
    quiet-by n least known early none = record {
      node = plain_node n;
      best = least-best p l f m n is least;
      live = live-node n least.there known early;
      not_urgent = none;
    }

    pub take-legal : (n : RankedNode) (actor : ℕ) → MayAct p l m actor → IsLeast (kept.open_nodes f.nodes) n → n.known ≡ length m.commits → m.now ≤ n.deadline → TakeIsLegal p l m actor n.id
    take-legal n actor may least known early = record {
      may = may;
      node = plain_node n;
      least = least-open-best p l f m n is least;
      named = refl;
      live = live-node n (in-filter kept.is_open n f.nodes least.there) known early;
    }

    pub exhaust-legal : IsInTurn m → f.nodes ≡ [] → ExhaustIsLegal p l m
    exhaust-legal turn none = record {
      in_turn = turn;
      none_left = sym is.nodes ∙ ap (map plain_node) none;
      hopeless = λ plan possible. let c = t.covers plan possible in subst (λ ns. IsIn c.node ns) (sym is.nodes ∙ ap (map plain_node) none) c.there;
    }

  -- a dropped node that is dead leaves the best one where it is
  module _ (q : IsQuiet p l m) (id : ℕ) (dead : (n : Node) → IsIn n m.nodes → n.id ≡ id → ¬ (Live p l m.now m.commits n.word)) where
    other : (b : Bool) → (q.node.id == id) ≡ b → b ≡ false
    other false e = refl
    other true e = absurd (dead q.node q.best.there (eqb-true q.node.id id e) q.live)

    best-left : IsBest p (without id m.nodes) q.node
    best-left = record {
      there = in-without id q.node m.nodes (other (q.node.id == id) refl) q.best.there;
      least = all-filtered (no_worse p q.node) (λ n. not (n.id == id)) m.nodes q.best.least;
    }

    pub quiet-drop : IsQuiet p l (step l m (Drop id))
    quiet-drop = record {
      node = q.node;
      best = best-left;
      live = q.live;
      not_urgent = λ act due. q.not_urgent act (due-by p l m (step l m (Drop id)) act q.node refl refl q.best due (word due));
    }
      where
        word : {act : Timed} (due : IsDue p l (step l m (Drop id)) act) → due.node.word ≡ q.node.word
        word due = ap (λ (n : Node). n.word)
            (same-node due.node q.node m.nodes t.told_apart (in-filter (λ n. not (n.id == id)) due.node m.nodes due.best.there) q.best.there
            (best-id p (without id m.nodes) due.node q.node due.best best-left))

  -- a Take changes no word and no id
  module _ (q : IsQuiet p l m) (actor id : ℕ) where
    worse-taken : (ns : List Node) → list_all (no_worse p q.node) ns ≡ true → list_all (no_worse p (taken_by actor id q.node)) (map (taken_by actor id) ns) ≡ true
    worse-taken [] h = refl
    worse-taken (n ∷ ns) h = and_from _ _ (same n ∙ (and_parts _ _ h).0) (worse-taken ns (and_parts _ _ h).1) where
      same : (k : Node) → no_worse p (taken_by actor id q.node) (taken_by actor id k) ≡ no_worse p q.node k
      same k = λ i. nat_lt (rank p (taken-word actor id q.node i)) (rank p (taken-word actor id k i)) || (rank p (taken-word actor id q.node i) == rank p (taken-word actor id k i) && nat_le (taken-id actor id q.node i) (taken-id actor id k i))

    best-taken : IsBest p (map (taken_by actor id) m.nodes) (taken_by actor id q.node)
    best-taken = record {
      there = map-in (taken_by actor id) q.node m.nodes q.best.there;
      least = worse-taken m.nodes q.best.least;
    }

    pub quiet-take : IsQuiet p l (step l m (Take actor id))
    quiet-take = record {
      node = taken_by actor id q.node;
      best = best-taken;
      live = subst (λ w. Live p l m.now m.commits w) (sym (taken-word actor id q.node)) q.live;
      not_urgent = λ act due. q.not_urgent act (due-by p l m (step l m (Take actor id)) act q.node refl refl q.best due (word due));
    }
      where
        word : {act : Timed} (due : IsDue p l (step l m (Take actor id)) act) → due.node.word ≡ q.node.word
        word due =
            let from = in-map (taken_by actor id) due.node m.nodes due.best.there in
            let ids : from.0.id ≡ q.node.id = sym (taken-id actor id from.0) ∙ ap (λ (n : Node). n.id) from.2 ∙ best-id p (map (taken_by actor id) m.nodes) due.node (taken_by actor id q.node) due.best best-taken ∙ taken-id actor id q.node in
            sym (ap (λ (n : Node). n.word) from.2) ∙ taken-word actor id from.0 ∙ ap (λ (n : Node). n.word) (same-node from.0 q.node m.nodes t.told_apart from.1 q.best.there ids)

  module _ (actor id : ℕ) (w : List Mark) (may : MayAct p l m actor) (found : IsFound m actor id) (word : found.node.word ≡ w) where
    exact-of : (marks : List Mark) → AreLiveMarks p l m w marks → AreLiveMarks p l m found.node.word marks
    exact-of marks h = subst (λ v. AreLiveMarks p l m v marks) (sym word) h

    none-of-word : SpellsNone p l m w → SpellsNone p l m found.node.word
    none-of-word h = subst (SpellsNone p l m) (sym word) h

    pub expand-legal : (marks : List Mark) → SpellsNone p l m w → AreLiveMarks p l m w marks → m.made + length marks ≤ l.nodes → ExpandIsLegal p l m actor id marks
    expand-legal marks none exact room = record {
      may = may;
      node = found.node;
      taken = found.taken;
      incomplete = none-of-word none;
      exact = exact-of marks exact;
      room = room;
    }

    pub limit-legal : (marks : List Mark) (made count : ℕ) → SpellsNone p l m w → AreLiveMarks p l m w marks → made ≡ m.made → count ≡ length marks → l.nodes < made + count → LimitIsLegal p l m actor id made count
    limit-legal marks made count none exact given counted full = record {
      may = may;
      node = found.node;
      taken = found.taken;
      incomplete = none-of-word none;
      live_marks = marks;
      exact = exact-of marks exact;
      counted = counted;
      given = given;
      full = full;
    }

    pub publish-legal : (plan : Plan) → is_whole p w ≡ true → awaited (acts_of p w) m.commits ≡ [] → IsEarliest p l m.now m.commits w plan → PublishIsLegal p l m actor id plan
    publish-legal plan whole all is =
        let x : Schedule = is.0 in
        let sound : Sound p w = subst (λ v. Sound p v) word (t.live found.node found.taken.there).sound in
        let complete : is_complete p m.commits w ≡ true = and_from _ _ whole (ap is_empty all) in
        record {
          may = may;
          node = found.node;
          taken = found.taken;
          possible = subst (Possible p l m.now m.commits) (sym is.2) ((word-laws p l formed).possible m.now m.commits w x t.committed.in_turn sound complete is.1.is);
          spells = ap (spell p) is.2 ∙ (word-laws p l formed).spelled m.now m.commits w x t.committed.in_turn sound complete is.1.is ∙ sym word;
          schedule = x;
          least = subst (λ v. IsLeastOf p l m.now m.commits v x) (sym word) is.1;
          is = is.2 ∙ ap (λ v. plan_of p v x) (sym word);
        }
