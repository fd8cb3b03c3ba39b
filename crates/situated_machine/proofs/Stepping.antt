-- One event more that keeps all rules: what a replay keeps, and the state to which it leads.
use Rattle.std.proofs.Common.{◌≡◌, refl, sym, ap, subst, ◌∙◌, ℕ, zero, suc, ◌+◌, ◌<◌, ◌≤◌, ◌^◌, inl, inr, ◌==◌, ◌&&◌, ◌||◌, nat_lt, nat_le, Bool, true, false, not, cond, List, [], ◌∷◌, ◌++◌, length, map, Option, Some, None, Result, Ok, Err, OnOk, OnErr, All, arith}
use Rattle.std.specs.List.{AllByRecursion as Each, filter, list_all}
use Rattle.std.proofs.lemmas.Bool.{and_parts, and_from, le-leb, false≢true, eqb-true, eq-eqb}
use Rattle.std.proofs.lemmas.List.{length-map}
use Rattle.commit_book.specs.Commits.{IsLater}
use Rattle.tp_spec.specs.declared.event.Event.{Event}
use Rattle.tp_spec.specs.declared.event.Event.TheVariants.{Tick, Drop, Dispatch, Take, Expand, Publish, Limit, Exhaust, Halt}
use Rattle.tp_spec.specs.declared.event.Cause.{Cause}
use Rattle.tp_spec.specs.declared.plan.Limits.{Limits}
use Rattle.tp_spec.specs.declared.plan.Mark.{Mark}
use Rattle.tp_spec.specs.declared.plan.Plan.{Plan}
use Rattle.tp_spec.specs.declared.plan.Timed.{Timed}
use Rattle.tp_spec.specs.declared.problem.Problem.{Problem}
use Rattle.tp_spec.specs.Lists.{IsIn, some_and}
use Rattle.tp_spec.specs.Machine.{Machine, Node, IsBest, first, step, rank, no_worse, now_after, open_nodes, word_of}
use Rattle.tp_spec.specs.Machine as machine
use Rattle.tp_laws.specs.Plans.{AreInTurn}
use Rattle.tp_laws.proofs.EarlyLists.{each-in, each-true, filter-map}
use Rattle.tp_laws.proofs.Members.{in-filter, in-map, map-in}
use Rattle.word_frontier.specs.declared.child.Child.{Child}
use Rattle.word_frontier.specs.declared.frontier.Standing.{Standing}
use Rattle.word_frontier.specs.Nodes.{GivesLeast, RankedNode, FrontierView, IsLeast, no_later, is_taken, is_taker, children_from, live_at}
use Rattle.word_frontier.specs.Nodes as kept_nodes
use Rattle.machine_run.specs.Children.{IsChild, marks_of}
use Rattle.machine_run.specs.Frontiers.{IsFrontierOf, plain_node}
use Rattle.machine_run.proofs.Frontiers.{frontier-same, frontier-drop, frontier-dispatch, frontier-take, frontier-expand, word-at, opened, least-open-best}
use Rattle.machine_run.specs.Kept.{IsRoot}
use Rattle.machine_run.proofs.Roots.{root-stands}
use Rattle.tp_spec.specs.WellFormed.{IsWellFormed}
use Rattle.word_network.specs.Conditions.{AreLimits}
use Rattle.machine_run.proofs.Ranks.{rank-few}
use Rattle.situated_machine.specs.Judged.{AreChildrenOf}
use Rattle.situated_machine.specs.Keeping.{ReplayParts, IsKept, machine_of, turn_of, view_of}
use Rattle.situated_machine.specs.Laws.{IsOrderly}
use Rattle.situated_machine.specs.Rules.{KeepsAll, IsOfBest, has_id, taken_nodes}
use Rattle.situated_machine.specs.declared.replayed.Rule.TheVariants as rules
use Rattle.situated_machine.proofs.Single.{best-id}
use Rattle.situated_machine.proofs.Orderly.{orderly-step, orderly-same, orderly-first}

-- ids of the nodes that are kept are the machine's

pub plain-has : (id : ℕ) (ns : List RankedNode) → has_id id (map plain_node ns) ≡ kept_nodes.has_id id ns
plain-has id [] = refl
plain-has id (n ∷ ns) = ap (λ b. (n.id == id) || b) (plain-has id ns)

pub plain-open : (ns : List RankedNode) → open_nodes (map plain_node ns) ≡ map plain_node (kept_nodes.open_nodes ns)
plain-open ns = filter-map machine.is_open plain_node ns

and-true : (b : Bool) → b ≡ (b && true)
and-true true = refl
and-true false = refl

and-false : (b rest : Bool) → rest ≡ (b && false) || rest
and-false true rest = refl
and-false false rest = refl

module _ (id actor : ℕ) (n : RankedNode) (ns : List RankedNode) (rest : has_id id (taken_nodes actor (map plain_node ns)) ≡ is_taken actor id ns) where
  taken-own : (own : Bool) → has_id id (cond own (plain_node n ∷ taken_nodes actor (map plain_node ns)) (taken_nodes actor (map plain_node ns))) ≡ ((n.id == id) && own) || is_taken actor id ns
  taken-own true = λ i. and-true (n.id == id) i || rest i
  taken-own false = rest ∙ and-false (n.id == id) (is_taken actor id ns)

  taken-first : (o : Option ℕ) → has_id id (cond (some_and o (λ a. a == actor)) (plain_node n ∷ taken_nodes actor (map plain_node ns)) (taken_nodes actor (map plain_node ns))) ≡ ((n.id == id) && is_taker actor o) || is_taken actor id ns
  taken-first None = taken-own false
  taken-first (Some a) = taken-own (a == actor)

pub plain-taken : (id actor : ℕ) (ns : List RankedNode) → has_id id (taken_nodes actor (map plain_node ns)) ≡ is_taken actor id ns
plain-taken id actor [] = refl
plain-taken id actor (n ∷ ns) = taken-first id actor n ns (plain-taken id actor ns) n.taker

-- the least nodes

later-each : (p : Problem) (n : RankedNode) → n.rank ≡ rank p n.word → (ns : List RankedNode) → ((k : RankedNode) → IsIn k ns → k.rank ≡ rank p k.word)
    → list_all (no_worse p (plain_node n)) (map plain_node ns) ≡ true → list_all (no_later n) ns ≡ true
later-each p n e [] ranked h = refl
later-each p n e (k ∷ ns) ranked h =
    let d : k.rank ≡ rank p k.word = ranked k (inl refl) in
    and_from _ _
    ((λ i. nat_lt (e i) (d i) || (e i == d i && nat_le n.id k.id)) ∙ (and_parts _ _ h).0)
    (later-each p n e ns (λ x i. ranked x (inr i)) (and_parts _ _ h).1)

-- the machine's best open node is the least one that is kept
pub best-least : (p : Problem) (l : Limits) (f : FrontierView) (m : Machine) (id : ℕ) → IsFrontierOf p l f m → IsOfBest p (open_nodes m.nodes) id → (n : RankedNode) × IsLeast (kept_nodes.open_nodes f.nodes) n × (n.id ≡ id)
best-least p l f m id is b =
    let same : open_nodes m.nodes ≡ map plain_node (kept_nodes.open_nodes f.nodes) = opened p l f m is in
    let best : IsBest p (map plain_node (kept_nodes.open_nodes f.nodes)) b.node = subst (λ ns. IsBest p ns b.node) same b.best in
    let from : (n : RankedNode) × IsIn n (kept_nodes.open_nodes f.nodes) × (plain_node n ≡ b.node) = in-map plain_node b.node (kept_nodes.open_nodes f.nodes) best.there in
    let n : RankedNode = from.0 in (
      n,
      record {
        there = from.1;
        least = later-each p n (is.ranked n (in-filter kept_nodes.is_open n f.nodes from.1)) (kept_nodes.open_nodes f.nodes) (λ k i. is.ranked k (in-filter kept_nodes.is_open k f.nodes i))
            (subst (λ k. list_all (no_worse p k) (map plain_node (kept_nodes.open_nodes f.nodes)) ≡ true) (sym from.2) best.least);
      },
      ap (λ (k : Node). k.id) from.2 ∙ b.named,
    )

-- turns

pub deed-turn : (o : Option ℕ) (acted : Bool) → turn_of o true ≡ elim (turn_of o acted) [ None ↦ None | Some t ↦ Some (record t { acted = true }) ]
deed-turn None acted = refl
deed-turn (Some a) acted = refl

-- an act that comes last in turn is later than the others
later-last : (act : Timed) (cs : List Timed) → AreInTurn (cs ++ act ∷ []) → IsLater cs act
later-last act [] h = refl
later-last act (c ∷ cs) h = and_from _ _
    (each-in (λ d. (not (c.action == d.action) || nat_lt c.start d.start) ≡ true) (cs ++ act ∷ []) act (each-true (λ d. not (c.action == d.action) || nat_lt c.start d.start) (cs ++ act ∷ []) (and_parts _ _ h).0) (last cs))
    (later-last act cs (and_parts _ _ h).1)
  where
    last : (xs : List Timed) → IsIn act (xs ++ act ∷ [])
    last [] = inl refl
    last (x ∷ xs) = inr (last xs)

-- children

pub each-of : {A : Type 0} (P : A → Type 0) (xs : List A) → Each P xs → (x : A) → IsIn x xs → P x
each-of P [] h x i = absurd i
each-of P (y ∷ ys) h x (inl e) = subst P e h.0
each-of P (y ∷ ys) h x (inr i) = each-of P ys h.1 x i

filter-whole : {A : Type 0} (test : A → Bool) (xs : List A) → ((x : A) → IsIn x xs → test x ≡ true) → filter test xs ≡ xs
filter-whole test [] h = refl
filter-whole test (x ∷ xs) h = ap (λ b. cond b (x ∷ filter test xs) (filter test xs)) (h x (inl refl)) ∙ ap (λ ys. x ∷ ys) (filter-whole test xs (λ y i. h y (inr i)))

all-of : {A : Type 0} (P : A → Type 0) (xs : List A) → ((x : A) → IsIn x xs → P x) → All P xs
all-of P [] h k d below = absurd (omega (arith, below))
all-of P (x ∷ xs) h zero d below = h x (inl refl)
all-of P (x ∷ xs) h (suc k) d below = all-of P xs (λ y i. h y (inr i)) k d (omega (arith, below))

-- by its parts

abbrev pub parts : Problem → Problem → Limits → FrontierView → List Timed → ℕ → Option ℕ → Bool → Bool → ReplayParts
parts p w l f commits clock actor acted over = record {
  problem = p;
  walked = w;
  limits = l;
  frontier = f;
  commits = commits;
  clock = clock;
  actor = actor;
  acted = acted;
  over = over;
}

-- what is kept behind an event: the state is the next one, and the invariant holds
pub record Behind (p w : Problem) (l : Limits) (m : Machine) (e : Event) (g : FrontierView) (commits : List Timed) (clock : ℕ) (actor : Option ℕ) (acted over : Bool) : Type 0 where
  pub stepped : machine_of (parts p w l g commits clock actor acted over) ≡ step l m e
  pub kept : IsKept (parts p w l g commits clock actor acted over)

module _ {p w : Problem} {l : Limits} {f : FrontierView} {commits : List Timed} {clock : ℕ} {actor : Option ℕ} {acted over : Bool} (kept : IsKept (parts p w l f commits clock actor acted over)) where
  abbrev m : Machine
  m = machine_of (parts p w l f commits clock actor acted over)

  -- this state behind an event
  behind : (g : FrontierView) (new_commits : List Timed) (new_clock : ℕ) (new_actor : Option ℕ) (new_acted new_over : Bool) (e : Event) → g.ranks ≡ f.ranks
      → machine_of (parts p w l g new_commits new_clock new_actor new_acted new_over) ≡ step l m e
      → IsFrontierOf p l g (step l m e) → IsOrderly p l (step l m e) → Behind p w l m e g new_commits new_clock new_actor new_acted new_over
  behind g new_commits new_clock new_actor new_acted new_over e ranks stepped is orderly = record {
    stepped = stepped;
    kept = record {
      formed = kept.formed;
      walks = kept.walks;
      limited = kept.limited;
      queued = subst (λ n. length p.goal < n) (sym ranks) kept.queued;
      frontier = subst (IsFrontierOf p l g) (sym stepped) is;
      orderly = subst (IsOrderly p l) (sym stepped) orderly;
    };
  }

  pub behind-tick : (taker reading now : ℕ) → KeepsAll p l m (Tick taker reading) → now ≡ now_after l clock reading
      → Behind p w l m (Tick taker reading) f commits now (Some taker) false over
  behind-tick taker reading now keeps told =
      behind f commits now (Some taker) false over (Tick taker reading) refl
      (λ i. record m { now = told i; turn = Some (record { actor = taker; acted = false }) })
      (frontier-same p l f f m (step l m (Tick taker reading)) refl refl refl refl refl kept.frontier)
      (orderly-step p l m kept.orderly (Tick taker reading) keeps)

  pub behind-drop : (id : ℕ) (g : FrontierView) → KeepsAll p l m (Drop id) → g.nodes ≡ kept_nodes.without id f.nodes → g.made ≡ f.made → g.ranks ≡ f.ranks
      → Behind p w l m (Drop id) g commits clock actor acted over
  behind-drop id g keeps nodes made ranks =
      let is : IsFrontierOf p l g (step l m (Drop id)) = frontier-drop p l f g m id nodes made kept.frontier in
      behind g commits clock actor acted over (Drop id) ranks (λ i. record m { nodes = is.nodes i; made = is.made i }) is
      (orderly-step p l m kept.orderly (Drop id) keeps)

  pub behind-dispatch : (act : Timed) (new : List Timed) → KeepsAll p l m (Dispatch act) → new ≡ commits ++ act ∷ []
      → Behind p w l m (Dispatch act) f new clock actor acted over
  behind-dispatch act new keeps grown =
      behind f new clock actor acted over (Dispatch act) refl (λ i. record m { commits = grown i })
      (frontier-dispatch p l f m act kept.frontier)
      (orderly-step p l m kept.orderly (Dispatch act) keeps)

  -- an act that may be refused
  pub kept-added : {T E : Type 0} (act : Timed) (new : List Timed) → KeepsAll p l m (Dispatch act) → (r : Result T E) → OnOk r (new ≡ commits ++ act ∷ []) → OnErr r (new ≡ commits) → IsKept (parts p w l f new clock actor acted over)
  kept-added act new keeps (Ok done) added refused = (behind-dispatch act new keeps added).kept
  kept-added act new keeps (Err e) added refused = subst (λ cs. IsKept (parts p w l f cs clock actor acted over)) (sym refused) kept

  -- it starts later than each commitment of its action
  pub act-later : (act : Timed) → KeepsAll p l m (Dispatch act) → IsLater commits act
  act-later act keeps = later-last act commits (orderly-step p l m kept.orderly (Dispatch act) keeps).committed.in_turn

  pub node-there : (id : ℕ) → KeepsAll p l m (Drop id) → kept_nodes.has_id id f.nodes ≡ true
  node-there id keeps = sym (plain-has id f.nodes) ∙ keeps rules.Id

  pub least-there : (taker id : ℕ) → KeepsAll p l m (Take taker id) → (n : RankedNode) × IsLeast (kept_nodes.open_nodes f.nodes) n × (n.id ≡ id)
  least-there taker id keeps = best-least p l f m id kept.frontier (keeps rules.Least)

  pub behind-take : (taker id : ℕ) (g : FrontierView) → KeepsAll p l m (Take taker id)
      → ((n : RankedNode) → IsLeast (kept_nodes.open_nodes f.nodes) n → g.nodes ≡ map (kept_nodes.taken_by taker n.id) f.nodes) → g.made ≡ f.made → g.ranks ≡ f.ranks
      → Behind p w l m (Take taker id) g commits clock actor true over
  behind-take taker id g keeps nodes made ranks =
      let least : (n : RankedNode) × IsLeast (kept_nodes.open_nodes f.nodes) n × (n.id ≡ id) = least-there taker id keeps in
      let given : g.nodes ≡ map (kept_nodes.taken_by taker id) f.nodes = nodes least.0 least.1 ∙ ap (λ k. map (kept_nodes.taken_by taker k) f.nodes) least.2 in
      let is : IsFrontierOf p l g (step l m (Take taker id)) = frontier-take p l f g m taker id given made kept.frontier in
      behind g commits clock actor true over (Take taker id) ranks
      (λ i. record m { nodes = is.nodes i; made = is.made i; turn = deed-turn actor acted i })
      is
      (orderly-step p l m kept.orderly (Take taker id) keeps)

  -- an outcome

  pub behind-publish : (taker id : ℕ) (plan : Plan) → Behind p w l m (Publish taker id plan) f commits clock actor true true
  behind-publish taker id plan =
      behind f commits clock actor true true (Publish taker id plan) refl (λ i. record m { turn = deed-turn actor acted i; over = true })
      (frontier-same p l f f m (step l m (Publish taker id plan)) refl refl refl refl refl kept.frontier)
      (orderly-same p l m kept.orderly (step l m (Publish taker id plan)) kept.orderly.clocked refl refl refl)

  pub behind-limit : (taker id made marks : ℕ) → Behind p w l m (Limit taker id made marks) f commits clock actor true true
  behind-limit taker id made marks =
      behind f commits clock actor true true (Limit taker id made marks) refl (λ i. record m { turn = deed-turn actor acted i; over = true })
      (frontier-same p l f f m (step l m (Limit taker id made marks)) refl refl refl refl refl kept.frontier)
      (orderly-same p l m kept.orderly (step l m (Limit taker id made marks)) kept.orderly.clocked refl refl refl)

  pub behind-exhaust : Behind p w l m Exhaust f commits clock actor acted true
  behind-exhaust =
      behind f commits clock actor acted true Exhaust refl refl
      (frontier-same p l f f m (step l m Exhaust) refl refl refl refl refl kept.frontier)
      (orderly-same p l m kept.orderly (step l m Exhaust) kept.orderly.clocked refl refl refl)

  pub behind-halt : (cause : Cause) → Behind p w l m (Halt cause) f commits clock actor acted true
  behind-halt cause =
      behind f commits clock actor acted true (Halt cause) refl refl
      (frontier-same p l f f m (step l m (Halt cause)) refl refl refl refl refl kept.frontier)
      (orderly-same p l m kept.orderly (step l m (Halt cause)) kept.orderly.clocked refl refl refl)

  -- more room alone changes nothing
  pub kept-lent : (g : FrontierView) → g.nodes ≡ f.nodes → g.made ≡ f.made → g.ranks ≡ f.ranks → IsKept (parts p w l g commits clock actor acted over)
  kept-lent g nodes made ranks =
      let same : machine_of (parts p w l g commits clock actor acted over) ≡ m = λ i. record m { nodes = map plain_node (nodes i); made = made i } in
      record {
        formed = kept.formed;
        walks = kept.walks;
        limited = kept.limited;
        queued = subst (λ n. length p.goal < n) (sym ranks) kept.queued;
        frontier = subst (IsFrontierOf p l g) (sym same) (frontier-same p l f g m m nodes made refl refl refl kept.frontier);
        orderly = subst (IsOrderly p l) (sym same) kept.orderly;
      }

  -- how many commitments there are
  pub few-commits : length commits ≤ 64
  few-commits = omega (arith, kept.orderly.committed.few, kept.limited.actions)

  module _ (taker id : ℕ) (children : List Child) (are : AreChildrenOf (view_of (parts p w l f commits clock actor acted over)) (word_of id m.nodes) children) (keeps : KeepsAll p l m (Expand taker id (marks_of children))) where
    abbrev pub at : List Mark
    at = word_of id m.nodes

    counted : length children ≡ length (marks_of children)
    counted = sym (length-map children (λ c. c.mark))

    child : (c : Child) → IsIn c children → IsChild p l commits at c
    child = each-of (IsChild p l commits at) children are.each

    pub node-taken : is_taken taker id f.nodes ≡ true
    node-taken = sym (plain-taken id taker f.nodes) ∙ keeps rules.Id

    -- each child is live at the clock
    pub all-live : live_at clock children ≡ children
    all-live = filter-whole (λ c. nat_le clock c.deadline) children
        (λ c i. le-leb clock c.deadline (((child c i).timely.tells clock (omega (arith, kept.orderly.clocked))).0 (are.exact.live c.mark (map-in (λ (d : Child). d.mark) c children i))))

    pub ranks-fit : (n : ℕ) → n ≡ f.ranks → All (λ c. c.rank < n) children
    ranks-fit n same = all-of (λ c. c.rank < n) children (λ c i. omega (arith, (child c i).ranked, rank-few p (at ++ c.mark ∷ []), kept.queued, same))

    pub ids-fit : (n k : ℕ) → n ≡ f.made → k ≡ length (live_at clock children) → n + k < 2 ^ 32
    ids-fit n k given told = omega (arith, given, told, ap length all-live, counted, keeps rules.Number, kept.limited.nodes)

    pub behind-expand : (known : ℕ) (g : FrontierView) → known ≡ length commits
        → g.nodes ≡ kept_nodes.without id f.nodes ++ children_from known (kept_nodes.word_at id f.nodes) f.made (live_at clock children)
        → g.made ≡ f.made + length (live_at clock children) → g.ranks ≡ f.ranks
        → Behind p w l m (Expand taker id (marks_of children)) g commits clock actor true over
    behind-expand known g all nodes made ranks =
        let e : Event = Expand taker id (marks_of children) in
        let there : kept_nodes.word_at id f.nodes ≡ at = sym (word-at id f.nodes) in
        let is : IsFrontierOf p l g (step l m (Expand taker id (marks_of children))) =
        frontier-expand p l f g m taker id known children all
        (λ c i. subst (λ v. IsChild p l commits v c) (sym there) (child c i))
        (nodes ∙ ap (λ cs. kept_nodes.without id f.nodes ++ children_from known (kept_nodes.word_at id f.nodes) f.made cs) all-live)
        (made ∙ ap (λ cs. f.made + length cs) all-live ∙ ap (λ k. f.made + k) counted)
        kept.frontier in
        behind g commits clock actor true over (Expand taker id (marks_of children)) ranks
        (λ i. record m { nodes = is.nodes i; made = is.made i; turn = deed-turn actor acted i })
        is
        (orderly-step p l m kept.orderly (Expand taker id (marks_of children)) keeps)

-- the least open node is the best one of the machine

module _ {p w : Problem} {l : Limits} {f : FrontierView} {commits : List Timed} {clock : ℕ} {actor : Option ℕ} {acted over : Bool} (kept : IsKept (parts p w l f commits clock actor acted over)) where
  abbrev at_now : Machine
  at_now = machine_of (parts p w l f commits clock actor acted over)

  pub least-yes : (id : ℕ) (found : Standing) → GivesLeast (kept_nodes.open_nodes f.nodes) (Some found) → (found.id == id) ≡ true → IsOfBest p (open_nodes at_now.nodes) id
  least-yes id found least same = record {
    node = plain_node least.0;
    best = least-open-best p l f at_now least.0 kept.frontier least.1;
    named = sym least.2.id ∙ eqb-true found.id id same;
  }

  pub least-no : (id : ℕ) (found : Standing) → GivesLeast (kept_nodes.open_nodes f.nodes) (Some found) → (found.id == id) ≡ false → IsOfBest p (open_nodes at_now.nodes) id → ⊥
  least-no id found least differ b =
      false≢true (sym differ ∙ eq-eqb found.id id (least.2.id ∙ best-id p (open_nodes at_now.nodes) (plain_node least.0) b.node (least-open-best p l f at_now least.0 kept.frontier least.1) b.best ∙ b.named))

  pub least-none : (id : ℕ) → GivesLeast (kept_nodes.open_nodes f.nodes) None → IsOfBest p (open_nodes at_now.nodes) id → ⊥
  least-none id closed b = subst (λ ns. IsIn b.node ns) (opened p l f at_now kept.frontier ∙ ap (map plain_node) closed) b.best.there

-- before the first event: the root alone

pub root-of : {p : Problem} {horizon : ℕ} {f : FrontierView} {at_start : ℕ} → IsWellFormed p → at_start ≡ rank p [] → f.nodes ≡ record { id = 0; word = []; rank = at_start; deadline = horizon + 1; known = 0; taker = None } ∷ [] → f.made ≡ 1 → length p.goal < f.ranks → IsRoot p horizon f
root-of {p} {horizon} formed ranked nodes made ranks = record {
  formed = formed;
  nodes = nodes ∙ (λ i. record { id = 0; word = []; rank = ranked i; deadline = horizon + 1; known = 0; taker = None } ∷ []);
  made = made;
  ranks = ranks;
}

module _ {p w : Problem} {l : Limits} {f : FrontierView} {commits : List Timed} (walked : w ≡ p) (limited : AreLimits l) (none : commits ≡ []) (r : IsRoot p l.horizon f) where
  root-frontier : IsFrontierOf p l f first
  root-frontier = (root-stands p l f [] limited r refl).frontier refl

  pub begun : machine_of (parts p w l f commits 0 None false false) ≡ first
  begun = λ i. record first { commits = none i; nodes = root-frontier.nodes i; made = root-frontier.made i }

  pub kept-first : IsKept (parts p w l f commits 0 None false false)
  kept-first = record {
    formed = r.formed;
    walks = walked;
    limited = limited;
    queued = r.ranks;
    frontier = subst (IsFrontierOf p l f) (sym begun) root-frontier;
    orderly = subst (IsOrderly p l) (sym begun) (orderly-first p l);
  }
