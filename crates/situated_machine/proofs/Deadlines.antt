-- Deadlines of a replay's nodes, by the word of an id.
use Rattle.std.proofs.Common.{◌≡◌, refl, sym, ap, subst, ◌∙◌, ℕ, ◌+◌, ◌<◌, ◌≤◌, ◌^◌, inl, inr, ◌==◌, ◌||◌, nat_le, Bool, true, false, cond, List, [], ◌∷◌, append-nil, length, map, Option, Some, None, arith}
use Rattle.std.specs.List.{list_all}
use Rattle.std.proofs.lemmas.Bool.{and_parts, and_from, eq-eqb, leb-true, le-leb, ltb-true}
use Rattle.tp_spec.specs.declared.plan.Limits.{Limits}
use Rattle.tp_spec.specs.declared.plan.Mark.{Mark}
use Rattle.tp_spec.specs.declared.plan.Timed.{Timed}
use Rattle.tp_spec.specs.declared.problem.Problem.{Problem}
use Rattle.tp_spec.specs.Lists.{IsIn}
use Rattle.tp_spec.specs.Machine.{Machine, Node, open_nodes, word_of}
use Rattle.tp_spec.specs.Schedules.{Live}
use Rattle.tp_spec.specs.Words.{Sound}
use Rattle.tp_laws.specs.Clocks.{IsDeadline}
use Rattle.tp_laws.proofs.ClockCommits.{live-earlier}
use Rattle.tp_laws.proofs.EarlyLists.{each-in, each-true}
use Rattle.tp_laws.proofs.Members.{in-filter}
use Rattle.run_laws.specs.Histories.{is_below}
use Rattle.word_frontier.specs.declared.frontier.Standing.{Standing}
use Rattle.word_frontier.specs.Nodes.{NodeView, RankedNode, FrontierView, GivesLeast, IsCopy, Tells, renewed}
use Rattle.word_frontier.specs.Nodes as kept_nodes
use Rattle.word_network.specs.Conditions.{AreCommits, AreLimits}
use Rattle.machine_run.specs.Frontiers.{IsFrontierOf, plain_node}
use Rattle.machine_run.proofs.Frontiers.{frontier-renew, least-best, least-open-best, opened, stands-in, told-all, told-in}
use Rattle.machine_run.proofs.Taking.{has-id}
use Rattle.situated_machine.specs.Deadlines.{FindsBest, IsDeadlineIn, IsToldOf}
use Rattle.situated_machine.specs.Keeping.{ReplayParts, ReplayView, IsKept, machine_of, view_of}
use Rattle.situated_machine.specs.Laws.{IsOrderly}
use Rattle.situated_machine.specs.Rules.{IsOfBest, has_id}
use Rattle.situated_machine.proofs.Judging.{word-of}

-- commitments that end within the horizon start in time
early-all : (horizon : ℕ) → horizon ≤ 2 ^ 40 → (cs : List Timed) → list_all (λ c. nat_le (c.start + c.length) horizon) cs ≡ true → list_all (λ c. nat_le c.start (2 ^ 40)) cs ≡ true
early-all horizon near [] h = refl
early-all horizon near (c ∷ cs) h =
    let ends : c.start + c.length ≤ horizon = leb-true (c.start + c.length) horizon (and_parts _ _ h).0 in
    and_from _ _ (le-leb c.start (2 ^ 40) (omega (arith, ends, near))) (early-all horizon near cs (and_parts _ _ h).1)

-- the nodes of an id in the frontier and in the machine
pub has-plain : (id : ℕ) (ns : List RankedNode) → has_id id (map plain_node ns) ≡ kept_nodes.has_id id ns
has-plain id [] = refl
has-plain id (n ∷ ns) = ap (λ b. n.id == id || b) (has-plain id ns)

plain-has : (id : ℕ) (n : Node) (ns : List Node) → IsIn n ns → n.id ≡ id → has_id id ns ≡ true
plain-has id n [] h e = absurd h
plain-has id n (m ∷ ns) (inl same) e = ap (λ b. b || has_id id ns) (eq-eqb m.id id (ap (λ (k : Node). k.id) same ∙ e))
plain-has id n (m ∷ ns) (inr h) e = or-true (m.id == id) (plain-has id n ns h e) where
  or-true : (b : Bool) → has_id id ns ≡ true → (b || has_id id ns) ≡ true
  or-true true k = refl
  or-true false k = k

plain-renewed : (id deadline known : ℕ) (ns : List RankedNode) → map plain_node (map (renewed id deadline known) ns) ≡ map plain_node ns
plain-renewed id deadline known [] = refl
plain-renewed id deadline known (n ∷ ns) = λ i. by_test (n.id == id) i ∷ plain-renewed id deadline known ns i where
  by_test : (b : Bool) → plain_node (cond b (record n { deadline = deadline; known = known }) n) ≡ plain_node n
  by_test true = refl
  by_test false = refl

module _ (p : Problem) (l : Limits) (m : Machine) (o : IsOrderly p l m) where
  -- the commitments are as the schedules of words ask, and their number fits 8 bits
  pub commits-fit : AreLimits l → AreCommits p m.commits
  commits-fit limited = record {
    in_turn = o.committed.in_turn;
    early = early-all l.horizon limited.horizon m.commits o.committed.within;
    ranged = o.committed.ranged;
  }

  pub commits-few : AreLimits l → length m.commits < 2 ^ 8
  commits-few limited = omega (arith, o.committed.few, limited.actions)

  -- the words of nodes
  pub node-sound : (n : Node) → IsIn n m.nodes → Sound p n.word
  node-sound n there = (o.live n there).sound

  pub node-few : AreLimits l → (n : Node) → IsIn n m.nodes → length n.word < 2 ^ 31
  node-few limited n there =
      let given : n.id < m.made = ltb-true n.id m.made (each-in (λ k. is_below m.made k ≡ true) m.nodes n (each-true (is_below m.made) m.nodes o.below) there) in
      omega (arith, o.short n there, given, o.few, limited.nodes)

  -- a word that is live at no clock is dead, as one is whose deadline has passed
  pub never-live : (w : List Mark) → ¬ (Live p l 0 m.commits w) → ¬ (Live p l m.now m.commits w)
  never-live w dead live = dead (live-earlier p l m.commits w 0 m.now [] (omega arith) (λ d i. absurd i) (subst (λ cs. Live p l m.now cs w) (sym (append-nil m.commits)) live))

  pub late-dead : (w : List Mark) (deadline : ℕ) → IsDeadline p l m.commits w deadline → deadline < m.now → ¬ (Live p l m.now m.commits w)
  late-dead w deadline d late live = let early : m.now ≤ deadline = (d.tells m.now o.clocked).0 live in absurd (omega (arith, early, late))

  pub early-live : (w : List Mark) (deadline : ℕ) → IsDeadline p l m.commits w deadline → m.now ≤ deadline → Live p l m.now m.commits w
  early-live w deadline d early = (d.tells m.now o.clocked).1 early

module _ {t : ReplayParts} (kept : IsKept t) where
  abbrev m : Machine
  m = machine_of t

  abbrev ns : List RankedNode
  ns = t.frontier.nodes

  -- the word of a node
  pub word-is : (id : ℕ) (n : RankedNode) → IsIn n ns → n.id ≡ id → word_of id m.nodes ≡ n.word
  word-is id n there named = word-of t.problem t.limits m kept.orderly.told_apart id (plain_node n) (stands-in t.problem t.limits t.frontier m n kept.frontier there) named

  pub kept-id : (id : ℕ) → has_id id m.nodes ≡ true → kept_nodes.has_id id ns ≡ true
  kept-id id h = sym (has-plain id ns) ∙ h

  pub best-has : (id : ℕ) → IsOfBest t.problem m.nodes id → kept_nodes.has_id id ns ≡ true
  best-has id best = kept-id id (plain-has id best.node m.nodes best.best.there best.named)

  -- what is told of a node
  pub told-of : (found : Standing) (n : RankedNode) → IsIn n ns → Tells found n → IsToldOf (view_of t) found
  told-of found n there tells = record {
    there = has-plain found.id ns ∙ has-id found.id n ns there (sym tells.id);
    timely = λ known.
        subst (IsDeadlineIn (view_of t) found.id) (sym tells.deadline)
        (subst (λ w. IsDeadline t.problem t.limits t.commits w n.deadline) (sym (word-is found.id n there (sym tells.id)))
        (told-all t.problem t.limits t.commits n (told-in t.problem t.limits t.frontier m kept.frontier n there) (sym tells.known ∙ known)));
  }

  pub finds-best : (found : Option Standing) → GivesLeast ns found → FindsBest (view_of t) m.nodes found
  finds-best None none = ap (map plain_node) none
  finds-best (Some found) least = record {
    best = record { node = plain_node least.0; best = least-best t.problem t.limits t.frontier m least.0 kept.frontier least.1; named = sym least.2.id };
    told = told-of found least.0 least.1.there least.2;
  }

  pub finds-open : (found : Option Standing) → GivesLeast (kept_nodes.open_nodes ns) found → FindsBest (view_of t) (open_nodes m.nodes) found
  finds-open None none = opened t.problem t.limits t.frontier m kept.frontier ∙ ap (map plain_node) none
  finds-open (Some found) least = record {
    best = record { node = plain_node least.0; best = least-open-best t.problem t.limits t.frontier m least.0 kept.frontier least.1; named = sym least.2.id };
    told = told-of found least.0 (in-filter kept_nodes.is_open least.0 ns least.1.there) least.2;
  }

  -- a copy of the node of an id
  module _ (id : ℕ) (v : NodeView) (copy : IsCopy ns id v) where
    pub copy-word : v.word ≡ word_of id m.nodes
    copy-word = ap (λ (x : NodeView). x.word) copy.is ∙ sym (word-is id copy.node copy.there copy.id_is)

    copy-stands : IsIn (plain_node copy.node) m.nodes
    copy-stands = stands-in t.problem t.limits t.frontier m copy.node kept.frontier copy.there

    pub copy-sound : Sound t.problem v.word
    copy-sound = subst (λ (x : NodeView). Sound t.problem x.word) (sym copy.is) (node-sound t.problem t.limits m kept.orderly (plain_node copy.node) copy-stands)

    pub copy-few : length v.word < 2 ^ 31
    copy-few = subst (λ (x : NodeView). length x.word < 2 ^ 31) (sym copy.is) (node-few t.problem t.limits m kept.orderly kept.limited (plain_node copy.node) copy-stands)

  -- a deadline that is found anew is kept with its node, and no contract sees it
  module _ (id deadline known : ℕ) (g : FrontierView) (nodes : g.nodes ≡ map (renewed id deadline known) ns) (made : g.made ≡ t.frontier.made) where
    pub same-view : view_of (record t { frontier = g }) ≡ view_of t
    same-view = λ i. record {
      problem = t.problem;
      limits = t.limits;
      machine = record m { nodes = (ap (map plain_node) nodes ∙ plain-renewed id deadline known ns) i; made = made i };
    }

    pub kept-renew : known ≡ length t.commits → IsDeadlineIn (view_of t) id deadline → g.ranks ≡ t.frontier.ranks → IsKept (record t { frontier = g })
    kept-renew all timely ranks = record {
      formed = kept.formed;
      walks = kept.walks;
      limited = kept.limited;
      queued = subst (λ n. length t.problem.goal < n) (sym ranks) kept.queued;
      frontier = subst (λ (r : ReplayView). IsFrontierOf t.problem t.limits g r.machine) (sym same-view)
          (frontier-renew t.problem t.limits t.frontier g m id deadline known nodes made all
          (λ n there named. subst (λ w. IsDeadline t.problem t.limits t.commits w deadline) (word-is id n there named) timely) kept.frontier);
      orderly = subst (λ (r : ReplayView). IsOrderly t.problem t.limits r.machine) (sym same-view) kept.orderly;
    }
