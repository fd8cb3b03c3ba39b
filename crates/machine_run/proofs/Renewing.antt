-- A node with another deadline: the same nodes are the least ones.
use Rattle.std.proofs.Common.{◌≡◌, refl, sym, ap, subst, ◌∙◌, ℕ, ◌==◌, ◌||◌, ◌&&◌, nat_lt, nat_le, Bool, true, false, not, cond, is_some, List, [], ◌∷◌, length, map}
use Rattle.std.specs.List.{list_all}
use Rattle.std.proofs.lemmas.Bool.{and_parts, and_from, eq-eqb}
use Rattle.std.proofs.lemmas.List.{length-map}
use Rattle.tp_spec.specs.Lists.{IsIn}
use Rattle.tp_laws.proofs.Members.{in-map, map-in}
use Rattle.word_frontier.specs.Nodes.{RankedNode, no_later, is_open, open_nodes, renewed}
use Rattle.machine_run.specs.Deeds.{SameTask}
use Rattle.machine_run.specs.Settling.{LeastIs, Renews}
use Rattle.machine_run.specs.Views.{RunView}

module _ (id deadline known : ℕ) where
  pub same-id : (n : RankedNode) → (renewed id deadline known n).id ≡ n.id
  same-id n = by_test (n.id == id) where
    by_test : (b : Bool) → (cond b (record n { deadline = deadline; known = known }) n).id ≡ n.id
    by_test true = refl
    by_test false = refl

  same-rank : (n : RankedNode) → (renewed id deadline known n).rank ≡ n.rank
  same-rank n = by_test (n.id == id) where
    by_test : (b : Bool) → (cond b (record n { deadline = deadline; known = known }) n).rank ≡ n.rank
    by_test true = refl
    by_test false = refl

  same-taker : (n : RankedNode) → (renewed id deadline known n).taker ≡ n.taker
  same-taker n = by_test (n.id == id) where
    by_test : (b : Bool) → (cond b (record n { deadline = deadline; known = known }) n).taker ≡ n.taker
    by_test true = refl
    by_test false = refl

  later-each : (n : RankedNode) (ns : List RankedNode) → list_all (no_later n) ns ≡ true → list_all (no_later (renewed id deadline known n)) (map (renewed id deadline known) ns) ≡ true
  later-each n [] h = refl
  later-each n (k ∷ ns) h = and_from _ _ (same ∙ (and_parts _ _ h).0) (later-each n ns (and_parts _ _ h).1) where
    same : no_later (renewed id deadline known n) (renewed id deadline known k) ≡ no_later n k
    same = λ i. nat_lt (same-rank n i) (same-rank k i) || (same-rank n i == same-rank k i && nat_le (same-id n i) (same-id k i))

  least-renewed : (ns : List RankedNode) (of : ℕ) → LeastIs ns of → LeastIs (map (renewed id deadline known) ns) of
  least-renewed ns of h = record {
    node = renewed id deadline known h.node;
    least = record { there = map-in (renewed id deadline known) h.node ns h.least.there; least = later-each h.node ns h.least.least };
    id_is = same-id h.node ∙ h.id_is;
  }

  open-renewed : (ns : List RankedNode) → open_nodes (map (renewed id deadline known) ns) ≡ map (renewed id deadline known) (open_nodes ns)
  open-renewed [] = refl
  open-renewed (n ∷ ns) = ap (λ t. cond (not (is_some t)) (renewed id deadline known n ∷ left) left) (same-taker n) ∙ by_test (open-renewed ns) (is_open n) where
    left : List RankedNode
    left = open_nodes (map (renewed id deadline known) ns)

    by_test : left ≡ map (renewed id deadline known) (open_nodes ns) → (b : Bool) → cond b (renewed id deadline known n ∷ left) left ≡ map (renewed id deadline known) (cond b (n ∷ open_nodes ns) (open_nodes ns))
    by_test ih true = ap (λ ks. renewed id deadline known n ∷ ks) ih
    by_test ih false = ih

  -- what is kept of the node of the id
  pub renewed-is : (k : RankedNode) (ns : List RankedNode) → IsIn k (map (renewed id deadline known) ns) → k.id ≡ id → (k.known ≡ known) × (k.deadline ≡ deadline)
  renewed-is k ns h e =
      let from = in-map (renewed id deadline known) k ns h in
      subst (λ (n : RankedNode). (n.known ≡ known) × (n.deadline ≡ deadline)) from.2 (by_id from.0 (sym (same-id from.0) ∙ ap (λ (n : RankedNode). n.id) from.2 ∙ e)) where
        by_id : (n : RankedNode) → n.id ≡ id → ((renewed id deadline known n).known ≡ known) × ((renewed id deadline known n).deadline ≡ deadline)
        by_id n same = subst (λ b. ((cond b (record n { deadline = deadline; known = known }) n).known ≡ known) × ((cond b (record n { deadline = deadline; known = known }) n).deadline ≡ deadline)) (sym (eq-eqb n.id id same)) (refl, refl)

  pub renews-one : (r s : RunView) → SameTask r s → s.history ≡ r.history → s.frontier.nodes ≡ map (renewed id deadline known) r.frontier.nodes → Renews r s
  renews-one r s task history nodes = record {
    task = task;
    history = history;
    count = ap length nodes ∙ length-map r.frontier.nodes (renewed id deadline known);
    best = λ of h. subst (λ ns. LeastIs ns of) (sym nodes) (least-renewed r.frontier.nodes of h);
    least_open = λ of h. subst (λ ns. LeastIs ns of) (sym (ap open_nodes nodes ∙ open-renewed r.frontier.nodes)) (least-renewed (open_nodes r.frontier.nodes) of h);
  }

pub renews-none : (r : RunView) → Renews r r
renews-none r = record { task = record { problem = refl; limits = refl }; history = refl; count = refl; best = λ of h. h; least_open = λ of h. h }
