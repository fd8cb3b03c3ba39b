-- The least open node is dropped while it is dead, and taken once it is live.
use Rattle.std.proofs.Common.{◌≡◌, refl, sym, ap, subst, ◌∙◌, ℕ, ◌<◌, inl, inr, ◌==◌, ◌||◌, Bool, true, false, cond, List, [], ◌∷◌, ◌++◌, map, Some, arith, IsSome}
use Rattle.std.proofs.lemmas.Bool.{eq-eqb}
use Rattle.tp_spec.specs.declared.event.Event.{Event}
use Rattle.tp_spec.specs.declared.event.Event.TheVariants.{Drop, Take}
use Rattle.tp_spec.specs.declared.plan.Limits.{Limits}
use Rattle.tp_spec.specs.declared.plan.Timed.{Timed}
use Rattle.tp_spec.specs.declared.problem.Problem.{Problem}
use Rattle.tp_spec.specs.Lists.{IsIn}
use Rattle.tp_spec.specs.Machine.{Machine, Node, step, state_of, rank, taken_by, is_open, open_nodes, IsTaken, IsQuiet, MayAct, TakeIsLegal}
use Rattle.tp_spec.specs.Schedules.{Live}
use Rattle.tp_laws.specs.Clocks.{IsDeadline}
use Rattle.run_laws.specs.Histories.{IsTree}
use Rattle.tp_laws.proofs.Members.{in-filter, map-in}
use Rattle.word_frontier.specs.Nodes.{NodeView, RankedNode, FrontierView, IsCopy, has_id}
use Rattle.word_frontier.specs.Nodes as kept_nodes
use Rattle.machine_run.specs.Deeds.{IsRested, TookNode, FindsNone}
use Rattle.machine_run.specs.Frontiers.{Stands, IsFrontierOf, plain_node}
use Rattle.machine_run.specs.Kept.{IsKept}
use Rattle.machine_run.specs.Settling.{SettlesOn, LeastIs, IsDead, IsCurrent, IsLiveUntil}
use Rattle.machine_run.specs.Turns.{has_outcome}
use Rattle.machine_run.specs.Views.{RunView, state}
use Rattle.machine_run.proofs.Frontiers.{IsTold, told-in, told-all, frontier-take, stands-in, opened}
use Rattle.machine_run.proofs.Legal.{take-legal, quiet-drop, quiet-take}
use Rattle.machine_run.proofs.Nodes.{same-node}
use Rattle.machine_run.proofs.Outcomes.{none-behind}
use Rattle.machine_run.proofs.Standing.{run, parts, state-behind, kept-step}
use Rattle.machine_run.proofs.Settling.{still, tree, frontier-is}

-- a member of an id is found
pub has-id : (id : ℕ) (n : RankedNode) (ns : List RankedNode) → IsIn n ns → n.id ≡ id → has_id id ns ≡ true
has-id id n [] h e = absurd h
has-id id n (m ∷ ns) (inl same) e = ap (λ b. b || has_id id ns) (eq-eqb m.id id (ap (λ k. k.id) same ∙ e))
has-id id n (m ∷ ns) (inr h) e = or-true (m.id == id) (has-id id n ns h e) where
  or-true : (b : Bool) → has_id id ns ≡ true → (b || has_id id ns) ≡ true
  or-true true k = refl
  or-true false k = k

pub turn-some : (p : Problem) (l : Limits) (m : Machine) (actor : ℕ) → MayAct p l m actor → IsSome m.turn
turn-some p l m actor may = subst IsSome (sym may.turn) refl

module _ {p : Problem} {l : Limits} {h : List Event} {f : FrontierView} {commits : List Timed} {len capacity clock : ℕ} {over : Bool} (kept : IsKept (parts (run p l h f) commits len capacity clock over)) (none : has_outcome h ≡ false) (actor : ℕ) where
  abbrev m : Machine
  m = state_of l h

  trees : IsTree p l m
  trees = tree kept none

  -- what stands under the id of a node has its word
  same-plain : (n : RankedNode) → IsIn n f.nodes → (k : Node) → IsIn k m.nodes → k.id ≡ n.id → k ≡ plain_node n
  same-plain n there k i same = same-node k (plain_node n) m.nodes trees.told_apart i (stands-in p l f m n (frontier-is kept none) there) same

  module _ (may : MayAct p l m actor) (id : ℕ) where
    -- a dead node
    module _ (n : RankedNode) (there : IsIn n f.nodes) (named : n.id ≡ id) (dead : IsDead (run p l h f) id) (new : List Event) (grown : new ≡ h ++ Drop id ∷ []) where
      dead-word : (k : Node) → IsIn k m.nodes → k.id ≡ id → ¬ (Live p l m.now m.commits k.word)
      dead-word k i same = subst (λ w. ¬ (Live p l m.now m.commits w)) (ap (λ (x : Node). x.word) (sym (same-plain n there k i (same ∙ sym named)))) (dead n there named)

      pub may-drop : MayAct p l (state_of l new) actor
      may-drop = subst (λ s. MayAct p l s actor) (sym (state-behind l h (Drop id) new grown)) (record {
        between = record {
          standing = may.between.standing;
          quiet = quiet-drop p l kept.stands.formed m trees may.between.quiet id dead-word;
        };
        turn = may.turn;
      })

  module _ (may : MayAct p l m actor) (id deadline : ℕ) (least : LeastIs (kept_nodes.open_nodes f.nodes) id) (live : IsLiveUntil (run p l h f) id deadline) where
    abbrev n : RankedNode
    n = least.node

    there : IsIn n f.nodes
    there = in-filter kept_nodes.is_open n f.nodes least.least.there

    current : IsCurrent (run p l h f) deadline n
    current = live.kept n there least.id_is

    legal : TakeIsLegal p l m actor n.id
    legal = take-legal p l kept.stands.formed m trees f (frontier-is kept none) n actor may least.least current.known (omega (arith, current.deadline_is, live.early))

    module _ (new : List Event) (g : FrontierView) (grown : new ≡ h ++ Take actor id ∷ []) (nodes : g.nodes ≡ map (kept_nodes.taken_by actor n.id) f.nodes) (made : g.made ≡ f.made) where
      named : new ≡ h ++ Take actor n.id ∷ []
      named = grown ∙ ap (λ k. h ++ Take actor k ∷ []) (sym least.id_is)

      after : state_of l new ≡ step l m (Take actor n.id)
      after = state-behind l h (Take actor n.id) new named

      pub kept-take : {new_len new_capacity : ℕ} → g.ranks ≡ f.ranks → new_len < new_capacity → IsKept (parts (run p l new g) commits new_len new_capacity clock over)
      kept-take ranks room = kept-step kept (Take actor n.id) new g (still kept none) named ranks refl legal
          (frontier-take p l f g m actor n.id nodes made (frontier-is kept none)) kept.committed (kept.clocked (still kept none)) room

      pub rested-take : IsRested (run p l new g)
      rested-take = record {
        standing = none-behind h (Take actor n.id) new named none refl;
        settled = inr (subst (IsQuiet p l) (sym after) (quiet-take p l kept.stands.formed m trees may.between.quiet actor n.id));
      }

      pub took-node : (v : NodeView) → IsCopy f.nodes id v → TookNode (run p l new g) actor id v
      took-node v copy =
          let k : RankedNode = copy.node in
          let is : IsFrontierOf p l f m = frontier-is kept none in
          let told : IsTold p l m.commits k = told-in p l f m is k copy.there in
          let word : v.word ≡ k.word = ap (λ (x : NodeView). x.word) copy.is in
          let same : plain_node k ≡ plain_node n = same-plain n there (plain_node k) (stands-in p l f m k is copy.there) (copy.id_is ∙ sym least.id_is) in
          let taken : Node = record { id = k.id; word = k.word; taker = Some actor } in
          let is_taken : taken_by actor n.id (plain_node k) ≡ taken = ap (λ b. cond b taken (plain_node k)) (eq-eqb k.id n.id (copy.id_is ∙ sym least.id_is)) in
          let in_new : IsIn taken (map (taken_by actor n.id) m.nodes) = subst (λ x. IsIn x (map (taken_by actor n.id) m.nodes)) is_taken (map-in (taken_by actor n.id) (plain_node k) m.nodes (stands-in p l f m k is copy.there)) in
          let alive : Live p l m.now m.commits v.word = subst (λ w. Live p l m.now m.commits w) (ap (λ (x : Node). x.word) (sym same) ∙ sym word) (live-least) in
          record {
            node = taken;
            taken = subst (λ s. IsTaken s actor id taken) (sym after) (record { there = in_new; named = copy.id_is; taken = refl });
            word = word;
            ranked = ap (λ (x : NodeView). x.rank) copy.is ∙ told.ranked ∙ ap (rank p) (sym word);
            timely = subst (λ s. IsDeadline p l s v.word v.deadline) (sym (ap (λ (s : Machine). s.commits) after))
                (subst (λ (x : NodeView). IsDeadline p l m.commits x.word x.deadline) (sym copy.is) (told-all p l m.commits k told (live.kept k copy.there copy.id_is).known));
            live = subst (λ (s : Machine). Live p l s.now s.commits v.word) (sym after) alive;
          }
        where
          live-least : Live p l m.now m.commits n.word
          live-least = subst (λ w. Live p l m.now m.commits w) (ap (λ (x : Node). x.word) (same-plain n there legal.node (in-filter is_open legal.node m.nodes legal.least.there) legal.named)) legal.live

-- what a take gives

pub none-open : (r : RunView) → Stands r → has_outcome r.history ≡ false → kept_nodes.open_nodes r.frontier.nodes ≡ [] → open_nodes (state r).nodes ≡ []
none-open r s none closed = opened r.problem r.limits r.frontier (state r) (s.frontier none) ∙ ap (map plain_node) closed

pub rested-of : (r : RunView) (actor : ℕ) → has_outcome r.history ≡ false → MayAct r.problem r.limits (state r) actor → IsRested r
rested-of r actor none may = record { standing = none; settled = inr may.between.quiet }

pub finds-none : (r s : RunView) (actor : ℕ) → SettlesOn r s → has_outcome s.history ≡ false → MayAct s.problem s.limits (state s) actor → open_nodes (state s).nodes ≡ [] → FindsNone r s
finds-none r s actor on none may closed = record { events = on.events; none_open = closed; rested = rested-of s actor none may }
