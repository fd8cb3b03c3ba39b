-- The deeds at a node that an actor took.
use Rattle.std.proofs.Common.{◌≡◌, refl, sym, ap, subst, ◌∙◌, ℕ, suc, ◌+◌, ◌<◌, ◌≤◌, ◌^◌, inl, inr, Bool, true, false, List, [], ◌∷◌, ◌++◌, length, Some, None, arith, All, IsSome}
use Rattle.std.proofs.lemmas.Bool.{eq-eqb}
use Rattle.std.proofs.lemmas.List.{length-map}
use Rattle.tp_spec.specs.declared.event.Event.{Event}
use Rattle.tp_spec.specs.declared.event.Event.TheVariants.{Expand, Publish, Limit}
use Rattle.tp_spec.specs.declared.plan.Limits.{Limits}
use Rattle.tp_spec.specs.declared.plan.Mark.{Mark}
use Rattle.tp_spec.specs.declared.plan.Plan.{Plan}
use Rattle.tp_spec.specs.declared.plan.Timed.{Timed}
use Rattle.tp_spec.specs.declared.problem.Problem.{Problem}
use Rattle.tp_spec.specs.Lists.{IsIn}
use Rattle.tp_spec.specs.Machine.{Machine, step, state_of, word_of, AreLiveMarks, ExpandIsLegal}
use Rattle.tp_spec.specs.Schedules.{awaited}
use Rattle.tp_spec.specs.Words.{acts_of}
use Rattle.run_laws.specs.Histories.{IsTree}
use Rattle.tp_laws.specs.Plans.{is_whole}
use Rattle.run_laws.proofs.Covering.{word_of-in}
use Rattle.word_frontier.specs.declared.child.Child.{Child}
use Rattle.word_frontier.specs.Nodes.{FrontierView, children_from, live_at}
use Rattle.word_frontier.specs.Nodes as kept_nodes
use Rattle.word_network.specs.Schedules.{IsEarliest}
use Rattle.machine_run.specs.Children.{IsChild, view_at, marks_of}
use Rattle.machine_run.specs.Deeds.{Holds, AreOffspring}
use Rattle.machine_run.specs.Frontiers.{IsFrontierOf}
use Rattle.machine_run.specs.Kept.{IsKept, Writes}
use Rattle.machine_run.specs.Turns.{has_outcome}
use Rattle.machine_run.specs.Views.{RunView, state}
use Rattle.machine_run.proofs.Frontiers.{IsFound, found-node, frontier-expand, word-at}
use Rattle.machine_run.proofs.Legal.{expand-legal, limit-legal, publish-legal}
use Rattle.machine_run.proofs.LiveMarks.{marks-few}
use Rattle.machine_run.proofs.Outcomes.{over-of, none-behind}
use Rattle.machine_run.proofs.Ranks.{ranks-below}
use Rattle.machine_run.proofs.Standing.{run, parts, state-behind, kept-step, kept-end}
use Rattle.machine_run.proofs.Settling.{still, tree, frontier-is}

pub all-in : {A : Type 0} (P : A → Type 0) (xs : List A) → All P xs → (x : A) → IsIn x xs → P x
all-in P [] h x i = absurd i
all-in P (y ∷ ys) h x (inl e) = subst P e (h 0 y (omega arith))
all-in P (y ∷ ys) h x (inr i) = all-in P ys (λ k d below. h (suc k) d (omega (arith, below))) x i

-- no outcome stands where an actor holds a node
pub held-none : (r : RunView) (actor id : ℕ) → Holds r actor id → has_outcome r.history ≡ false
held-none r actor id held = sym (over-of r.limits r.history) ∙ held.may.between.standing

module _ {p : Problem} {l : Limits} {h : List Event} {f : FrontierView} {commits : List Timed} {len capacity clock : ℕ} {over : Bool} (kept : IsKept (parts (run p l h f) commits len capacity clock over)) (actor id : ℕ) (held : Holds (run p l h f) actor id) where
  abbrev m : Machine
  m = state_of l h

  abbrev w : List Mark
  w = kept_nodes.word_at id f.nodes

  none : has_outcome h ≡ false
  none = held-none (run p l h f) actor id held

  trees : IsTree p l m
  trees = tree kept none

  is : IsFrontierOf p l f m
  is = frontier-is kept none

  found : IsFound m actor id
  found = found-node p l f m actor id is held.taken

  word : found.node.word ≡ w
  word = sym (word_of-in id found.node m.nodes trees.told_apart found.taken.there (eq-eqb found.node.id id found.taken.named)) ∙ sym (ap (word_of id) is.nodes) ∙ word-at id f.nodes

  -- the clock is the machine's
  pub clock-is : clock ≡ m.now
  clock-is = kept.clocked (still kept none)

  pub kept-publish : {new_clock new_len new_capacity : ℕ} (plan : Plan) (new : List Event) → is_whole p w ≡ true → awaited (acts_of p w) m.commits ≡ [] → IsEarliest p l m.now m.commits w plan → new ≡ h ++ Publish actor id plan ∷ []
      → IsKept (parts (run p l new f) commits new_len new_capacity new_clock true)
  kept-publish plan new whole all earliest grown = kept-end kept (Publish actor id plan) new f grown refl refl
      (publish-legal p l kept.stands.formed m trees actor id w held.may found word plan whole all earliest) refl

  module _ (children : List Child) (offspring : AreOffspring (run p l h f) id children) where
    abbrev now_live : List Child
    now_live = live_at m.now children

    counted : length now_live ≡ length (marks_of now_live)
    counted = sym (length-map now_live (λ c. c.mark))

    exact : AreLiveMarks p l m w (marks_of now_live)
    exact = let e : AreLiveMarks p l (view_at m.now m.commits) w (marks_of now_live) = offspring.exact.exact in record { in_order = e.in_order; live = e.live; all = e.all }

    -- their number fits 32 bits
    pub few-children : length now_live < 2 ^ 32
    few-children = omega (arith, counted, marks-few p l kept.stands.formed m w (marks_of now_live) exact)

    pub kept-limit : {new_clock new_len new_capacity : ℕ} (made count : ℕ) (new : List Event) → made ≡ f.made → count ≡ length now_live → l.nodes < f.made + length now_live → new ≡ h ++ Limit actor id made count ∷ []
        → IsKept (parts (run p l new f) commits new_len new_capacity new_clock true)
    kept-limit made count new given told full grown = kept-end kept (Limit actor id made count) new f grown refl refl
        (limit-legal p l kept.stands.formed m trees actor id w held.may found word (marks_of now_live) made count offspring.incomplete exact (given ∙ is.made) (told ∙ counted) (omega (arith, full, given, told))) refl

    pub ranks-fit : (n : ℕ) → n ≡ f.ranks → All (λ c. c.rank < n) children
    ranks-fit n same = ranks-below p l m.commits w children n (subst (λ k. length p.goal < k) (sym same) kept.stands.queued) offspring.each

    -- those that are live at the kept clock
    pub same-live : live_at clock children ≡ now_live
    same-live = ap (λ n. live_at n children) clock-is

    module _ (room : f.made + length now_live ≤ l.nodes) where
      legal : ExpandIsLegal p l m actor id (marks_of now_live)
      legal = expand-legal p l kept.stands.formed m trees actor id w held.may found word (marks_of now_live) offspring.incomplete exact (omega (arith, room, counted, is.made))

      pub ids-fit : f.made + length now_live < 2 ^ 32
      ids-fit = omega (arith, room, kept.stands.limited.nodes)

      pub kept-expand : {new_len new_capacity : ℕ} (known : ℕ) (new : List Event) (g : FrontierView) → known ≡ length m.commits → g.nodes ≡ kept_nodes.without id f.nodes ++ children_from known w f.made now_live → g.made ≡ f.made + length now_live → g.ranks ≡ f.ranks
          → new ≡ h ++ Expand actor id (marks_of now_live) ∷ [] → new_len < new_capacity → IsKept (parts (run p l new g) commits new_len new_capacity clock over)
      kept-expand known new g all nodes made ranks grown fits = kept-step kept (Expand actor id (marks_of now_live)) new g (still kept none) grown ranks refl legal
          (frontier-expand p l f g m actor id known now_live all (λ c i. all-in (IsChild p l m.commits w) now_live offspring.exact.each c i) nodes (made ∙ ap (λ k. f.made + k) counted) is)
          kept.committed clock-is fits

-- behind an Expand the turn goes on

module _ (r s : RunView) (actor id : ℕ) (children : List Child) (held : Holds r actor id) (wrote : Writes r s (Expand actor id (marks_of (live_at (state r).now children)))) where
  pub expanded-none : has_outcome s.history ≡ false
  expanded-none = none-behind r.history (Expand actor id (marks_of (live_at (state r).now children))) s.history wrote.history (held-none r actor id held) refl

  pub expanded-turn : IsSome (state s).turn
  expanded-turn =
      let after : state s ≡ step s.limits (state_of s.limits r.history) (Expand actor id (marks_of (live_at (state r).now children))) = state-behind s.limits r.history (Expand actor id (marks_of (live_at (state r).now children))) s.history wrote.history in
      let turn : (state_of s.limits r.history).turn ≡ Some (record { actor = actor; acted = false }) = ap (λ l. (state_of l r.history).turn) wrote.task.limits ∙ held.may.turn in
      subst (λ (n : Machine). IsSome n.turn) (sym after) (subst (λ o. IsSome (elim o [ None ↦ None | Some u ↦ Some (record u { acted = true }) ])) (sym turn) refl)
