-- The deadline of a node under all commitments, and the act that is due of the best one.
use Rattle.std.proofs.Common.{◌≡◌, refl, sym, ap, subst, ◌∙◌, ℕ, ◌+◌, ◌<◌, ◌≤◌, ◌^◌, ◌⊎◌, inl, inr, ◌==◌, ◌||◌, nat_lt, nat_le, Bool, true, false, not, cond, List, [], ◌∷◌, ◌++◌, append-nil, length, map, count_by, Option, Some, None, IfNone, arith}
use Rattle.std.specs.List.{list_all}
use Rattle.std.proofs.lemmas.Bool.{and_parts, and_from, leb-true, le-leb, ltb-true}
use Rattle.tp_spec.specs.declared.event.Event.{Event}
use Rattle.tp_spec.specs.declared.plan.Limits.{Limits}
use Rattle.tp_spec.specs.declared.plan.Mark.{Mark}
use Rattle.tp_spec.specs.declared.plan.Timed.{Timed}
use Rattle.tp_spec.specs.declared.problem.Problem.{Problem}
use Rattle.tp_spec.specs.Lists.{IsIn, each_pair}
use Rattle.tp_spec.specs.Machine.{Machine, IsBest, IsDue, IsSettled, candidate, state_of}
use Rattle.tp_spec.specs.Schedules.{Schedule, Live, IsGreatest, timed_act}
use Rattle.tp_spec.specs.Words.{Act, Sound, acts_of}
use Rattle.tp_laws.specs.Clocks.{IsDeadline}
use Rattle.tp_laws.proofs.ClockActs.{sound-acts}
use Rattle.tp_laws.proofs.ClockCommits.{live-earlier}
use Rattle.tp_laws.proofs.EarlyLists.{each-in, each-true}
use Rattle.tp_laws.proofs.Members.{map-in}
use Rattle.run_laws.specs.Commitments.{NothingIsDue}
use Rattle.run_laws.specs.Histories.{IsTree, is_below}
use Rattle.commit_book.specs.Commits.{IsUrgent}
use Rattle.word_frontier.specs.Nodes.{NodeView, RankedNode, FrontierView, IsCopy, renewed}
use Rattle.word_network.specs.declared.schedule.Latest.{Latest}
use Rattle.word_network.specs.Conditions.{AreCommits}
use Rattle.word_network.specs.Schedules.{IsLatest, schedule_of}
use Rattle.machine_run.specs.Frontiers.{Stands, IsFrontierOf, plain_node}
use Rattle.machine_run.specs.Kept.{IsKept}
use Rattle.machine_run.specs.Settling.{LeastIs, IsDead, IsDeadlineIn, IsCurrent, KeepsDeadline, IsLiveUntil}
use Rattle.machine_run.specs.Turns.{has_outcome}
use Rattle.machine_run.specs.Views.{RunView, state}
use Rattle.machine_run.proofs.Frontiers.{frontier-renew, least-best, stands-in, told-all, told-in}
use Rattle.machine_run.proofs.Legal.{best-word, live-node, until-live}
use Rattle.machine_run.proofs.Nodes.{other-id}
use Rattle.machine_run.proofs.Renewing.{renewed-is}
use Rattle.machine_run.proofs.Standing.{run, parts, tree-stands}
use Rattle.machine_run.proofs.Settling.{still, tree, frontier-is, settled-best}

-- ranked nodes of one id are one node
pub same-ranked : (a b : RankedNode) (ns : List RankedNode) → each_pair (λ x y. not (x.id == y.id)) (map plain_node ns) ≡ true → IsIn a ns → IsIn b ns → a.id ≡ b.id → a ≡ b
same-ranked a b [] apart h k same = absurd h
same-ranked a b (n ∷ ns) apart (inl e) (inl d) same = sym e ∙ d
same-ranked a b (n ∷ ns) apart (inl e) (inr k) same = absurd (other-id (plain_node n) (plain_node b) (map plain_node ns) apart (map-in plain_node b ns k) (ap (λ (x : RankedNode). x.id) e ∙ same))
same-ranked a b (n ∷ ns) apart (inr h) (inl d) same = absurd (other-id (plain_node n) (plain_node a) (map plain_node ns) apart (map-in plain_node a ns h) (ap (λ (x : RankedNode). x.id) d ∙ sym same))
same-ranked a b (n ∷ ns) apart (inr h) (inr k) same = same-ranked a b ns (and_parts _ _ apart).1 h k same

-- commitments within the horizon start in time
early-all : (horizon : ℕ) → horizon ≤ 2 ^ 40 → (cs : List Timed) → list_all (λ c. nat_le (c.start + c.length) horizon) cs ≡ true → list_all (λ c. nat_le c.start (2 ^ 40)) cs ≡ true
early-all horizon near [] h = refl
early-all horizon near (c ∷ cs) h =
    let ends : c.start + c.length ≤ horizon = leb-true (c.start + c.length) horizon (and_parts _ _ h).0 in
    and_from _ _ (le-leb c.start (2 ^ 40) (omega (arith, ends, near))) (early-all horizon near cs (and_parts _ _ h).1)

-- the commitments of a run are as the schedules of words ask
pub commits-fit : (r : RunView) → Stands r → AreCommits r.problem (state r).commits
commits-fit r s =
    let t : IsTree r.problem r.limits (state r) = tree-stands r s in record {
      in_turn = t.committed.in_turn;
      early = early-all r.limits.horizon s.limited.horizon (state r).commits t.committed.within;
      ranged = t.committed.ranged;
    }

-- their number fits 8 bits
pub commits-few : (r : RunView) → Stands r → length (state r).commits < 2 ^ 8
commits-few r s = omega (arith, (tree-stands r s).committed.few, s.limited.actions)

candidate-in : (before : List Act) (cs : List Timed) (xs : List Act) (next : Act) → candidate before cs xs ≡ Some next → IsIn next xs
candidate-in before cs [] next e = absurd cc
candidate-in before cs (x ∷ xs) next e = by_test (candidate-in (before ++ x ∷ []) cs xs next) (nat_lt (count_by (λ y. y.action == x.action) before) (count_by (λ c. c.action == x.action) cs)) e where
  by_test : (candidate (before ++ x ∷ []) cs xs ≡ Some next → IsIn next xs) → (b : Bool) → cond b (candidate (before ++ x ∷ []) cs xs) (Some x) ≡ Some next → IsIn next (x ∷ xs)
  by_test ih true h = inr (ih h)
  by_test ih false h = inl (ap (λ (o : Option Act). elim o [ None ↦ x | Some y ↦ y ]) h)

-- what follows where there is nothing
pub none-then : {V A B : Type 0} (o : Option V) → (A → B) → IfNone o A → IfNone o B
none-then None f h = f h
none-then (Some x) f h = h

-- an act is due of a word by each of its greatest schedules
soon-too : (p : Problem) (l : Limits) (now : ℕ) (commits : List Timed) (w : List Mark) (x y : Schedule) (next : Act) → Sound p w → IsGreatest p l now commits w x → IsGreatest p l now commits w y → candidate [] commits (acts_of p w) ≡ Some next
    → x.tick next.opens ≤ now + l.lead → y.tick next.opens ≤ now + l.lead
soon-too p l now commits w x y next sound last other is soon =
    let early : y.tick next.opens ≤ x.tick next.opens = (last.last y other.is).ticks next.opens ((sound-acts p w sound).opens next (candidate-in [] commits (acts_of p w) next is)) in
    omega (arith, early, soon)

module _ {p : Problem} {l : Limits} {h : List Event} {f : FrontierView} {commits : List Timed} {len capacity clock : ℕ} {over : Bool} (kept : IsKept (parts (run p l h f) commits len capacity clock over)) (none : has_outcome h ≡ false) where
  abbrev m : Machine
  m = state_of l h

  trees : IsTree p l m
  trees = tree kept none

  is : IsFrontierOf p l f m
  is = frontier-is kept none

  pub one-node : (a b : RankedNode) → IsIn a f.nodes → IsIn b f.nodes → a.id ≡ b.id → a ≡ b
  one-node a b i k same = same-ranked a b f.nodes (subst (λ ns. each_pair (λ x y. not (x.id == y.id)) ns ≡ true) (sym is.nodes) trees.told_apart) i k same

  -- the word of a node
  pub word-sound : (n : RankedNode) → IsIn n f.nodes → Sound p n.word
  word-sound n there = (trees.live (plain_node n) (stands-in p l f m n is there)).sound

  pub word-few : (n : RankedNode) → IsIn n f.nodes → length n.word < 2 ^ 31
  word-few n there =
      let stands : IsIn (plain_node n) m.nodes = stands-in p l f m n is there in
      let given : n.id < m.made = ltb-true n.id m.made (each-in (λ k. is_below m.made k ≡ true) m.nodes (plain_node n) (each-true (is_below m.made) m.nodes trees.below) stands) in
      omega (arith, trees.short (plain_node n) stands, given, trees.few, kept.stands.limited.nodes)

  -- what is kept of a node under all commitments
  pub kept-deadline : (id : ℕ) (n : RankedNode) → IsIn n f.nodes → n.id ≡ id → n.known ≡ length m.commits → KeepsDeadline (run p l h f) id n.deadline
  kept-deadline id n there named known k i same =
      let e : n ≡ k = one-node n k there i (named ∙ sym same) in
      record { known = subst (λ (x : RankedNode). x.known ≡ length m.commits) e known; deadline_is = ap (λ (x : RankedNode). x.deadline) (sym e) }

  -- what is found of a node's word
  module _ (id : ℕ) (v : NodeView) (copy : IsCopy f.nodes id v) where
    pub copy-word : (n : RankedNode) → IsIn n f.nodes → n.id ≡ id → v.word ≡ n.word
    copy-word n there named = ap (λ (x : NodeView). x.word) copy.is ∙ ap (λ (x : RankedNode). x.word) (one-node copy.node n copy.there there (copy.id_is ∙ sym named))

    pub copy-sound : Sound p v.word
    copy-sound = subst (λ w. Sound p w) (sym (copy-word copy.node copy.there copy.id_is)) (word-sound copy.node copy.there)

    pub copy-few : length v.word < 2 ^ 31
    copy-few = subst (λ w. length w < 2 ^ 31) (sym (copy-word copy.node copy.there copy.id_is)) (word-few copy.node copy.there)

    pub found-deadline : (deadline : ℕ) → IsDeadline p l commits v.word deadline → IsDeadlineIn (run p l h f) id deadline
    found-deadline deadline d n there named = subst (λ cs. IsDeadline p l cs n.word deadline) kept.committed (subst (λ w. IsDeadline p l commits w deadline) (copy-word n there named) d)

    pub found-dead : ¬ (Live p l 0 commits v.word) → IsDead (run p l h f) id
    found-dead dead n there named live = dead
        (subst (λ cs. Live p l 0 cs v.word) (sym kept.committed) (subst (λ w. Live p l 0 m.commits w) (sym (copy-word n there named))
        (live-earlier p l m.commits n.word 0 m.now [] (omega arith) (λ d i. absurd i) (subst (λ cs. Live p l m.now cs n.word) (sym (append-nil m.commits)) live))))

  -- a deadline is kept
  module _ (id deadline known : ℕ) (g : FrontierView) (nodes : g.nodes ≡ map (renewed id deadline known) f.nodes) (all : known ≡ length m.commits) where
    pub kept-renew : IsDeadlineIn (run p l h f) id deadline → g.made ≡ f.made → g.ranks ≡ f.ranks → IsKept (parts (run p l h g) commits len capacity clock over)
    kept-renew timely made ranks = record {
      stands = record {
        formed = kept.stands.formed;
        limited = kept.stands.limited;
        run = kept.stands.run;
        queued = subst (λ n. length p.goal < n) (sym ranks) kept.stands.queued;
        frontier = λ _. frontier-renew p l f g m id deadline known nodes made all timely is;
      };
      committed = kept.committed;
      told = kept.told;
      clocked = kept.clocked;
      room = kept.room;
    }

    pub renew-keeps : KeepsDeadline (run p l h g) id deadline
    renew-keeps n i same =
        let told = renewed-is id deadline known n f.nodes (subst (λ ns. IsIn n ns) nodes i) same in
        record { known = told.0 ∙ all; deadline_is = told.1 }

  -- a kept deadline that has passed
  pub late-dead : (id deadline : ℕ) → KeepsDeadline (run p l h f) id deadline → deadline < clock → IsDead (run p l h f) id
  late-dead id deadline keeps late n there named live =
      let current : IsCurrent (run p l h f) deadline n = keeps n there named in
      let early : m.now ≤ n.deadline = until-live p l kept.stands.formed m trees n.word n.deadline (told-all p l m.commits n (told-in p l f m is n there) current.known) live in
      absurd (omega (arith, early, current.deadline_is, late, kept.clocked (still kept none)))

  pub live-until : (id deadline : ℕ) → KeepsDeadline (run p l h f) id deadline → clock ≤ deadline → IsLiveUntil (run p l h f) id deadline
  live-until id deadline keeps early = record { kept = keeps; early = omega (arith, early, kept.clocked (still kept none)) }

  -- the act that is due of the best node
  module _ (id deadline : ℕ) (best : LeastIs f.nodes id) (live : IsLiveUntil (run p l h f) id deadline) where
    abbrev n : RankedNode
    n = best.node

    current : IsCurrent (run p l h f) deadline n
    current = live.kept n best.least.there best.id_is

    is-best : IsBest p m.nodes (plain_node n)
    is-best = least-best p l f m n is best.least

    pub alive : Live p l m.now m.commits n.word
    alive = live-node p l kept.stands.formed m trees f is n best.least.there current.known (omega (arith, current.deadline_is, live.early))

    word-of-due : (act : Timed) (due : IsDue p l m act) → due.node.word ≡ n.word
    word-of-due act due = best-word p l kept.stands.formed m trees due.node (plain_node n) due.best is-best

    timely : IsDeadline p l m.commits n.word deadline
    timely = subst (λ d. IsDeadline p l m.commits n.word d) current.deadline_is (told-all p l m.commits n (told-in p l f m is n best.least.there) current.known)

    far-test : (l.horizon < deadline) ⊎ (clock + l.lead < deadline) → (nat_le (m.now + l.lead + 1) deadline || nat_le (l.horizon + 1) deadline) ≡ true
    far-test (inl past) = or-right (nat_le (m.now + l.lead + 1) deadline) (le-leb (l.horizon + 1) deadline (omega (arith, past))) where
      or-right : (b : Bool) {c : Bool} → c ≡ true → (b || c) ≡ true
      or-right true e = refl
      or-right false e = e
    far-test (inr far) = ap (λ b. b || nat_le (l.horizon + 1) deadline) (le-leb (m.now + l.lead + 1) deadline (omega (arith, far, kept.clocked (still kept none))))

    pub settled-far : NothingIsDue p l → (l.horizon < deadline) ⊎ (clock + l.lead < deadline) → IsSettled p l m
    settled-far nothing far = settled-best (run p l h f) id deadline kept.stands none best live (λ act due. nothing m n.word deadline (record { told_apart = word-of-due; timely = timely }) trees.clocked (far-test far) act due)

    module _ (cs : List Timed) (w : List Mark) (same : cs ≡ commits) (word : w ≡ n.word) where
      here-at : (P : ℕ → List Timed → List Mark → Type 0) → P clock cs w → P m.now m.commits n.word
      here-at P x = subst (λ v. P m.now m.commits v) word (subst (λ ds. P m.now ds w) (same ∙ kept.committed) (subst (λ t. P t cs w) (kept.clocked (still kept none)) x))

      pub dead-none : ¬ (Live p l clock cs w) → ⊥
      dead-none dead = here-at (λ t ds v. ¬ (Live p l t ds v)) dead alive

      module _ (t : Latest) (latest : IsLatest p l clock cs w t) where
        greatest : IsGreatest p l m.now m.commits n.word (schedule_of t)
        greatest = here-at (λ s ds v. IsGreatest p l s ds v (schedule_of t)) latest.greatest

        pub urgent-due : (act : Timed) → IsUrgent p l clock cs w (schedule_of t) act → IsDue p l m act
        urgent-due act urgent =
            let u : IsUrgent p l m.now m.commits n.word (schedule_of t) act = here-at (λ s ds v. IsUrgent p l s ds v (schedule_of t) act) urgent in record {
              node = plain_node n;
              best = is-best;
              live = alive;
              schedule = schedule_of t;
              greatest = greatest;
              next = u.next;
              is_next = u.is_next;
              soon = u.soon;
              is = u.is;
            }

        none-urgent : ((act : Timed) → ¬ (IsUrgent p l clock cs w (schedule_of t) act)) → (act : Timed) → ¬ (IsDue p l m act)
        none-urgent never act due =
            let nothing : (a : Timed) → ¬ (IsUrgent p l m.now m.commits n.word (schedule_of t) a) = here-at (λ s ds v. (a : Timed) → ¬ (IsUrgent p l s ds v (schedule_of t) a)) never in
            let same_word : due.node.word ≡ n.word = word-of-due act due in
            let next_is : candidate [] m.commits (acts_of p n.word) ≡ Some due.next = subst (λ v. candidate [] m.commits (acts_of p v) ≡ Some due.next) same_word due.is_next in
            nothing (timed_act (schedule_of t) due.next) (record {
              next = due.next;
              is_next = next_is;
              soon = soon-too p l m.now m.commits n.word due.schedule (schedule_of t) due.next alive.sound (subst (λ v. IsGreatest p l m.now m.commits v due.schedule) same_word due.greatest) greatest next_is due.soon;
              is = refl;
            })

        pub settled-urgent : ((act : Timed) → ¬ (IsUrgent p l clock cs w (schedule_of t) act)) → IsSettled p l m
        settled-urgent never = settled-best (run p l h f) id deadline kept.stands none best live (none-urgent never)
