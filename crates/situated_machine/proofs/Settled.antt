-- What the best node needs at once, by the word of its id.
use Rattle.std.proofs.Common.{◌≡◌, refl, sym, ap, subst, ◌∙◌, ℕ, ◌+◌, ◌<◌, ◌≤◌, ◌⊎◌, inl, inr, ◌==◌, ◌||◌, ◌&&◌, nat_le, Bool, true, false, List, [], Some, arith}
use Rattle.std.proofs.lemmas.Bool.{and_from, eq-eqb, le-leb}
use Rattle.tp_spec.specs.declared.plan.Limits.{Limits}
use Rattle.tp_spec.specs.declared.plan.Mark.{Mark}
use Rattle.tp_spec.specs.declared.plan.Timed.{Timed}
use Rattle.tp_spec.specs.declared.problem.Problem.{Problem}
use Rattle.tp_spec.specs.Machine.{Machine, Node, IsBest, IsDue, IsQuiet, candidate}
use Rattle.tp_spec.specs.Schedules.{Live, IsGreatest, timed_act}
use Rattle.tp_spec.specs.Words.{acts_of}
use Rattle.tp_laws.proofs.ClockActs.{sound-acts}
use Rattle.run_laws.specs.Commitments.{NothingIsDue}
use Rattle.run_laws.proofs.Dispatching.{due-in}
use Rattle.commit_book.specs.Commits.{IsUrgent}
use Rattle.word_network.specs.declared.schedule.Latest.{Latest}
use Rattle.word_network.specs.Schedules.{IsLatest, schedule_of}
use Rattle.situated_machine.specs.Deadlines.{IsLiveUntil, word_in}
use Rattle.situated_machine.specs.Judged.{HasNoLiveBest}
use Rattle.situated_machine.specs.Keeping.{ReplayView}
use Rattle.situated_machine.specs.Laws.{IsOrderly}
use Rattle.situated_machine.specs.Rules.{IsOfBest}
use Rattle.situated_machine.proofs.Deadlines.{early-live}
use Rattle.situated_machine.proofs.Judging.{word-of}
use Rattle.situated_machine.proofs.Single.{best-id, best-word}

-- one act, part by part
pub timed-same : (a b : Timed) → a ≡ b → (a.action == b.action && (a.start == b.start && a.length == b.length)) ≡ true
timed-same a b e =
    and_from _ _ (eq-eqb a.action b.action (ap (λ (c : Timed). c.action) e))
    (and_from _ _ (eq-eqb a.start b.start (ap (λ (c : Timed). c.start) e)) (eq-eqb a.length b.length (ap (λ (c : Timed). c.length) e)))

-- two best nodes have one id
pub one-best : (p : Problem) (ns : List Node) (i j : ℕ) → IsOfBest p ns i → IsOfBest p ns j → i ≡ j
one-best p ns i j a b = sym a.named ∙ best-id p ns a.node b.node a.best b.best ∙ b.named

module _ (r : ReplayView) (o : IsOrderly r.problem r.limits r.machine) (id : ℕ) (best : IsOfBest r.problem r.machine.nodes id) where
  abbrev p : Problem
  p = r.problem

  abbrev l : Limits
  l = r.limits

  abbrev m : Machine
  m = r.machine

  abbrev w : List Mark
  w = word_in r id

  node-word : w ≡ best.node.word
  node-word = word-of p l m o.told_apart id best.node best.best.there best.named

  word-best : (n : Node) → IsBest p m.nodes n → n.word ≡ w
  word-best n h = best-word p m.nodes o.told_apart n best.node h best.best ∙ sym node-word

  pub dead-best : ¬ (Live p l m.now m.commits w) → HasNoLiveBest r
  dead-best dead n h live = dead (subst (λ v. Live p l m.now m.commits v) (word-best n h) live)

  module _ (deadline : ℕ) (until : IsLiveUntil r id deadline) where
    pub alive : Live p l m.now m.commits w
    alive = early-live p l m o w deadline until.timely until.early

    quiet : ((act : Timed) → ¬ (IsDue p l m act)) → IsQuiet p l m
    quiet never = record { node = best.node; best = best.best; live = subst (λ v. Live p l m.now m.commits v) node-word alive; not_urgent = never }

    far-test : (l.horizon < deadline) ⊎ (m.now + l.lead < deadline) → (nat_le (m.now + l.lead + 1) deadline || nat_le (l.horizon + 1) deadline) ≡ true
    far-test (inl past) = or-right (nat_le (m.now + l.lead + 1) deadline) (le-leb (l.horizon + 1) deadline (omega (arith, past))) where
      or-right : (b : Bool) {c : Bool} → c ≡ true → (b || c) ≡ true
      or-right true e = refl
      or-right false e = e
    far-test (inr far) = ap (λ b. b || nat_le (l.horizon + 1) deadline) (le-leb (m.now + l.lead + 1) deadline (omega (arith, far)))

    pub quiet-far : NothingIsDue p l → (l.horizon < deadline) ⊎ (m.now + l.lead < deadline) → IsQuiet p l m
    quiet-far nothing far = quiet (nothing m w deadline (record { told_apart = λ act due. word-best due.node due.best; timely = until.timely }) o.clocked (far-test far))

    -- what the code reads: the commitments and the best node's word
    module _ (cs : List Timed) (v : List Mark) (same : cs ≡ m.commits) (word : v ≡ w) where
      here-at : (P : List Timed → List Mark → Type 0) → P cs v → P m.commits w
      here-at P x = subst (λ u. P m.commits u) word (subst (λ ds. P ds v) same x)

      pub none-dead : ¬ (Live p l m.now cs v) → ⊥
      none-dead dead = here-at (λ ds u. ¬ (Live p l m.now ds u)) dead alive

      module _ (t : Latest) (latest : IsLatest p l m.now cs v t) where
        greatest : IsGreatest p l m.now m.commits w (schedule_of t)
        greatest = here-at (λ ds u. IsGreatest p l m.now ds u (schedule_of t)) latest.greatest

        pub urgent-due : (act : Timed) → IsUrgent p l m.now cs v (schedule_of t) act → IsDue p l m act
        urgent-due act urgent =
            let u : IsUrgent p l m.now m.commits w (schedule_of t) act = here-at (λ ds x. IsUrgent p l m.now ds x (schedule_of t) act) urgent in record {
              node = best.node;
              best = best.best;
              live = subst (λ x. Live p l m.now m.commits x) node-word alive;
              schedule = schedule_of t;
              greatest = subst (λ x. IsGreatest p l m.now m.commits x (schedule_of t)) node-word greatest;
              next = u.next;
              is_next = subst (λ x. candidate [] m.commits (acts_of p x) ≡ Some u.next) node-word u.is_next;
              soon = u.soon;
              is = u.is;
            }

        -- an act that is due is so by each greatest schedule
        due-urgent : (act : Timed) (due : IsDue p l m act) → IsUrgent p l m.now m.commits w (schedule_of t) (timed_act (schedule_of t) due.next)
        due-urgent act due =
            let here : due.node.word ≡ w = word-best due.node due.best in
            let last : IsGreatest p l m.now m.commits due.node.word (schedule_of t) = subst (λ x. IsGreatest p l m.now m.commits x (schedule_of t)) (sym here) greatest in
            let early : (schedule_of t).tick due.next.opens ≤ due.schedule.tick due.next.opens = (due.greatest.last (schedule_of t) last.is).ticks due.next.opens ((sound-acts p due.node.word due.live.sound).opens due.next (due-in p l m act due)) in
            record {
              next = due.next;
              is_next = subst (λ x. candidate [] m.commits (acts_of p x) ≡ Some due.next) here due.is_next;
              soon = omega (arith, early, due.soon);
              is = refl;
            }

        pub quiet-urgent : ((act : Timed) → ¬ (IsUrgent p l m.now cs v (schedule_of t) act)) → IsQuiet p l m
        quiet-urgent never =
            let nothing : (act : Timed) → ¬ (IsUrgent p l m.now m.commits w (schedule_of t) act) = here-at (λ ds u. (act : Timed) → ¬ (IsUrgent p l m.now ds u (schedule_of t) act)) never in
            quiet (λ act due. nothing (timed_act (schedule_of t) due.next) (due-urgent act due))
