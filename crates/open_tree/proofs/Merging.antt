-- What a merge knows of its sprouts, and what its turn gives.
use Rattle.std.proofs.Common.{◌≡◌, refl, sym, ap, subst, ◌∙◌, ℕ, ◌+◌, ◌≤◌, ◌^◌, inl, inr, All, nat_le, ◌||◌, ◌&&◌, ◌==◌, Bool, true, false, cond, List, [], ◌∷◌, ◌++◌, length, map, Option, Some, None, Result, Ok, Err, IfOk, IfSome, IfNone, OnOk, OnErr, arith, append_assoc, append-nil}
use Rattle.std.specs.List.{list_all, list_any}
use Rattle.std.proofs.lemmas.Bool.{and_parts, and_from, eq-eqb, eqb-true, false≢true, leb-true, le-leb}
use Rattle.std.proofs.lemmas.List.{length-append}
use Rattle.tp_spec.specs.declared.event.Event.{Event}
use Rattle.tp_spec.specs.declared.event.Event.TheVariants.{Take, Expand, Publish, Limit}
use Rattle.tp_spec.specs.declared.plan.Limits.{Limits}
use Rattle.tp_spec.specs.declared.plan.Mark.{Mark}
use Rattle.tp_spec.specs.declared.plan.Plan.{Plan}
use Rattle.tp_spec.specs.declared.plan.Timed.{Timed}
use Rattle.tp_spec.specs.declared.problem.Problem.{Problem}
use Rattle.tp_spec.specs.Lists.{IsIn, is_empty}
use Rattle.tp_spec.specs.Machine.{MayAct}
use Rattle.tp_spec.specs.Schedules.{Live, awaited}
use Rattle.tp_spec.specs.Words.{acts_of, progress}
use Rattle.tp_laws.specs.Plans.{OfFormed, is_whole, none_run}
use Rattle.tp_laws.proofs.Members.{map-in}
use Rattle.run_laws.specs.Commitments.{CommitsGrow}
use Rattle.run_laws.specs.Histories.{IsTree, RunsLeadToTrees}
use Rattle.word_frontier.specs.declared.child.Child.{Child}
use Rattle.word_frontier.specs.Nodes.{RankedNode, is_taken, is_taker, word_at, live_at}
use Rattle.word_network.specs.Schedules.{IsEarliest}
use Rattle.machine_run.specs.Children.{AreChildren, IsChild}
use Rattle.machine_run.specs.Frontiers.{Stands, IsFrontierOf, plain_node}
use Rattle.machine_run.specs.Turns.{IsTurn, Grows, has_outcome, is_outcome}
use Rattle.machine_run.specs.Views.{RunView, state}
use Rattle.machine_run.proofs.Outcomes.{over-of}
use Rattle.open_tree.specs.declared.job.Merged.{Merged}
use Rattle.open_tree.specs.declared.job.Merged.TheVariants as merged
use Rattle.open_tree.specs.Answers.{GivesMerged, IsDeedOn}
use Rattle.open_tree.specs.Broods.{AreRenewed}
use Rattle.open_tree.specs.Jobs.{IsJobOf, AreSprouts}
use Rattle.open_tree.specs.Steps.{AreBrood, AreReady, DoesDeed, EndsTurn, Finishes, HasNoPlan, IsPublication}
use Rattle.open_tree.specs.Views.{JobView, SproutsView}
use Rattle.open_tree.proofs.Held.{JobStands, job-stands}
use Rattle.open_tree.proofs.Offspring.{children-later, each-later, told-same, part-spells, lacking-spells, dead-spells, whole-ended, empty-none}
use Rattle.open_tree.proofs.Turns.{HoldsNone, outcome-behind, settled-over, turn-deed, readings-turn}

-- a job of a history is one of a longer history
pub job-later : (l : Limits) (old new : List Event) (actor : ℕ) (job : JobView) → Grows old new → IsJobOf l old actor job → IsJobOf l new actor job
job-later l old new actor job g j = record {
  front = j.front;
  rest = j.rest ++ g.more;
  split = g.grown ∙ ap (λ h. h ++ g.more) j.split ∙ append_assoc (j.front ++ Take actor job.id ∷ []) j.rest g.more;
  node = j.node;
  taken = j.taken;
  word = j.word;
  clock = j.clock;
  commits = j.commits;
}

-- the word of a node that an actor took
word-taken : (actor id : ℕ) (w : List Mark) (ns : List RankedNode) → ((n : RankedNode) → IsIn n ns → n.id ≡ id → n.word ≡ w) → is_taken actor id ns ≡ true → word_at id ns ≡ w
word-taken actor id w [] word e = absurd (false≢true e)
word-taken actor id w (n ∷ ns) word e = by_test (n.id == id) refl (word-taken actor id w ns (λ k i. word k (inr i))) e where
  by_test : (b : Bool) → (n.id == id) ≡ b → (is_taken actor id ns ≡ true → word_at id ns ≡ w) → ((b && is_taker actor n.taker) || is_taken actor id ns) ≡ true → cond b n.word (word_at id ns) ≡ w
  by_test true t ih h = word n (inl refl) (eqb-true n.id id t)
  by_test false t ih h = ih h

-- no node of an id stands that its actor did not take
none-stands : (actor id : ℕ) (ns : List RankedNode) → ((n : RankedNode) → IsIn n ns → n.id ≡ id → n.taker ≡ Some actor) → is_taken actor id ns ≡ false → list_any (λ n. n.id == id) (map plain_node ns) ≡ false
none-stands actor id [] taken e = refl
none-stands actor id (n ∷ ns) taken e = by_test (n.id == id) refl (none-stands actor id ns (λ k i. taken k (inr i))) e where
  by_test : (b : Bool) → (n.id == id) ≡ b → (is_taken actor id ns ≡ false → list_any (λ k. k.id == id) (map plain_node ns) ≡ false) → ((b && is_taker actor n.taker) || is_taken actor id ns) ≡ false → (b || list_any (λ k. k.id == id) (map plain_node ns)) ≡ false
  by_test true t ih h =
      let taker : is_taker actor n.taker ≡ true = ap (is_taker actor) (taken n (inl refl) (eqb-true n.id id t)) ∙ eq-eqb actor actor refl in
      absurd (false≢true (sym h ∙ ap (λ b. b || is_taken actor id ns) taker))
  by_test false t ih h = ih h

no-length : {A : Type 0} (xs : List A) → length xs ≡ 0 → xs ≡ []
no-length [] e = refl
no-length (x ∷ xs) e = absurd (omega (arith, e))

-- commitments that end within a horizon start by the greatest one
early-starts : (horizon : ℕ) (cs : List Timed) → horizon ≤ 2 ^ 40 → list_all (λ c. nat_le (c.start + c.length) horizon) cs ≡ true → list_all (λ c. nat_le c.start (2 ^ 40)) cs ≡ true
early-starts horizon [] top h = refl
early-starts horizon (c ∷ cs) top h =
    and_from _ _ (le-leb c.start (2 ^ 40) (omega (arith, top, leb-true (c.start + c.length) horizon (and_parts _ _ h).0))) (early-starts horizon cs top (and_parts _ _ h).1)

module _ (r : RunView) (actor : ℕ) (s : SproutsView) (stands : Stands r) (runs : OfFormed RunsLeadToTrees) (grow : OfFormed CommitsGrow)
    (none : has_outcome r.history ≡ false) (of : IsJobOf r.limits r.history actor s.job) where
  job : JobStands r.problem r.limits r.history actor s.job
  job = job-stands r.problem r.limits (runs r.problem r.limits stands.formed) (grow r.problem r.limits stands.formed) r.history actor s.job stands.run of

  frontier : IsFrontierOf r.problem r.limits r.frontier (state r)
  frontier = stands.frontier none

  plain-in : (n : RankedNode) → IsIn n r.frontier.nodes → IsIn (plain_node n) (state r).nodes
  plain-in n i = subst (λ ns. IsIn (plain_node n) ns) frontier.nodes (map-in plain_node n r.frontier.nodes i)

  -- the node is gone where the actor's one does not stand
  pub left : is_taken actor s.job.id r.frontier.nodes ≡ false → list_any (λ n. n.id == s.job.id) (state r).nodes ≡ false
  left e = subst (λ ns. list_any (λ n. n.id == s.job.id) ns ≡ false) frontier.nodes
      (none-stands actor s.job.id r.frontier.nodes (λ n i. job.held.taker (plain_node n) (plain-in n i)) e)

  pub ready : AreSprouts s → s.job.problem ≡ r.problem → s.job.limits ≡ r.limits → is_taken actor s.job.id r.frontier.nodes ≡ true → AreReady r s
  ready are problem limits taken =
      let t : IsTree r.problem r.limits (state r) = runs r.problem r.limits stands.formed r.history stands.run in
      let w : List Mark = s.job.node.word in
      let few_nodes : r.limits.nodes ≤ 200000 = stands.limited.nodes in
      let horizon : r.limits.horizon ≤ 2 ^ 40 = stands.limited.horizon in
      record {
        formed = stands.formed;
        limited = stands.limited;
        clocked = t.clocked;
        soon = omega (arith, t.clocked, horizon);
        committed = record {
          in_turn = t.committed.in_turn;
          early = early-starts r.limits.horizon (state r).commits horizon t.committed.within;
          ranged = t.committed.ranged;
        };
        word = word-taken actor s.job.id w r.frontier.nodes (λ n i. job.held.word (plain_node n) (plain-in n i)) taken;
        sound = job.live.sound;
        few = omega (arith, job.short, job.held.given, t.few, few_nodes);
        told = are.told ∙ ap (λ p. is_whole p w) problem;
        later = job.clock;
        more = job.more;
        grown = job.grown;
        from = job.from;
        sprouted =
            subst (λ l. AreChildren r.problem l s.job.clock s.job.commits w s.children) limits
            (subst (λ p. AreChildren p s.job.limits s.job.clock s.job.commits w s.children) problem are.exact);
      }

-- a deed on a node holds no reading
deed-reads : (actor id : ℕ) (e : Event) → IsDeedOn actor id e → HoldsNone (Some e)
deed-reads actor id e (inl h) = subst (λ d. HoldsNone (Some d)) (sym h.1) refl
deed-reads actor id e (inr (inl h)) = subst (λ d. HoldsNone (Some d)) (sym h.1) refl
deed-reads actor id e (inr (inr h)) = subst (λ d. HoldsNone (Some d)) (sym h.2) refl

module _ (old mid new : RunView) (actor reading id : ℕ) (turn : IsTurn old.history mid.history actor reading None) where
  pub merge-gives : (l : Limits) (answer : Merged) → Finishes mid new actor id answer → GivesMerged l old.history new.history actor reading id answer
  merge-gives l merged.Done f = record { marks = f.0; turn = turn-deed (Expand actor id f.0) turn f.1.events; standing = f.2 }
  merge-gives l merged.Stale f = absurd f
  merge-gives l merged.Over f = record { deed = Some f.0; turn = turn-deed f.0 turn f.1.events; outcome = f.3; on = inr (f.0, refl, f.2) }

  pub merge-ends : (answer : Merged) → Finishes mid new actor id answer → EndsTurn old new reading
  merge-ends merged.Done f = record { read = readings-turn refl (turn-deed (Expand actor id f.0) turn f.1.events); settled = f.1.settled }
  merge-ends merged.Stale f = absurd f
  merge-ends merged.Over f = record { read = readings-turn (deed-reads actor id f.0 f.2) (turn-deed f.0 turn f.1.events); settled = f.1.settled }

-- what the call for a plan, and for children, was asked about is what is known of a job
module _ (r : RunView) (s : SproutsView) (known : AreReady r s) {q : Problem} {cs : List Timed} {w : List Mark}
    (problem : q ≡ r.problem) (commits : cs ≡ (state r).commits) (word : w ≡ s.job.node.word) where
  held-by : is_empty (awaited (acts_of q w) cs) ≡ is_empty (awaited (acts_of r.problem s.job.node.word) (state r).commits)
  held-by = λ i. is_empty (awaited (acts_of (problem i) (word i)) (commits i))

  -- the plan of a whole word that has each commitment and is live now
  pub publication : {k : Limits} {n : ℕ} → s.whole ≡ true → is_empty (awaited (acts_of q w) cs) ≡ true → k ≡ r.limits → n ≡ (state r).now
      → (plan : Plan) → IsEarliest q k n cs w plan → IsPublication r s.job.id plan
  publication {k} {n} whole held limits now plan earliest = record {
    whole = ap (is_whole r.problem) known.word ∙ sym known.told ∙ whole;
    all = ap (λ v. awaited (acts_of r.problem v) (state r).commits) known.word
        ∙ empty-none (awaited (acts_of r.problem s.job.node.word) (state r).commits) (sym held-by ∙ held);
    earliest =
        subst (λ v. IsEarliest r.problem r.limits (state r).now (state r).commits v plan) (word ∙ sym known.word)
        (subst (λ ds. IsEarliest r.problem r.limits (state r).now ds w plan) commits
        (subst (λ m. IsEarliest r.problem r.limits m cs w plan) now
        (subst (λ j. IsEarliest r.problem j n cs w plan) limits
        (subst (λ p. IsEarliest p k n cs w plan) problem earliest))));
  }

  -- a word that is dead now is no plan's ..
  pub dead-plan : {k : Limits} {n : ℕ} → k ≡ r.limits → n ≡ (state r).now → ¬ (Live q k n cs w) → HasNoPlan r s.job.id
  dead-plan {k} {n} limits now dead plan possible is =
      let not_live : ¬ (Live r.problem r.limits (state r).now (state r).commits w) =
      subst (λ ds. ¬ (Live r.problem r.limits (state r).now ds w)) commits
      (subst (λ m. ¬ (Live r.problem r.limits m cs w)) now (subst (λ j. ¬ (Live r.problem j n cs w)) limits (subst (λ p. ¬ (Live p k n cs w)) problem dead))) in
      dead-spells r.problem r.limits known.formed w (state r).now (state r).commits known.committed.in_turn not_live plan possible (is ∙ known.word ∙ sym word)

  -- .. and neither is one that lacks a commitment ..
  pub lacking-plan : is_empty (awaited (acts_of q w) cs) ≡ false → HasNoPlan r s.job.id
  lacking-plan lacks plan possible is =
      lacking-spells r.problem r.limits known.formed s.job.node.word (state r).now (state r).commits known.committed.in_turn (sym held-by ∙ lacks) plan possible (is ∙ known.word)

  pub none-awaited : is_empty (awaited (acts_of q w) cs) ≡ true → awaited (acts_of q w) cs ≡ []
  none-awaited = empty-none (awaited (acts_of q w) cs)

  -- nothing runs after a whole word
  pub none-runs : s.whole ≡ true → none_run q (progress q w) ≡ true
  none-runs whole = (λ i. none_run (problem i) (progress (problem i) (word i))) ∙ whole-ended r.problem s.job.node.word (sym known.told ∙ whole)

-- .. or is not whole
pub part-plan : (r : RunView) (s : SproutsView) → AreReady r s → s.whole ≡ false → HasNoPlan r s.job.id
part-plan r s known part plan possible is =
    part-spells r.problem r.limits known.formed s.job.node.word (sym known.told ∙ part) (state r).now (state r).commits plan possible (is ∙ known.word)

-- the children of a job under the run's commitments
module _ (r : RunView) (s : SproutsView) (known : AreReady r s) where
  abbrev Told : List Timed → List Child → Type 0
  Told cs news = AreRenewed r.problem r.limits cs s.job.node.word s.children news

  pub told-brood : (news : List Child) → Told (state r).commits news → AreBrood r s.job.id news
  told-brood news told =
      let w : List Mark = s.job.node.word in
      let grown : Told (s.job.commits ++ known.more) news = subst (λ cs. Told cs news) known.grown told in
      let exact : AreChildren r.problem r.limits (state r).now (s.job.commits ++ known.more) w (live_at (state r).now news) =
      children-later r.problem r.limits s.job.clock (state r).now s.job.commits known.more w s.children news known.later known.clocked known.from known.sprouted grown in
      let each : All (IsChild r.problem r.limits (s.job.commits ++ known.more) w) news =
      each-later r.problem r.limits s.job.clock (state r).now s.job.commits known.more w s.children news known.later known.clocked known.from known.sprouted grown in
      record {
        exact = subst (λ v. AreChildren r.problem r.limits (state r).now (state r).commits v (live_at (state r).now news)) (sym known.word)
            (subst (λ cs. AreChildren r.problem r.limits (state r).now cs w (live_at (state r).now news)) (sym known.grown) exact);
        each = subst (λ v. All (IsChild r.problem r.limits (state r).commits v) news) (sym known.word)
            (subst (λ cs. All (IsChild r.problem r.limits cs w) news) (sym known.grown) each);
      }

  -- where nothing was committed since they are as they were
  pub same-brood : length (state r).commits ≡ length s.job.commits → AreBrood r s.job.id s.children
  same-brood counted =
      let w : List Mark = s.job.node.word in
      let count : length (state r).commits ≡ length s.job.commits + length known.more = ap length known.grown ∙ length-append s.job.commits known.more in
      let none : known.more ≡ [] = no-length known.more (omega (arith, count, counted)) in
      let same : (state r).commits ≡ s.job.commits = known.grown ∙ ap (λ cs. s.job.commits ++ cs) none ∙ append-nil s.job.commits in
      told-brood s.children (told-same r.problem r.limits (state r).commits w s.children (subst (λ cs. All (IsChild r.problem r.limits cs w) s.children) (sym same) known.sprouted.each))

-- what some found value says, and what none says
pub some-ok : {A E : Type 0} (P Q : A → Type 0) (r : Result (Option A) E) → ((x : A) → P x → Q x) → IfOk r (λ o. IfSome o P) → IfOk r (λ o. IfSome o Q)
some-ok P Q (Ok (Some x)) f h = f x h
some-ok P Q (Ok None) f h = h
some-ok P Q (Err e) f h = h

pub none-ok : {A E : Type 0} (P Q : Type 0) (r : Result (Option A) E) → (P → Q) → IfOk r (λ o. IfNone o P) → IfOk r (λ o. IfNone o Q)
none-ok P Q (Ok (Some x)) f h = h
none-ok P Q (Ok None) f h = f h
none-ok P Q (Err e) f h = h

-- while an actor may act no outcome stands
pub acts-standing : (r : RunView) (actor : ℕ) → MayAct r.problem r.limits (state r) actor → has_outcome r.history ≡ false
acts-standing r actor may = sym (over-of r.limits r.history) ∙ may.between.standing

pub on-err : {A E : Type 0} (r : Result A E) (P : Type 0) → P → OnErr r P
on-err (Ok x) P h = tt
on-err (Err e) P h = h

-- a deed behind which an outcome stands
pub deed-ends : (old new : RunView) (deed : Event) → is_outcome deed ≡ true → new.history ≡ old.history ++ deed ∷ [] → DoesDeed old new deed × (has_outcome new.history ≡ true)
deed-ends old new deed ends is =
    let over : has_outcome new.history ≡ true = ap has_outcome is ∙ outcome-behind old.history deed ends in
    (record { events = record { events = []; grown = is ∙ sym (append-nil (old.history ++ deed ∷ [])); settling = refl }; settled = settled-over new.problem new.limits new.history over }, over)

-- a Publish and a Limit end the search
pub publish-finishes : (old new : RunView) (actor id k : ℕ) (plan : Plan) → k ≡ id → new.history ≡ old.history ++ Publish actor k plan ∷ [] → Finishes old new actor id merged.Over
publish-finishes old new actor id k plan e is =
    let ends = deed-ends old new (Publish actor k plan) refl is in (Publish actor k plan, ends.0, inr (inl (plan, ap (λ j. Publish actor j plan) e)), ends.1)

pub limit-finishes : (old new : RunView) (actor id k made marks : ℕ) → k ≡ id → new.history ≡ old.history ++ Limit actor k made marks ∷ [] → Finishes old new actor id merged.Over
limit-finishes old new actor id k made marks e is =
    let ends = deed-ends old new (Limit actor k made marks) refl is in (Limit actor k made marks, ends.0, inr (inr (made, marks, ap (λ j. Limit actor j made marks) e)), ends.1)

-- what a turn of a merge gives and how it ends, by its deed
pub merged-ok : {E : Type 0} (l : Limits) (old mid new : RunView) (actor reading id : ℕ) (answer : Result Merged E) → IsTurn old.history mid.history actor reading None
    → IfOk answer (Finishes mid new actor id) → IfOk answer (GivesMerged l old.history new.history actor reading id)
merged-ok l old mid new actor reading id (Ok answer) turn f = merge-gives old mid new actor reading id turn l answer f
merged-ok l old mid new actor reading id (Err e) turn f = tt

pub ends-ok : {E : Type 0} (old mid new : RunView) (actor reading id : ℕ) (answer : Result Merged E) → IsTurn old.history mid.history actor reading None
    → IfOk answer (Finishes mid new actor id) → OnOk answer (EndsTurn old new reading)
ends-ok old mid new actor reading id (Ok answer) turn f = merge-ends old mid new actor reading id turn answer f
ends-ok old mid new actor reading id (Err e) turn f = tt
