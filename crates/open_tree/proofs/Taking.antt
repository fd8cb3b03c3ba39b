-- What a turn of a take gives.
use Rattle.std.proofs.Common.{◌≡◌, refl, sym, ap, subst, ◌∙◌, ℕ, [], ◌∷◌, ◌++◌, append-nil, Some, None}
use Rattle.tp_spec.specs.declared.event.Event.TheVariants.{Take}
use Rattle.tp_spec.specs.Machine.{Machine, IsTaken, rank, state_of}
use Rattle.tp_spec.specs.Schedules.{Live}
use Rattle.tp_laws.specs.Clocks.{IsDeadline}
use Rattle.word_frontier.specs.Nodes.{NodeView}
use Rattle.machine_run.specs.Deeds.{Takes, TookNode, SameTask}
use Rattle.machine_run.specs.Turns.{IsTurn}
use Rattle.machine_run.specs.Views.{RunView, state}
use Rattle.open_tree.specs.Views.{JobView}
use Rattle.open_tree.specs.Answers.{GivesJob}
use Rattle.open_tree.specs.Steps.{EndsTurn}
use Rattle.open_tree.proofs.Turns.{turn-settles, turn-deed, readings-turn}

module _ (old mid new : RunView) (actor reading : ℕ) (id : ℕ) (v : NodeView)
    (turn : IsTurn old.history mid.history actor reading None) (takes : Takes mid new actor id v) where
  whole-turn : IsTurn old.history new.history actor reading (Some (Take actor id))
  whole-turn =
      let s = takes.events.took in
      turn-deed (Take actor id) (turn-settles turn takes.events.settling) (record { events = []; grown = takes.events.took ∙ sym (append-nil (takes.events.middle ++ Take actor id ∷ [])); settling = refl })

  pub take-ends : EndsTurn old new reading
  take-ends = record { read = readings-turn refl whole-turn; settled = takes.rested.settled }

  pub gives-job : (job : JobView) → SameTask old new → job.problem ≡ new.problem → job.limits ≡ new.limits → job.id ≡ id → job.node ≡ v → job.clock ≡ (state new).now → job.commits ≡ (state new).commits
      → GivesJob old.problem old.limits old.history new.history actor reading job
  gives-job job task problem limits named is clock commits =
      let n : TookNode new actor id v = takes.node in
      let here : state new ≡ state_of old.limits (takes.events.middle ++ Take actor job.id ∷ []) =
      (λ i. state_of (task.limits i) (takes.events.took i)) ∙ ap (λ k. state_of old.limits (takes.events.middle ++ Take actor k ∷ [])) (sym named) in
      let same : (state new).commits ≡ job.commits = sym commits in
      let live : Live old.problem old.limits job.clock job.commits job.node.word =
      subst (λ (w : NodeView). Live old.problem old.limits job.clock job.commits w.word) (sym is)
      (subst (λ cs. Live old.problem old.limits job.clock cs v.word) same
      (subst (λ k. Live old.problem old.limits k (state new).commits v.word) (sym clock)
      (subst (λ k. Live old.problem k (state new).now (state new).commits v.word) task.limits
      (subst (λ q. Live q new.limits (state new).now (state new).commits v.word) task.problem n.live)))) in
      let timely : IsDeadline old.problem old.limits job.commits job.node.word job.node.deadline =
      subst (λ (w : NodeView). IsDeadline old.problem old.limits job.commits w.word w.deadline) (sym is)
      (subst (λ cs. IsDeadline old.problem old.limits cs v.word v.deadline) same
      (subst (λ k. IsDeadline old.problem k (state new).commits v.word v.deadline) task.limits
      (subst (λ q. IsDeadline q new.limits (state new).commits v.word v.deadline) task.problem n.timely))) in
      record {
        turn = subst (λ k. IsTurn old.history new.history actor reading (Some (Take actor k))) (sym named) whole-turn;
        standing = takes.rested.standing;
        problem = problem ∙ task.problem;
        limits = limits ∙ task.limits;
        job = record {
          front = takes.events.middle;
          rest = [];
          split = takes.events.took ∙ ap (λ k. takes.events.middle ++ Take actor k ∷ []) (sym named) ∙ sym (append-nil (takes.events.middle ++ Take actor job.id ∷ []));
          node = n.node;
          taken = subst (λ k. IsTaken (state_of old.limits (takes.events.middle ++ Take actor job.id ∷ [])) actor k n.node) (sym named) (subst (λ m. IsTaken m actor id n.node) here n.taken);
          word = ap (λ (w : NodeView). w.word) is ∙ n.word;
          clock = clock ∙ ap (λ (m : Machine). m.now) here;
          commits = commits ∙ ap (λ (m : Machine). m.commits) here;
        };
        live = live;
        ranked = ap (λ (w : NodeView). w.rank) is ∙ n.ranked ∙ ap (λ q. rank q v.word) task.problem ∙ ap (λ (w : NodeView). rank old.problem w.word) (sym is);
        timely = timely;
      }
