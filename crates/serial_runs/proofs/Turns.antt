-- The turns of a search in a tree, and the sending behind them.
use Rattle.std.proofs.Common.{◌≡◌, refl, sym, ap, subst, ◌∙◌, ℕ, ◌<◌, ◌≤◌, arith, inl, inr, Bool, true, false, List, [], ◌∷◌, ◌++◌, length, drop, Result, Ok, Err, IfOk, IfErr, OnErr, MatchBool, IsErr, IsErrAnd, append-nil}
use Rattle.std.proofs.KnownBytes.{Appends-nil}
use Rattle.std.proofs.lemmas.Bool.{false≢true}
use Rattle.std.specs.Io.KnownBytes.{Appends}
use Rattle.dispatcher.specs.Sending.{GivesSent, command_lines, commands}
use Rattle.tp_spec.specs.declared.event.Cause.{Cause}
use Rattle.tp_spec.specs.declared.event.Cause.TheVariants.{Memory}
use Rattle.tp_spec.specs.declared.event.Event.{Event}
use Rattle.tp_spec.specs.declared.event.Event.TheVariants.{Halt}
use Rattle.tp_spec.specs.declared.plan.Limits.{Limits}
use Rattle.tp_spec.specs.declared.problem.Problem.{Problem}
use Rattle.tp_spec.specs.Machine.{IsWholeRun, state_of}
use Rattle.tp_world.specs.Sinks.{SinkView}
use Rattle.tp_world.specs.declared.sink.SendFault.{SendFault}
use Rattle.run_laws.specs.Histories.{RunsLeadToTrees}
use Rattle.machine_run.specs.Turns.{has_outcome}
use Rattle.open_tree.specs.Answers.{GivesTaken, GivesMerged}
use Rattle.open_tree.specs.Charter.{SameCharter}
use Rattle.open_tree.specs.Views.{JobView, TreeView}
use Rattle.open_tree.specs.declared.job.Merged.{Merged}
use Rattle.open_tree.specs.declared.job.Merged.TheVariants as merged
use Rattle.open_tree.specs.declared.job.Taken.{Taken}
use Rattle.open_tree.specs.declared.job.Taken.TheVariants as taken
use Rattle.serial_runs.specs.Commands.{committed, PutsAll, GivesCommands}
use Rattle.serial_runs.specs.OneWorker.{IsSearching, IsHolding, IsGoing, TakesOn, GoesOn, HasSearched, goes_on, left_of, left_beside}
use Rattle.serial_runs.specs.Stopping.{StopsBy, HaltsBy, PutsOn, cause_by, answer_of}
use Rattle.serial_runs.proofs.Puts.{Turned, committed-append, sent-before, puts-next, turn-sent}
use Rattle.serial_runs.proofs.OneJob.{whole-next, takes-on, take-found, merge-found, take-turned, merge-turned, halted, found-searched, sent-fault, not-nothing, goes-on, goes-stale, found, ended, charter-on}

-- the answer of a call that gives on a fault
pub err-of : {T : Type 0} (P : SendFault → Type 0) (r : Result T SendFault) (t : SendFault) → IsErr r × IsErrAnd r (λ s. s ≡ t) → P t → IfErr r P
err-of P (Ok x) t e h = tt
err-of P (Err s) t e h = subst P (sym e.1) h

pub answer-err : {T : Type 0} (P : Result Unit SendFault → Type 0) (r : Result T SendFault) (t : SendFault) → IsErr r × IsErrAnd r (λ s. s ≡ t) → P (Err t) → P (answer_of r)
answer-err P (Ok x) t e h = absurd (false≢true e.0)
answer-err P (Err s) t e h = subst (λ z. P (Err z)) (sym e.1) h

-- a halt puts nothing
pub halt-puts : (p : Problem) (l : Limits) (h new : List Event) (cause : Cause) (sink : SinkView) → new ≡ h ++ Halt cause ∷ [] → PutsOn p l h new sink sink (Ok tt)
halt-puts p l h new cause sink e began all = record {
  puts = subst (λ z. sink.puts ≡ began.puts ++ command_lines p z) (sym same) all.puts;
  held = subst (λ z. Appends began.held sink.held (commands p z)) (sym same) all.held;
  unfailed = all.unfailed;
} where
  same : committed l new ≡ committed l h
  same = ap (committed l) e ∙ committed-append l h (Halt cause ∷ []) ∙ append-nil (committed l h)

-- the turn of a take, of a tree that is searched
module _ {C : Type 0} (p : Problem) (old mid : TreeView C) (same : SameCharter old mid) (is : old.problem ≡ p) (whole : IsWholeRun mid.problem mid.limits mid.history)
    (n : ℕ) (len : n ≡ length (committed old.limits old.history)) (searching : IsSearching p old.limits old.history)
    {E : Type 0} (r : ℕ) (t : Result Taken E) (given : IfOk t (GivesTaken old.problem old.limits old.history mid.history 1 r)) (refused : OnErr t (mid.history ≡ old.history ++ Halt Memory ∷ [])) where
  turn : Turned old.history mid.history
  turn = take-turned old.problem old.limits old.history mid.history 1 r t given refused

  run : IsWholeRun p old.limits mid.history
  run = whole-next p old mid same is whole

  given-next : IfOk t (GivesTaken p old.limits old.history mid.history 1 r)
  given-next = subst (λ q. IfOk t (GivesTaken q old.limits old.history mid.history 1 r)) is given

  pub take-before : n ≤ length (committed mid.limits mid.history)
  take-before = sent-before p old mid same turn n len

  pub take-puts : (final : List Event) (before after : SinkView) (answer : Result Unit SendFault) → StopsBy answer mid.history final → GivesSent p (drop n (committed mid.limits mid.history)) before after answer
      → PutsOn p old.limits old.history final before after answer
  take-puts final before after answer stop s = puts-next p old mid same turn n len final before after answer stop s

  pub take-fault : (final : List Event) (before after : SinkView) (fault : SendFault) → HaltsBy (cause_by fault) mid.history final → GivesSent p (drop n (committed mid.limits mid.history)) before after (Err fault)
      → HasSearched old.limits final (Err fault)
  take-fault final before after fault stop s = sent-fault old.limits mid.history final fault stop
      (take-found p old.limits old.history mid.history r searching run t given-next refused
      (turn-sent p old.limits old.history mid.history before after fault n len (subst (λ l. GivesSent p (drop n (committed l mid.history)) before after (Err fault)) (sym same.limits) s)))

  pub take-job : (final : List Event) (job : JobView) → t ≡ Ok (taken.Job job) → final ≡ mid.history → TakesOn p old.limits old.history final job
  take-job final job e stay = subst (λ z. TakesOn p old.limits old.history z job) (sym stay)
      (takes-on p old.limits old.history mid.history r searching run job (subst (λ z. IfOk z (GivesTaken p old.limits old.history mid.history 1 r)) e given-next))

  pub take-over : (final : List Event) → t ≡ Ok taken.Over → final ≡ mid.history → HasSearched old.limits final (Ok tt)
  take-over final e stay =
      let g = subst (λ z. IfOk z (GivesTaken p old.limits old.history mid.history 1 r)) e given-next in
      subst (λ z. HasSearched old.limits z (Ok tt)) (sym stay)
      (found-searched old.limits mid.history (Ok tt) (found p old.limits old.history mid.history r searching run g) g.outcome)

  pub take-nothing : t ≡ Ok taken.Nothing → ⊥
  take-nothing e = not-nothing p old.limits old.history mid.history r searching run (subst (λ z. IfOk z (GivesTaken p old.limits old.history mid.history 1 r)) e given-next)

  pub take-refused : (final : List Event) (x : E) → t ≡ Err x → final ≡ mid.history → HasSearched old.limits final (Ok tt)
  take-refused final x e stay = subst (λ z. HasSearched old.limits z (Ok tt)) (sym stay)
      (halted old.limits old.history mid.history (subst (λ z. OnErr z (mid.history ≡ old.history ++ Halt Memory ∷ [])) e refused))

-- and the turn of a merge
module _ {C : Type 0} (p : Problem) (old mid : TreeView C) (same : SameCharter old mid) (is : old.problem ≡ p) (whole : IsWholeRun mid.problem mid.limits mid.history)
    (n : ℕ) (len : n ≡ length (committed old.limits old.history)) (job : JobView) (holding : IsHolding p old.limits old.history job) (trees : RunsLeadToTrees p old.limits)
    {E : Type 0} (r : ℕ) (m : Result Merged E) (given : IfOk m (GivesMerged old.limits old.history mid.history 1 r job.id)) (refused : OnErr m (mid.history ≡ old.history ++ Halt Memory ∷ [])) where
  turn-m : Turned old.history mid.history
  turn-m = merge-turned old.limits old.history mid.history 1 r job.id m given refused

  run-m : IsWholeRun p old.limits mid.history
  run-m = whole-next p old mid same is whole

  pub merge-before : n ≤ length (committed mid.limits mid.history)
  merge-before = sent-before p old mid same turn-m n len

  pub merge-puts : (final : List Event) (before after : SinkView) (answer : Result Unit SendFault) → StopsBy answer mid.history final → GivesSent p (drop n (committed mid.limits mid.history)) before after answer
      → PutsOn p old.limits old.history final before after answer
  merge-puts final before after answer stop s = puts-next p old mid same turn-m n len final before after answer stop s

  pub merge-fault : (final : List Event) (before after : SinkView) (fault : SendFault) → HaltsBy (cause_by fault) mid.history final → GivesSent p (drop n (committed mid.limits mid.history)) before after (Err fault)
      → HasSearched old.limits final (Err fault)
  merge-fault final before after fault stop s = sent-fault old.limits mid.history final fault stop
      (merge-found p old.limits old.history mid.history r job holding run-m m given refused
      (turn-sent p old.limits old.history mid.history before after fault n len (subst (λ l. GivesSent p (drop n (committed l mid.history)) before after (Err fault)) (sym same.limits) s)))

  pub merge-next : (final : List Event) → final ≡ mid.history → MatchBool (goes_on m) (GoesOn p old.limits job.id old.history final) (HasSearched old.limits final (Ok tt))
  merge-next final stay = subst (λ z. MatchBool (goes_on m) (GoesOn p old.limits job.id old.history z) (HasSearched old.limits z (Ok tt))) (sym stay) (by_answer m given refused) where
    by_answer : (m : Result Merged E) → IfOk m (GivesMerged old.limits old.history mid.history 1 r job.id) → OnErr m (mid.history ≡ old.history ++ Halt Memory ∷ []) → MatchBool (goes_on m) (GoesOn p old.limits job.id old.history mid.history) (HasSearched old.limits mid.history (Ok tt))
    by_answer (Ok merged.Done) g e = goes-on p old.limits trees old.history mid.history r job holding (whole-next p old mid same is whole) g
    by_answer (Ok merged.Stale) g e = goes-stale p old.limits trees old.history mid.history r job holding (whole-next p old mid same is whole) g
    by_answer (Ok merged.Over) g e = found-searched old.limits mid.history (Ok tt) (ended p old.limits old.history mid.history r job holding (whole-next p old mid same is whole) g) g.outcome
    by_answer (Err x) g e = halted old.limits old.history mid.history e

-- the search of a tree from turn to turn
module _ {C : Type 0} (p : Problem) (began old mid : TreeView C) (going : IsGoing p began old) (same : SameCharter old mid) where
  pub problem-next : mid.problem ≡ p
  problem-next = sym same.problem ∙ going.problem

  pub holding-next : (job : JobView) → TakesOn p old.limits old.history mid.history job → IsHolding p mid.limits mid.history job
  holding-next job on = subst (λ l. IsHolding p l mid.history job) same.limits on.holding

  pub going-next : (new : TreeView C) (id : ℕ) → SameCharter mid new → GoesOn p mid.limits id mid.history new.history → IsGoing p began new
  going-next new id more on = record {
    charter = charter-on going.charter (charter-on same more);
    problem = sym more.problem ∙ problem-next;
    searching = subst (λ l. IsSearching p l new.history) more.limits on.searching;
  }

  pub less-next : (new : TreeView C) (job : JobView) → SameCharter mid new → TakesOn p old.limits old.history mid.history job → GoesOn p mid.limits job.id mid.history new.history
      → left_of new.limits (state_of new.limits new.history) < left_of old.limits (state_of old.limits old.history)
  less-next new job more took on =
      let kept : left_beside job.id old.limits (state_of old.limits mid.history) ≤ left_of old.limits (state_of old.limits old.history) = took.less in
      let less : left_of old.limits (state_of old.limits new.history) < left_beside job.id old.limits (state_of old.limits mid.history) = subst (λ l. left_of l (state_of l new.history) < left_beside job.id l (state_of l mid.history)) (sym same.limits) on.less in
      subst (λ l. left_of l (state_of l new.history) < left_of old.limits (state_of old.limits old.history)) (same.limits ∙ more.limits) (omega (arith, kept, less))

-- a call that puts on
pub puts-at : {C : Type 0} (p : Problem) (old new : TreeView C) (before after began : SinkView) (answer : Result Unit SendFault) → SameCharter old new → PutsOn p old.limits old.history new.history before after answer
    → PutsAll p old.limits old.history began before → GivesCommands p new.limits new.history began after answer
puts-at p old new before after began answer same on all = subst (λ l. GivesCommands p l new.history began after answer) same.limits (on began all)

-- nothing was put yet
pub puts-none : (p : Problem) (l : Limits) (h : List Event) (sink : SinkView) → h ≡ [] → PutsAll p l h sink sink
puts-none p l h sink e = subst (λ z. PutsAll p l z sink sink) (sym e) (record { puts = sym (append-nil sink.puts); held = Appends-nil sink.held; unfailed = refl })
