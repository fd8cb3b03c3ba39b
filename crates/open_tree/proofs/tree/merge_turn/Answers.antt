use Rattle.std.proofs.Common.{refl, sym, ap, subst, ◌≡◌, ◌∙◌, false, not, ◌==◌}
use Rattle.std.specs.List.{list_any}
use Rattle.tp_spec.specs.Machine.{state_of}
use Rattle.word_frontier.specs.Nodes.{is_taken}
use Rattle.machine_run.specs.Turns.{has_outcome}
use Rattle.open_tree.specs.Jobs.{IsJobOf}
use Rattle.open_tree.proofs.Merging.{job-later, left, ready, merged-ok, ends-ok}
use Rattle.open_tree.proofs.Turns.{readings-turn}
use Rattle.open_tree.proofs.tree.merge_turn.Goals as goal

pub returns-then-is_over-clause-ended : goal.returns-then-is_over-clause-ended
returns-then-is_over-clause-ended c = record {
  read = readings-turn refl c.in_ok-begin.ensures.begun.turn;
  settled = c.in_ok-begin.ensures.begun.settled;
}

pub returns-then-not-is_taken-clause-merged : goal.returns-then-not-is_taken-clause-merged
returns-then-not-is_taken-clause-merged c =
    let task = c.in_ok-begin.ensures.task in
    let none : has_outcome c.begin.new.self.history ≡ false = sym c.is_over.ensures ∙ c.if-is_over.false in
    let of = job-later c.args.run.now.limits c.args.run.now.history c.begin.new.self.history c.args.actor c.args.sprouts.now.job c.in_ok-begin.ensures.more c.requires.job in
    let gone = left c.begin.new.self c.args.actor c.args.sprouts.now c.stands.ensures.stands c.states_of_runs.ensures c.commitments_of_runs.ensures.grow none (subst (λ l. IsJobOf l c.begin.new.self.history c.args.actor c.args.sprouts.now.job) (sym task.limits) of)
    (ap (λ k. is_taken c.args.actor k c.begin.new.self.frontier.nodes) (sym (c.id.ensures ∙ ap (λ j. j.id) c.job.ensures)) ∙ sym c.is_taken.ensures ∙ c.if-not-is_taken.true) in
    record {
      turn = c.in_ok-begin.ensures.begun.turn;
      standing = none;
      left = ap not (ap (λ l. list_any (λ n. n.id == c.args.sprouts.now.job.id) (state_of l c.begin.new.self.history).nodes) (sym task.limits) ∙ gone);
    }

pub returns-then-not-is_taken-clause-ended : goal.returns-then-not-is_taken-clause-ended
returns-then-not-is_taken-clause-ended c = record {
  read = readings-turn refl c.in_ok-begin.ensures.begun.turn;
  settled = c.in_ok-begin.ensures.begun.settled;
}

pub finish-requires-clause-ready : goal.finish-requires-clause-ready
finish-requires-clause-ready c =
    let task = c.in_ok-begin.ensures.task in
    let none : has_outcome c.begin.new.self.history ≡ false = sym c.is_over.ensures ∙ c.if-is_over.false in
    let of = job-later c.args.run.now.limits c.args.run.now.history c.begin.new.self.history c.args.actor c.args.sprouts.now.job c.in_ok-begin.ensures.more c.requires.job in
    ready c.begin.new.self c.args.actor c.args.sprouts.now c.stands.ensures.stands c.states_of_runs.ensures c.commitments_of_runs.ensures.grow none (subst (λ l. IsJobOf l c.begin.new.self.history c.args.actor c.args.sprouts.now.job) (sym task.limits) of)
    c.requires.sprouts (c.requires.problem ∙ sym task.problem) (c.requires.limits ∙ sym task.limits)
    (ap (λ k. is_taken c.args.actor k c.begin.new.self.frontier.nodes) (sym (c.id.ensures ∙ ap (λ j. j.id) c.job.ensures)) ∙ sym c.is_taken.ensures ∙ c.if-not-is_taken.false)

pub returns-clause-merged : goal.returns-clause-merged
returns-clause-merged c =
    merged-ok c.args.run.now.limits c.args.run.now c.begin.new.self c.finish.new.run c.args.actor c.args.reading c.args.sprouts.now.job.id c.finish.result c.in_ok-begin.ensures.begun.turn c.finish.ensures.done

pub returns-clause-ended : goal.returns-clause-ended
returns-clause-ended c =
    ends-ok c.args.run.now c.begin.new.self c.finish.new.run c.args.actor c.args.reading c.args.sprouts.now.job.id c.finish.result c.in_ok-begin.ensures.begun.turn c.finish.ensures.done
