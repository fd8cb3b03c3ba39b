use Rattle.std.proofs.Common.{ap, length, Ok, Err, IfOk, MatchBool, true, false, subst, sym, ◌∙◌}
use Rattle.open_tree.specs.Answers.{GivesMerged}
use Rattle.search_workers.specs.Sprouting.{CanSprout}
use Rattle.tp_spec.specs.declared.event.Cause.TheVariants.{Memory}
use Rattle.serial_runs.specs.OneWorker.{GoesOn, HasSearched}
use Rattle.serial_runs.specs.Stopping.{PutsOn, answer_of}
use Rattle.serial_runs.proofs.OneJob.{can-sprout, halted}
use Rattle.serial_runs.proofs.Turns.{err-of, answer-err, halt-puts, merge-before, merge-puts, merge-fault, merge-next}
use Rattle.serial_runs.proofs.alone.merge_job.Goals as goal

pub sprout-requires : goal.sprout-requires
sprout-requires g c = subst (λ p. CanSprout p c.args.job) (sym c.requires.worker)
    (can-sprout c.args.problem.now c.args.tree.now.limits c.args.tree.now.history 1 c.args.job (c.states_of_runs.ensures c.args.problem.now c.args.tree.now.limits c.requires.holding.bounded.formed) c.requires.holding.bounded c.requires.holding.whole c.requires.holding.held)

pub returns-in_default-clause-merged : goal.returns-in_default-clause-merged
returns-in_default-clause-merged g c = halted c.args.tree.now.limits c.args.tree.now.history c.halt.new.self.history (c.halt.ensures.halted c.requires.holding.standing)

pub returns-in_default-clause-puts : goal.returns-in_default-clause-puts
returns-in_default-clause-puts g c = halt-puts c.args.problem.now c.args.tree.now.limits c.args.tree.now.history c.halt.new.self.history Memory (g.O.Sink.view c.args.out.now) (c.halt.ensures.halted c.requires.holding.standing)

pub send_new-requires : goal.send_new-requires
send_new-requires g c = record { sent = merge-before c.args.problem.now c.args.tree.now c.hand_in-merged.new.tree c.hand_in-merged.ensures.charter c.requires.problem c.hand_in-merged.ensures.whole (length c.commits-sent.result.now) (ap length c.commits-sent.ensures.acts) c.args.job c.requires.holding (c.states_of_runs.ensures c.args.problem.now c.args.tree.now.limits c.requires.holding.bounded.formed) (g.C.Clock.last c.hand_in-merged.new.tree.clock) c.hand_in-merged.result (subst (λ j. IfOk c.hand_in-merged.result (GivesMerged c.args.tree.now.limits c.args.tree.now.history c.hand_in-merged.new.tree.history 1 (g.C.Clock.last c.hand_in-merged.new.tree.clock) j.id)) c.in-Ok.ensures.sprouts (c.hand_in-merged.ensures.merged)) c.hand_in-merged.ensures.refused }

pub returns-in_err-send_new-clause-err : goal.returns-in_err-send_new-clause-err
returns-in_err-send_new-clause-err g c = err-of (λ fault. HasSearched c.args.tree.now.limits c.send_new.new.tree.history (Err fault)) c.from_residual.result c.in_err-send_new.field-0.0 c.from_residual.ensures
    (merge-fault c.args.problem.now c.args.tree.now c.hand_in-merged.new.tree c.hand_in-merged.ensures.charter c.requires.problem c.hand_in-merged.ensures.whole (length c.commits-sent.result.now) (ap length c.commits-sent.ensures.acts) c.args.job c.requires.holding (c.states_of_runs.ensures c.args.problem.now c.args.tree.now.limits c.requires.holding.bounded.formed) (g.C.Clock.last c.hand_in-merged.new.tree.clock) c.hand_in-merged.result (subst (λ j. IfOk c.hand_in-merged.result (GivesMerged c.args.tree.now.limits c.args.tree.now.history c.hand_in-merged.new.tree.history 1 (g.C.Clock.last c.hand_in-merged.new.tree.clock) j.id)) c.in-Ok.ensures.sprouts (c.hand_in-merged.ensures.merged)) c.hand_in-merged.ensures.refused
    c.send_new.new.tree.history (g.O.Sink.view c.args.out.now) (g.O.Sink.view c.send_new.new.out) c.in_err-send_new.field-0.0 c.in_err-send_new.ensures.stops c.in_err-send_new.ensures.puts)

pub returns-in_err-send_new-clause-puts : goal.returns-in_err-send_new-clause-puts
returns-in_err-send_new-clause-puts g c = answer-err (λ answer. PutsOn c.args.problem.now c.args.tree.now.limits c.args.tree.now.history c.send_new.new.tree.history (g.O.Sink.view c.args.out.now) (g.O.Sink.view c.send_new.new.out) answer) c.from_residual.result c.in_err-send_new.field-0.0 c.from_residual.ensures
    (merge-puts c.args.problem.now c.args.tree.now c.hand_in-merged.new.tree c.hand_in-merged.ensures.charter c.requires.problem c.hand_in-merged.ensures.whole (length c.commits-sent.result.now) (ap length c.commits-sent.ensures.acts) c.args.job c.requires.holding (c.states_of_runs.ensures c.args.problem.now c.args.tree.now.limits c.requires.holding.bounded.formed) (g.C.Clock.last c.hand_in-merged.new.tree.clock) c.hand_in-merged.result (subst (λ j. IfOk c.hand_in-merged.result (GivesMerged c.args.tree.now.limits c.args.tree.now.history c.hand_in-merged.new.tree.history 1 (g.C.Clock.last c.hand_in-merged.new.tree.clock) j.id)) c.in-Ok.ensures.sprouts (c.hand_in-merged.ensures.merged)) c.hand_in-merged.ensures.refused
    c.send_new.new.tree.history (g.O.Sink.view c.args.out.now) (g.O.Sink.view c.send_new.new.out) (Err c.in_err-send_new.field-0.0) c.in_err-send_new.ensures.stops c.in_err-send_new.ensures.puts)

pub returns-clause-merged : goal.returns-clause-merged
returns-clause-merged g c = subst (λ on. MatchBool on (GoesOn c.args.problem.now c.args.tree.now.limits c.args.job.id c.args.tree.now.history c.send_new.new.tree.history) (HasSearched c.args.tree.now.limits c.send_new.new.tree.history (Ok tt))) (sym c.may_go_on.ensures)
    (merge-next c.args.problem.now c.args.tree.now c.hand_in-merged.new.tree c.hand_in-merged.ensures.charter c.requires.problem c.hand_in-merged.ensures.whole (length c.commits-sent.result.now) (ap length c.commits-sent.ensures.acts) c.args.job c.requires.holding (c.states_of_runs.ensures c.args.problem.now c.args.tree.now.limits c.requires.holding.bounded.formed) (g.C.Clock.last c.hand_in-merged.new.tree.clock) c.hand_in-merged.result (subst (λ j. IfOk c.hand_in-merged.result (GivesMerged c.args.tree.now.limits c.args.tree.now.history c.hand_in-merged.new.tree.history 1 (g.C.Clock.last c.hand_in-merged.new.tree.clock) j.id)) c.in-Ok.ensures.sprouts (c.hand_in-merged.ensures.merged)) c.hand_in-merged.ensures.refused
    c.send_new.new.tree.history c.in_ok-send_new.ensures.stops)

pub returns-clause-puts : goal.returns-clause-puts
returns-clause-puts g c = merge-puts c.args.problem.now c.args.tree.now c.hand_in-merged.new.tree c.hand_in-merged.ensures.charter c.requires.problem c.hand_in-merged.ensures.whole (length c.commits-sent.result.now) (ap length c.commits-sent.ensures.acts) c.args.job c.requires.holding (c.states_of_runs.ensures c.args.problem.now c.args.tree.now.limits c.requires.holding.bounded.formed) (g.C.Clock.last c.hand_in-merged.new.tree.clock) c.hand_in-merged.result (subst (λ j. IfOk c.hand_in-merged.result (GivesMerged c.args.tree.now.limits c.args.tree.now.history c.hand_in-merged.new.tree.history 1 (g.C.Clock.last c.hand_in-merged.new.tree.clock) j.id)) c.in-Ok.ensures.sprouts (c.hand_in-merged.ensures.merged)) c.hand_in-merged.ensures.refused
    c.send_new.new.tree.history (g.O.Sink.view c.args.out.now) (g.O.Sink.view c.send_new.new.out) (Ok tt) c.in_ok-send_new.ensures.stops c.in_ok-send_new.ensures.puts
