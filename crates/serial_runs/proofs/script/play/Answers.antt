use Rattle.std.proofs.Common.{ap, sym, ◌∙◌, ◌-◌, length, map, take, drop, Ok, Err}
use Rattle.tp_spec.specs.declared.event.Cause.TheVariants.{Script}
use Rattle.tp_spec.specs.Machine.{readings}
use Rattle.serial_runs.specs.Endings.{EndsScript}
use Rattle.serial_runs.specs.Playing.{reading_in}
use Rattle.serial_runs.proofs.Turns.{halt-puts, puts-at, puts-none}
use Rattle.serial_runs.proofs.LineByLine.{at-first, at-next, at-over, at-unput, at-unput-ends, err-is, head-is, told-next}
use Rattle.serial_runs.proofs.script.play.Goals as goal

pub lines-init : goal.lines-init
lines-init g c = (
  at-first c.args.problem.now c.args.tree.now c.args.script.now c.empty_hands-held.result c.empty_hands-held.ensures c.requires.problem c.requires.bounded c.requires.script c.requires.fresh c.history.ensures.whole,
  c.requires.worker,
  puts-none c.args.problem.now c.args.tree.now.limits c.args.tree.now.history (g.O.Sink.view c.args.out.now) c.requires.fresh,
  c.requires.few,
)

pub returns-in-empty-clause-commands : goal.returns-in-empty-clause-commands
returns-in-empty-clause-commands g c = puts-at c.args.problem.now c.lines.tree c.halt.new.self (g.O.Sink.view c.lines.out) (g.O.Sink.view c.lines.out) (g.O.Sink.view c.args.out.now) (Ok tt) c.halt.ensures.charter
    (halt-puts c.args.problem.now c.lines.tree.limits c.lines.tree.history c.halt.new.self.history Script (g.O.Sink.view c.lines.out) (c.halt.ensures.halted c.lines.invariant.0.playing.standing)) c.lines.invariant.2

pub returns-in_err-next-in-len1-up-clause-follows : goal.returns-in_err-next-in-len1-up-clause-follows
returns-in_err-next-in-len1-up-clause-follows g c = at-unput c.args.problem.now c.args.tree.now c.lines.tree c.play_line-played.new.tree c.args.script.now _ (take (length c.lines.rest.now - 1) (drop 1 c.lines.rest.now)) c.lines.rest.now c.lines.held c.take_out-own.result (head-is c.lines.rest.now _ c.in-len1-up.len_at_least) c.take_out-own.ensures.taken c.lines.invariant.0
    c.play_line-played.ensures.charter c.lines.invariant.3
    (told-next (g.C.Clock.given c.play_line-played.new.tree.opened) (g.C.Clock.count c.play_line-played.new.tree.opened) (map reading_in c.args.script.now) (readings c.play_line-played.new.tree.history)
    (ap g.C.Clock.given (sym (c.lines.invariant.0.charter.opened ∙ c.play_line-played.ensures.charter.opened)) ∙ c.requires.given)
    (ap g.C.Clock.count (sym (c.lines.invariant.0.charter.opened ∙ c.play_line-played.ensures.charter.opened)) ∙ c.requires.unread) c.history-in-len1-up.ensures.clocked.next)
    c.in_err-next-in-len1-up.field-0.0 c.in_err-next-in-len1-up.ensures.err

pub returns-in_err-next-in-len1-up-clause-ends : goal.returns-in_err-next-in-len1-up-clause-ends
returns-in_err-next-in-len1-up-clause-ends g c = err-is (EndsScript c.play_line-played.new.tree.history) c.from_residual.result c.in_err-next-in-len1-up.field-0.0 c.from_residual.ensures
    (at-unput-ends c.args.problem.now c.args.tree.now c.lines.tree c.play_line-played.new.tree c.args.script.now _ (take (length c.lines.rest.now - 1) (drop 1 c.lines.rest.now)) c.lines.rest.now c.lines.held c.take_out-own.result (head-is c.lines.rest.now _ c.in-len1-up.len_at_least) c.take_out-own.ensures.taken c.lines.invariant.0
    c.play_line-played.ensures.charter c.lines.invariant.3
    (told-next (g.C.Clock.given c.play_line-played.new.tree.opened) (g.C.Clock.count c.play_line-played.new.tree.opened) (map reading_in c.args.script.now) (readings c.play_line-played.new.tree.history)
    (ap g.C.Clock.given (sym (c.lines.invariant.0.charter.opened ∙ c.play_line-played.ensures.charter.opened)) ∙ c.requires.given)
    (ap g.C.Clock.count (sym (c.lines.invariant.0.charter.opened ∙ c.play_line-played.ensures.charter.opened)) ∙ c.requires.unread) c.history-in-len1-up.ensures.clocked.next)
    c.in_err-next-in-len1-up.field-0.0 c.in_err-next-in-len1-up.ensures.err)

pub lines-preserved : goal.lines-preserved
lines-preserved g c = (
  at-next c.args.problem.now c.args.tree.now c.lines.tree c.play_line-played.new.tree c.args.script.now _ (take (length c.lines.rest.now - 1) (drop 1 c.lines.rest.now)) c.lines.rest.now c.lines.held c.take_out-own.result (head-is c.lines.rest.now _ c.in-len1-up.len_at_least) c.take_out-own.ensures.taken c.lines.invariant.0
      c.play_line-played.ensures.charter c.lines.invariant.3
      (told-next (g.C.Clock.given c.play_line-played.new.tree.opened) (g.C.Clock.count c.play_line-played.new.tree.opened) (map reading_in c.args.script.now) (readings c.play_line-played.new.tree.history)
      (ap g.C.Clock.given (sym (c.lines.invariant.0.charter.opened ∙ c.play_line-played.ensures.charter.opened)) ∙ c.requires.given)
      (ap g.C.Clock.count (sym (c.lines.invariant.0.charter.opened ∙ c.play_line-played.ensures.charter.opened)) ∙ c.requires.unread) c.history-in-len1-up.ensures.clocked.next)
      c.in_ok-next-in-len1-up.field-0 c.in-Ok.next c.in-Ok.is c.history-in-len1-up.ensures.whole c.in_ok-next-in-len1-up.ensures.on c.take_out-own.new.held c.put_back.new.held c.take_out-own.ensures.left c.put_back.ensures,
  c.play_line-played.ensures.worker ∙ c.lines.invariant.1,
  puts-at c.args.problem.now c.lines.tree c.play_line-played.new.tree (g.O.Sink.view c.lines.out) (g.O.Sink.view c.play_line-played.new.out) (g.O.Sink.view c.args.out.now) (Ok tt) c.play_line-played.ensures.charter
      c.in_ok-next-in-len1-up.ensures.puts c.lines.invariant.2,
  c.lines.invariant.3,
)

pub returns-in-Err-clause-follows : goal.returns-in-Err-clause-follows
returns-in-Err-clause-follows g c = at-over c.args.problem.now c.args.tree.now c.lines.tree c.play_line-played.new.tree c.args.script.now _ (take (length c.lines.rest.now - 1) (drop 1 c.lines.rest.now)) c.lines.rest.now c.lines.held c.take_out-own.result (head-is c.lines.rest.now _ c.in-len1-up.len_at_least) c.take_out-own.ensures.taken c.lines.invariant.0
    c.play_line-played.ensures.charter c.lines.invariant.3
    (told-next (g.C.Clock.given c.play_line-played.new.tree.opened) (g.C.Clock.count c.play_line-played.new.tree.opened) (map reading_in c.args.script.now) (readings c.play_line-played.new.tree.history)
    (ap g.C.Clock.given (sym (c.lines.invariant.0.charter.opened ∙ c.play_line-played.ensures.charter.opened)) ∙ c.requires.given)
    (ap g.C.Clock.count (sym (c.lines.invariant.0.charter.opened ∙ c.play_line-played.ensures.charter.opened)) ∙ c.requires.unread) c.history-in-len1-up.ensures.clocked.next)
    c.in_ok-next-in-len1-up.field-0 c.in-Err.field-0 c.in-Err.is c.in_ok-next-in-len1-up.ensures.over
