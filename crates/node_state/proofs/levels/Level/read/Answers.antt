use Rattle.std.proofs.Common.{◌∙◌, ap}
use Rattle.tp_spec.specs.Words.{past_group}
use Rattle.node_state.specs.Readings.{progress_of}
use Rattle.node_state.proofs.Leveling.{joining-joins, opening-closes, opening-joins, read-joined, read-opened}
use Rattle.node_state.proofs.levels.Level.read.Goals as goal

pub open-requires-clause-closes : goal.open-requires-clause-closes
open-requires-clause-closes c =
    opening-closes c.args.problem.now c.args.word.now c.args.index c.mark_at-mark.result (progress_of c.args.self.now.reading) c.requires.sound c.mark_at-mark.ensures c.if-mark.true c.requires.level.progress

pub include-requires-clause-joins : goal.include-requires-clause-joins
include-requires-clause-joins c =
    opening-joins c.args.problem.now c.args.word.now c.args.index c.mark_at-mark.result (progress_of c.open.new.self.reading) c.requires.sound c.mark_at-mark.ensures c.if-mark.true
    (c.in_ok-open.ensures.progress ∙ ap (past_group c.args.problem.now) c.requires.level.progress)

pub returns-then-mark-clause-level : goal.returns-then-mark-clause-level
returns-then-mark-clause-level c =
    read-opened c.args.problem.now c.args.word.now c.args.index c.mark_at-mark.result c.open.new.self c.include.new.self c.mark_at-mark.ensures c.if-mark.true c.in_ok-open.ensures.level
    (c.in_ok-open.ensures.progress ∙ ap (past_group c.args.problem.now) c.requires.level.progress) c.include.ensures.start c.include.ensures.timed c.in_ok-include.ensures.progress c.in_ok-include.ensures.reading

pub include-requires-2-clause-joins : goal.include-requires-2-clause-joins
include-requires-2-clause-joins c =
    joining-joins c.args.problem.now c.args.word.now c.args.index c.mark_at-mark.result (progress_of c.args.self.now.reading) c.requires.sound c.mark_at-mark.ensures c.if-mark.false c.requires.level.progress

pub returns-clause-level : goal.returns-clause-level
returns-clause-level c =
    read-joined c.args.problem.now c.args.word.now c.args.index c.mark_at-mark.result c.args.self.now c.include-2.new.self c.mark_at-mark.ensures c.if-mark.false c.requires.level
    c.include-2.ensures.start c.include-2.ensures.timed c.in_ok-include-2.ensures.progress c.in_ok-include-2.ensures.reading
