use Rattle.std.proofs.Common.{◌∙◌}
use Rattle.node_state.proofs.Leveling.{fresh-mark-at, opening-joins, read-opened, restarted-level}
use Rattle.node_state.proofs.levels.Level.begin.Goals as goal

pub include-requires-clause-joins : goal.include-requires-clause-joins
include-requires-clause-joins c =
    opening-joins c.args.problem.now c.args.word.now c.args.self.now.start c.mark_at-mark.result _ c.requires.sound c.mark_at-mark.ensures
    (fresh-mark-at c.args.word.now c.args.self.now.start c.mark_at-mark.result c.requires.opens c.mark_at-mark.ensures) (c.restart.ensures.progress ∙ c.requires.level.at)

pub returns-clause-level : goal.returns-clause-level
returns-clause-level c =
    read-opened c.args.problem.now c.args.word.now c.args.self.now.start c.mark_at-mark.result c.restart.new.self c.include.new.self c.mark_at-mark.ensures
    (fresh-mark-at c.args.word.now c.args.self.now.start c.mark_at-mark.result c.requires.opens c.mark_at-mark.ensures)
    (restarted-level c.args.problem.now c.args.word.now c.args.self.now c.restart.new.self c.requires.level c.restart.ensures.start c.restart.ensures.timed c.restart.ensures.progress c.restart.ensures.before c.restart.ensures.running c.restart.ensures.candidates)
    (c.restart.ensures.progress ∙ c.requires.level.at) c.include.ensures.start c.include.ensures.timed c.in_ok-include.ensures.progress c.in_ok-include.ensures.reading
