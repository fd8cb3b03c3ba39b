use Rattle.std.proofs.Common.{subst, List}
use Rattle.tp_spec.specs.declared.plan.Mark.{Mark}
use Rattle.node_state.specs.Levels.{AreLevels}
use Rattle.node_state.proofs.walker.growth_along.Goals as goal

pub returns-in_err-move_to-clause-levels : goal.returns-in_err-move_to-clause-levels
returns-in_err-move_to-clause-levels c = c.move_to.ensures.levels c.args.judge.now c.requires.levels

pub top-requires-clause-levels : goal.top-requires-clause-levels
top-requires-clause-levels c =
    subst (λ (w : List Mark). AreLevels c.args.judge.now w c.move_to.new.levels.items) c.in_ok-move_to.ensures.word (c.move_to.ensures.levels c.args.judge.now c.requires.levels)
