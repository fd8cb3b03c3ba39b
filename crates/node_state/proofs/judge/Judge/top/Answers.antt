use Rattle.std.proofs.Common.{subst}
use Rattle.tp_spec.specs.WellFormed.{Ground}
use Rattle.node_state.specs.Readings.{IsStartOf}
use Rattle.node_state.proofs.Insides.{start-copied}
use Rattle.node_state.proofs.Leveling.{first-level}
use Rattle.node_state.proofs.judge.Judge.top.Goals as goal

pub returns-in_ok-copy-in-None-clause-top : goal.returns-in_ok-copy-in-None-clause-top
returns-in_ok-copy-in-None-clause-top c =
    first-level c.args.self.now c.args.word.now c.in_ok-copy-in-None.field-0
    (subst (λ (p : Ground). IsStartOf p c.in_ok-copy-in-None.field-0) c.self.view_is
    (start-copied c.self.inside.problem.now c.self.inside.start c.in_ok-copy-in-None.field-0 c.in_ok-copy-in-None.ensures c.self.invariant.begun))
