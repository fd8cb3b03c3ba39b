use Rattle.std.proofs.Common.{sym, arith, ◌∙◌}
use Rattle.word_network.proofs.Building.{ended-there}
use Rattle.word_network.proofs.parts.end_act.Goals as goal

pub returns-then-runs : goal.returns-then-runs
returns-then-runs c = ended-there c.args.acts.now c.loop-i.acts c.loop-i.i _ c.args.action c.args.group _ c.loop-i.invariant.same (omega arith) (sym c.runs.ensures ∙ c.if-runs.true) c.loop-i.invariant.passed
