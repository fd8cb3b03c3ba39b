use Rattle.std.proofs.Common.{sym, subst}
use Rattle.situated_machine.specs.Judged.{IsJudged}
use Rattle.situated_machine.proofs.Replaying.{behind-broken, behind-next}
use Rattle.situated_machine.proofs.judge.replay.Goals as goal

pub returns-in-Some : goal.returns-in-Some
returns-in-Some c =
    behind-broken c.args.problem.now c.args.limits.now c.args.history.now c.loop-i.i c.index-history-i.result c.loop-i-test.true (sym c.index-history-i.is) c.loop-i.machine c.loop-i.invariant c.in-Some.rule
    (subst (IsJudged c.loop-i.machine c.judge.new.self c.index-history-i.result) c.in-Some.is c.in_ok-rule.ensures)

pub loop-i-preserved : goal.loop-i-preserved
loop-i-preserved c =
    behind-next c.args.problem.now c.args.limits.now c.args.history.now c.loop-i.i c.index-history-i.result c.loop-i-test.true (sym c.index-history-i.is) c.loop-i.machine c.loop-i.invariant c.judge.new.self
    (subst (IsJudged c.loop-i.machine c.judge.new.self c.index-history-i.result) c.in_default.is c.in_ok-rule.ensures)
