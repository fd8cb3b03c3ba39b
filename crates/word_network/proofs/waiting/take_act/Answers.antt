use Rattle.std.proofs.Common.{◌<◌, arith, length}
use Rattle.word_network.proofs.Walking.{taken-there}
use Rattle.word_network.proofs.waiting.take_act.Goals as goal

pub returns-then-index-action-clause-any : goal.returns-then-index-action-clause-any
returns-then-index-action-clause-any c =
    let below : c.loop-i.i < length c.args.acts.now.items = omega (arith, c.loop-i-test.true, c.len-i-end.ensures, c.args.acts.now.ok.0) in
    (taken-there c.args.acts.now.items c.loop-i.acts.items c.remove.new.self.items c.index.result.now c.loop-i.i c.args.action c.loop-i.invariant.same below c.index.ensures c.if-index-action.true c.remove.ensures.items c.loop-i.invariant.none).0

pub returns-then-index-action-clause-taken : goal.returns-then-index-action-clause-taken
returns-then-index-action-clause-taken c = λ _.
    let below : c.loop-i.i < length c.args.acts.now.items = omega (arith, c.loop-i-test.true, c.len-i-end.ensures, c.args.acts.now.ok.0) in
    (taken-there c.args.acts.now.items c.loop-i.acts.items c.remove.new.self.items c.index.result.now c.loop-i.i c.args.action c.loop-i.invariant.same below c.index.ensures c.if-index-action.true c.remove.ensures.items c.loop-i.invariant.none).1
