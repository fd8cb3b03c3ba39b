use Rattle.word_network.specs.Solutions.{AreFirstOf}
use Rattle.word_network.proofs.ReadBack.{earliest-is}
use Rattle.word_network.proofs.networks.earliest.Goals as goal

pub returns-in_ok-plan-in-Some-clause-some : goal.returns-in_ok-plan-in-Some-clause-some
returns-in_ok-plan-in-Some-clause-some g c =
    let h : AreFirstOf c.args.problem.now c.args.limits.now c.args.now c.args.commits.now c.args.word.now c.in-Some.found = rw c.in-Some.is at c.in_ok-found.ensures.some in
    earliest-is c.args.problem.now c.args.limits.now c.args.now c.args.commits.now c.args.word.now c.in-Some.found c.deref.result.now c.in_ok-plan-in-Some.plan c.deref.ensures.value c.requires.sound h c.in_ok-plan-in-Some.ensures.acts c.in_ok-plan-in-Some.ensures.end
