use Rattle.word_network.specs.Solutions.{AreLastOf}
use Rattle.word_network.proofs.LastClocks.{deadline-is}
use Rattle.word_network.proofs.deadlines.deadline_of_blank.Goals as goal

pub returns-in-Some-clause-some : goal.returns-in-Some-clause-some
returns-in-Some-clause-some g c =
    let h : AreLastOf c.args.problem.now c.args.limits.now 0 c.args.commits.now c.args.word.now c.in-Some.found = rw c.in-Some.is at c.in_ok-found.ensures.some in
    deadline-is c.args.problem.now c.args.limits.now c.args.commits.now c.args.word.now c.in-Some.found c.deref-in-Some.result.now c.deref.result.now c.last_clock-last.result c.deref-in-Some.ensures.value c.deref.ensures.value c.requires.sound h c.last_clock-last.ensures
