use Rattle.word_network.specs.Solutions.{AreLastOf}
use Rattle.word_network.proofs.ReadBack.{latest-is, room-of}
use Rattle.word_network.proofs.networks.latest.Goals as goal

pub latest_of-requires : goal.latest_of-requires
latest_of-requires g c =
    let h : AreLastOf c.args.problem.now c.args.limits.now c.args.now c.args.commits.now c.args.word.now c.in-Some.found = rw c.in-Some.is at c.in_ok-found.ensures.some in
    room-of c.args.problem.now c.args.limits.now c.args.now c.args.commits.now c.args.word.now c.in-Some.found c.deref.result.now c.deref.ensures.value h

pub returns-in_ok-schedule-in-Some-clause-some : goal.returns-in_ok-schedule-in-Some-clause-some
returns-in_ok-schedule-in-Some-clause-some g c =
    let h : AreLastOf c.args.problem.now c.args.limits.now c.args.now c.args.commits.now c.args.word.now c.in-Some.found = rw c.in-Some.is at c.in_ok-found.ensures.some in
    latest-is c.args.problem.now c.args.limits.now c.args.now c.args.commits.now c.args.word.now c.in-Some.found c.deref.result.now c.in_ok-schedule-in-Some.schedule c.deref.ensures.value c.requires.sound h c.in_ok-schedule-in-Some.ensures.groups c.in_ok-schedule-in-Some.ensures.ends
