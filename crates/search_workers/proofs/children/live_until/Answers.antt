use Rattle.std.proofs.Common.{arith, ◌++◌, ◌∷◌, []}
use Rattle.tp_spec.specs.Schedules.{Live}
use Rattle.tp_laws.proofs.ClockLaws.{later-earlier}
use Rattle.search_workers.proofs.children.live_until.Goals as goal

pub returns-in-None-clause-none : goal.returns-in-None-clause-none
returns-in-None-clause-none c = λ live.
    let none : ¬ (Live c.args.problem.now c.args.job.now.limits 0 c.args.job.now.commits (c.args.job.now.node.word ++ c.args.mark ∷ [])) = rw c.in-None.is at c.in_ok-deadline.ensures.none in
    none (record { sound = live.sound; schedule = live.schedule; is = later-earlier _ _ _ _ 0 _ live.schedule (omega arith) live.is })
