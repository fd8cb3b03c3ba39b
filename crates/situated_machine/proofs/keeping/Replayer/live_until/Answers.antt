use Rattle.std.proofs.Common.{rules, ◌≡◌, ◌++◌, ◌∷◌, [], ◌<◌}
use Rattle.tp_laws.specs.Clocks.{IsDeadline}
use Rattle.tp_spec.specs.Schedules.{Live}
use Rattle.situated_machine.proofs.Marking.{never-after, dead-after}
use Rattle.situated_machine.proofs.keeping.Replayer.live_until.Goals as goal

pub returns-else-deadline-self-clause-none : goal.returns-else-deadline-self-clause-none
returns-else-deadline-self-clause-none c =
    let longer : c.as_slice.result.now ≡ c.args.word.now.items ++ c.args.mark ∷ [] = search rules in
    let late : c.in-Some.deadline < c.self.inside.clock = search rules in
    let timely : IsDeadline c.self.inside.problem.now c.self.inside.limits c.acts-commits.result.now c.as_slice.result.now c.in-Some.deadline = rw c.in-Some.is at c.in_ok-found.ensures.some in
    dead-after c.self.invariant c.args.self.now c.self.view_is c.args.word.now.items c.args.mark c.acts-commits.result.now c.acts-commits.ensures c.as_slice.result.now longer
    c.in-Some.deadline c.requires.known timely late

pub returns-in-None-clause-none : goal.returns-in-None-clause-none
returns-in-None-clause-none c =
    let longer : c.as_slice.result.now ≡ c.args.word.now.items ++ c.args.mark ∷ [] = search rules in
    let none : ¬ (Live c.self.inside.problem.now c.self.inside.limits 0 c.acts-commits.result.now c.as_slice.result.now) = rw c.in-None.is at c.in_ok-found.ensures.none in
    never-after c.self.invariant c.args.self.now c.self.view_is c.args.word.now.items c.args.mark c.acts-commits.result.now c.acts-commits.ensures c.as_slice.result.now longer none
