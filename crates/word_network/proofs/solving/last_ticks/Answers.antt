use Rattle.std.proofs.Common.{ap, length, ◌+◌, ◌≤◌, ◌≡◌, arith}
use Rattle.tick_network.specs.Nets.{IsGreatest, HasNoSolution, row_count}
use Rattle.tp_spec.specs.Schedules.{Schedule, IsSchedule}
use Rattle.word_network.specs.Schedules.{least_steps}
use Rattle.word_network.specs.Nets.{IsNetOf}
use Rattle.word_network.proofs.Solutions.{if-some, if-both, if-none, last-solved, not-live, steps-of}
use Rattle.word_network.proofs.solving.last_ticks.Goals as goal

pub greatest_of-requires : goal.greatest_of-requires
greatest_of-requires g c =
    let is : IsNetOf c.args.problem.now c.args.limits.now c.args.now c.args.commits.now c.args.word.now c.in-Some.found = rw c.in-Some.is at c.in_ok-found.ensures.some in
    is.proper

pub returns-in-Some-clause-some : goal.returns-in-Some-clause-some
returns-in-Some-clause-some g c =
    let is : IsNetOf c.args.problem.now c.args.limits.now c.args.now c.args.commits.now c.args.word.now c.in-Some.found = rw c.in-Some.is at c.in_ok-found.ensures.some in
    if-both (λ s. IsGreatest c.in-Some.found.net s.ticks.items) (λ s. s.parts ≡ c.in-Some.found.parts) _ c.greatest_of.result
    (λ s h e. last-solved c.args.problem.now c.args.limits.now c.args.now c.args.commits.now c.args.word.now c.in-Some.found s is c.requires.sound c.requires.limits.horizon h e)
    c.greatest_of.ensures.some c.greatest_of.ensures.parts

pub returns-in-Some-clause-none : goal.returns-in-Some-clause-none
returns-in-Some-clause-none g c =
    let is : IsNetOf c.args.problem.now c.args.limits.now c.args.now c.args.commits.now c.args.word.now c.in-Some.found = rw c.in-Some.is at c.in_ok-found.ensures.some in
    if-none (HasNoSolution c.in-Some.found.net) _ c.greatest_of.result (λ none. not-live c.args.problem.now c.args.limits.now c.args.now c.args.commits.now c.args.word.now c.in-Some.found is none) c.greatest_of.ensures.none

pub returns-in-Some-clause-steps : goal.returns-in-Some-clause-steps
returns-in-Some-clause-steps g c =
    let is : IsNetOf c.args.problem.now c.args.limits.now c.args.now c.args.commits.now c.args.word.now c.in-Some.found = rw c.in-Some.is at c.in_ok-found.ensures.some in
    omega (arith, c.greatest_of.ensures.steps, steps-of c.args.problem.now c.args.limits.now c.args.now c.args.commits.now c.args.word.now c.in-Some.found is)

pub returns-in-None-clause-none : goal.returns-in-None-clause-none
returns-in-None-clause-none g c = λ live.
    let none : (x : Schedule) → ¬ (IsSchedule c.args.problem.now c.args.limits.now c.args.now c.args.commits.now c.args.word.now x) = rw c.in-None.is at c.in_ok-found.ensures.none in
    none live.schedule live.is

pub returns-in-Some-clause-counted : goal.returns-in-Some-clause-counted
returns-in-Some-clause-counted g c =
    let is : IsNetOf c.args.problem.now c.args.limits.now c.args.now c.args.commits.now c.args.word.now c.in-Some.found = rw c.in-Some.is at c.in_ok-found.ensures.some in
    let rows : row_count c.in-Some.found.net ≡ least_steps c.args.problem.now c.args.word.now = ap length is.rows in
    if-some (λ _. c.args.steps.now + row_count c.in-Some.found.net ≤ c.greatest_of.new.steps) _ c.greatest_of.result (λ s h. omega (arith, h, rows)) c.greatest_of.ensures.counted
