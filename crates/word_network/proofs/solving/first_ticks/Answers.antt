use Rattle.std.proofs.Common.{◌+◌, ◌≤◌, ap, ◌≡◌, ◌<◌, ◌^◌, arith, length, subst, sym}
use Rattle.tick_network.specs.Nets.{IsLeast, HasNoSolution, row_count}
use Rattle.tp_spec.specs.Schedules.{Schedule, IsSchedule}
use Rattle.word_network.specs.Schedules.{least_steps}
use Rattle.word_network.specs.Nets.{IsNetOf}
use Rattle.word_network.specs.declared.parts.WordParts.{WordParts}
use Rattle.word_network.proofs.Solutions.{if-some, if-both, if-none, first-solved, not-live, steps-of}
use Rattle.word_network.proofs.solving.first_ticks.Goals as goal

pub least_of-requires : goal.least_of-requires
least_of-requires g c =
    let is : IsNetOf c.args.problem.now c.args.limits.now c.args.now c.args.commits.now c.args.word.now c.in-Some.found = rw c.in-Some.is at c.in_ok-found.ensures.some in
    is.proper

pub returns-in-Some-clause-some : goal.returns-in-Some-clause-some
returns-in-Some-clause-some g c =
    let is : IsNetOf c.args.problem.now c.args.limits.now c.args.now c.args.commits.now c.args.word.now c.in-Some.found = rw c.in-Some.is at c.in_ok-found.ensures.some in
    if-both (λ s. IsLeast c.in-Some.found.net s.ticks.items) (λ s. s.parts ≡ c.in-Some.found.parts) _ c.least_of.result
    (λ s h e. first-solved c.args.problem.now c.args.limits.now c.args.now c.args.commits.now c.args.word.now c.in-Some.found s is c.requires.sound c.requires.limits.horizon h e)
    c.least_of.ensures.some c.least_of.ensures.parts

pub returns-in-Some-clause-none : goal.returns-in-Some-clause-none
returns-in-Some-clause-none g c =
    let is : IsNetOf c.args.problem.now c.args.limits.now c.args.now c.args.commits.now c.args.word.now c.in-Some.found = rw c.in-Some.is at c.in_ok-found.ensures.some in
    if-none (HasNoSolution c.in-Some.found.net) _ c.least_of.result (λ none. not-live c.args.problem.now c.args.limits.now c.args.now c.args.commits.now c.args.word.now c.in-Some.found is none) c.least_of.ensures.none

pub returns-in-Some-clause-groups : goal.returns-in-Some-clause-groups
returns-in-Some-clause-groups g c =
    let few : c.in-Some.found.parts.groups < 2 ^ 31 = rw c.in-Some.is at c.in_ok-found.ensures.groups in
    if-some (λ s. s.parts ≡ c.in-Some.found.parts) (λ s. s.parts.groups < 2 ^ 31) c.least_of.result (λ s e. subst (λ (r : WordParts). r.groups < 2 ^ 31) (sym e) few) c.least_of.ensures.parts

pub returns-in-Some-clause-acts : goal.returns-in-Some-clause-acts
returns-in-Some-clause-acts g c =
    let few : length c.in-Some.found.parts.acts.items < 2 ^ 31 = rw c.in-Some.is at c.in_ok-found.ensures.acts in
    if-some (λ s. s.parts ≡ c.in-Some.found.parts) (λ s. length s.parts.acts.items < 2 ^ 31) c.least_of.result (λ s e. subst (λ (r : WordParts). length r.acts.items < 2 ^ 31) (sym e) few) c.least_of.ensures.parts

pub returns-in-Some-clause-steps : goal.returns-in-Some-clause-steps
returns-in-Some-clause-steps g c =
    let is : IsNetOf c.args.problem.now c.args.limits.now c.args.now c.args.commits.now c.args.word.now c.in-Some.found = rw c.in-Some.is at c.in_ok-found.ensures.some in
    omega (arith, c.least_of.ensures.steps, steps-of c.args.problem.now c.args.limits.now c.args.now c.args.commits.now c.args.word.now c.in-Some.found is)

pub returns-in-None-clause-none : goal.returns-in-None-clause-none
returns-in-None-clause-none g c = λ live.
    let none : (x : Schedule) → ¬ (IsSchedule c.args.problem.now c.args.limits.now c.args.now c.args.commits.now c.args.word.now x) = rw c.in-None.is at c.in_ok-found.ensures.none in
    none live.schedule live.is

pub returns-in-Some-clause-counted : goal.returns-in-Some-clause-counted
returns-in-Some-clause-counted g c =
    let is : IsNetOf c.args.problem.now c.args.limits.now c.args.now c.args.commits.now c.args.word.now c.in-Some.found = rw c.in-Some.is at c.in_ok-found.ensures.some in
    let rows : row_count c.in-Some.found.net ≡ least_steps c.args.problem.now c.args.word.now = ap length is.rows in
    if-some (λ _. c.args.steps.now + row_count c.in-Some.found.net ≤ c.least_of.new.steps) _ c.least_of.result (λ s h. omega (arith, h, rows)) c.least_of.ensures.counted
