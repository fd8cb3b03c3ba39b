use Rattle.std.proofs.Common.{◌≡◌, ℕ, ◌<◌, List, ap, sym, subst, ◌∙◌, get_or, length, false, rules}
use Rattle.tp_spec.specs.declared.problem.Cond.{Cond}
use Rattle.tp_spec.specs.States.{holds}
use Rattle.world_state.specs.View.{meaning}
use Rattle.plan_validator.proofs.Judgement.{first_failing}
use Rattle.plan_validator.proofs.judge.first_unmet_part.Goals as goal

pub returns-then-not-holds : goal.returns-then-not-holds
returns-then-not-holds c =
    let x : Cond = c.cond-item.result in
    let inside : c.loop-part.part < length c.args.problem.now.goal = search rules in
    let is : x ≡ get_or c.args.problem.now.goal c.loop-part.part x = search rules in
    let fails : holds (meaning c.args.state.now) x ≡ false = search rules in
    first_failing (holds (meaning c.args.state.now)) c.args.problem.now.goal c.loop-part.part x inside c.loop-part.invariant (ap (holds (meaning c.args.state.now)) (sym is) ∙ fails)
