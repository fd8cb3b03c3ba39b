use Rattle.std.proofs.Common.{◌≡◌, ◌∙◌, ap, ◌||◌, List, [], length}
use Rattle.plan_validator.specs.declared.standings.Standing.{Standing}
use Rattle.plan_validator.specs.Standings.{has_standing, stands_timed, stands_by}
use Rattle.plan_validator.proofs.Standing.{standings_are}
use Rattle.plan_validator.proofs.standings.standings_of.Goals as goal

pub returns : goal.returns
returns c =
    let none : c.new-standings.result.items ≡ [] = c.new-standings.ensures.items in
    standings_are c.args.problem.now c.args.acts.now c.requires.inside c.push_acts.new.standings.items c.put_in_order.new.standings.items
    (λ t i. c.in_ok-push_acts.ensures t i
    ∙ ap (λ b. b || stands_by c.args.problem.now c.args.acts.now t i)
    (c.in_ok-push_timed.ensures t i ∙ ap (λ (xs : List Standing). has_standing xs t i || stands_timed c.args.problem.now (length c.args.problem.now.timed) t i) none))
    c.put_in_order.ensures
