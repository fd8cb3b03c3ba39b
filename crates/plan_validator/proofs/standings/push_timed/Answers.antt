use Rattle.std.proofs.Common.{◌≡◌, ℕ, ◌∙◌, sym, ap, rules, arith, ◌||◌, ◌+◌, ◌<◌, length, get_or}
use Rattle.tp_spec.specs.declared.plan.Item.{Item}
use Rattle.tp_spec.specs.declared.problem.TimedItem.{TimedItem}
use Rattle.plan_validator.specs.declared.standings.Place.TheVariants.{Fixed}
use Rattle.plan_validator.specs.Standings.{has_standing, stands_timed}
use Rattle.plan_validator.proofs.Pushed.{at, or_step, timed_more}
use Rattle.plan_validator.proofs.standings.push_timed.Goals as goal

pub loop-index-preserved : goal.loop-index-preserved
loop-index-preserved c = λ t i.
    let x : TimedItem = c.item-item.result in
    let n : ℕ = c.loop-index.index in
    let inside : n < length c.args.problem.now.timed = search rules in
    let is : x ≡ get_or c.args.problem.now.timed n x = search rules in
    let more : stands_timed c.args.problem.now (n + 1) t i ≡ (stands_timed c.args.problem.now n t i || has_standing (at x.tick (Fixed n)) t i) =
    timed_more c.args.problem.now n x inside t i ∙ ap (λ (y : TimedItem). stands_timed c.args.problem.now n t i || has_standing (at y.tick (Fixed n)) t i) (sym is) in
    or_step (has_standing c.loop-index.standings.items t i) (has_standing c.args.standings.now.items t i) (stands_timed c.args.problem.now n t i) (has_standing (at x.tick (Fixed n)) t i) (has_standing c.push.new.standings.items t i)
    (c.loop-index.invariant t i) (c.in_ok-push.ensures t i)
    ∙ ap (λ b. has_standing c.args.standings.now.items t i || b) (sym more)
