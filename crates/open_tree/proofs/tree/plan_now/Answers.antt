use Rattle.std.proofs.Common.{sym, ap, ◌∙◌}
use Rattle.tp_spec.specs.Schedules.{Live}
use Rattle.word_network.specs.Schedules.{IsEarliest}
use Rattle.open_tree.specs.Steps.{HasNoPlan, IsPublication}
use Rattle.open_tree.proofs.Merging.{part-plan, lacking-plan, dead-plan, publication, some-ok, none-ok}
use Rattle.open_tree.proofs.tree.plan_now.Goals as goal

pub returns-then-not-is_whole-clause-none : goal.returns-then-not-is_whole-clause-none
returns-then-not-is_whole-clause-none c = part-plan c.args.run.now c.args.sprouts.now c.requires.ready (sym c.is_whole.ensures ∙ c.if-not-is_whole.true)

pub returns-then-not-are_held-clause-none : goal.returns-then-not-are_held-clause-none
returns-then-not-are_held-clause-none c =
    let word = c.word-word.ensures ∙ ap (λ n. n.word) (c.node.ensures ∙ ap (λ j. j.node) c.job.ensures) in
    lacking-plan c.args.run.now c.args.sprouts.now c.requires.ready c.problem-problem.ensures c.commits-commits.ensures.acts word (sym c.are_held.ensures ∙ c.if-not-are_held.true)

pub returns-clause-some : goal.returns-clause-some
returns-clause-some c =
    let word = c.word-word.ensures ∙ ap (λ n. n.word) (c.node.ensures ∙ ap (λ j. j.node) c.job.ensures) in
    let held = sym c.are_held.ensures ∙ c.if-not-are_held.false in
    some-ok (IsEarliest c.problem-problem.result.now c.limits.result.now c.now.result c.commits-commits.result.now c.word-word.result.now) (IsPublication c.args.run.now c.args.sprouts.now.job.id) c.earliest_plan.result
    (publication c.args.run.now c.args.sprouts.now c.requires.ready c.problem-problem.ensures c.commits-commits.ensures.acts word (sym c.is_whole.ensures ∙ c.if-not-is_whole.false) held c.limits.ensures (c.now.ensures c.requires.standing))
    c.earliest_plan.ensures.some

pub returns-clause-none : goal.returns-clause-none
returns-clause-none c =
    let word = c.word-word.ensures ∙ ap (λ n. n.word) (c.node.ensures ∙ ap (λ j. j.node) c.job.ensures) in
    none-ok (¬ (Live c.problem-problem.result.now c.limits.result.now c.now.result c.commits-commits.result.now c.word-word.result.now)) (HasNoPlan c.args.run.now c.args.sprouts.now.job.id) c.earliest_plan.result
    (dead-plan c.args.run.now c.args.sprouts.now c.requires.ready c.problem-problem.ensures c.commits-commits.ensures.acts word c.limits.ensures (c.now.ensures c.requires.standing))
    c.earliest_plan.ensures.none
