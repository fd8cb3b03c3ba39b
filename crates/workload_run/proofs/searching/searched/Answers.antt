use Rattle.std.proofs.Common.{◌≡◌, ◌∙◌, ◌^◌, ◌<◌, ap, subst, length, rules}
use Rattle.serial_runs.specs.Endings.{HasResult}
use Rattle.workload_run.specs.Readings.{TurnState}
use Rattle.workload_run.proofs.Turning.{search-of}
use Rattle.workload_run.proofs.searching.searched.Goals as goal

pub returns-then-ends_with_result : goal.returns-then-ends_with_result
returns-then-ends_with_result c =
    let few : length c.into_parts-history.result.0.items < 2 ^ 64 = search rules in
    search-of c.args.problem.now c.args.limits c.begin.new.self c.in-Ok.tree c.search-sent.new.tree c.into_parts-history.result.0.items
    c.in-Ok.ensures.problem c.in-Ok.ensures.limits c.in-Ok.ensures.opened
    (c.begin.ensures.count ∙ ap (λ (s : TurnState). s.count) c.new-clock.ensures)
    c.search-sent.ensures.charter c.into_parts-history.ensures.history c.into_parts-history.ensures.whole c.into_parts-history.ensures.clocked.next
    c.search-sent.ensures.busy
    (subst HasResult c.deref.ensures.value (c.ends_with_result.ensures c.if-ends_with_result.true))
    few
