use Rattle.world_state.proofs.TimedFacts.{timed_loses, no_timed_loses}
use Rattle.world_state.proofs.changes.delete_by_item.Goals as goal

pub returns-in-Some : goal.returns-in-Some
returns-in-Some c =
    timed_loses c.args.problem.now c.args.item c.in-TimedAt.number c.in-Some.timed.now c.as_slice.result.now c.args.facts.now c.remove_each.new.self
    c.in-TimedAt.is c.in-Some.ensures c.as_slice.ensures c.remove_each.ensures

pub returns-in-None : goal.returns-in-None
returns-in-None c = no_timed_loses c.args.problem.now c.args.item c.in-TimedAt.number c.args.facts.now c.in-TimedAt.is c.in-None.ensures
