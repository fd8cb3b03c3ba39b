use Rattle.world_state.proofs.TimedFacts.{timed_takes, no_timed_takes}
use Rattle.world_state.proofs.changes.add_by_item.Goals as goal

pub returns-in-Some : goal.returns-in-Some
returns-in-Some c =
    timed_takes c.args.problem.now c.args.item c.in-TimedAt.number c.in-Some.timed.now c.as_slice.result.now c.args.facts.now c.insert_each.new.self
    c.in-TimedAt.is c.in-Some.ensures c.as_slice.ensures c.insert_each.ensures

pub returns-in-None : goal.returns-in-None
returns-in-None c = no_timed_takes c.args.problem.now c.args.item c.in-TimedAt.number c.args.facts.now c.in-TimedAt.is c.in-None.ensures
