use Rattle.std.proofs.Common.{refl, subst, ◌∙◌}
use Rattle.machine_run.specs.Deeds.{GivesTake}
use Rattle.open_tree.proofs.Turns.{turn-settles, readings-turn}
use Rattle.open_tree.proofs.Taking.{take-ends, gives-job}
use Rattle.open_tree.proofs.tree.take_turn.Goals as goal

pub returns-then-is_over-clause-ended : goal.returns-then-is_over-clause-ended
returns-then-is_over-clause-ended c = record {
  read = readings-turn refl c.in_ok-begin.ensures.begun.turn;
  settled = c.in_ok-begin.ensures.begun.settled;
}

pub returns-in_default-clause-ended : goal.returns-in_default-clause-ended
returns-in_default-clause-ended c =
    let none = subst (GivesTake c.begin.new.self c.take.new.self c.args.actor) c.in_default.is c.in_ok-id.ensures.taken in
    record {
      read = readings-turn refl (turn-settles c.in_ok-begin.ensures.begun.turn none.events);
      settled = none.rested.settled;
    }

pub returns-clause-taken : goal.returns-clause-taken
returns-clause-taken c =
    let takes = subst (GivesTake c.begin.new.self c.take.new.self c.args.actor) c.in-Some.is c.in_ok-id.ensures.taken in
    gives-job c.args.run.now c.begin.new.self c.take.new.self c.args.actor c.args.reading _ _ c.in_ok-begin.ensures.begun.turn takes c.new.result
    (record { problem = c.in_ok-id.ensures.task.problem ∙ c.in_ok-begin.ensures.task.problem; limits = c.in_ok-id.ensures.task.limits ∙ c.in_ok-begin.ensures.task.limits })
    (c.new.ensures.problem ∙ c.problem.ensures) (c.new.ensures.limits ∙ c.limits.ensures) c.new.ensures.id c.new.ensures.node
    (c.new.ensures.clock ∙ c.now.ensures takes.rested.standing) (c.new.ensures.commits ∙ c.in_ok-commits.ensures ∙ c.commits.ensures.acts)

pub returns-clause-ended : goal.returns-clause-ended
returns-clause-ended c =
    let takes = subst (GivesTake c.begin.new.self c.take.new.self c.args.actor) c.in-Some.is c.in_ok-id.ensures.taken in
    take-ends c.args.run.now c.begin.new.self c.take.new.self c.args.actor c.args.reading _ _ c.in_ok-begin.ensures.begun.turn takes
