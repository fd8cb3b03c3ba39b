use Rattle.pddl_problem.proofs.meaning.task_from.Goals as goal

pub returns : goal.returns
returns c =
    λ i.
    record {
      objects = c.in_ok-objects.ensures i;
      init = c.in_ok-facts.ensures i;
      values = c.in_ok-values.ensures i;
      timed = c.in_ok-timed.ensures i;
      goal = c.in_ok-goal.ensures i;
    }
