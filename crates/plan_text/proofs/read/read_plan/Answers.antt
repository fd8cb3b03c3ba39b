use Rattle.plan_text.proofs.Bounds.{bounded_read}
use Rattle.plan_text.proofs.read.read_plan.Goals as goal

pub returns-clause-bounded : goal.returns-clause-bounded
returns-clause-bounded c =
    bounded_read c.args.problem.now c.args.text.now c.in_ok-acts.acts.items c.put_in_order.new.acts.items c.of.result c.in_ok-acts.end
    c.in_ok-acts.ensures.plan c.put_in_order.ensures.same c.in_ok-put_in_order.ensures.in_order c.of.ensures
