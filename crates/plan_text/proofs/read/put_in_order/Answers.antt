use Rattle.std.proofs.Common.{rules}
use Rattle.std.proofs.lemmas.List.Sorted.{answers_always}
use Rattle.tp_spec.specs.declared.plan.Timed.{Timed}
use Rattle.plan_text.proofs.Orders.{in_order_sorted}
use Rattle.plan_text.proofs.read.put_in_order.Goals as goal

pub returns-in-Ok-clause-in_order : goal.returns-in-Ok-clause-in_order
returns-in-Ok-clause-in_order c =
    in_order_sorted c.sort_by_key.new.self.items
    (c.in-Ok.ensures.sorted (λ (x : Timed). (x.start, x.action, x.length)) (answers_always _ _ _ (λ f a r q k. search rules)))
