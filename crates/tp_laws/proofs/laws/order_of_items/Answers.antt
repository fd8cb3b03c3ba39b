use Rattle.tp_laws.proofs.Orders.{after-permuted}
use Rattle.tp_laws.proofs.Sequences.{one_by_one-next}
use Rattle.tp_laws.proofs.laws.order_of_items.Goals as goal

pub returns-clause-order : goal.returns-clause-order
returns-clause-order c = after-permuted

pub returns-clause-sequence : goal.returns-clause-sequence
returns-clause-sequence c = one_by_one-next
