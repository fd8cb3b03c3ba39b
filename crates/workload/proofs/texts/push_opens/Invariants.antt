use Rattle.std.proofs.Common.{◌≡◌, ◌++◌, drop}
use Rattle.workload.specs.Texts.{opens_text}
use Rattle.workload.proofs.texts.push_opens.Given as goal

abbrev pub invariant-loop-customer : goal.invariant-loop-customer
invariant-loop-customer l =
    l.text.items ++ opens_text (drop l.customer-index l.customers)
    ≡ l.fn.text.items ++ opens_text l.customers
