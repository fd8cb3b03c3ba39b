use Rattle.std.proofs.Common.{◌≡◌, ◌++◌, drop}
use Rattle.workload.specs.Texts.{names_text}
use Rattle.workload.proofs.texts.push_names.Given as goal

abbrev pub invariant-loop-customer : goal.invariant-loop-customer
invariant-loop-customer l =
    l.text.items ++ names_text (drop l.customer-index l.customers)
    ≡ l.fn.text.items ++ names_text l.customers
