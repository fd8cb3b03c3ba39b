use Rattle.std.proofs.Common.{◌≡◌, ◌++◌, length}
use Rattle.workload.specs.Texts.{deadlines_text}
use Rattle.workload.proofs.texts.push_deadlines.Given as goal

abbrev pub invariant-customers : goal.invariant-customers
invariant-customers l =
    l.text.items ++ deadlines_text l.rest l.draws.state
    ≡ l.fn.text.items ++ deadlines_text l.customers l.fn.draws.state

abbrev pub decreases-customers : goal.decreases-customers
decreases-customers l = length l.rest
