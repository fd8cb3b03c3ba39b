use Rattle.std.proofs.Common.{◌≡◌, ◌++◌, length}
use Rattle.workload.specs.Texts.{goals_text}
use Rattle.workload.proofs.texts.push_goals.Given as goal

abbrev pub invariant-customers : goal.invariant-customers
invariant-customers l =
    l.text.items ++ goals_text l.rest ≡ l.fn.text.items ++ goals_text l.customers

abbrev pub decreases-customers : goal.decreases-customers
decreases-customers l = length l.rest
