use Rattle.std.proofs.Common.{◌≡◌, []}
use Rattle.pddl_tokens.specs.Trees.{trees_of, sizes}
use Rattle.pddl_parts.specs.First.{first, earlier}
use Rattle.domain_faults.specs.Actions.{actions_faults}
use Rattle.domain_faults.proofs.actions.actions_fault.Given as goal

abbrev pub invariant-sections : goal.invariant-sections
invariant-sections l =
    earlier l.best (first (actions_faults l.scope l.scale l.names (trees_of l.rest)))
    ≡ first (actions_faults l.scope l.scale [] (trees_of l.sections))

abbrev pub decreases-sections : goal.decreases-sections
decreases-sections l = sizes (trees_of l.rest)
