use Rattle.std.proofs.Common.{◌≡◌, ◌≤◌}
use Rattle.pddl_tokens.specs.Trees.{trees_of, sizes}
use Rattle.pddl_parts.specs.First.{first, earlier}
use Rattle.pddl_parts.specs.Settings.{setting_of}
use Rattle.pddl_parts.specs.Conditions.{conditions_faults}
use Rattle.pddl_parts.proofs.conditions.+conditions.Given as goal

abbrev pub invariant-conditions_fault-conditions : goal.invariant-conditions_fault-conditions
invariant-conditions_fault-conditions l =
    record {
      judged : earlier l.best (first (conditions_faults (setting_of l.context) (trees_of l.rest))) ≡ first (conditions_faults (setting_of l.context) (trees_of l.forms));
      smaller : sizes (trees_of l.rest) ≤ sizes (trees_of l.forms);
    }

abbrev pub decreases-conditions_fault-conditions : goal.decreases-conditions_fault-conditions
decreases-conditions_fault-conditions l = sizes (trees_of l.rest)

abbrev pub decreases-condition_fault : goal.decreases-condition_fault
decreases-condition_fault l = sizes (trees_of l.parts.now)

abbrev pub decreases-conditions_fault : goal.decreases-conditions_fault
decreases-conditions_fault l = sizes (trees_of l.forms.now)
