use Rattle.std.proofs.Common.{◌≡◌, ◌≤◌}
use Rattle.pddl_tokens.specs.Trees.{trees_of, sizes}
use Rattle.pddl_parts.specs.First.{first, earlier}
use Rattle.pddl_parts.specs.Settings.{setting_of}
use Rattle.pddl_parts.specs.Expressions.{expressions_faults}
use Rattle.pddl_parts.proofs.expressions.+expressions.Given as goal

abbrev pub invariant-expressions_fault-expressions : goal.invariant-expressions_fault-expressions
invariant-expressions_fault-expressions l =
    record {
      judged : earlier l.best (first (expressions_faults (setting_of l.context) (trees_of l.rest))) ≡ first (expressions_faults (setting_of l.context) (trees_of l.forms));
      smaller : sizes (trees_of l.rest) ≤ sizes (trees_of l.forms);
    }

abbrev pub decreases-expressions_fault-expressions : goal.decreases-expressions_fault-expressions
decreases-expressions_fault-expressions l = sizes (trees_of l.rest)

abbrev pub decreases-operation_fault : goal.decreases-operation_fault
decreases-operation_fault l = sizes (trees_of l.parts.now)

abbrev pub decreases-difference_fault : goal.decreases-difference_fault
decreases-difference_fault l = sizes (trees_of l.operands.now)

abbrev pub decreases-second_fault : goal.decreases-second_fault
decreases-second_fault l = sizes (trees_of l.operands.now)

abbrev pub decreases-expressions_fault : goal.decreases-expressions_fault
decreases-expressions_fault l = sizes (trees_of l.forms.now)
