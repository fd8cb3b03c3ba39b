use Rattle.std.proofs.Common.{◌≡◌, ◌≤◌}
use Rattle.pddl_tokens.specs.Trees.{trees_of, sizes}
use Rattle.pddl_parts.specs.First.{first, earlier}
use Rattle.pddl_parts.specs.Settings.{setting_of}
use Rattle.pddl_parts.specs.Timed.{all_timed_faults}
use Rattle.pddl_parts.proofs.timed.+timed.Given as goal

abbrev pub invariant-all_timed_fault-members : goal.invariant-all_timed_fault-members
invariant-all_timed_fault-members l =
    record {
      judged : earlier l.best (first (all_timed_faults l.part (setting_of l.context) (trees_of l.rest))) ≡ first (all_timed_faults l.part (setting_of l.context) (trees_of l.forms));
      smaller : sizes (trees_of l.rest) ≤ sizes (trees_of l.forms);
    }

abbrev pub decreases-all_timed_fault-members : goal.decreases-all_timed_fault-members
decreases-all_timed_fault-members l = sizes (trees_of l.rest)

abbrev pub decreases-timed_fault : goal.decreases-timed_fault
decreases-timed_fault l = sizes (trees_of l.parts.now)

abbrev pub decreases-all_timed_fault : goal.decreases-all_timed_fault
decreases-all_timed_fault l = sizes (trees_of l.forms.now)
