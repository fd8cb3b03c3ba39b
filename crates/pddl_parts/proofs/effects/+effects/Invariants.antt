use Rattle.std.proofs.Common.{◌≡◌, ◌≤◌}
use Rattle.pddl_tokens.specs.Trees.{trees_of, sizes}
use Rattle.pddl_parts.specs.First.{first, earlier}
use Rattle.pddl_parts.specs.Settings.{setting_of}
use Rattle.pddl_parts.specs.Effects.{effects_faults}
use Rattle.pddl_parts.proofs.effects.+effects.Given as goal

abbrev pub invariant-effects_fault-effects : goal.invariant-effects_fault-effects
invariant-effects_fault-effects l =
    record {
      judged : earlier l.best (first (effects_faults (setting_of l.context) (trees_of l.rest))) ≡ first (effects_faults (setting_of l.context) (trees_of l.forms));
      smaller : sizes (trees_of l.rest) ≤ sizes (trees_of l.forms);
    }

abbrev pub decreases-effects_fault-effects : goal.decreases-effects_fault-effects
decreases-effects_fault-effects l = sizes (trees_of l.rest)

abbrev pub decreases-effect_fault : goal.decreases-effect_fault
decreases-effect_fault l = sizes (trees_of l.parts.now)

abbrev pub decreases-effects_fault : goal.decreases-effects_fault
decreases-effects_fault l = sizes (trees_of l.forms.now)
