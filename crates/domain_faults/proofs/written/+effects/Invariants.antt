use Rattle.std.proofs.Common.{◌≡◌, ◌≤◌}
use Rattle.pddl_tokens.specs.Trees.{trees_of, sizes}
use Rattle.domain_faults.specs.Written.{with_effects}
use Rattle.domain_faults.proofs.written.+effects.Given as goal

abbrev pub invariant-with_effects-effects : goal.invariant-with_effects-effects
invariant-with_effects-effects l =
    record {
      gathered : with_effects l.names (trees_of l.rest) ≡ with_effects l.fn.names (trees_of l.forms);
      smaller : sizes (trees_of l.rest) ≤ sizes (trees_of l.forms);
    }

abbrev pub decreases-with_effects-effects : goal.decreases-with_effects-effects
decreases-with_effects-effects l = sizes (trees_of l.rest)

abbrev pub decreases-with_effect : goal.decreases-with_effect
decreases-with_effect l = sizes (trees_of l.parts.now)

abbrev pub decreases-with_effects : goal.decreases-with_effects
decreases-with_effects l = sizes (trees_of l.forms.now)
