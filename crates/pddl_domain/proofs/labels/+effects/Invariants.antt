use Rattle.std.proofs.Common.{◌≡◌, ◌≤◌, ◌++◌}
use Rattle.pddl_tokens.specs.Trees.{trees_of, sizes}
use Rattle.pddl_domain.specs.Bounds.{timed_effects}
use Rattle.pddl_domain.proofs.labels.+effects.Given as goal

abbrev pub invariant-with_timed_effects-members : goal.invariant-with_timed_effects-members
invariant-with_timed_effects-members l =
    record {
      gathered : l.listed ++ timed_effects l.symbols l.variables l.scale l.label (trees_of l.rest) ≡ l.fn.listed ++ timed_effects l.symbols l.variables l.scale l.label (trees_of l.forms);
      smaller : sizes (trees_of l.rest) ≤ sizes (trees_of l.forms);
    }

abbrev pub decreases-with_timed_effects-members : goal.decreases-with_timed_effects-members
decreases-with_timed_effects-members l = sizes (trees_of l.rest)

abbrev pub decreases-with_timed_effect : goal.decreases-with_timed_effect
decreases-with_timed_effect l = sizes (trees_of l.parts.now)

abbrev pub decreases-with_timed_effects : goal.decreases-with_timed_effects
decreases-with_timed_effects l = sizes (trees_of l.forms.now)
