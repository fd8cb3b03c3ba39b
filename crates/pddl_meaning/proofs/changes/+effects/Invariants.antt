use Rattle.std.proofs.Common.{◌≡◌, ◌≤◌, ◌++◌}
use Rattle.pddl_tokens.specs.Trees.{trees_of, sizes}
use Rattle.pddl_meaning.specs.Changes.{effects_of}
use Rattle.pddl_meaning.proofs.changes.+effects.Given as goal

abbrev pub invariant-with_effects-effects : goal.invariant-with_effects-effects
invariant-with_effects-effects l =
    record {
      gathered : l.changes ++ effects_of l.symbols l.variables l.scale (trees_of l.rest) ≡ l.fn.changes ++ effects_of l.symbols l.variables l.scale (trees_of l.forms);
      smaller : sizes (trees_of l.rest) ≤ sizes (trees_of l.forms);
    }

abbrev pub decreases-with_effects-effects : goal.decreases-with_effects-effects
decreases-with_effects-effects l = sizes (trees_of l.rest)

abbrev pub decreases-with_effect : goal.decreases-with_effect
decreases-with_effect l = sizes (trees_of l.parts.now)

abbrev pub decreases-with_effects : goal.decreases-with_effects
decreases-with_effects l = sizes (trees_of l.forms.now)
