use Rattle.std.proofs.Common.{◌≡◌, ◌≤◌, ◌++◌}
use Rattle.pddl_tokens.specs.Trees.{trees_of, sizes}
use Rattle.domain_faults.specs.Places.{effects_places}
use Rattle.domain_faults.proofs.places.+places.Given as goal

abbrev pub invariant-with_effects-effects : goal.invariant-with_effects-effects
invariant-with_effects-effects l =
    record {
      gathered : l.places ++ effects_places (trees_of l.rest) ≡ l.fn.places ++ effects_places (trees_of l.forms);
      smaller : sizes (trees_of l.rest) ≤ sizes (trees_of l.forms);
    }

abbrev pub decreases-with_effects-effects : goal.decreases-with_effects-effects
decreases-with_effects-effects l = sizes (trees_of l.rest)

abbrev pub decreases-with_effect : goal.decreases-with_effect
decreases-with_effect l = sizes (trees_of l.parts.now)

abbrev pub decreases-with_effects : goal.decreases-with_effects
decreases-with_effects l = sizes (trees_of l.forms.now)
