use Rattle.std.proofs.Common.{◌≡◌}
use Rattle.pddl_tokens.specs.Trees.{trees_of, sizes}
use Rattle.pddl_parts.specs.declared.typed.Part.TheVariants.{Start}
use Rattle.pddl_parts.specs.Items.{with_items}
use Rattle.pddl_parts.proofs.items.with_items.Given as goal

abbrev pub invariant-members : goal.invariant-members
invariant-members l = with_items l.rule l.names l.part (trees_of l.rest) ≡ with_items l.rule l.fn.names Start (trees_of l.forms)

abbrev pub decreases-members : goal.decreases-members
decreases-members l = sizes (trees_of l.rest)
