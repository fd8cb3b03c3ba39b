use Rattle.std.proofs.Common.{◌≡◌, ◌++◌, IfSome}
use Rattle.pddl_tokens.specs.Trees.{trees_of, sizes}
use Rattle.pddl_parts.specs.declared.typed.Part.TheVariants.{Start}
use Rattle.pddl_meaning.specs.Groups.{parent_behind, objects_from}
use Rattle.pddl_meaning.proofs.groups.objects_of.Given as goal

abbrev pub invariant-members : goal.invariant-members
invariant-members l =
    record {
      gathered : l.objects ++ objects_from l.rule l.types l.part (trees_of l.rest) ≡ objects_from l.rule l.types Start (trees_of l.forms);
      known : IfSome l.known (λ p. p ≡ parent_behind l.types (trees_of l.rest));
    }

abbrev pub decreases-members : goal.decreases-members
decreases-members l = sizes (trees_of l.rest)
