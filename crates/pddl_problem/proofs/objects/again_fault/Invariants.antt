use Rattle.std.proofs.Common.{◌≡◌, IfSome, []}
use Rattle.pddl_tokens.specs.Trees.{trees_of, sizes}
use Rattle.pddl_parts.specs.declared.typed.Part.TheVariants.{Start}
use Rattle.pddl_parts.specs.First.{first, earlier}
use Rattle.pddl_meaning.specs.Groups.{parent_behind}
use Rattle.pddl_problem.specs.Objects.{again_objects}
use Rattle.pddl_problem.proofs.objects.again_fault.Given as goal

abbrev pub invariant-members : goal.invariant-members
invariant-members l =
    record {
      judged : earlier l.best (first (again_objects l.types l.constants l.seen l.part (trees_of l.rest))) ≡ first (again_objects l.types l.constants [] Start (trees_of l.members));
      known : IfSome l.known (λ p. p ≡ parent_behind l.types (trees_of l.rest));
    }

abbrev pub decreases-members : goal.decreases-members
decreases-members l = sizes (trees_of l.rest)
