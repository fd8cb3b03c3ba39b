use Rattle.std.proofs.Common.{◌≡◌, IfSome, codes, ◌∷◌, []}
use Rattle.pddl_tokens.specs.Trees.{trees_of, sizes}
use Rattle.pddl_parts.specs.declared.typed.Part.TheVariants.{Start}
use Rattle.pddl_parts.specs.First.{first, earlier}
use Rattle.pddl_meaning.specs.Groups.{parent_behind}
use Rattle.domain_faults.specs.Types.{again_types, with_parents, parents_of, object_alone}
use Rattle.domain_faults.proofs.parents.parents_of.Given as goal

abbrev pub invariant-members : goal.invariant-members
invariant-members l =
    record {
      judged : earlier l.best (first (again_types l.types l.seen l.parents l.part (trees_of l.rest))) ≡ first (again_types l.types object_alone ((codes "object", 0) ∷ []) Start (trees_of l.members));
      parents : with_parents l.types l.seen l.parents l.part (trees_of l.rest) ≡ parents_of l.types (trees_of l.members);
      known : IfSome l.known (λ p. p ≡ parent_behind l.types (trees_of l.rest));
    }

abbrev pub decreases-members : goal.decreases-members
decreases-members l = sizes (trees_of l.rest)
