use Rattle.std.proofs.Common.{ℕ, List, sym, subst}
use Rattle.pddl_tokens.specs.Trees.{trees_of}
use Rattle.domain_faults.specs.Cycles.{AreInside}
use Rattle.domain_faults.proofs.Inside.{parents_inside}
use Rattle.domain_faults.proofs.types.types_fault.Goals as goal

pub cycle_fault-requires : goal.cycle_fault-requires
cycle_fault-requires c =
    subst (λ (parents : List (List ℕ × ℕ)). AreInside c.args.types.now parents) (sym c.in_ok-parents.ensures.parents) (parents_inside c.args.types.now (trees_of c.args.members.now))
