use Rattle.std.proofs.Common.{ℕ, List, sym, subst}
use Rattle.domain_faults.specs.Cycles.{IsAbove}
use Rattle.domain_faults.proofs.Above.{above_below, marks_of}
use Rattle.domain_faults.proofs.cycles.cyclic_types.Goals as goal

pub own_ancestors-requires-clause-below : goal.own_ancestors-requires-clause-below
own_ancestors-requires-clause-below c =
    above_below c.args.types.now c.args.parents.now c.as_slice.result.now
    (subst (λ (xs : List ℕ). IsAbove c.args.types.now c.args.parents.now xs) (sym c.as_slice.ensures) c.in_ok-above.ensures) c.requires

pub returns : goal.returns
returns c =
    marks_of c.args.types.now c.args.parents.now c.as_slice.result.now
    (subst (λ (xs : List ℕ). IsAbove c.args.types.now c.args.parents.now xs) (sym c.as_slice.ensures) c.in_ok-above.ensures) c.requires
    c.own_ancestors.result c.own_ancestors.ensures
