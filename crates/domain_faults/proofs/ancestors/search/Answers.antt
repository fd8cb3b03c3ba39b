use Rattle.std.proofs.Common.{ℕ, arith, ap, ◌∙◌, List, [], ◌∷◌, ◌++◌}
use Rattle.domain_faults.proofs.Walks.{nothing_known, first_of, all_right}
use Rattle.domain_faults.proofs.ancestors.search.Goals as goal

pub loop-start-init : goal.loop-start-init
loop-start-init c = record {
  known = nothing_known c.args.above.now c.args.places.now c.push.new.self c.args.marks.now c.requires.some c.requires.root c.requires.room c.requires.marked c.requires.unmet c.requires.unmarked (c.in_ok-push.ensures.ok ∙ ap (λ (xs : List ℕ). xs ++ 0 ∷ []) c.new-order.ensures);
  met = λ v h. absurd (omega arith);
}

pub loop-start-preserved : goal.loop-start-preserved
loop-start-preserved c = record {
  known = c.in_ok-settle.ensures.known;
  met = λ v h. first_of c.settle.new.places c.loop-start.places c.loop-start.start c.loop-start.invariant.met c.in_ok-settle.ensures.grown c.in_ok-settle.ensures.met v h;
}

pub returns : goal.returns
returns c = λ v h. all_right c.args.above.now c.loop-start.places c.loop-start.order c.loop-start.marks v c.loop-start.invariant.known (c.loop-start.invariant.met v (omega (arith, c.loop-start-test.false, h)))
