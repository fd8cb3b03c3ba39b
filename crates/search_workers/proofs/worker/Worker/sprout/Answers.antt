use Rattle.std.proofs.Common.{◌∙◌, ap, subst}
use Rattle.node_state.specs.Growths.{IsGrowthOf}
use Rattle.tp_spec.specs.declared.problem.Problem.{Problem}
use Rattle.search_workers.specs.Sprouting.{AreKept}
use Rattle.search_workers.proofs.LiveMarks.{sprouts-of}
use Rattle.search_workers.proofs.worker.Worker.sprout.Goals as goal

pub new-requires : goal.new-requires
new-requires c =
    let p : Problem = c.args.self.now in
    let j = c.args.job in
    let word = c.word.ensures ∙ ap (λ n. n.word) c.node.ensures in
    let grown : IsGrowthOf p j.node.word c.in-Ok.growth =
    subst (λ w. IsGrowthOf p w c.in-Ok.growth) word (subst (λ q. IsGrowthOf q c.word.result.now c.in-Ok.growth) (c.self.invariant ∙ c.self.view_is) c.in-Ok.ensures.growth) in
    let kept : AreKept p j c.in-Ok.growth.marks c.in-Ok-children_of.children =
    subst (λ ms. AreKept p j ms c.in-Ok-children_of.children) c.as_slice.ensures (subst (λ q. AreKept q j c.as_slice.result.now c.in-Ok-children_of.children) c.self.view_is c.in-Ok-children_of.ensures) in
    sprouts-of p j c.requires.problem c.in-Ok.growth grown c.in-Ok-children_of.children kept
