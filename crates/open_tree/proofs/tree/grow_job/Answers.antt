use Rattle.std.proofs.Common.{sym, ap, subst, ◌∙◌, length, IfOk}
use Rattle.open_tree.specs.Steps.{AreBrood, Finishes}
use Rattle.open_tree.proofs.Merging.{acts-standing, on-err, same-brood}
use Rattle.open_tree.proofs.tree.grow_job.Goals as goal

pub grow-requires-clause-brood : goal.grow-requires-clause-brood
grow-requires-clause-brood c =
    let id = c.id.ensures ∙ ap (λ j. j.id) c.job-job.ensures in
    let counted = sym (ap length c.commits.ensures.acts) ∙ c.if-commits.true ∙ ap length (c.commits-2.ensures ∙ ap (λ j. j.commits) c.job-job.ensures) in
    subst (λ k. AreBrood c.args.run.now k c.children.result.now) (sym id)
    (subst (AreBrood c.args.run.now c.args.sprouts.now.job.id) (sym c.children.ensures.children) (same-brood c.args.run.now c.args.sprouts.now c.requires.ready counted))

pub returns-then-commits-clause-done : goal.returns-then-commits-clause-done
returns-then-commits-clause-done c =
    let id = c.id.ensures ∙ ap (λ j. j.id) c.job-job.ensures in
    subst (λ k. IfOk c.grow.result (Finishes c.args.run.now c.grow.new.run c.args.actor k)) id c.grow.ensures.done

pub returns-in_err-children-clause-err : goal.returns-in_err-children-clause-err
returns-in_err-children-clause-err c = on-err c.from_residual.result _ (acts-standing c.args.run.now c.args.actor c.requires.held.may)
