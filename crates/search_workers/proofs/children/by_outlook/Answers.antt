use Rattle.std.proofs.Common.{◌∙◌, ap}
use Rattle.tp_laws.specs.Instants.{deadline_with}
use Rattle.search_workers.specs.Outlooks.{told}
use Rattle.search_workers.proofs.ShortWay.{by-outlook-some, by-outlook-none}
use Rattle.search_workers.proofs.children.by_outlook.Goals as goal

pub returns-clause-some : goal.returns-clause-some
returns-clause-some c =
    let last = c.deadline.ensures ∙ ap (λ n. n.deadline) c.node.ensures in
    by-outlook-some c.args.problem.now c.args.job.now c.args.outlook c.args.mark c.requires.can c.requires.known c.requires.instant c.requires.sound c.deadline_with.result
    (c.deadline_with.ensures ∙ (λ i. deadline_with c.args.problem.now (c.limits.ensures i) (told c.args.outlook) (last i) c.args.mark))

pub returns-clause-none : goal.returns-clause-none
returns-clause-none c =
    let last = c.deadline.ensures ∙ ap (λ n. n.deadline) c.node.ensures in
    by-outlook-none c.args.problem.now c.args.job.now c.args.outlook c.args.mark c.requires.can c.requires.known c.requires.instant c.requires.sound c.deadline_with.result
    (c.deadline_with.ensures ∙ (λ i. deadline_with c.args.problem.now (c.limits.ensures i) (told c.args.outlook) (last i) c.args.mark))
