use Rattle.std.proofs.Common.{◌≡◌, IfOk, ap, subst, ◌∙◌}
use Rattle.pddl_tokens.specs.Trees.{trees_of}
use Rattle.pddl_problem.specs.declared.task.Task.{Task}
use Rattle.pddl_problem.specs.Elements.{first_list}
use Rattle.pddl_problem.specs.Meaning.{symbols_of, task_from, task_in}
use Rattle.pddl_problem.proofs.meaning.task_in.Goals as goal

pub returns : goal.returns
returns c =
    let listed = c.members_of-listed.ensures in
    let init = c.members_of-init.ensures in
    let wanted = c.first_list-wanted.ensures ∙ ap first_list c.members_of.ensures in
    let symbols = c.in_ok-symbols.ensures ∙ ap (symbols_of c.args.domain.now) listed in
    let same : task_from c.args.domain.now c.in_ok-symbols.symbols c.args.scale (trees_of c.members_of-listed.result.now) (trees_of c.members_of-init.result.now) (trees_of c.first_list-wanted.result.now)
    ≡ task_in c.args.domain.now c.args.scale (trees_of c.args.sections.now)
    = λ i. task_from c.args.domain.now (symbols i) c.args.scale (listed i) (init i) (wanted i) in
    subst (λ (t : Task). IfOk c.task_from.result (λ x. x ≡ t)) same c.task_from.ensures
