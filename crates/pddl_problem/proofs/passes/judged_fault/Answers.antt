use Rattle.std.proofs.Common.{◌≡◌, IfOk, [], codes, ap, subst, ◌∙◌}
use Rattle.pddl_tokens.specs.Trees.{trees_of}
use Rattle.pddl_parts.specs.declared.scope.Scope.{Scope}
use Rattle.pddl_parts.specs.First.{first}
use Rattle.pddl_parts.specs.Settings.{outside}
use Rattle.pddl_parts.specs.Members.{members_of}
use Rattle.pddl_problem.specs.Known.{scope_of}
use Rattle.pddl_problem.specs.Passes.{sections_faults}
use Rattle.pddl_problem.proofs.passes.judged_fault.Goals as goal

pub returns : goal.returns
returns c =
    let sections = trees_of c.args.sections.now in
    let scope : c.in_ok-scope.scope ≡ scope_of c.args.domain.now (members_of (codes ":objects") sections)
    = c.in_ok-scope.ensures ∙ ap (scope_of c.args.domain.now) c.members_of.ensures in
    subst (λ (s : Scope). IfOk c.judged_in.result (λ f. f ≡ first (sections_faults (outside s [] c.args.scale) sections))) scope c.judged_in.ensures
