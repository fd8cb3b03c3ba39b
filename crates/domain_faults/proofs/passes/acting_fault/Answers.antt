use Rattle.std.proofs.Common.{◌≡◌, IfOk, [], subst}
use Rattle.pddl_tokens.specs.Trees.{trees_of}
use Rattle.pddl_parts.specs.declared.scope.Scope.{Scope}
use Rattle.pddl_parts.specs.First.{first}
use Rattle.domain_faults.specs.Actions.{actions_faults}
use Rattle.domain_faults.proofs.passes.acting_fault.Goals as goal

pub returns : goal.returns
returns c =
    let sections = trees_of c.args.sections.now in
    subst (λ (s : Scope). IfOk c.actions_fault.result (λ f. f ≡ first (actions_faults s c.args.scale [] sections))) c.in_ok-scope.ensures c.actions_fault.ensures
