use Rattle.std.proofs.Common.{◌≡◌, Bool, List, ap, ◌∙◌, subst}
use Rattle.std.specs.Prelude.{IfOk}
use Rattle.pddl_tokens.specs.Trees.{trees_of}
use Rattle.pddl_parts.specs.declared.faults.Fault.{Fault}
use Rattle.pddl_parts.specs.First.{first}
use Rattle.domain_faults.specs.Cycles.{marked_faults}
use Rattle.domain_faults.proofs.Above.{marked_all}
use Rattle.domain_faults.proofs.cycles.cycle_fault.Goals as goal

pub returns : goal.returns
returns c =
    subst (λ (fs : List Fault). IfOk c.marked_fault.result (λ fault. fault ≡ first fs))
    (ap (λ (marks : List Bool). marked_faults c.args.types.now marks (trees_of c.args.members.now)) c.as_slice.ensures
    ∙ marked_all c.args.types.now c.args.parents.now c.in_ok-marks.marks c.in_ok-marks.ensures (trees_of c.args.members.now))
    c.marked_fault.ensures
