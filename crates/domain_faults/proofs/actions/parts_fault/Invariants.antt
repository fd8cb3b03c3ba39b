use Rattle.std.proofs.Common.{◌≡◌, []}
use Rattle.pddl_tokens.specs.Trees.{trees_of, sizes}
use Rattle.pddl_parts.specs.First.{first, earlier}
use Rattle.pddl_parts.specs.Settings.{setting_of}
use Rattle.domain_faults.specs.declared.actions.Stage.TheVariants.{Keyword}
use Rattle.domain_faults.specs.Actions.{parts_faults}
use Rattle.domain_faults.proofs.actions.parts_fault.Given as goal

abbrev pub invariant-parts : goal.invariant-parts
invariant-parts l =
    earlier l.best (first (parts_faults l.kind (setting_of l.context) l.close l.seen l.stage (trees_of l.rest)))
    ≡ first (parts_faults l.kind (setting_of l.context) l.close [] Keyword (trees_of l.forms))

abbrev pub decreases-parts : goal.decreases-parts
decreases-parts l = sizes (trees_of l.rest)
