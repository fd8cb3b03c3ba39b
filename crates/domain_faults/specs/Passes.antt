-- The two passes over a domain's file, and its first fault.
use Rattle.std.specs.Prelude.{ℕ, List, [], Option, Some, None}
use Rattle.pddl_tokens.specs.Trees.{Trees, Leaf, Node, End, More}
use Rattle.pddl_parts.specs.declared.faults.Fault.{Fault}
use Rattle.pddl_parts.specs.First.{first}
use Rattle.domain_faults.specs.Parts.{behind_name}
use Rattle.domain_faults.specs.Outer.{declared_faults}
use Rattle.domain_faults.specs.Scopes.{scope_of}
use Rattle.domain_faults.specs.Actions.{actions_faults}

-- the sections of a domain: what stands in the file's form behind `define` and the domain's name
abbrev pub sections_of : Trees → Trees
sections_of End = End
sections_of (More (Leaf at text) rest) = End
sections_of (More (Node at close parts) rest) = behind_name (behind_name parts)

-- what is wrong with the actions among sections
abbrev pub acting_faults : ℕ → Trees → List Fault
acting_faults scale sections = actions_faults (scope_of sections) scale [] sections

-- the first fault of the first pass that has one
abbrev pub in_passes : Option Fault → Option Fault → Option Fault
in_passes None second = second
in_passes (Some f) second = Some f

-- the first fault of a domain's file with so many bytes, at a scale
abbrev pub domain_fault : ℕ → ℕ → Trees → Option Fault
domain_fault scale bytes forms =
    in_passes (first (declared_faults bytes forms))
    (first (acting_faults scale (sections_of forms)))
