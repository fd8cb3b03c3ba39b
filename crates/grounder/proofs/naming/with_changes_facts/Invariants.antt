use Rattle.std.proofs.Common.{◌≡◌, ◌++◌, take}
use Rattle.std.specs.List.{flat_map}
use Rattle.grounder.specs.Sources.{source_of}
use Rattle.grounder.specs.Naming.{change_facts}
use Rattle.grounder.proofs.naming.with_changes_facts.Given as goal

abbrev pub invariant-loop-change : goal.invariant-loop-change
invariant-loop-change l =
    l.names ≡ l.fn.names
    ++ flat_map (change_facts (source_of l.start.source) l.objects)
    (take l.change-index l.changes)
