use Rattle.std.proofs.Common.{◌≡◌, ◌++◌, take}
use Rattle.std.specs.List.{flat_map}
use Rattle.grounder.specs.Sources.{source_of}
use Rattle.grounder.specs.Naming.{action_facts}
use Rattle.grounder.proofs.naming.with_kept_facts.Given as goal

abbrev pub invariant-loop-objects : goal.invariant-loop-objects
invariant-loop-objects l =
    l.names ≡ l.fn.names
    ++ flat_map (action_facts (source_of l.start.source) l.schema) (take l.objects-index l.kept)
