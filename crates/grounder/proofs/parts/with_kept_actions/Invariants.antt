use Rattle.std.proofs.Common.{◌≡◌, ◌++◌, map, take}
use Rattle.grounder.specs.Sources.{source_of}
use Rattle.grounder.specs.Parts.{action_of}
use Rattle.grounder.proofs.parts.with_kept_actions.Given as goal

abbrev pub invariant-loop-objects : goal.invariant-loop-objects
invariant-loop-objects l = l.actions ≡ l.fn.actions
    ++ map (action_of (source_of l.start.source) l.numbering.facts l.numbering.fluents l.schema)
    (take l.objects-index l.kept)
