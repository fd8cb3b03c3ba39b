use Rattle.std.proofs.Common.{◌≡◌, ℕ, List, take}
use Rattle.std.specs.BTreeMap.{get_by_text}
use Rattle.grounder.specs.Sources.{source_of}
use Rattle.grounder.specs.Starts.{given_among}
use Rattle.grounder.proofs.tables.values_of.Given as goal

abbrev pub invariant-loop-given : goal.invariant-loop-given
invariant-loop-given l = (name : List ℕ) → get_by_text l.values name
    ≡ given_among (source_of l.source) name (take l.given-index l.source.task.now.values)
