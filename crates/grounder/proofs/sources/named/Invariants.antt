use Rattle.std.proofs.Common.{◌≡◌, string_bytes, take}
use Rattle.grounder.specs.Sources.{source_of, named}
use Rattle.grounder.proofs.sources.named.Given as goal

abbrev pub invariant-loop-object : goal.invariant-loop-object
invariant-loop-object l =
    string_bytes l.name ≡ named (source_of l.source) l.symbol (take l.object-index l.objects)
