use Rattle.std.proofs.Common.{◌≡◌, map, take}
use Rattle.grounder.specs.Sources.{object_of}
use Rattle.grounder.proofs.sources.objects_at.Given as goal

abbrev pub invariant-loop-term : goal.invariant-loop-term
invariant-loop-term l = l.found ≡ map (object_of l.objects) (take l.term-index l.terms)
