use Rattle.std.proofs.Common.{◌≡◌, take}
use Rattle.std.specs.List.{flat_map}
use Rattle.ground_text.specs.Reading.{deleted}
use Rattle.ground_text.proofs.sections.deleted.Given as goal

abbrev pub invariant-loop-effect : goal.invariant-loop-effect
invariant-loop-effect l = l.facts.items ≡ flat_map deleted (take l.effect-index l.effects)
