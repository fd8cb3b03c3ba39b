use Rattle.std.proofs.Common.{◌≡◌, take}
use Rattle.std.specs.List.{flat_map}
use Rattle.ground_text.specs.Reading.{added}
use Rattle.ground_text.proofs.sections.added.Given as goal

abbrev pub invariant-loop-effect : goal.invariant-loop-effect
invariant-loop-effect l = l.facts.items ≡ flat_map added (take l.effect-index l.effects)
