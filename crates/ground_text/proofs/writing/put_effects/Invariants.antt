use Rattle.std.proofs.Common.{◌≡◌, ◌++◌, take}
use Rattle.ground_text.specs.Texts.{listed, effect_text}
use Rattle.ground_text.proofs.writing.put_effects.Given as goal

abbrev pub invariant-loop-effect : goal.invariant-loop-effect
invariant-loop-effect l = l.out.items ≡ l.fn.out.items ++ listed effect_text (take l.effect-index l.effects)
