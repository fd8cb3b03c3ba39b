use Rattle.std.proofs.Common.{take}
use Rattle.snap_actions.specs.Tables.{TookEffects}
use Rattle.snap_actions.proofs.tables.ItemRows.include_all.Given as goal

abbrev pub invariant-loop-effect : goal.invariant-loop-effect
invariant-loop-effect l = TookEffects l.initial.self l.self (take l.effect-index l.effects)
