use Rattle.std.proofs.Common.{◌≡◌, map, take}
use Rattle.serial_runs.specs.Playing.{reading_in}
use Rattle.serial_runs.proofs.script.readings_of.Given as goal

abbrev pub invariant-loop-line : goal.invariant-loop-line
invariant-loop-line l = l.readings.items ≡ map reading_in (take l.line-index l.script)
