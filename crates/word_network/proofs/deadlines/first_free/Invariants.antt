use Rattle.std.proofs.Common.{◌≡◌, [], take, drop, map}
use Rattle.tp_spec.specs.Machine.{candidate}
use Rattle.word_network.specs.Deadlines.{opens_of}
use Rattle.word_network.specs.Parts.{act_of}
use Rattle.word_network.proofs.deadlines.first_free.Given as goal

abbrev pub invariant-loop-i : goal.invariant-loop-i
invariant-loop-i l = opens_of (candidate (map act_of (take l.i l.acts)) l.commits (map act_of (drop l.i l.acts))) ≡ opens_of (candidate [] l.commits (map act_of l.acts))
