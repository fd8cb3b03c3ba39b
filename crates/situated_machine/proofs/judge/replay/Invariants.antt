use Rattle.situated_machine.proofs.Replaying.{IsBehind}
use Rattle.situated_machine.proofs.judge.replay.Given as goal

abbrev pub invariant-loop-i : goal.invariant-loop-i
invariant-loop-i l = IsBehind l.problem l.limits l.history l.i l.machine
