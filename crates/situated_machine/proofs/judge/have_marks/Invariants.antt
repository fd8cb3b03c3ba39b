use Rattle.std.proofs.Common.{◌≡◌, take}
use Rattle.machine_run.specs.Children.{marks_of}
use Rattle.situated_machine.proofs.judge.have_marks.Given as goal

abbrev pub invariant-loop-i : goal.invariant-loop-i
invariant-loop-i l = marks_of (take l.i l.children) ≡ take l.i l.marks
