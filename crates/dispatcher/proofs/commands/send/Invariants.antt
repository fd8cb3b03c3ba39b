use Rattle.std.proofs.Common.{take}
use Rattle.dispatcher.specs.Sending.{SendsAll}
use Rattle.dispatcher.proofs.commands.send.Given as goal

abbrev pub invariant-loop-act : goal.invariant-loop-act
invariant-loop-act g l = SendsAll l.problem (take l.act-index l.acts) (g.O.Sink.view l.fn.out) (g.O.Sink.view l.out)
