use Rattle.std.proofs.Common.{subst, IfNone}
use Rattle.situated_machine.specs.Deadlines.{IsLiveIn}
use Rattle.situated_machine.proofs.Settled.{dead-best}
use Rattle.situated_machine.proofs.keeping.Replayer.next.Goals as goal

pub returns-in_default-2-clause-next : goal.returns-in_default-2-clause-next
returns-in_default-2-clause-next c =
    dead-best c.args.self.now c.keeps_order.ensures c.in-Some.best.id c.in-Some.ensures.best
    (subst (λ o. IfNone o (¬ (IsLiveIn c.args.self.now c.in-Some.best.id))) c.in_default-2.is c.in_ok-deadline.ensures.none)
