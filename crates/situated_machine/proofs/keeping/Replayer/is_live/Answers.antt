use Rattle.std.proofs.Common.{sym, subst, IfSome, IfNone}
use Rattle.situated_machine.specs.Deadlines.{IsLiveIn, IsLiveUntil}
use Rattle.situated_machine.proofs.Deadlines.{early-live}
use Rattle.situated_machine.proofs.Settled.{one-best}
use Rattle.situated_machine.proofs.keeping.Replayer.is_live.Goals as goal

pub returns-in-Some-2-clause-yes : goal.returns-in-Some-2-clause-yes
returns-in-Some-2-clause-yes c = λ _.
    let until : IsLiveUntil c.args.self.now c.in-Some.least.id c.in-Some-2.field-0 = subst (λ o. IfSome o (IsLiveUntil c.args.self.now c.in-Some.least.id)) c.in-Some-2.is c.in_ok-live_deadline.ensures.some in
    subst (IsLiveIn c.args.self.now) (one-best _ _ c.in-Some.least.id c.args.id c.in-Some.ensures.best c.requires.least)
    (early-live _ _ _ c.keeps_order.ensures _ c.in-Some-2.field-0 until.timely until.early)

pub returns-in-None-clause-no : goal.returns-in-None-clause-no
returns-in-None-clause-no c = λ _ live.
    subst (λ o. IfNone o (¬ (IsLiveIn c.args.self.now c.in-Some.least.id))) c.in-None.is c.in_ok-live_deadline.ensures.none
    (subst (IsLiveIn c.args.self.now) (sym (one-best _ _ c.in-Some.least.id c.args.id c.in-Some.ensures.best c.requires.least)) live)
