use Rattle.std.proofs.Common.{◌≡◌, sym, subst, ◌∙◌}
use Rattle.std.proofs.lemmas.Bool.{false≢true}
use Rattle.tp_spec.specs.Machine.{IsDue, IsQuiet}
use Rattle.situated_machine.specs.Judged.{IsNext}
use Rattle.situated_machine.proofs.Settled.{timed-same}
use Rattle.situated_machine.proofs.Single.{one-due}
use Rattle.situated_machine.proofs.keeping.Replayer.is_due.Goals as goal

pub returns-in-Due-clause-no : goal.returns-in-Due-clause-no
returns-in-Due-clause-no c = λ differs due.
    let found : IsDue c.args.self.now.problem c.args.self.now.limits c.args.self.now.machine c.in-Due.found = subst (IsNext c.args.self.now) c.in-Due.is c.in_ok-next.ensures.next in
    let same : c.in-Due.found ≡ c.args.act = one-due _ _ c.args.self.now.machine c.in-Due.found c.args.act c.keeps_order.ensures.told_apart found due in
    false≢true (sym differs ∙ c.eq.ensures ∙ timed-same c.in-Due.found c.args.act same)

pub returns-in-Nothing-clause-no : goal.returns-in-Nothing-clause-no
returns-in-Nothing-clause-no c = λ _ due.
    let quiet : IsQuiet c.args.self.now.problem c.args.self.now.limits c.args.self.now.machine = subst (IsNext c.args.self.now) c.in-Nothing.is c.in_ok-next.ensures.next in
    quiet.not_urgent c.args.act due
