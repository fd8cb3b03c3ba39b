use Rattle.std.proofs.Common.{List, subst, arith}
use Rattle.std.proofs.lemmas.List.{take_more, take_all}
use Rattle.std.proofs.lemmas.Option.{slice_get-get_or}
use Rattle.tp_spec.specs.declared.plan.Timed.{Timed}
use Rattle.dispatcher.specs.Sending.{SendsAll}
use Rattle.dispatcher.proofs.Sent.{sends_none, sends_more, stops}
use Rattle.dispatcher.proofs.commands.send.Goals as goal

abbrev none : Timed
none = record { action = 0; start = 0; length = 0 }

pub loop-act-init : goal.loop-act-init
loop-act-init g c = sends_none c.args.problem.now (g.O.Sink.view c.args.out.now)

pub loop-act-preserved : goal.loop-act-preserved
loop-act-preserved g c =
    let acts = c.args.acts.now in
    let k = c.loop-act.act-index in
    sends_more c.args.problem.now acts k _ _ _ _ (take_more acts k none c.loop-act-test.true) c.loop-act.invariant c.in-Ok.ensures

pub returns-in-Err : goal.returns-in-Err
returns-in-Err g c =
    let acts = c.args.acts.now in
    let k = c.loop-act.act-index in
    stops c.args.problem.now acts k _ _ _ _ (take_more acts k none c.loop-act-test.true) c.loop-act.invariant
    (slice_get-get_or acts k none c.loop-act-test.true) c.in-Err.fault c.in-Err.ensures

pub returns : goal.returns
returns g c =
    subst (λ (l : List Timed). SendsAll c.args.problem.now l (g.O.Sink.view c.args.out.now) (g.O.Sink.view c.loop-act.out))
    (take_all c.loop-act.act-index c.args.acts.now (omega (arith, c.loop-act-test.false))) c.loop-act.invariant
