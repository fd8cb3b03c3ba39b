use Rattle.std.proofs.Common.{refl, subst, Option, length}
use Rattle.std.specs.Prelude.{IfSome}
use Rattle.node_state.specs.declared.reading.Reading.{Reading}
use Rattle.node_state.specs.Readings.{progress_of, IsClosed}
use Rattle.node_state.proofs.Leveling.{next-level}
use Rattle.node_state.proofs.levels.keep.Goals as goal

pub returns-in_err-put-2 : goal.returns-in_err-put-2
returns-in_err-put-2 c = λ p levels level reached closed.
    c.put-2.ensures p c.args.word.now (c.put.ensures p c.args.word.now levels level)
    (next-level p c.args.word.now (progress_of c.args.top.reading) c.in-Some.reading (length c.args.word.now) refl reached
    (subst (λ (o : Option Reading). IfSome o (λ r. IsClosed p (progress_of c.args.top.reading) r)) c.in-Some.is closed))

pub returns : goal.returns
returns c = λ p levels level reached closed.
    c.put-2.ensures p c.args.word.now (c.put.ensures p c.args.word.now levels level)
    (next-level p c.args.word.now (progress_of c.args.top.reading) c.in-Some.reading (length c.args.word.now) refl reached
    (subst (λ (o : Option Reading). IfSome o (λ r. IsClosed p (progress_of c.args.top.reading) r)) c.in-Some.is closed))
