use Rattle.std.proofs.Common.{◌≡◌, subst, false}
use Rattle.std.specs.Prelude.{IfOk, MatchOption}
use Rattle.tp_spec.specs.Words.{closes}
use Rattle.tp_spec.specs.WellFormed.{Ground}
use Rattle.node_state.specs.Readings.{progress_of, IsClosed}
use Rattle.node_state.proofs.judge.Judge.closed.Goals as goal

pub returns : goal.returns
returns c =
    subst (λ (p : Ground). IfOk c.closed.result (λ r. MatchOption r (closes p (progress_of c.args.reading.now) ≡ false) (λ n. IsClosed p (progress_of c.args.reading.now) n))) c.self.view_is c.closed.ensures
