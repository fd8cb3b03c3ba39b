use Rattle.std.proofs.Common.{◌≡◌, subst, IfSome}
use Rattle.tp_spec.specs.WellFormed.{Ground}
use Rattle.node_state.specs.Readings.{progress_of}
use Rattle.node_state.specs.Founds.{unmet_with}
use Rattle.node_state.proofs.judge.Judge.rank_by_effects.Goals as goal

pub returns : goal.returns
returns c = subst (λ (p : Ground). IfSome c.unmet_by_effects.result (λ n. n ≡ unmet_with p (progress_of c.args.reading.now) c.args.item)) c.self.view_is c.unmet_by_effects.ensures
