use Rattle.std.proofs.Common.{◌∙◌}
use Rattle.tick_network.proofs.Answering.{greatest-back}
use Rattle.tick_network.proofs.relax.propagated.Goals as goal

pub returns-then-propagate-clause-some : goal.returns-then-propagate-clause-some
returns-then-propagate-clause-some g c = greatest-back _ c.args.low.now _ c.deref_mut.result.now c.propagate.new.at _ _ c.deref_mut.ensures.value (c.propagate.auto.at ∙ c.deref_mut.ensures.len) c.if-propagate.ensures.propagates
