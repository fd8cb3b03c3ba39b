use Rattle.tp_laws.proofs.ClockLaws.{stays-greatest, greatest-tells}
use Rattle.tp_laws.proofs.clocks.one_tick_tells.Goals as goal

pub returns-clause-stays : goal.returns-clause-stays
returns-clause-stays c = stays-greatest

pub returns-clause-tells : goal.returns-clause-tells
returns-clause-tells c = greatest-tells
