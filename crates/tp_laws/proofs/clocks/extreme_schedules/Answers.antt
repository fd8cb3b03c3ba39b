use Rattle.tp_laws.proofs.ExtremeSchedules.{live-has-greatest, live-has-least}
use Rattle.tp_laws.proofs.clocks.extreme_schedules.Goals as goal

pub returns-clause-greatest : goal.returns-clause-greatest
returns-clause-greatest c = live-has-greatest

pub returns-clause-least : goal.returns-clause-least
returns-clause-least c = live-has-least
