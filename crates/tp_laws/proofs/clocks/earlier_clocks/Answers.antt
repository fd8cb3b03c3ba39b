use Rattle.tp_laws.proofs.ClockLaws.{later-earlier}
use Rattle.tp_laws.proofs.ClockCommits.{more-fewer, live-earlier}
use Rattle.tp_laws.proofs.clocks.earlier_clocks.Goals as goal

pub returns-clause-schedules : goal.returns-clause-schedules
returns-clause-schedules c = later-earlier

pub returns-clause-fewer : goal.returns-clause-fewer
returns-clause-fewer c = more-fewer

pub returns-clause-live : goal.returns-clause-live
returns-clause-live c = live-earlier
