-- What was asked for owns nothing, so any thread may share it.
use denote.Param.Send.{IsSync, part_keyless}
use Rattle.tp_world.specs.contracts.requests.Begun.{the_row}
use Rattle.tp_world.proofs.requests.Begun.TheSendSync.Send.{send}

pub sync : IsSync the_row
sync = record { shared = λ d b o κ q. part_keyless the_row send q d b o }
