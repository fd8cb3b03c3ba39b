use Rattle.tp_spec.specs.Machine.{is_open}
use Rattle.tp_laws.proofs.Members.{in-filter}
use Rattle.run_laws.proofs.Runs.{taken-id}
use Rattle.run_laws.proofs.histories.takes_of_nodes.Goals as goal

pub returns-clause-open_stand : goal.returns-clause-open_stand
returns-clause-open_stand c n nodes h = in-filter is_open n nodes h

pub returns-clause-ids : goal.returns-clause-ids
returns-clause-ids c = taken-id
