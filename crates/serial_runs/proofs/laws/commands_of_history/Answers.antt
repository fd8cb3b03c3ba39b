use Rattle.serial_runs.proofs.Puts.{commands-committed}
use Rattle.serial_runs.proofs.laws.commands_of_history.Goals as goal

pub returns : goal.returns
returns c = commands-committed
