use Rattle.workload_run.proofs.Turning.{ids-by-marks}
use Rattle.workload_run.proofs.summary.ids_of_histories.Goals as goal

pub returns : goal.returns
returns c = ids-by-marks
