use Rattle.word_rows.proofs.Kept.{schedules-kept}
use Rattle.word_rows.proofs.Scheduled.{kept-schedules}
use Rattle.word_rows.proofs.laws.rows_of_schedules.Goals as goal

pub returns-clause-kept : goal.returns-clause-kept
returns-clause-kept c = schedules-kept

pub returns-clause-schedules : goal.returns-clause-schedules
returns-clause-schedules c = kept-schedules
