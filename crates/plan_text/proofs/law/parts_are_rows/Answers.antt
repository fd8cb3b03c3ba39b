use Rattle.plan_text.proofs.Rowing.{parts_are_rows}
use Rattle.plan_text.proofs.law.parts_are_rows.Goals as goal

pub returns : goal.returns
returns c = parts_are_rows
