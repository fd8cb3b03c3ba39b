use Rattle.plan_text.proofs.Whole.{read_back}
use Rattle.plan_text.proofs.law.reads_back.Goals as goal

pub returns : goal.returns
returns c = read_back
