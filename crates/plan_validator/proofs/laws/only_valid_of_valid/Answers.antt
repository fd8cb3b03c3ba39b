use Rattle.plan_validator.proofs.Broken.{only_valid}
use Rattle.plan_validator.proofs.laws.only_valid_of_valid.Goals as goal

pub returns : goal.returns
returns c = only_valid
