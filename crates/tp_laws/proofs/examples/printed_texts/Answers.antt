use Rattle.std.proofs.Common.{refl}
use Rattle.std.specs.Fmt.{digits}
use Rattle.tp_laws.proofs.examples.printed_texts.Goals as goal

pub returns-clause-tick : goal.returns-clause-tick
unfolding digits
returns-clause-tick c = refl

pub returns-clause-command : goal.returns-clause-command
unfolding digits
returns-clause-command c = refl

pub returns-clause-result : goal.returns-clause-result
unfolding digits
returns-clause-result c = refl
