use Rattle.std.proofs.Common.{refl}
use Rattle.std.specs.Fmt.{digits}
use Rattle.workload.specs.Draws.{next_state, number_of}
use Rattle.workload.proofs.pinned.example_texts.Goals as goal

pub returns-clause-four : goal.returns-clause-four
unfolding next_state number_of digits
returns-clause-four c = refl

pub returns-clause-five : goal.returns-clause-five
unfolding next_state number_of digits
returns-clause-five c = refl

pub returns-clause-six : goal.returns-clause-six
unfolding next_state number_of digits
returns-clause-six c = refl
