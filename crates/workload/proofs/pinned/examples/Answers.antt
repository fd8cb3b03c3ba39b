use Rattle.std.proofs.Common.{refl}
use Rattle.std.specs.Fmt.{digits}
use Rattle.workload.specs.Draws.{next_state, number_of}
use Rattle.workload.proofs.pinned.examples.Goals as goal

pub returns-clause-states : goal.returns-clause-states
unfolding next_state
returns-clause-states c = (refl, refl, refl, refl)

pub returns-clause-numbers : goal.returns-clause-numbers
unfolding number_of
returns-clause-numbers c = (refl, refl, refl, refl, refl)

pub returns-clause-customers : goal.returns-clause-customers
unfolding next_state number_of
returns-clause-customers c = (refl, refl, refl, refl)

pub returns-clause-legs : goal.returns-clause-legs
returns-clause-legs c = refl

pub returns-clause-names : goal.returns-clause-names
unfolding digits
returns-clause-names c = (refl, refl, refl)
