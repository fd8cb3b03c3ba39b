use Rattle.std.proofs.Common.{refl, inl, inr}
use Rattle.tp_spec.specs.Machine.{rank}
use Rattle.tp_spec.proofs.Leaves.{value_number}
use Rattle.tp_spec.proofs.examples.choices.Goals as goal

pub returns-clause-ranks : goal.returns-clause-ranks
returns-clause-ranks c = (refl, refl, simp (value_number) refl)

pub returns-clause-best : goal.returns-clause-best
unfolding rank
returns-clause-best c = refl

pub returns-clause-best_of_two : goal.returns-clause-best_of_two
unfolding rank
returns-clause-best_of_two c = record { there = inr (inl refl); least = refl }
