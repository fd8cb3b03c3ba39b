use Rattle.std.proofs.Common.{refl}
use Rattle.tp_spec.proofs.Leaves.{reads_number, reads_fluent}
use Rattle.tp_spec.proofs.examples.interference.Goals as goal

pub returns-clause-comparisons : goal.returns-clause-comparisons
returns-clause-comparisons c how op e = (
  simp (reads_number, reads_fluent) refl,
  simp (reads_number, reads_fluent) refl,
  simp (reads_number, reads_fluent) refl,
  refl,
)

pub returns-clause-changes : goal.returns-clause-changes
returns-clause-changes c e = (
  simp (reads_number) refl,
  simp (reads_number) refl,
  simp (reads_number) refl,
  simp (reads_number) refl,
  simp (reads_number) refl,
  simp (reads_number) refl,
  simp (reads_number) refl,
  simp (reads_fluent) refl,
)
