use Rattle.std.proofs.Common.{length}
use Rattle.trace_text.specs.Traces.{mark_text}
use Rattle.trace_text.specs.Grammar.{fits_mark}
use Rattle.trace_text.proofs.Listing.{Listed}
use Rattle.trace_text.proofs.rows.marks_of.Given as goal

abbrev pub invariant-marks : goal.invariant-marks
invariant-marks l = Listed mark_text fits_mark l.text l.marks l.rest

abbrev pub decreases-marks : goal.decreases-marks
decreases-marks l = length l.rest
