use Rattle.std.proofs.Common.{length}
use Rattle.trace_text.specs.Traces.{act_text}
use Rattle.trace_text.specs.Grammar.{fits_act}
use Rattle.trace_text.proofs.Listing.{Listed}
use Rattle.trace_text.proofs.rows.acts_of.Given as goal

abbrev pub invariant-acts : goal.invariant-acts
invariant-acts l = Listed act_text fits_act l.text l.acts l.rest

abbrev pub decreases-acts : goal.decreases-acts
decreases-acts l = length l.rest
