use Rattle.std.proofs.Common.{arith}
use Rattle.ground_text.proofs.Told.{beyond, begun_none}
use Rattle.ground_text.proofs.search.last_begun.Goals as goal

pub halves-init : goal.halves-init
halves-init c = record { apart = omega arith; within = omega arith; begins = begun_none c.args.text.now; ends = beyond c.args.text.now }
