use Rattle.std.proofs.Common.{◌∙◌}
use Rattle.ground_text.proofs.FilledNames.{ranges_same}
use Rattle.ground_text.proofs.unwritten.filled_ranges_hold.Goals as goal

pub returns : goal.returns
returns c = c.ranges_hold.ensures ∙ ranges_same c.args.parts.now
