use Rattle.std.proofs.Common.{◌∙◌}
use Rattle.ground_text.proofs.FilledNames.{items_same}
use Rattle.ground_text.proofs.unwritten.filled_items_hold.Goals as goal

pub returns : goal.returns
returns c = c.in_ok-holds.ensures ∙ items_same c.args.parts.now
