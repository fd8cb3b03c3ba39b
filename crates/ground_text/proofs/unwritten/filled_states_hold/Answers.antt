use Rattle.std.proofs.Common.{◌∙◌}
use Rattle.ground_text.proofs.FilledNames.{states_same}
use Rattle.ground_text.proofs.unwritten.filled_states_hold.Goals as goal

pub returns : goal.returns
returns c = c.states_hold.ensures ∙ states_same c.args.parts.now
