use Rattle.script_text.proofs.Played.{playable}
use Rattle.script_text.proofs.read.read_script.Goals as goal

pub returns-clause-playable : goal.returns-clause-playable
returns-clause-playable c = playable c.args.text.now c.lines_of.result c.lines_of.ensures
