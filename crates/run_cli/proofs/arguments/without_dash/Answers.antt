use Rattle.std.proofs.Common.{arith}
use Rattle.std.proofs.lemmas.Str.Pattern.{strip_prefix_char}
use Rattle.run_cli.proofs.Dashes.{dash_cut}
use Rattle.run_cli.proofs.arguments.without_dash.Goals as goal

pub returns : goal.returns
returns c = dash_cut c.args.text.now c.strip_prefix.result (strip_prefix_char 45 c.args.text.now c.strip_prefix.result c.strip_prefix.ensures.cases (omega arith))
