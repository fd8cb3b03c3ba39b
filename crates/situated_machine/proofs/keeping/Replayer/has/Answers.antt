use Rattle.std.proofs.Common.{◌∙◌, sym, ap}
use Rattle.situated_machine.specs.Keeping.{ReplayView}
use Rattle.situated_machine.specs.Rules.{has_id}
use Rattle.situated_machine.proofs.Stepping.{plain-has}
use Rattle.situated_machine.proofs.keeping.Replayer.has.Goals as goal

pub returns : goal.returns
returns c = c.has.ensures ∙ sym (plain-has c.args.id c.self.inside.frontier.nodes) ∙ ap (λ (r : ReplayView). has_id c.args.id r.machine.nodes) c.self.view_is
