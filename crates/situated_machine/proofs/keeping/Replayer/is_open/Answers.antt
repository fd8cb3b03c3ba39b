use Rattle.std.proofs.Common.{◌∙◌, sym, ap}
use Rattle.tp_spec.specs.Machine.{open_nodes}
use Rattle.word_frontier.specs.Nodes as kept_nodes
use Rattle.situated_machine.specs.Keeping.{ReplayView}
use Rattle.situated_machine.specs.Rules.{has_id}
use Rattle.situated_machine.proofs.Stepping.{plain-has, plain-open}
use Rattle.situated_machine.proofs.keeping.Replayer.is_open.Goals as goal

pub returns : goal.returns
returns c =
    c.is_open.ensures
    ∙ sym (plain-has c.args.id (kept_nodes.open_nodes c.self.inside.frontier.nodes))
    ∙ ap (has_id c.args.id) (sym (plain-open c.self.inside.frontier.nodes))
    ∙ ap (λ (r : ReplayView). has_id c.args.id (open_nodes r.machine.nodes)) c.self.view_is
