use Rattle.std.proofs.Common.{◌∙◌, sym, ap}
use Rattle.situated_machine.specs.Keeping.{ReplayView}
use Rattle.situated_machine.specs.Rules.{has_id, taken_nodes}
use Rattle.situated_machine.proofs.Stepping.{plain-taken}
use Rattle.situated_machine.proofs.keeping.Replayer.is_taken.Goals as goal

pub returns : goal.returns
returns c =
    c.is_taken.ensures
    ∙ sym (plain-taken c.args.id c.args.actor c.self.inside.frontier.nodes)
    ∙ ap (λ (r : ReplayView). has_id c.args.id (taken_nodes c.args.actor r.machine.nodes)) c.self.view_is
