use Rattle.std.proofs.Common.{◌∙◌, sym, ap}
use Rattle.situated_machine.specs.Keeping.{ReplayView}
use Rattle.situated_machine.specs.Rules.{has_id}
use Rattle.situated_machine.proofs.Marking.{word-known}
use Rattle.situated_machine.proofs.Stepping.{plain-has}
use Rattle.situated_machine.proofs.keeping.Replayer.word.Goals as goal

pub copy_of-requires : goal.copy_of-requires
copy_of-requires c = sym (plain-has c.args.id c.self.inside.frontier.nodes) ∙ ap (λ (r : ReplayView). has_id c.args.id r.machine.nodes) c.self.view_is ∙ c.requires.there

pub returns-in-Ok-clause-word : goal.returns-in-Ok-clause-word
returns-in-Ok-clause-word c =
    (word-known c.self.invariant c.args.self.now c.self.view_is c.args.id c.in_ok-node.node c.in_ok-node.ensures c.in-Ok.word.items (c.in-Ok.ensures.items ∙ c.word.ensures)).0

pub returns-in-Ok-clause-known : goal.returns-in-Ok-clause-known
returns-in-Ok-clause-known c =
    (word-known c.self.invariant c.args.self.now c.self.view_is c.args.id c.in_ok-node.node c.in_ok-node.ensures c.in-Ok.word.items (c.in-Ok.ensures.items ∙ c.word.ensures)).1
