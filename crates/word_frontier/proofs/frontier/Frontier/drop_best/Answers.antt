use Rattle.std.proofs.Common.{◌∙◌, sym, ap}
use Rattle.word_frontier.specs.Nodes.{without}
use Rattle.word_frontier.proofs.Nodes.{least-same}
use Rattle.word_frontier.proofs.Keeping.{has_id-of}
use Rattle.word_frontier.proofs.frontier.Frontier.drop_best.Goals as goal

pub leave-requires : goal.leave-requires
leave-requires c = has_id-of c.args.self.now.nodes c.in-Some.ensures.0 c.in-Some.node.id c.in-Some.ensures.1.there (sym c.in-Some.ensures.2.id)

pub returns-in-Some-clause-nodes : goal.returns-in-Some-clause-nodes
returns-in-Some-clause-nodes c = λ n h.
    c.leave.ensures.nodes ∙ ap (λ j. without j c.args.self.now.nodes) (c.in-Some.ensures.2.id ∙ least-same _ c.in-Some.ensures.0 n c.in-Some.ensures.1 h)
