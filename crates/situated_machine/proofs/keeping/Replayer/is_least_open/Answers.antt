use Rattle.std.proofs.Common.{sym, subst}
use Rattle.tp_spec.specs.Machine.{open_nodes}
use Rattle.word_frontier.specs.Nodes.{GivesLeast}
use Rattle.word_frontier.specs.Nodes as kept_nodes
use Rattle.situated_machine.specs.Keeping.{ReplayView}
use Rattle.situated_machine.specs.Rules.{IsOfBest}
use Rattle.situated_machine.proofs.Stepping.{least-yes, least-no, least-none}
use Rattle.situated_machine.proofs.keeping.Replayer.is_least_open.Goals as goal

pub returns-in-Some-clause-yes : goal.returns-in-Some-clause-yes
returns-in-Some-clause-yes c same =
    let found = subst (GivesLeast (kept_nodes.open_nodes c.self.inside.frontier.nodes)) c.in-Some.is c.least_open.ensures in
    subst (λ (r : ReplayView). IsOfBest r.problem (open_nodes r.machine.nodes) c.args.id) c.self.view_is
    (least-yes c.self.invariant c.args.id c.in-Some.least found same)

pub returns-in-Some-clause-no : goal.returns-in-Some-clause-no
returns-in-Some-clause-no c differ best =
    let found = subst (GivesLeast (kept_nodes.open_nodes c.self.inside.frontier.nodes)) c.in-Some.is c.least_open.ensures in
    least-no c.self.invariant c.args.id c.in-Some.least found differ
    (subst (λ (r : ReplayView). IsOfBest r.problem (open_nodes r.machine.nodes) c.args.id) (sym c.self.view_is) best)

pub returns-in-None-clause-no : goal.returns-in-None-clause-no
returns-in-None-clause-no c closed best =
    let found = subst (GivesLeast (kept_nodes.open_nodes c.self.inside.frontier.nodes)) c.in-None.is c.least_open.ensures in
    least-none c.self.invariant c.args.id found
    (subst (λ (r : ReplayView). IsOfBest r.problem (open_nodes r.machine.nodes) c.args.id) (sym c.self.view_is) best)
