use Rattle.std.proofs.Common.{subst}
use Rattle.situated_machine.specs.Deadlines.{FindsBest}
use Rattle.situated_machine.specs.Keeping.{ReplayView}
use Rattle.situated_machine.proofs.Deadlines.{finds-best}
use Rattle.situated_machine.proofs.keeping.Replayer.best.Goals as goal

pub returns : goal.returns
returns c = subst (λ (r : ReplayView). FindsBest r r.machine.nodes c.best.result) c.self.view_is (finds-best c.self.invariant c.best.result c.best.ensures)
