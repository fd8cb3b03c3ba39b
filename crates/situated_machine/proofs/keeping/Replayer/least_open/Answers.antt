use Rattle.std.proofs.Common.{subst}
use Rattle.tp_spec.specs.Machine.{open_nodes}
use Rattle.situated_machine.specs.Deadlines.{FindsBest}
use Rattle.situated_machine.specs.Keeping.{ReplayView}
use Rattle.situated_machine.proofs.Deadlines.{finds-open}
use Rattle.situated_machine.proofs.keeping.Replayer.least_open.Goals as goal

pub returns : goal.returns
returns c = subst (λ (r : ReplayView). FindsBest r (open_nodes r.machine.nodes) c.least_open.result) c.self.view_is (finds-open c.self.invariant c.least_open.result c.least_open.ensures)
