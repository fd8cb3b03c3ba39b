use Rattle.node_state.proofs.Footing.{apart-by}
use Rattle.node_state.proofs.footprints.Footprints.are_apart.Goals as goal

pub returns-in-Some-get : goal.returns-in-Some-get
returns-in-Some-get c = λ p free are is.
    apart-by p free c.args.self.now c.args.a c.args.b c.in-Some.first.now c.in-Some-get.second.now are c.in-Some.ensures c.in-Some-get.ensures (c.do_not_meet.ensures is)
