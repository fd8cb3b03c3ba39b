use Rattle.std.proofs.Common.{◌≡◌, sym, subst, false}
use Rattle.tp_spec.specs.Interference.{interfere}
use Rattle.tp_spec.specs.WellFormed.{Ground}
use Rattle.node_state.proofs.judge.Judge.disturb.Goals as goal

pub returns-then-are_apart : goal.returns-then-are_apart
returns-then-are_apart c =
    subst (λ (p : Ground). false ≡ interfere p c.args.a c.args.b) c.self.view_is
    (sym (c.are_apart.ensures c.self.inside.problem.now c.self.inside.free c.self.invariant.footing c.if-are_apart.true))
