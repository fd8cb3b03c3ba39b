use Rattle.std.proofs.Common.{arith, ap, ◌∙◌}
use Rattle.turn_lock.proofs.Moves.{looks}
use Rattle.turn_lock.proofs.steps.wait.Goals as goal

pub load-served-requires : goal.load-served-requires
load-served-requires g c =
    let same = c.loop.invariant in
    (same.2 ∙ c.requires.lock.0, omega (arith, c.requires.lock.1), looks g.V.Story.entries g.V.Story.same_charter _ _ _ _ _ c.requires.waits.0 (ap (λ m. m.0.stage) same.4 ∙ c.requires.waits.1))
