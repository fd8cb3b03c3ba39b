use Rattle.std.proofs.Common.{◌≡◌, ℕ, false, take}
use Rattle.std.specs.Prelude.{MatchOption}
use Rattle.world_state.specs.View.{meaning}
use Rattle.plan_validator.specs.Verdicts.{is_broken_in}
use Rattle.plan_validator.specs.Course.{IsFirstBroken}
use Rattle.plan_validator.proofs.tick.first_broken.Given as goal

abbrev pub invariant-loop-act : goal.invariant-loop-act
invariant-loop-act l = MatchOption l.first ((a : ℕ) → is_broken_in l.problem (take l.act-index l.acts) l.tick (meaning l.state) a ≡ false) (IsFirstBroken l.problem (take l.act-index l.acts) l.tick (meaning l.state))
