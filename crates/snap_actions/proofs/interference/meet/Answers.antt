use Rattle.snap_actions.proofs.Touching.{meets_is}
use Rattle.snap_actions.proofs.interference.meet.Goals as goal

pub returns : goal.returns
returns c = meets_is c.args.a.now c.args.b.now c.meets.result c.meets.ensures
