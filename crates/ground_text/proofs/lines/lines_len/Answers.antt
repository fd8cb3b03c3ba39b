use Rattle.ground_text.proofs.LinesLen.{stop_len, stop_stand}
use Rattle.ground_text.proofs.lines.lines_len.Goals as goal

pub returns-then-left-eq0-clause-len : goal.returns-then-left-eq0-clause-len
returns-then-left-eq0-clause-len c = stop_len c.loop-byte.left _ c.loop-byte.len _ c.if-left-eq0.true c.loop-byte.invariant.counted

pub returns-then-left-eq0-clause-all : goal.returns-then-left-eq0-clause-all
returns-then-left-eq0-clause-all c = stop_stand c.loop-byte.left _ _ c.if-left-eq0.true c.loop-byte.invariant.all
