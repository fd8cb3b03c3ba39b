use Rattle.std.proofs.Common.{arith}
use Rattle.word_network.proofs.Building.{rise-more}
use Rattle.word_network.proofs.rows.rows_of_groups.Goals as goal

pub loop-left-preserved : goal.loop-left-preserved
loop-left-preserved c = record {
  fits = omega (arith, c.loop-left.invariant.fits);
  told = rise-more c.loop-left.left c.loop-left.rows.items c.push_row.new.rows.items _ c.loop-left-test.true c.in_ok-push_row.ensures c.loop-left.invariant.told;
}
