use Rattle.std.proofs.Common.{arith, map}
use Rattle.word_rows.specs.Rows.{clock_bounds, commit_bounds, open_acts}
use Rattle.word_network.specs.Parts.{act_of}
use Rattle.word_network.proofs.Walking.{pushed}
use Rattle.word_network.proofs.bounds.push_starts.Goals as goal

pub loop-i-preserved : goal.loop-i-preserved
loop-i-preserved c = record {
  exact = pushed (commit_bounds c.args.groups (open_acts (map act_of c.args.acts.now))) c.args.commits.now c.args.acts.now c.loop-i.i _ c.loop-i.exact.items c.push_start.new.exact.items _ c.nth_commit-commit.result c.count_by-seen.result (omega (arith, c.loop-i-test.true)) c.count_by-seen.ensures c.nth_commit-commit.ensures.commit c.in_ok-push_start.ensures.exact c.loop-i.invariant.exact;
  clock = pushed (clock_bounds c.args.now) c.args.commits.now c.args.acts.now c.loop-i.i _ c.loop-i.clock.items c.push_start.new.clock.items _ c.nth_commit-commit.result c.count_by-seen.result (omega (arith, c.loop-i-test.true)) c.count_by-seen.ensures c.nth_commit-commit.ensures.commit c.in_ok-push_start.ensures.clock c.loop-i.invariant.clock;
}
