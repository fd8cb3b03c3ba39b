use Rattle.std.proofs.Common.{◌≡◌, ◌++◌, take, drop, map}
use Rattle.word_rows.specs.Rows.{by_acts, clock_bounds, commit_bounds, open_acts}
use Rattle.word_network.specs.Parts.{act_of}
use Rattle.word_network.specs.Nets.{seen_in}
use Rattle.word_network.proofs.bounds.push_starts.Given as goal

abbrev pub invariant-loop-i : goal.invariant-loop-i
invariant-loop-i l = record {
  exact : l.exact.items ++ by_acts (commit_bounds l.groups (open_acts (map act_of l.acts))) l.commits (seen_in (map act_of (take l.i l.acts))) (map act_of (drop l.i l.acts))
      ≡ l.fn.exact.items ++ by_acts (commit_bounds l.groups (open_acts (map act_of l.acts))) l.commits (λ a. 0) (map act_of l.acts);
  clock : l.clock.items ++ by_acts (clock_bounds l.now) l.commits (seen_in (map act_of (take l.i l.acts))) (map act_of (drop l.i l.acts))
      ≡ l.fn.clock.items ++ by_acts (clock_bounds l.now) l.commits (λ a. 0) (map act_of l.acts);
}
