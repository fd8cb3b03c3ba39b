use Rattle.std.proofs.Common.{◌≡◌, ◌≤◌, ◌+◌, drop}
use Rattle.fault_places.specs.Places.{line_feeds}
use Rattle.fault_places.proofs.counts.line_feeds.Given as goal

abbrev pub invariant-loop-byte : goal.invariant-loop-byte
invariant-loop-byte l = record {
  counted : l.count + line_feeds (drop l.byte-index l.text) ≡ line_feeds l.text;
  within : l.count ≤ l.byte-index;
}
