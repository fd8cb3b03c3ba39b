use Rattle.std.proofs.Common.{◌≡◌, ◌≤◌, ◌+◌, ◌++◌, map, length}
use Rattle.std.specs.List.{filter, slice_split}
use Rattle.plan_text.specs.Pieces.{is_mark}
use Rattle.plan_text.specs.Files.{seen, says, numbered, kept}
use Rattle.plan_text.proofs.read.kept.Given as goal

abbrev pub invariant-loop-line : goal.invariant-loop-line
invariant-loop-line l = record {
  so_far : map seen l.lines.items ++ filter says (numbered l.number (slice_split (is_mark 10) l.rest)) ≡ kept l.text;
  room : l.number + length l.rest ≤ length l.text + 1;
}

abbrev pub decreases-loop-line : goal.decreases-loop-line
decreases-loop-line l = length l.rest
