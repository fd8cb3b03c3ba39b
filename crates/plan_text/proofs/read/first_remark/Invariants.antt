use Rattle.std.proofs.Common.{◌≡◌, ◌≤◌, ◌+◌, length}
use Rattle.std.specs.List.{slice_split}
use Rattle.plan_text.specs.Pieces.{is_mark}
use Rattle.plan_text.specs.Files.{remark, first_remark}
use Rattle.plan_text.proofs.read.first_remark.Given as goal

abbrev pub invariant-loop-line : goal.invariant-loop-line
invariant-loop-line l = record {
  so_far : remark l.number (slice_split (is_mark 10) l.rest) ≡ first_remark l.text;
  room : l.number + length l.rest ≤ length l.text + 1;
}

abbrev pub decreases-loop-line : goal.decreases-loop-line
decreases-loop-line l = length l.rest
