use Rattle.std.proofs.Common.{◌≡◌, length}
use Rattle.ground_text.specs.Completion.{marked}
use Rattle.ground_text.proofs.filling.reach.Given as goal

abbrev pub invariant-loop : goal.invariant-loop
invariant-loop l = record {
  same : marked l.place l.marks.items ≡ marked l.place l.fn.marks.items;
  count : length l.marks.items ≡ l.counter;
}
