use Rattle.std.proofs.Common.{◌≡◌, IsTrue, drop, max}
use Rattle.std.specs.List.{list_all}
use Rattle.plan_text.specs.Files.{reach, lasts}
use Rattle.plan_text.proofs.read.reach.Given as goal

abbrev pub invariant-loop-act : goal.invariant-loop-act
invariant-loop-act l = record {
  so_far : max l.most (reach (drop l.act-index l.acts)) ≡ reach l.acts;
  short : IsTrue (list_all lasts (drop l.act-index l.acts));
}
