use Rattle.std.proofs.Common.{◌≡◌, IsTrue, map, drop}
use Rattle.std.specs.List.{list_all}
use Rattle.plan_text.specs.Files.{seen, acts_of, after_acts, lasts}
use Rattle.plan_text.proofs.read.acts_of.Given as goal

abbrev pub invariant-loop-line : goal.invariant-loop-line
invariant-loop-line l = record {
  so_far : acts_of l.problem (map seen l.lines) ≡ after_acts l.acts.items (acts_of l.problem (map seen (drop l.line-index l.lines)));
  short : IsTrue (list_all lasts l.acts.items);
}
