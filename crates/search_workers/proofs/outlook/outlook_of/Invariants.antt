use Rattle.std.proofs.Common.{◌≡◌, ◌≤◌, true, take}
use Rattle.tp_laws.specs.Instants.{of_instants, outlook_of}
use Rattle.search_workers.specs.Outlooks.{told}
use Rattle.search_workers.proofs.outlook.outlook_of.Given as goal

abbrev pub invariant-loop-mark : goal.invariant-loop-mark
invariant-loop-mark l = record {
  known : told l.outlook ≡ outlook_of l.problem (take l.mark-index l.word);
  instants : of_instants l.problem (take l.mark-index l.word) ≡ true;
  opened : l.outlook.opened ≤ l.mark-index;
  starts : l.outlook.starts ≤ l.mark-index;
  timed : l.outlook.timed ≤ l.mark-index;
}
