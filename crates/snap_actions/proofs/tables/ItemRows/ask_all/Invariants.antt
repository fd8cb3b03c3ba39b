use Rattle.std.proofs.Common.{take}
use Rattle.std.specs.List.{list_any}
use Rattle.tp_spec.specs.Interference.{asks, cond_reads}
use Rattle.snap_actions.specs.Tables.{TookConds}
use Rattle.snap_actions.proofs.tables.ItemRows.ask_all.Given as goal

abbrev pub invariant-loop-cond : goal.invariant-loop-cond
invariant-loop-cond l = TookConds l.initial.self l.self (λ f. list_any (asks f) (take l.cond-index l.conds)) (λ x. list_any (cond_reads x) (take l.cond-index l.conds))
