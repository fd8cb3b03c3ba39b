use Rattle.std.proofs.Common.{take, eqb}
use Rattle.std.specs.List.{list_any}
use Rattle.world_state.specs.Rows.{Takes}
use Rattle.world_state.proofs.rows.BitRow.insert_each.Given as goal

abbrev pub invariant-loop-member : goal.invariant-loop-member
invariant-loop-member l = Takes l.initial.self l.self (λ f. list_any (λ g. eqb f g) (take l.member-index l.members))
