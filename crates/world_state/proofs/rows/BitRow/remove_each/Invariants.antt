use Rattle.std.proofs.Common.{take, eqb}
use Rattle.std.specs.List.{list_any}
use Rattle.world_state.specs.Rows.{Loses}
use Rattle.world_state.proofs.rows.BitRow.remove_each.Given as goal

abbrev pub invariant-loop-member : goal.invariant-loop-member
invariant-loop-member l = Loses l.initial.self l.self (λ f. list_any (λ g. eqb f g) (take l.member-index l.members))
