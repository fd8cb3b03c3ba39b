use Rattle.std.proofs.Common.{map, sym}
use Rattle.pddl_tokens.specs.Numbers.{digit}
use Rattle.pddl_tokens.proofs.Values.{far_first, far_second}
use Rattle.pddl_tokens.proofs.numbers.joined.Goals as goal

pub returns-in_err-number : goal.returns-in_err-number
returns-in_err-number c = rw c.from_residual.ensures (sym (far_first (map digit c.args.first.now) (map digit c.args.second.now) c.args.zeros (sym c.in_err-number.ensures)))

pub returns-in_err-number-2 : goal.returns-in_err-number-2
returns-in_err-number-2 c =
    rw c.from_residual-in_err-number-2.ensures
    (sym (far_second (map digit c.args.first.now) (map digit c.args.second.now) c.args.zeros c.in_ok-number.number (sym c.in_ok-number.ensures) (sym c.in_err-number-2.ensures)))
