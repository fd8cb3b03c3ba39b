use Rattle.std.proofs.Common.{arith}
use Rattle.script_text.proofs.Numbers.{read_all, read_far}
use Rattle.script_text.proofs.words.number_of.Goals as goal

pub returns-in-empty : goal.returns-in-empty
returns-in-empty c =
    let i = c.digits.invariant in
    read_all c.args.word.now c.digits.rest.now c.digits.number i.so_far (omega (arith, c.in-empty.len_below)) i.fits

pub returns-in-None : goal.returns-in-None
returns-in-None c =
    let i = c.digits.invariant in
    read_far c.args.word.now c.digits.rest.now c.digits.number i.so_far c.in-len1-up.len_at_least c.in-None.ensures.none
