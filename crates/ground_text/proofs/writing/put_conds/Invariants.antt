use Rattle.std.proofs.Common.{◌≡◌, ◌++◌, take}
use Rattle.ground_text.specs.Texts.{listed, cond_text}
use Rattle.ground_text.proofs.writing.put_conds.Given as goal

abbrev pub invariant-loop-cond : goal.invariant-loop-cond
invariant-loop-cond l = l.out.items ≡ l.fn.out.items ++ listed cond_text (take l.cond-index l.conds)
