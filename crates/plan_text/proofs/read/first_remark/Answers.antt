use Rattle.std.proofs.Common.{sym, ◌∙◌, true, false, arith}
use Rattle.plan_text.proofs.Cuts.{cut_less}
use Rattle.plan_text.proofs.Remarks.{remark_here, remark_later, remark_last}
use Rattle.plan_text.proofs.read.first_remark.Goals as goal

pub returns-then-is_remark : goal.returns-then-is_remark
returns-then-is_remark c =
    sym (remark_here c.loop-line.number c.loop-line.rest.now c.in-Some.line.now c.in-Some.behind.now c.in-Some.ensures (sym c.is_remark.ensures ∙ c.if-is_remark.true))
    ∙ c.loop-line.invariant.so_far

pub loop-line-preserved : goal.loop-line-preserved
loop-line-preserved c =
    let less = cut_less 10 c.loop-line.rest.now c.in-Some.line.now c.in-Some.behind.now c.in-Some.ensures in
    record {
      so_far = sym (remark_later c.loop-line.number c.loop-line.rest.now c.in-Some.line.now c.in-Some.behind.now c.in-Some.ensures (sym c.is_remark.ensures ∙ c.if-is_remark.false))
          ∙ c.loop-line.invariant.so_far;
      room = omega (arith, c.loop-line.invariant.room);
    }

pub returns-then-is_remark-2 : goal.returns-then-is_remark-2
returns-then-is_remark-2 c =
    sym (remark_last c.loop-line.number c.loop-line.rest.now true c.in-None.ensures (sym c.is_remark-in-None.ensures ∙ c.if-is_remark-2.true))
    ∙ c.loop-line.invariant.so_far

pub returns-in-None : goal.returns-in-None
returns-in-None c =
    sym (remark_last c.loop-line.number c.loop-line.rest.now false c.in-None.ensures (sym c.is_remark-in-None.ensures ∙ c.if-is_remark-2.false))
    ∙ c.loop-line.invariant.so_far
