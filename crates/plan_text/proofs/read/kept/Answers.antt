use Rattle.std.proofs.Common.{map, arith}
use Rattle.plan_text.specs.Files.{seen, is_skipped, kept}
use Rattle.plan_text.proofs.Cuts.{keeps_line, keeps_last, cut_less}
use Rattle.plan_text.proofs.read.kept.Goals as goal

pub loop-line-preserved : goal.loop-line-preserved
loop-line-preserved c =
    let less = cut_less 10 c.loop-line.rest.now c.in-Some.line.now c.in-Some.behind.now c.in-Some.ensures in
    record {
      so_far = keeps_line is_skipped c.loop-line.number c.loop-line.rest.now c.in-Some.line.now c.in-Some.behind.now
          (map seen c.loop-line.lines.items) (map seen c.keep.new.lines.items) (kept c.args.text.now)
          c.in-Some.ensures c.in_ok-keep-in-Some.ensures c.loop-line.invariant.so_far;
      room = omega (arith, c.loop-line.invariant.room);
    }

pub returns-in-None : goal.returns-in-None
returns-in-None c =
    keeps_last is_skipped c.loop-line.number c.loop-line.rest.now
    (map seen c.loop-line.lines.items) (map seen c.keep-in-None.new.lines.items) (kept c.args.text.now)
    c.in-None.ensures c.in_ok-keep-in-None.ensures c.loop-line.invariant.so_far
