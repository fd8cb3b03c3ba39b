use Rattle.std.proofs.Common.{◌∙◌, sym, arith}
use Rattle.word_frontier.proofs.Chain.{ranked-within, among-first, among-none, among-step}
use Rattle.word_frontier.proofs.frontier.first_from.Goals as goal

pub returns-then-eq : goal.returns-then-eq
returns-then-eq c =
    among-none c.args.among c.args.slots.now c.args.lasts.now c.args.rank c.args.from c.loop-among.id _ c.requires.chained c.loop-among.invariant.rank c.loop-among.invariant.before
    (sym c.is_among.ensures ∙ c.loop-among-test.true) (sym c.eq.ensures ∙ c.if-eq.true)

pub loop-among-smaller : goal.loop-among-smaller
loop-among-smaller c =
    let step = among-step c.args.among c.args.slots.now c.args.lasts.now c.args.rank c.args.from c.loop-among.id _ c.requires.chained c.loop-among.invariant.rank c.loop-among.invariant.before
    (sym c.is_among.ensures ∙ c.loop-among-test.true) (sym c.eq.ensures ∙ c.if-eq.false) in
    let on = step.on in
    let within = ranked-within c.args.slots.now c.loop-among.id c.args.rank c.loop-among.invariant.rank in omega (arith, on, within)

pub loop-among-preserved : goal.loop-among-preserved
loop-among-preserved c =
    let step = among-step c.args.among c.args.slots.now c.args.lasts.now c.args.rank c.args.from c.loop-among.id _ c.requires.chained c.loop-among.invariant.rank c.loop-among.invariant.before
    (sym c.is_among.ensures ∙ c.loop-among-test.true) (sym c.eq.ensures ∙ c.if-eq.false) in record {
      rank = step.rank_is;
      on = let on = step.on in let from = c.loop-among.invariant.on in omega (arith, on, from);
      before = step.before;
    }

pub returns : goal.returns
returns c =
    among-first c.args.among c.args.slots.now c.args.rank c.args.from c.loop-among.id _ c.loop-among.invariant.rank c.loop-among.invariant.on c.loop-among.invariant.before
    (sym c.is_among.ensures ∙ c.loop-among-test.false)
