use Rattle.std.proofs.Common.{ap, ◌∙◌}
use Rattle.grounder.specs.Sources.{source_of}
use Rattle.grounder.specs.Grounded.{is_dated}
use Rattle.grounder.proofs.Numbers.{where_step}
use Rattle.grounder.proofs.timed.dated_facts.Goals as goal

pub loop-number-preserved : goal.loop-number-preserved
loop-number-preserved c =
    let test = is_dated (source_of c.args.start.now.source) c.args.tick c.args.positive in
    where_step test c.args.facts.now c.loop-number.number c.index-facts-number.result c.contains.result c.loop-number.numbers c.in_ok-numbers.numbers
    c.loop-number-test.true
    c.index-facts-number.is
    (c.contains.ensures ∙ c.in_ok-names.ensures c.as_str.result.now ∙ ap test c.as_str.ensures)
    c.loop-number.invariant
    c.in_ok-numbers.ensures
