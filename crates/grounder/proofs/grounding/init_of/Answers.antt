use Rattle.std.proofs.Common.{ap, ◌∙◌}
use Rattle.grounder.specs.Sources.{source_of}
use Rattle.grounder.specs.Starts.{is_true}
use Rattle.grounder.proofs.Numbers.{where_step}
use Rattle.grounder.proofs.grounding.init_of.Goals as goal

pub loop-number-preserved : goal.loop-number-preserved
loop-number-preserved c =
    let test = is_true (source_of c.args.start.now.source) in
    where_step test c.args.facts.now c.loop-number.number c.index-facts-number.result c.is_true.result c.loop-number.init c.in_ok-init.init
    c.loop-number-test.true
    c.index-facts-number.is
    (c.is_true.ensures ∙ ap test c.as_str.ensures)
    c.loop-number.invariant
    c.in_ok-init.ensures
