use Rattle.std.proofs.Common.{ap, ◌∙◌}
use Rattle.grounder.specs.Sources.{source_of}
use Rattle.grounder.specs.Rigid.{is_static_function}
use Rattle.grounder.proofs.Steps.{table_step}
use Rattle.grounder.proofs.tables.static_functions.Goals as goal

pub loop-number-preserved : goal.loop-number-preserved
loop-number-preserved c =
    let f = is_static_function (source_of c.args.source.now) in
    table_step f c.loop-number.number c.is_static_function.result c.loop-number.are c.push.new.self
    c.loop-number.invariant
    (c.is_static_function.ensures ∙ ap f c.in_ok-in_32_bits.ensures.number)
    c.in_ok-push.ensures.ok
