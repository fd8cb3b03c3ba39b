use Rattle.std.proofs.Common.{ap, ◌∙◌}
use Rattle.grounder.specs.Sources.{source_of}
use Rattle.grounder.specs.Parts.{action_of}
use Rattle.grounder.proofs.Steps.{map_step}
use Rattle.grounder.proofs.parts.with_kept_actions.Goals as goal

pub loop-objects-preserved : goal.loop-objects-preserved
loop-objects-preserved c =
    let f = action_of (source_of c.args.start.now.source) c.args.numbering.now.facts c.args.numbering.now.fluents c.args.schema.now in
    map_step f c.args.kept.now c.loop-objects.objects-index c.objects-item.result c.in_ok-action_of.field-0 c.args.actions c.loop-objects.actions c.push.new.self
    c.loop-objects-test.true
    c.objects-item.is
    (c.in_ok-action_of.ensures ∙ ap f c.as_slice.ensures)
    c.loop-objects.invariant
    c.in_ok-push.ensures.ok
