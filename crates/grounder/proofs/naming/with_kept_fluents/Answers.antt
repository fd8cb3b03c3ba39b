use Rattle.std.proofs.Common.{◌++◌, ℕ, List, ap, ◌∙◌}
use Rattle.grounder.specs.Sources.{source_of}
use Rattle.grounder.specs.Naming.{action_fluents}
use Rattle.grounder.proofs.Steps.{gather_step}
use Rattle.grounder.proofs.naming.with_kept_fluents.Goals as goal

pub loop-objects-preserved : goal.loop-objects-preserved
loop-objects-preserved c =
    let f = action_fluents (source_of c.args.start.now.source) c.args.schema.now in
    gather_step f c.args.kept.now c.loop-objects.objects-index c.objects-item.result c.args.names c.loop-objects.names c.in_ok-names.names
    c.loop-objects-test.true
    c.objects-item.is
    c.loop-objects.invariant
    (c.in_ok-names.ensures ∙ ap (λ (o : List ℕ). c.loop-objects.names ++ f o) c.as_slice.ensures)
