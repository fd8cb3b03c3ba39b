use Rattle.std.proofs.Common.{arith}
use Rattle.std.proofs.lemmas.Grind.{common_steps}
use Rattle.std.proofs.lemmas.List.FromFn.{map-range_with_len_more}
use Rattle.grounder.specs.Sources.{source_of}
use Rattle.grounder.specs.Objects.{objects_of}
use Rattle.grounder.proofs.objects.objects_by_type.Goals as goal

pub loop-number-preserved : goal.loop-number-preserved
loop-number-preserved c =
    grind (arith, common_steps, map-range_with_len_more (objects_of (source_of c.args.source.now)) 0 c.loop-number.number c.loop-number.number (omega arith))
