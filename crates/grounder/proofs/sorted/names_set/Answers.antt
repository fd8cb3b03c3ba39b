use Rattle.grounder.proofs.Sorting.{names_step}
use Rattle.grounder.proofs.sorted.names_set.Goals as goal

pub loop-name-preserved : goal.loop-name-preserved
loop-name-preserved c =
    names_step c.args.names.now c.loop-name.name-index c.name-item.result c.as_str.result c.loop-name.set.keys c.insert.new.self.keys
    c.loop-name-test.true
    c.name-item.is
    c.as_str.ensures
    c.loop-name.invariant
    c.in-Ok.ensures.keys
