use Rattle.grounder.proofs.Sorting.{numbers_step}
use Rattle.grounder.proofs.sorted.numbers_set.Goals as goal

pub loop-number-preserved : goal.loop-number-preserved
loop-number-preserved c =
    numbers_step c.args.numbers.now c.loop-number.number-index 0 c.loop-number.set.keys c.insert.new.self.keys
    c.loop-number-test.true
    c.loop-number.invariant
    c.in-Ok.ensures.keys
