use Rattle.std.proofs.Common.{◌≡◌, ◌++◌, take}
use Rattle.std.specs.List.{flat_map}
use Rattle.grounder.specs.Sources.{source_of}
use Rattle.grounder.specs.Naming.{dated_facts}
use Rattle.grounder.proofs.naming.with_timed_facts.Given as goal

abbrev pub invariant-loop-dated : goal.invariant-loop-dated
invariant-loop-dated l =
    l.names ≡ l.fn.names ++ flat_map (dated_facts (source_of l.start.source))
    (take l.dated-index l.start.source.task.now.timed)
