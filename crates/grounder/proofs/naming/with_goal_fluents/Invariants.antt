use Rattle.std.proofs.Common.{◌≡◌, ◌++◌, [], true, take}
use Rattle.std.specs.List.{flat_map}
use Rattle.grounder.specs.Sources.{source_of}
use Rattle.grounder.specs.Naming.{cond_fluents}
use Rattle.grounder.proofs.naming.with_goal_fluents.Given as goal

abbrev pub invariant-loop-condition : goal.invariant-loop-condition
invariant-loop-condition l =
    l.names ≡ l.fn.names ++ flat_map (cond_fluents (source_of l.start.source) true [])
    (take l.condition-index l.start.source.task.now.goal)
