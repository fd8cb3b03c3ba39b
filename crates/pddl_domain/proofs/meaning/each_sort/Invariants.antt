use Rattle.std.proofs.Common.{◌≡◌, ◌++◌, drop}
use Rattle.pddl_domain.specs.Meaning.{each_sort}
use Rattle.pddl_domain.proofs.meaning.each_sort.Given as goal

abbrev pub invariant-loop-number : goal.invariant-loop-number
invariant-loop-number l = l.sorts ++ each_sort l.parents (drop l.number l.types) ≡ each_sort l.parents l.types
