use Rattle.std.proofs.Common.{◌≡◌, ℕ, true, List, take}
use Rattle.std.specs.List.{list_any}
use Rattle.std.specs.Ordering.{nat_cmp}
use Rattle.std.specs.Cmp.Lexicographic.{slice_cmp}
use Rattle.std.specs.BTreeSet.{contains_by}
use Rattle.tp_spec.specs.Lists.{each_pair}
use Rattle.problem_rules.proofs.Distinct.{apart, named}
use Rattle.problem_rules.proofs.apart.told_apart.Given as goal

abbrev pub invariant-loop-action : goal.invariant-loop-action
invariant-loop-action l = record {
  apart : each_pair apart (take l.action-index l.actions) ≡ true;
  seen : (name : List ℕ) → contains_by (λ k. slice_cmp nat_cmp name k.now) l.seen ≡ list_any (named name) (take l.action-index l.actions);
}
