-- What never changes in a tree: its problem, its limits, and the clock as it was at the start.
use Rattle.std.specs.Prelude.{◌≡◌}
use Rattle.open_tree.specs.Views.{TreeView}

pub record SameCharter {C : Type 0} (old new : TreeView C) : Type 0 where
  pub problem : old.problem ≡ new.problem
  pub limits : old.limits ≡ new.limits
  pub opened : old.opened ≡ new.opened
