use Rattle.std.proofs.Common.{◌≤◌}
use Rattle.pddl_tokens.specs.Trees.{trees_of, sizes}
use Rattle.reader_cases.proofs.shown.+show.Given as goal

abbrev pub invariant-forms : goal.invariant-forms
invariant-forms l = sizes (trees_of l.rest) ≤ sizes (trees_of l.forms)

abbrev pub decreases-forms : goal.decreases-forms
decreases-forms l = sizes (trees_of l.rest)

abbrev pub decreases-show_forms : goal.decreases-show_forms
decreases-show_forms l = sizes (trees_of l.forms.now)
