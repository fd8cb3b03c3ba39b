use Rattle.std.proofs.Common.{◌∙◌}
use Rattle.problem_rules.proofs.Regroup.{grouped, timed_tests}
use Rattle.problem_rules.proofs.checks.is_timed.Goals as goal

pub returns : goal.returns
returns c =
    c.are_literals.ensures
    ∙ (λ i. grouped c.args.facts (c.as_slice.ensures i) (c.as_slice-2.ensures i))
    ∙ timed_tests c.args.facts c.args.item.now
