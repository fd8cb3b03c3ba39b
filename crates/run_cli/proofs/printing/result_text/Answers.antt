use Rattle.std.proofs.Common.{◌≡◌, ℕ, List, IfOk, subst}
use Rattle.run_cli.proofs.Outcomes.{last_prints}
use Rattle.run_cli.proofs.printing.result_text.Goals as goal

pub returns-in-len1-up : goal.returns-in-len1-up
returns-in-len1-up c =
    subst (λ (text : List ℕ). IfOk c.outcome_text.result (λ t. t.items ≡ text))
    (last_prints c.args.problem.now c.args.history.now c.last-item.result c.in-len1-up.len_at_least c.last-item.is)
    c.outcome_text.ensures
