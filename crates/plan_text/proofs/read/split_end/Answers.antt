use Rattle.std.proofs.Common.{sym, ◌∙◌}
use Rattle.plan_text.specs.Files.{seen, ends}
use Rattle.plan_text.proofs.Lasts.{body_passed, end_passed, body_whole, end_none}
use Rattle.plan_text.proofs.read.split_end.Goals as goal

pub returns-then-branch-clause-body : goal.returns-then-branch-clause-body
returns-then-branch-clause-body c =
    body_passed seen ends c.args.lines.now _ c.in-len1-up.len_at_least (sym c.in_ok-is_end-in-len1-up.ensures ∙ c.if-branch.true)

pub returns-then-branch-clause-end : goal.returns-then-branch-clause-end
returns-then-branch-clause-end c =
    end_passed seen ends c.args.lines.now _ c.in-len1-up.len_at_least (sym c.in_ok-is_end-in-len1-up.ensures ∙ c.if-branch.true)

pub returns-else-branch-clause-body : goal.returns-else-branch-clause-body
returns-else-branch-clause-body c =
    body_whole seen ends c.args.lines.now _ c.in-len1-up.len_at_least (sym c.in_ok-is_end-in-len1-up.ensures ∙ c.if-branch.false)

pub returns-else-branch-clause-end : goal.returns-else-branch-clause-end
returns-else-branch-clause-end c =
    end_none seen ends c.args.lines.now _ c.in-len1-up.len_at_least (sym c.in_ok-is_end-in-len1-up.ensures ∙ c.if-branch.false)
