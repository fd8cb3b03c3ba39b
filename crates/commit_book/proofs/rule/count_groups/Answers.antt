use Rattle.std.proofs.Common.{◌∙◌, sym}
use Rattle.commit_book.proofs.Starts.{fresh-count}
use Rattle.commit_book.proofs.rule.count_groups.Goals as goal

pub returns : goal.returns
returns c = c.count_fresh.ensures.told ∙ sym (fresh-count c.args.word.now)
