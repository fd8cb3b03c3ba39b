use Rattle.std.proofs.Common.{◌∙◌, ap, take, ℕ}
use Rattle.ground_text.proofs.LinesLen.{stand, front}
use Rattle.ground_text.proofs.lines.first_lines.Goals as goal

pub returns-clause-front : goal.returns-clause-front
returns-clause-front c = c.split_at.ensures.front ∙ ap (λ (n : ℕ). take n c.args.text.now) c.lines_len-len.ensures.len ∙ front c.args.count c.args.text.now

pub returns-clause-all : goal.returns-clause-all
returns-clause-all c = c.lines_len-len.ensures.all ∙ stand c.args.count c.args.text.now
