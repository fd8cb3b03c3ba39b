use Rattle.std.proofs.Common.{◌++◌, append_assoc, ◌∙◌}
use Rattle.std.specs.Prelude.{decimal, codes}
use Rattle.ground_text.specs.Texts.{header_text}
use Rattle.ground_text.proofs.writing.put_header.Goals as goal

pub returns : goal.returns
unfolding header_text
returns c =
    c.in_ok-push_number.ensures
    ∙ (λ i. c.in_ok-push_bytes.ensures i ++ decimal (c.from.ensures i))
    ∙ append_assoc c.args.out.now.items (codes "ground 1\nscale ") (decimal c.args.scale)
