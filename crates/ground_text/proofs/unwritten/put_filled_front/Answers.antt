use Rattle.std.proofs.Common.{[]}
use Rattle.std.specs.Prelude.{codes}
use Rattle.ground_text.specs.Texts.{name_text, counted, header_text}
use Rattle.ground_text.specs.Completion.{filled}
use Rattle.ground_text.proofs.FilledNames.{front_written}
use Rattle.ground_text.proofs.unwritten.put_filled_front.Goals as goal

pub returns : goal.returns
returns c =
    let p = c.args.parts.now in
    front_written c.args.limit c.args.out.now.items (header_text p.scale) (codes "\nfacts ") (counted name_text (filled [] p.facts)) (codes "fluents ") (counted name_text (filled [] p.fluents)) _ _ _ _ _
    c.in_ok-put_header.ensures
    c.in_ok-extend_from_slice.ensures.items
    (rw c.as_slice.ensures at c.in_ok-put_filled_names.ensures)
    c.in_ok-extend_from_slice-2.ensures.items
    (rw c.as_slice-2.ensures at c.in_ok-put_filled_names-2.ensures)
