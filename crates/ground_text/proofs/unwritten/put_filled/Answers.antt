use Rattle.std.proofs.Common.{◌++◌, take, List, ℕ, sym, ap, ◌∙◌}
use Rattle.std.specs.Prelude.{codes}
use Rattle.ground_text.specs.Filling.{filled_ground}
use Rattle.ground_text.proofs.FilledNames.{front_text, items_text, states_text, text_parts, all_written}
use Rattle.ground_text.proofs.unwritten.put_filled.Goals as goal

pub returns : goal.returns
returns c =
    let p = filled_ground c.args.parts.now in
    let items = rw (c.as_slice.ensures, c.as_slice-2.ensures) at c.in_ok-put_items.ensures in
    let states = rw (c.as_slice-3.ensures, c.as_slice-4.ensures, c.as_slice-5.ensures) at c.in_ok-put_states.ensures in
    all_written c.args.limit c.args.out.now.items (front_text p) (items_text p) (states_text p) (codes "\nend\n") _ _ _ _
    c.in_ok-put_filled_front.ensures items states c.in_ok-extend_from_slice.ensures.items
    ∙ ap (λ (t : List ℕ). take c.args.limit (c.args.out.now.items ++ t)) (sym (text_parts p))
