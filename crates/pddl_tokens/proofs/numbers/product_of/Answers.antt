use Rattle.std.proofs.Common.{◌∙◌, ℕ, List, map, ◌++◌, ◌*◌, ◌^◌, ◌-◌, sym, ap}
use Rattle.std.specs.Int.Digits.{number_from_digits_after}
use Rattle.pddl_tokens.specs.Numbers.{in_range, are_zeros, digit}
use Rattle.pddl_tokens.proofs.Values.{kept_is, whole_product, parted_product, too_far, some_is}
use Rattle.pddl_tokens.proofs.numbers.product_of.Goals as goal

pub returns-then-not-are_zeros : goal.returns-then-not-are_zeros
returns-then-not-are_zeros c =
    sym (parted_product c.args.scale c.places_of-places.result c.min-kept.result c.args.numeral.minus c.args.numeral.whole.now c.args.numeral.part.now c.requires.digits c.places_of-places.ensures.power
    (kept_is c.places_of-places.result c.args.numeral.part.now c.min-kept.result c.min-kept.ensures)
    (ap are_zeros (sym c.split_at.ensures.back) ∙ (sym c.are_zeros.ensures ∙ c.if-not-are_zeros.true)))

pub returns-in-None : goal.returns-in-None
returns-in-None c =
    sym (whole_product c.args.scale c.places_of-places.result c.min-kept.result c.args.numeral.minus c.args.numeral.whole.now c.args.numeral.part.now c.requires.digits c.places_of-places.ensures.power
    (kept_is c.places_of-places.result c.args.numeral.part.now c.min-kept.result c.min-kept.ensures)
    (ap are_zeros (sym c.split_at.ensures.back) ∙ (sym c.are_zeros.ensures ∙ c.if-not-are_zeros.false))
    ∙ (ap (λ (near : List ℕ). in_range c.args.numeral.minus (number_from_digits_after 10 0 (map digit c.args.numeral.whole.now ++ map digit near) * 10 ^ (c.places_of-places.result - c.min-kept.result))) (sym c.split_at.ensures.front)
    ∙ too_far c.args.numeral.minus _ (sym c.in-None.ensures)))

pub returns-in-Some : goal.returns-in-Some
returns-in-Some c =
    c.in_range.ensures
    ∙ sym (whole_product c.args.scale c.places_of-places.result c.min-kept.result c.args.numeral.minus c.args.numeral.whole.now c.args.numeral.part.now c.requires.digits c.places_of-places.ensures.power
    (kept_is c.places_of-places.result c.args.numeral.part.now c.min-kept.result c.min-kept.ensures)
    (ap are_zeros (sym c.split_at.ensures.back) ∙ (sym c.are_zeros.ensures ∙ c.if-not-are_zeros.false))
    ∙ (ap (λ (near : List ℕ). in_range c.args.numeral.minus (number_from_digits_after 10 0 (map digit c.args.numeral.whole.now ++ map digit near) * 10 ^ (c.places_of-places.result - c.min-kept.result))) (sym c.split_at.ensures.front)
    ∙ ap (in_range c.args.numeral.minus) (some_is _ c.in-Some.number (sym c.in-Some.ensures))))
