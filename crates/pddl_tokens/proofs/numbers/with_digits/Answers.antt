use Rattle.std.proofs.Common.{ℕ, List, map, length, get_or, drop, ◌<◌, ◌+◌, ◌*◌, sym, ◌∙◌, arith}
use Rattle.std.specs.Int.Digits.{number_from_digits_after}
use Rattle.std.proofs.lemmas.List.{at_drop_more}
use Rattle.pddl_tokens.specs.Numbers.{digit, in_u64}
use Rattle.pddl_tokens.proofs.Values.{stays_far}
use Rattle.pddl_tokens.proofs.numbers.with_digits.Goals as goal

pub returns-in-None : goal.returns-in-None
returns-in-None c =
    let ds = c.args.digits.now in
    let i = c.loop-c.c-index in
    let lt : i < length ds = omega arith in
    sym (sym c.loop-c.invariant.number
    ∙ (at_drop_more (λ (xs : List ℕ). in_u64 (number_from_digits_after 10 c.loop-c.sum (map digit xs))) ds i 0 lt
    ∙ stays_far (c.loop-c.sum * 10 + digit (get_or ds i 0)) (map digit (drop (i + 1) ds)) (sym c.in-None.ensures)))
