use Rattle.std.proofs.Common.{◌-◌, length, refl, sym, ◌∙◌, arith}
use Rattle.std.proofs.lemmas.Bool.{false≢true}
use Rattle.std.proofs.lemmas.Slice.Eq.{bytes_eq-Decides}
use Rattle.line_text.proofs.Digits.{found, not_greater, is_written}
use Rattle.line_text.proofs.numbers.cut_number.Goals as goal

pub returns-then-is_written-clause-number : goal.returns-then-is_written-clause-number
returns-then-is_written-clause-number c =
    let read = c.leading_digits-number.result in
    found c.args.text.now read.1.now c.split_at.result.0.now read.0 (length c.args.text.now - length read.1.now) c.args.most
    c.leading_digits-number.ensures.digits refl c.split_at.ensures.front c.if-most-number.false
    ((bytes_eq-Decides _ _).0 (sym c.is_written.ensures ∙ c.if-is_written.true))

pub returns-then-most-number-clause-none : goal.returns-then-most-number-clause-none
returns-then-most-number-clause-none c = λ m behind begins.
    let read = c.leading_digits-number.result in
    let within = not_greater c.args.text.now read.1.now c.split_at.result.0.now read.0 (length c.args.text.now - length read.1.now) c.args.most
    c.leading_digits-number.ensures.digits refl c.split_at.ensures.front c.ranges.most.fits m behind begins in
    omega (arith, within, c.if-most-number.true)

pub returns-else-is_written-clause-none : goal.returns-else-is_written-clause-none
returns-else-is_written-clause-none c = λ m behind begins.
    let read = c.leading_digits-number.result in
    let same = is_written c.args.text.now read.1.now c.split_at.result.0.now read.0 (length c.args.text.now - length read.1.now) c.args.most
    c.leading_digits-number.ensures.digits refl c.split_at.ensures.front c.ranges.most.fits m behind begins in
    false≢true (sym c.if-is_written.false ∙ c.is_written.ensures ∙ (bytes_eq-Decides _ _).1 same)
