use Rattle.trace_text.proofs.Seams.{if_none}
use Rattle.trace_text.proofs.Fronts.{item_cut, item_none_empty, item_none_number, item_none_letter}
use Rattle.trace_text.proofs.cuts.cut_item.Goals as goal

pub returns-in_err-letter-clause-none : goal.returns-in_err-letter-clause-none
returns-in_err-letter-clause-none c = if_none c.from_residual.result (item_none_empty c.args.text.now c.in_err-letter.ensures.none)

pub returns-in_err-index-clause-none : goal.returns-in_err-index-clause-none
returns-in_err-index-clause-none c =
    if_none c.from_residual-in_err-index.result
    (item_none_number c.args.text.now c.in_ok-letter.rest.now c.in_ok-letter.letter c.in_ok-letter.ensures.some c.in_err-index.ensures.none)

pub returns-in_err-item-clause-none : goal.returns-in_err-item-clause-none
returns-in_err-item-clause-none c =
    if_none c.from_residual-in_err-item.result
    (item_none_letter c.args.text.now c.in_ok-letter.rest.now c.in_ok-letter.letter c.in_ok-letter.ensures.some c.in_err-item.ensures.none)

pub returns-clause-some : goal.returns-clause-some
returns-clause-some c =
    item_cut c.args.text.now c.in_ok-letter.rest.now c.in_ok-letter.letter c.in_ok-letter.ensures.some c.in_ok-item.item c.in_ok-index.index
    c.in_ok-index.behind.now c.in_ok-item.ensures.letter c.in_ok-item.ensures.index c.in_ok-index.ensures.number
