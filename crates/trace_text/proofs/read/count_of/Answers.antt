use Rattle.std.proofs.Common.{sym}
use Rattle.trace_text.proofs.Seams.{if_none, empty_is, not_empty}
use Rattle.trace_text.proofs.Headers.{other_word, no_version, no_count, other_version, more_behind, header_read}
use Rattle.trace_text.proofs.read.count_of.Goals as goal

pub returns-then-not-is_trace-clause-none : goal.returns-then-not-is_trace-clause-none
returns-then-not-is_trace-clause-none c =
    other_word c.args.line.now c.split_word.result.0.now c.split_word.result.1.now c.split_word.ensures.word c.split_word.ensures.rest
    (sym c.if-not-is_trace.ensures)

pub returns-in_err-version-clause-none : goal.returns-in_err-version-clause-none
returns-in_err-version-clause-none c =
    if_none c.from_residual.result
    (no_version c.args.line.now c.split_word.result.0.now c.split_word.result.1.now c.split_word.ensures.word c.split_word.ensures.rest
    c.in_err-version.ensures.none)

pub returns-in_err-count-clause-none : goal.returns-in_err-count-clause-none
returns-in_err-count-clause-none c =
    if_none c.from_residual-in_err-count.result
    (no_count c.args.line.now c.split_word.result.0.now c.split_word.result.1.now c.split_word.ensures.word c.split_word.ensures.rest
    c.in_ok-version.version c.in_ok-version.rest.now c.in_ok-version.ensures.some c.in_err-count.ensures.none)

pub returns-then-version-ne1-clause-none : goal.returns-then-version-ne1-clause-none
returns-then-version-ne1-clause-none c =
    other_version c.args.line.now c.split_word.result.0.now c.split_word.result.1.now c.split_word.ensures.word c.split_word.ensures.rest
    c.in_ok-version.version c.in_ok-version.rest.now c.in_ok-version.ensures.some c.if-version-ne1.true

pub returns-then-is_empty-clause-some : goal.returns-then-is_empty-clause-some
returns-then-is_empty-clause-some c =
    header_read c.args.line.now c.split_word.result.0.now c.split_word.result.1.now c.split_word.ensures.word c.split_word.ensures.rest
    c.in_ok-version.version c.in_ok-version.rest.now c.in_ok-version.ensures.some c.in_ok-count.count c.in_ok-count.rest.now c.in_ok-count.ensures.some
    c.if-version-ne1.false (empty_is c.in_ok-count.rest.now c.if-is_empty.ensures) (sym c.if-not-is_trace.ensures)

pub returns-else-is_empty-clause-none : goal.returns-else-is_empty-clause-none
returns-else-is_empty-clause-none c =
    more_behind c.args.line.now c.split_word.result.0.now c.split_word.result.1.now c.split_word.ensures.word c.split_word.ensures.rest
    c.in_ok-version.version c.in_ok-version.rest.now c.in_ok-version.ensures.some c.in_ok-count.count c.in_ok-count.rest.now c.in_ok-count.ensures.some
    (not_empty c.in_ok-count.rest.now c.if-is_empty.ensures)
