use Rattle.std.proofs.Common.{sym}
use Rattle.script_text.specs.Scripts.{is_space}
use Rattle.script_text.proofs.Parts.{are_more}
use Rattle.script_text.proofs.words.three_words.Goals as goal

pub returns-in-Some : goal.returns-in-Some
returns-in-Some c =
    let w = c.in-Some.field-0 in
    sym (are_more is_space c.args.line.now c.in_ok-first.first.now c.in_ok-first.rest.now c.in_ok-first.ensures.some
    c.in_ok-second.second.now c.in_ok-second.third.now c.in_ok-second.ensures.some w.0.now w.1.now c.in-Some.ensures.some)
