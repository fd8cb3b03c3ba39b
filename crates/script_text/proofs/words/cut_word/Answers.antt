use Rattle.script_text.specs.Scripts.{is_space}
use Rattle.script_text.proofs.Parts.{cut_some, cut_none}
use Rattle.script_text.proofs.words.cut_word.Goals as goal

pub returns-in-Some-clause-some : goal.returns-in-Some-clause-some
returns-in-Some-clause-some c =
    cut_some is_space c.args.text.now _ _ c.in-Some.place c.in-Some.ensures.first c.split_at.ensures.front c.split_at-in-Some.ensures.back

pub returns-in-None-clause-none : goal.returns-in-None-clause-none
returns-in-None-clause-none c = cut_none is_space c.args.text.now c.in-None.ensures.first
