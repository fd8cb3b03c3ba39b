use Rattle.std.proofs.Common.{◌≡◌, ◌+◌, ◌∷◌, [], ◌++◌, List, ap, ◌∙◌}
use Rattle.script_text.specs.declared.script.ScriptLine.{ScriptLine}
use Rattle.script_text.specs.Scripts.{lines_from, pieces}
use Rattle.script_text.specs.Reading.{behind_lines}
use Rattle.script_text.proofs.Behind.{pushed, few_more, more_lines, first_fault, broken}
use Rattle.script_text.proofs.read.lines_of.Goals as goal

pub returns-in-Err : goal.returns-in-Err
returns-in-Err c =
    first_fault c.lines.number c.lines.holders.items c.lines.lines c.args.text.now c.lines.rest.now c.in-Some.piece.now c.in-Some.behind.now
    c.lines.invariant.so_far c.in-Some.ensures.parts c.in-Some.ensures.line c.in-Err.fault c.next_line.new.holders.items c.in-Err.ensures

pub lines-preserved : goal.lines-preserved
lines-preserved c =
    let put : c.push.new.self ≡ c.lines.lines ++ c.in-Ok.line ∷ [] = pushed c.push.result c.if-is_err.ensures.value c.push.ensures.ok in
    record {
      so_far =
          ap (λ (front : List ScriptLine). behind_lines front (lines_from (c.lines.number + 1) c.next_line.new.holders.items (pieces c.in-Some.behind.now))) put
          ∙ more_lines c.lines.number c.lines.holders.items c.lines.lines c.args.text.now c.lines.rest.now c.in-Some.piece.now c.in-Some.behind.now
          c.lines.invariant.so_far c.in-Some.ensures.parts c.in-Some.ensures.line c.in-Ok.line c.next_line.new.holders.items c.in-Ok.ensures;
      few = few_more c.lines.number _ c.lines.rest.now c.in-Some.piece.now c.in-Some.behind.now c.in-Some.ensures.parts c.lines.invariant.few;
    }

pub returns-in-None : goal.returns-in-None
returns-in-None c =
    broken c.lines.number c.lines.holders.items c.lines.lines c.args.text.now c.lines.rest.now c.lines.invariant.so_far c.in-None.ensures.none c.if-is_empty.ensures
