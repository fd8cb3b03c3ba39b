use Rattle.std.proofs.Common.{◌≡◌, ℕ, ◌+◌, ◌≤◌, List, [], ◌∷◌, ◌++◌, length, ◌∙◌, sym, ap, append_assoc, length-append, arith}
use Rattle.line_text.specs.Lines.{joined}
use Rattle.line_text.proofs.Joined.{joined_more, lines_more, length_more}
use Rattle.line_text.proofs.Told.{ended, refused, at_number}
use Rattle.line_text.proofs.reader.read_lines.Goals as goal

pub returns-in-Ok-false-clause-line : goal.returns-in-Ok-false-clause-line
returns-in-Ok-false-clause-line g c =
    let i = c.lines.invariant in
    let s = c.in-Some.ensures in
    at_number g.R.LineReader.IsWhole (length i.taken) c.lines.number c.args.text.now
    (refused g.R.LineReader.IsWhole i.taken c.lines.rest.now c.args.text.now i.are i.parts (g.met.R.LineReader.completable i.taken c.lines.reader i.state)
    c.in-Some.line.now c.in-Some.behind.now s.parts s.line (c.in-Ok-false.ensures.refused c.in-Ok-false.field-0-test i.taken i.state))
    i.counted

-- one line more was taken
text_more : (taken : List (List ℕ)) (text rest line behind : List ℕ) → text ≡ joined taken ++ rest → rest ≡ line ++ 10 ∷ behind → text ≡ joined (taken ++ line ∷ []) ++ behind
text_more taken text rest line behind parts cut =
    parts ∙ ap (λ (y : List ℕ). joined taken ++ y) cut
    ∙ sym (ap (λ (y : List ℕ). y ++ behind) (joined_more taken line) ∙ append_assoc (joined taken) (line ++ 10 ∷ []) behind ∙ ap (λ (y : List ℕ). joined taken ++ y) (append_assoc line (10 ∷ []) behind))

few_more : (taken : List (List ℕ)) (text rest line behind : List ℕ) → rest ≡ line ++ 10 ∷ behind → length taken + length rest ≤ length text → length (taken ++ line ∷ []) + length behind ≤ length text
few_more taken text rest line behind cut few =
    let a = ap length cut in
    let b = length-append line (10 ∷ behind) in
    let d = length_more taken line in
    omega (arith, a, b, d, few)

counted_more : (taken : List (List ℕ)) (line : List ℕ) → length taken + 1 ≡ length (taken ++ line ∷ [])
counted_more taken line = let d = length_more taken line in omega (arith, d)

pub lines-preserved : goal.lines-preserved
lines-preserved g c =
    let i = c.lines.invariant in
    let s = c.in-Some.ensures in
    record {
      taken = i.taken ++ c.in-Some.line.now ∷ [];
      state = c.in-Ok-true.ensures.taken c.in-Ok-true.field-0-test i.taken i.state;
      parts = text_more i.taken c.args.text.now c.lines.rest.now c.in-Some.line.now c.in-Some.behind.now i.parts s.parts;
      are = lines_more i.taken c.in-Some.line.now i.are s.line;
      counted = ap (λ (n : ℕ). n + 1) (i.counted ∙ counted_more i.taken c.in-Some.line.now);
      few = few_more i.taken c.args.text.now c.lines.rest.now c.in-Some.line.now c.in-Some.behind.now s.parts i.few;
    }

pub returns-in-None-clause-line : goal.returns-in-None-clause-line
returns-in-None-clause-line g c =
    let i = c.lines.invariant in
    let s = c.in-None.ensures in
    at_number g.R.LineReader.IsWhole (length i.taken) c.lines.number c.args.text.now
    (ended g.R.LineReader.IsWhole i.taken c.lines.rest.now c.args.text.now i.are i.parts (g.met.R.LineReader.completable i.taken c.lines.reader i.state) s.none)
    i.counted
