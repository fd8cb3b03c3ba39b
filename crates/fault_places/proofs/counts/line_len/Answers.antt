use Rattle.std.proofs.Common.{◌≡◌, ℕ, List, ◌∷◌, ◌++◌, length, true, sym, ap, ◌∙◌}
use Rattle.line_text.specs.Lines.{is_line, line_len}
use Rattle.fault_places.proofs.Cut.{cut_len, whole_len}
use Rattle.fault_places.proofs.counts.line_len.Goals as goal

cut_by : (text line rest : List ℕ) → text ≡ line ++ 10 ∷ rest → is_line line ≡ true → length line ≡ line_len text
cut_by text line rest parts is = sym (ap line_len parts ∙ cut_len line rest is)

pub returns-in-Some-clause-is : goal.returns-in-Some-clause-is
returns-in-Some-clause-is c = cut_by _ _ _ c.in-Some.ensures.parts c.in-Some.ensures.line

pub returns-in-None-clause-is : goal.returns-in-None-clause-is
returns-in-None-clause-is c = sym (whole_len _ c.in-None.ensures.none)
