-- The first faulty line of a text that is read line by line.
use Rattle.std.proofs.Common.{◌≡◌, ℕ, suc, ◌+◌, true, List, [], ◌∷◌, ◌++◌, length, ap, sym, subst, ◌∙◌, append_assoc, arith}
use Rattle.std.proofs.lemmas.Bool.{false≢true}
use Rattle.tp_spec.specs.Lists.{BeginsWith}
use Rattle.line_text.specs.Lines.{lines, has_lines, Begins, is_line, joined, are_lines}
use Rattle.line_text.specs.FirstFault.{IsFaultBehind, Tells, SomeBegins, NoneBegins}
use Rattle.line_text.proofs.Joined.{joined_first, joined_has, joined_next, joined_more, lines_more, length_more, begins_lines, has_none}

module _ (IsWhole : List ℕ → Type 0) (taken : List (List ℕ)) (rest text : List ℕ) (are : are_lines taken ≡ true) (parts : text ≡ joined taken ++ rest) (some : SomeBegins IsWhole taken) where
  -- a whole text begins with the lines that were taken
  begun : (whole : List ℕ) × IsWhole whole × Begins (length taken) whole text
  begun = (
    some.0,
    some.1,
    (
      ap (has_lines (length taken)) parts ∙ joined_has taken rest are,
      ap (lines (length taken)) some.2.is ∙ joined_first taken some.2.rest are ∙ sym (ap (lines (length taken)) parts ∙ joined_first taken rest are),
    ),
  )

  -- no line is left
  pub ended : is_line rest ≡ true → IsFaultBehind IsWhole (length taken) text
  ended last = record {
    some = begun;
    none = λ whole is b. false≢true (sym (has_none rest last) ∙ sym (joined_next taken rest are) ∙ sym (ap (has_lines (suc (length taken))) parts) ∙ b.0);
  }

  -- the next line is in no whole text
  pub refused : (line behind : List ℕ) → rest ≡ line ++ 10 ∷ behind → is_line line ≡ true → NoneBegins IsWhole (taken ++ line ∷ []) → IsFaultBehind IsWhole (length taken) text
  refused line behind cut is none =
      let longer : List (List ℕ) = taken ++ line ∷ [] in
      let again : text ≡ joined longer ++ behind =
      parts ∙ ap (λ (y : List ℕ). joined taken ++ y) cut
      ∙ sym (ap (λ (y : List ℕ). y ++ behind) (joined_more taken line) ∙ append_assoc (joined taken) (line ++ 10 ∷ []) behind ∙ ap (λ (y : List ℕ). joined taken ++ y) (append_assoc line (10 ∷ []) behind)) in
      let front : lines (suc (length taken)) text ≡ joined longer =
      ap (λ (n : ℕ). lines n text) (sym (length_more taken line)) ∙ ap (lines (length longer)) again ∙ joined_first longer behind (lines_more taken line are is) in
      record {
        some = begun;
        none = λ whole w b. none whole w (subst (BeginsWith whole) (b.1 ∙ front) (begins_lines (suc (length taken)) whole));
      }

-- the fault stands at the next number
pub at_number : (IsWhole : List ℕ → Type 0) (n number : ℕ) (text : List ℕ) → IsFaultBehind IsWhole n text → number ≡ n + 1 → Tells IsWhole number text
at_number IsWhole n number text fault is =
    let next : suc n ≡ number = omega (arith, is) in
    subst (λ (k : ℕ). Tells IsWhole k text) next fault
