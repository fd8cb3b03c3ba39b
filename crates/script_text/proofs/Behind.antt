-- Lines before others.
use Rattle.std.proofs.Common.{◌≡◌, ℕ, ◌+◌, ◌≤◌, true, false, List, [], ◌∷◌, ◌++◌, length, refl, ap, sym, ◌∙◌, append_assoc, append-nil, length-append, arith}
use Rattle.std.specs.Prelude.{Result, Ok, Err, OnOk, ◌==◌}
use Rattle.std.specs.Result.{is_err}
use Rattle.tp_spec.specs.declared.list.NoMemory.{NoMemory}
use Rattle.script_text.specs.declared.script.ScriptLine.{ScriptLine}
use Rattle.script_text.specs.declared.script.ScriptFault.{ScriptFault}
use Rattle.script_text.specs.declared.script.ScriptFault.TheVariants.{Line, Holding, Idle, NoMemory as out_of_memory}
use Rattle.line_text.specs.Lines.{is_line}
use Rattle.script_text.specs.Scripts.{line_of, before, with_line, lines_from, pieces, script_of, IsScript}
use Rattle.script_text.specs.Reading.{Steps, behind_lines}
use Rattle.script_text.proofs.Parts.{pieces_first, pieces_last, next_piece}

-- a line was put behind the others
pub pushed : {P : Type 0} (r : Result Unit NoMemory) → false ≡ is_err r → OnOk r P → P
pushed (Ok done) e h = h
pushed (Err refused) e h = absurd (cc)

-- what is left is shorter
pub few_more : (n most : ℕ) (rest piece back : List ℕ) → rest ≡ piece ++ 10 ∷ back → n + length rest ≤ most → n + 1 + length back ≤ most
few_more n most rest piece back parts few =
    let a = ap length parts in
    let b = length-append piece (10 ∷ back) in
    omega (arith, a, b, few)

-- one line more
one_behind : (front : List ScriptLine) (line : ScriptLine) (more : Result (List ScriptLine) ScriptFault) → behind_lines front (before line more) ≡ behind_lines (front ++ line ∷ []) more
one_behind front line (Ok lines) = ap (λ (ls : List ScriptLine). Ok ls) (sym (append_assoc front (line ∷ []) lines))
one_behind front line (Err fault) = refl

module _ (n : ℕ) (holders : List ℕ) (front : List ScriptLine) (text rest piece back : List ℕ) (so_far : behind_lines front (lines_from n holders (pieces rest)) ≡ script_of text) (parts : rest ≡ piece ++ 10 ∷ back) (is : is_line piece ≡ true) where
  -- the first line of the rest, and what stands behind it
  first_line : lines_from n holders (pieces rest) ≡ with_line n holders (line_of piece) (λ after. lines_from (n + 1) after (pieces back))
  first_line =
      let two = next_piece back in
      ap (lines_from n holders) (pieces_first rest piece back parts is ∙ ap (λ (ps : List (List ℕ)). piece ∷ ps) two.is)
      ∙ ap (λ (ps : List (List ℕ)). with_line n holders (line_of piece) (λ after. lines_from (n + 1) after ps)) (sym two.is)

  pub more_lines : (line : ScriptLine) (after : List ℕ) → Steps n holders piece (Ok line) after
      → behind_lines (front ++ line ∷ []) (lines_from (n + 1) after (pieces back)) ≡ script_of text
  more_lines line after steps =
      sym (one_behind front line (lines_from (n + 1) after (pieces back)))
      ∙ ap (behind_lines front) (sym (first_line ∙ steps (λ after. lines_from (n + 1) after (pieces back)))) ∙ so_far

  faults : (fault : ScriptFault) → with_line n holders (line_of piece) (λ after. lines_from (n + 1) after (pieces back)) ≡ Err fault → script_of text ≡ Err fault
  faults fault has = sym so_far ∙ ap (behind_lines front) (first_line ∙ has)

  pub first_fault : (fault : ScriptFault) (after : List ℕ) → Steps n holders piece (Err fault) after → IsScript text (Err fault)
  first_fault (Line k) after steps = faults (Line k) (steps (λ after. lines_from (n + 1) after (pieces back)))
  first_fault (Holding k) after steps = faults (Holding k) (steps (λ after. lines_from (n + 1) after (pieces back)))
  first_fault (Idle k) after steps = faults (Idle k) (steps (λ after. lines_from (n + 1) after (pieces back)))
  first_fault out_of_memory after steps = tt

module _ (n : ℕ) (holders : List ℕ) (front : List ScriptLine) (text rest : List ℕ) (so_far : behind_lines front (lines_from n holders (pieces rest)) ≡ script_of text) (is : is_line rest ≡ true) where
  last : script_of text ≡ behind_lines front (lines_from n holders (rest ∷ []))
  last = sym so_far ∙ ap (λ (ps : List (List ℕ)). behind_lines front (lines_from n holders ps)) (pieces_last rest is)

  pub whole : rest ≡ [] → script_of text ≡ Ok front
  whole none =
      last ∙ ap (λ (r : List ℕ). behind_lines front (lines_from n holders (r ∷ []))) none
      ∙ ap (λ (ls : List ScriptLine). Ok ls) (append-nil front)

  pub broken : false ≡ (length rest == 0) → script_of text ≡ Err (Line n)
  broken some = last ∙ by_rest rest some where
    by_rest : (r : List ℕ) → false ≡ (length r == 0) → behind_lines front (lines_from n holders (r ∷ [])) ≡ Err (Line n)
    by_rest [] h = absurd (cc)
    by_rest (c ∷ r) h = refl
