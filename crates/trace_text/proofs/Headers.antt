-- The first line of a trace.
use Rattle.std.proofs.Common.{◌≡◌, ℕ, true, false, List, [], ◌++◌, refl, sym, ap, ◌∙◌}
use Rattle.std.specs.Prelude.{bytes_eq, codes}
use Rattle.std.proofs.lemmas.Bool.{and_parts, false≢true}
use Rattle.std.proofs.lemmas.Slice.Eq.{bytes_eq-Decides}
use Rattle.line_text.specs.Numbers.{begins_with_digit}
use Rattle.trace_text.specs.Traces.{field, header_line}
use Rattle.trace_text.specs.Grammar.{is_wide}
use Rattle.trace_text.specs.Cuts.{IsCut, NoneCut, IsRead, NoneRead}
use Rattle.trace_text.specs.Reading.{first_word, behind_word}
use Rattle.trace_text.proofs.Seams.{both, may_both, whole_read, none_read, more_read, both_read, none_read_first, none_read_second}
use Rattle.trace_text.proofs.Fronts.{field_opens}
use Rattle.trace_text.proofs.Forms.{parts_of}

header_is : (n : ℕ) → header_line n ≡ codes "trace" ++ (field 1 ++ field n)
unfolding header_line
header_is n = refl

first_is : (n : ℕ) → first_word (header_line n) ≡ codes "trace"
unfolding header_line field
first_is n = refl

behind_is : (n : ℕ) → behind_word (header_line n) ≡ field 1 ++ field n
unfolding header_line field
behind_is n = refl

opened : (y : ℕ) → begins_with_digit (field y) ≡ false
unfolding field
opened y = refl

module _ (line word rest : List ℕ) (word_is : word ≡ first_word line) (rest_is : rest ≡ behind_word line) where
  there : (y : ℕ) → line ≡ header_line y → rest ≡ field 1 ++ field y
  there y e = rest_is ∙ ap behind_word e ∙ behind_is y

  pub other_word : bytes_eq word (codes "trace") ≡ false → NoneRead header_line is_wide line
  other_word other = λ y may e.
      false≢true (sym other ∙ (bytes_eq-Decides word (codes "trace")).1 (word_is ∙ ap first_word e ∙ first_is y))

  none_of : NoneRead (both field field) (may_both is_wide is_wide) rest → NoneRead header_line is_wide line
  none_of none = λ y may e. none (1, y) may (there y e)

  pub no_version : NoneCut field is_wide rest → NoneRead header_line is_wide line
  no_version none = none_of (none_read_first field is_wide field is_wide rest field_opens none)

  module _ (version : ℕ) (r : List ℕ) (c : IsCut field is_wide rest version r) where
    pub no_count : NoneCut field is_wide r → NoneRead header_line is_wide line
    no_count none = none_of (none_read_second field is_wide field is_wide rest version r field_opens c (none_read field is_wide r none))

    pub other_version : (version ≡ 1 → ⊥) → NoneRead header_line is_wide line
    other_version other = λ y may e. other (sym (c.only 1 (field y) refl (opened y) (there y e)).0)

    pub more_behind : (count : ℕ) (s : List ℕ) → IsCut field is_wide r count s → (s ≡ [] → ⊥) → NoneRead header_line is_wide line
    more_behind count s d some =
        none_of (none_read_second field is_wide field is_wide rest version r field_opens c (more_read field is_wide r count s d some))

    pub header_read : (count : ℕ) (s : List ℕ) → IsCut field is_wide r count s → version ≡ 1 → s ≡ [] → bytes_eq word (codes "trace") ≡ true
        → IsRead header_line is_wide line count
    header_read count s d one empty named =
        let two = both_read field is_wide field is_wide rest version count r field_opens c (whole_read field is_wide r count s d empty) in
        record {
          is = parts_of line
              ∙ ap (λ (l : List ℕ). l ++ behind_word line) (sym word_is ∙ (bytes_eq-Decides word (codes "trace")).0 named)
              ∙ ap (λ (l : List ℕ). codes "trace" ++ l) (sym rest_is ∙ two.is)
              ∙ ap (λ (v : ℕ). codes "trace" ++ (field v ++ field count)) one ∙ sym (header_is count);
          may_be = (and_parts (is_wide version) (is_wide count) two.may_be).1;
          only = λ y may e. ap (λ (x : ℕ × ℕ). x.1) (two.only (1, y) may (there y e));
        }
