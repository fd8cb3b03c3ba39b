-- Numbers, acts, items and marks at the front of a text.
use Rattle.std.proofs.Common.{◌≡◌, ℕ, ◌^◌, ◌≤◌, ◌<◌, Bool, true, false, List, [], ◌∷◌, ◌++◌, length, refl, sym, ap, ◌∙◌, append_assoc, arith}
use Rattle.std.specs.Prelude.{decimal, nat_le}
use Rattle.std.proofs.lemmas.Bool.Decides.{nat_tests}
use Rattle.tp_spec.specs.declared.plan.Item.{Item}
use Rattle.tp_spec.specs.declared.plan.Item.TheVariants.{TimedAt, End, Start}
use Rattle.tp_spec.specs.declared.plan.Mark.{Mark}
use Rattle.tp_spec.specs.declared.plan.Timed.{Timed}
use Rattle.line_text.specs.Numbers.{BeginsWithNumber}
use Rattle.line_text.specs.Written.{item_text}
use Rattle.trace_text.specs.Traces.{field, act_text, mark_text}
use Rattle.trace_text.specs.Grammar.{is_narrow, is_wide, index_of, fits_item, fits_mark, fits_act}
use Rattle.trace_text.specs.Cuts.{IsCut, NoneCut, signed, at_most, spaced}
use Rattle.trace_text.specs.Reading.{letter_of, sign_of, pair_text}
use Rattle.trace_text.proofs.Numerals.{same_number}
use Rattle.trace_text.proofs.Seams.{both, may_both, Opens, both_cut, none_first, none_second, as_cut, as_none}

abbrev head_of : List ℕ → ℕ
head_of [] = 0
head_of (x ∷ xs) = x

abbrev tail_of : List ℕ → List ℕ
tail_of [] = []
tail_of (x ∷ xs) = xs

no_head : (l : List ℕ) (x : ℕ) (xs : List ℕ) → l ≡ [] → l ≡ x ∷ xs → ⊥
no_head l x xs none e =
    let a : 0 ≡ length (x ∷ xs) = ap length (sym none ∙ e) in
    absurd (omega (arith, a))

-- ---- a number behind a sign

le_true : (n most : ℕ) → n ≤ most → nat_le n most ≡ true
le_true n most h = grind (arith, nat_tests)

true_le : (n most : ℕ) → nat_le n most ≡ true → n ≤ most
true_le n most h = grind (arith, nat_tests)

module _ (text rest : List ℕ) (sign most : ℕ) (parts : text ≡ sign ∷ rest) (bound : most < 2 ^ 64) where
  pub signed_cut : (n : ℕ) (behind : List ℕ) → BeginsWithNumber most rest n behind → IsCut (signed sign) (at_most most) text n behind
  signed_cut n behind b = record {
    is = parts ∙ ap (λ (l : List ℕ). sign ∷ l) b.is;
    may_be = le_true n most b.within;
    ends = b.ends;
    only = λ y back may ends e.
        let tails : rest ≡ decimal y ++ back = ap tail_of (sym parts ∙ e) in
        let low = true_le y most may in
        let within = b.within in
        same_number y n back behind (omega (arith, low, bound)) (omega (arith, within, bound)) ends b.ends (sym tails ∙ b.is);
  }

  pub signed_none : ((n : ℕ) (behind : List ℕ) → BeginsWithNumber most rest n behind → ⊥) → NoneCut (signed sign) (at_most most) text
  signed_none none = λ y back may ends e. none y back (record { is = ap tail_of (sym parts ∙ e); within = true_le y most may; ends = ends })

pub signed_other : (text rest : List ℕ) (first sign most : ℕ) → text ≡ first ∷ rest → (first ≡ sign → ⊥) → NoneCut (signed sign) (at_most most) text
signed_other text rest first sign most parts other = λ y back may ends e. other (ap head_of (sym parts ∙ e))

pub signed_empty : (text : List ℕ) (sign most : ℕ) → text ≡ [] → NoneCut (signed sign) (at_most most) text
signed_empty text sign most none = λ y back may ends e. no_head text sign (decimal y ++ back) none e

-- ---- a number behind a space or a colon

field_written : (n : ℕ) → field n ≡ signed 32 n
unfolding field
field_written n = refl

narrow_may : (n : ℕ) → is_narrow n ≡ at_most 4294967295 n
narrow_may n = grind (arith, nat_tests)

wide_may : (n : ℕ) → is_wide n ≡ at_most 18446744073709551615 n
wide_may n = grind (arith, nat_tests)

module _ (text : List ℕ) where
  pub narrow_cut : (n : ℕ) (rest : List ℕ) → IsCut (signed 32) (at_most 4294967295) text n rest → IsCut field is_narrow text n rest
  narrow_cut n rest c = as_cut (signed 32) (at_most 4294967295) field is_narrow (λ n. n) (λ n. n) field_written narrow_may (λ n. refl) (λ n. refl) text n rest c

  pub narrow_none : NoneCut (signed 32) (at_most 4294967295) text → NoneCut field is_narrow text
  narrow_none none = as_none (signed 32) (at_most 4294967295) field is_narrow (λ n. n) (λ n. n) field_written narrow_may (λ n. refl) (λ n. refl) text none

  pub wide_cut : (n : ℕ) (rest : List ℕ) → IsCut (signed 32) (at_most 18446744073709551615) text n rest → IsCut field is_wide text n rest
  wide_cut n rest c = as_cut (signed 32) (at_most 18446744073709551615) field is_wide (λ n. n) (λ n. n) field_written wide_may (λ n. refl) (λ n. refl) text n rest c

  pub wide_none : NoneCut (signed 32) (at_most 18446744073709551615) text → NoneCut field is_wide text
  wide_none none = as_none (signed 32) (at_most 18446744073709551615) field is_wide (λ n. n) (λ n. n) field_written wide_may (λ n. refl) (λ n. refl) text none

  pub colon_cut : (n : ℕ) (rest : List ℕ) → IsCut (signed 58) (at_most 18446744073709551615) text n rest → IsCut (signed 58) is_wide text n rest
  colon_cut n rest c = as_cut (signed 58) (at_most 18446744073709551615) (signed 58) is_wide (λ n. n) (λ n. n) (λ n. refl) wide_may (λ n. refl) (λ n. refl) text n rest c

  pub colon_none : NoneCut (signed 58) (at_most 18446744073709551615) text → NoneCut (signed 58) is_wide text
  colon_none none = as_none (signed 58) (at_most 18446744073709551615) (signed 58) is_wide (λ n. n) (λ n. n) (λ n. refl) wide_may (λ n. refl) (λ n. refl) text none

pub field_opens : Opens field
unfolding field
field_opens y rest h = refl

pub pair_opens : Opens pair_text
unfolding field
pair_opens y rest h = refl

colon_opens : Opens (signed 58)
colon_opens y rest h = refl

-- ---- an act

abbrev three : ℕ × (ℕ × ℕ) → List ℕ
three = both field (both (signed 58) (signed 58))

abbrev may_three : ℕ × (ℕ × ℕ) → Bool
may_three = may_both is_narrow (may_both is_wide is_wide)

three_opens : Opens (both (signed 58) (signed 58))
three_opens y rest h = refl

abbrev pub act_made : ℕ × (ℕ × ℕ) → Timed
act_made x = record { action = x.0; start = x.1.0; length = x.1.1 }

abbrev pub act_parts : Timed → ℕ × (ℕ × ℕ)
act_parts y = (y.action, (y.start, y.length))

regroup : (a c s d l : List ℕ) → a ++ c ++ s ++ d ++ l ≡ a ++ (c ++ (s ++ (d ++ l)))
regroup a c s d l = append_assoc (a ++ c ++ s) d l ∙ append_assoc (a ++ c) s (d ++ l) ∙ append_assoc a c (s ++ (d ++ l))

act_written : (y : Timed) → spaced act_text y ≡ three (act_parts y)
unfolding field act_text
act_written y = ap (λ (t : List ℕ). 32 ∷ t) (regroup (decimal y.action) (58 ∷ []) (decimal y.start) (58 ∷ []) (decimal y.length))

module _ (text : List ℕ) where
  act_none : NoneCut three may_three text → NoneCut (spaced act_text) fits_act text
  act_none none = as_none three may_three (spaced act_text) fits_act act_made act_parts act_written (λ y. refl) (λ x. refl) (λ y. refl) text none

  pub act_none_first : NoneCut field is_narrow text → NoneCut (spaced act_text) fits_act text
  act_none_first none = act_none (none_first field is_narrow (both (signed 58) (signed 58)) (may_both is_wide is_wide) text three_opens none)

  module _ (action : ℕ) (r : List ℕ) (c : IsCut field is_narrow text action r) where
    pub act_none_second : NoneCut (signed 58) is_wide r → NoneCut (spaced act_text) fits_act text
    act_none_second none =
        act_none (none_second field is_narrow (both (signed 58) (signed 58)) (may_both is_wide is_wide) text action r three_opens c
        (none_first (signed 58) is_wide (signed 58) is_wide r colon_opens none))

    pub act_none_third : (start : ℕ) (s : List ℕ) → IsCut (signed 58) is_wide r start s → NoneCut (signed 58) is_wide s → NoneCut (spaced act_text) fits_act text
    act_none_third start s d none =
        act_none (none_second field is_narrow (both (signed 58) (signed 58)) (may_both is_wide is_wide) text action r three_opens c
        (none_second (signed 58) is_wide (signed 58) is_wide r start s colon_opens d none))

    pub act_cut : (start length : ℕ) (s t : List ℕ) → IsCut (signed 58) is_wide r start s → IsCut (signed 58) is_wide s length t
        → IsCut (spaced act_text) fits_act text (record { action = action; start = start; length = length }) t
    act_cut start length s t d e =
        as_cut three may_three (spaced act_text) fits_act act_made act_parts act_written (λ y. refl) (λ x. refl) (λ y. refl) text (action, (start, length)) t
        (both_cut field is_narrow (both (signed 58) (signed 58)) (may_both is_wide is_wide) text action (start, length) r t three_opens c
        (both_cut (signed 58) is_wide (signed 58) is_wide r start length s t colon_opens d e))

-- ---- an item

item_written : (i : Item) → item_text i ≡ letter_of i ∷ decimal (index_of i)
item_written (TimedAt k) = refl
item_written (End k) = refl
item_written (Start k) = refl

pub same_item : (i j : Item) → letter_of i ≡ letter_of j → index_of i ≡ index_of j → i ≡ j
same_item (TimedAt k) (TimedAt m) l e = ap TimedAt e
same_item (TimedAt k) (End m) l e = absurd (omega (arith, l))
same_item (TimedAt k) (Start m) l e = absurd (omega (arith, l))
same_item (End k) (TimedAt m) l e = absurd (omega (arith, l))
same_item (End k) (End m) l e = ap End e
same_item (End k) (Start m) l e = absurd (omega (arith, l))
same_item (Start k) (TimedAt m) l e = absurd (omega (arith, l))
same_item (Start k) (End m) l e = absurd (omega (arith, l))
same_item (Start k) (Start m) l e = ap Start e

-- no item has such a letter
pub no_letter : (letter : ℕ) → (letter ≡ 84 → ⊥) → (letter ≡ 69 → ⊥) → (letter ≡ 83 → ⊥) → (i : Item) → letter_of i ≡ letter → ⊥
no_letter letter t e s (TimedAt k) is = t (sym is)
no_letter letter t e s (End k) is = e (sym is)
no_letter letter t e s (Start k) is = s (sym is)

narrow_of : (n : ℕ) → n ≤ 4294967295 → is_narrow n ≡ true
narrow_of n h = grind (arith, nat_tests)

of_narrow : (n : ℕ) → is_narrow n ≡ true → n ≤ 4294967295
of_narrow n h = grind (arith, nat_tests)

module _ (text rest : List ℕ) (letter : ℕ) (parts : text ≡ letter ∷ rest) where
  letter_there : (i : Item) (back : List ℕ) → text ≡ item_text i ++ back → letter_of i ≡ letter
  letter_there i back e = sym (ap head_of (sym parts ∙ e ∙ ap (λ (l : List ℕ). l ++ back) (item_written i)))

  index_there : (i : Item) (back : List ℕ) → text ≡ item_text i ++ back → rest ≡ decimal (index_of i) ++ back
  index_there i back e = ap tail_of (sym parts ∙ e ∙ ap (λ (l : List ℕ). l ++ back) (item_written i))

  pub item_none_number : ((n : ℕ) (behind : List ℕ) → BeginsWithNumber 4294967295 rest n behind → ⊥) → NoneCut item_text fits_item text
  item_none_number none = λ y back may ends e. none (index_of y) back (record { is = index_there y back e; within = of_narrow (index_of y) may; ends = ends })

  pub item_none_letter : ((i : Item) → letter_of i ≡ letter → ⊥) → NoneCut item_text fits_item text
  item_none_letter none = λ y back may ends e. none y (letter_there y back e)

  pub item_cut : (i : Item) (n : ℕ) (behind : List ℕ) → letter_of i ≡ letter → index_of i ≡ n → BeginsWithNumber 4294967295 rest n behind
      → IsCut item_text fits_item text i behind
  item_cut i n behind l e b = record {
    is = parts ∙ (λ j. sym l j ∷ b.is j) ∙ ap (λ (k : ℕ). letter_of i ∷ (decimal k ++ behind)) (sym e) ∙ ap (λ (t : List ℕ). t ++ behind) (sym (item_written i));
    may_be = ap is_narrow e ∙ narrow_of n b.within;
    ends = b.ends;
    only = λ y back may ends is.
        let low = of_narrow (index_of y) may in
        let within = b.within in
        let same = same_number (index_of y) n back behind (omega (arith, low)) (omega (arith, within)) ends b.ends (sym (index_there y back is) ∙ b.is) in
        (same_item y i (letter_there y back is ∙ sym l) (same.0 ∙ sym e), same.1);
  }

pub item_none_empty : (text : List ℕ) → text ≡ [] → NoneCut item_text fits_item text
item_none_empty text none = λ y back may ends e. no_head text (letter_of y) (decimal (index_of y) ++ back) none (e ∙ ap (λ (l : List ℕ). l ++ back) (item_written y))

-- ---- a mark

mark_by : (fresh : Bool) (item : Item) → spaced mark_text (record { fresh = fresh; item = item }) ≡ 32 ∷ sign_of fresh ∷ item_text item
unfolding mark_text
mark_by true item = refl
mark_by false item = refl

mark_written : (m : Mark) → spaced mark_text m ≡ 32 ∷ sign_of m.fresh ∷ item_text m.item
mark_written m = mark_by m.fresh m.item

same_sign : (a b : Bool) → sign_of a ≡ sign_of b → a ≡ b
same_sign true true e = refl
same_sign true false e = absurd (omega (arith, e))
same_sign false true e = absurd (omega (arith, e))
same_sign false false e = refl

pub mark_none_empty : (text : List ℕ) → text ≡ [] → NoneCut (spaced mark_text) fits_mark text
mark_none_empty text none = λ y back may ends e.
    no_head text 32 (sign_of y.fresh ∷ item_text y.item ++ back) none (e ∙ ap (λ (l : List ℕ). l ++ back) (mark_written y))

module _ (text behind_space : List ℕ) (space : ℕ) (first : text ≡ space ∷ behind_space) where
  behind_there : (m : Mark) (back : List ℕ) → text ≡ spaced mark_text m ++ back → space ∷ behind_space ≡ 32 ∷ sign_of m.fresh ∷ (item_text m.item ++ back)
  behind_there m back e = sym first ∙ e ∙ ap (λ (l : List ℕ). l ++ back) (mark_written m)

  pub mark_none_space : (space ≡ 32 → ⊥) → NoneCut (spaced mark_text) fits_mark text
  mark_none_space other = λ y back may ends e. other (ap head_of (behind_there y back e))

  pub mark_none_short : behind_space ≡ [] → NoneCut (spaced mark_text) fits_mark text
  mark_none_short none = λ y back may ends e.
      no_head behind_space (sign_of y.fresh) (item_text y.item ++ back) none (ap tail_of (behind_there y back e))

  module _ (rest : List ℕ) (sign : ℕ) (second : behind_space ≡ sign ∷ rest) where
    sign_there : (m : Mark) (back : List ℕ) → text ≡ spaced mark_text m ++ back → sign_of m.fresh ≡ sign
    sign_there m back e = sym (ap head_of (sym second ∙ ap tail_of (behind_there m back e)))

    item_there : (m : Mark) (back : List ℕ) → text ≡ spaced mark_text m ++ back → rest ≡ item_text m.item ++ back
    item_there m back e = ap tail_of (sym second ∙ ap tail_of (behind_there m back e))

    pub mark_none_sign : ((fresh : Bool) → sign_of fresh ≡ sign → ⊥) → NoneCut (spaced mark_text) fits_mark text
    mark_none_sign none = λ y back may ends e. none y.fresh (sign_there y back e)

    pub mark_none_item : NoneCut item_text fits_item rest → NoneCut (spaced mark_text) fits_mark text
    mark_none_item none = λ y back may ends e. none y.item back may ends (item_there y back e)

    pub mark_cut : (fresh : Bool) (item : Item) (behind : List ℕ) → space ≡ 32 → sign_of fresh ≡ sign → IsCut item_text fits_item rest item behind
        → IsCut (spaced mark_text) fits_mark text (record { fresh = fresh; item = item }) behind
    mark_cut fresh item behind blank code c = record {
      is = first ∙ ap (λ (l : List ℕ). space ∷ l) second ∙ (λ j. blank j ∷ sym code j ∷ c.is j) ∙ ap (λ (l : List ℕ). l ++ behind) (sym (mark_by fresh item));
      may_be = c.may_be;
      ends = c.ends;
      only = λ y back may ends e.
          let f = c.only y.item back may ends (item_there y back e) in
          let g : y.fresh ≡ fresh = same_sign y.fresh fresh (sign_there y back e ∙ sym code) in
          ((λ j. record { fresh = g j; item = f.0 j }), f.1);
    }
