-- What is read of the first lines of a section of names, and how they are completed.
use Rattle.std.proofs.Common.{◌≡◌, ℕ, zero, suc, ◌-◌, ◌^◌, ◌≤◌, ◌<◌, true, ◌&&◌, List, [], ◌∷◌, length, drop, refl, sym, ap, subst, ◌∙◌, arith}
use Rattle.std.specs.Prelude.{nat_le}
use Rattle.std.specs.List.{list_all}
use Rattle.std.proofs.lemmas.Bool.{and_parts, and_from, le-leb, leb-true}
use Rattle.tp_spec.specs.Lists.{each_next}
use Rattle.tp_spec.specs.WellFormed.{is_name, name_before}
use Rattle.ground_text.specs.Texts.{name_text}
use Rattle.ground_text.specs.Reading.{name_at, counted_at}
use Rattle.line_text.specs.Lines.{lines}
use Rattle.ground_text.specs.Completion.{filled}
use Rattle.ground_text.proofs.Cuts.{is_inside, cut, names_cut, filled_length, filled_names, names_same}
use Rattle.ground_text.proofs.Picks.{Word}
use Rattle.ground_text.proofs.Counts.{blocks, counted_none, counted_cut, counted_same}

-- what is read of the first k lines of a section
abbrev pub cut_section : ℕ → List (List ℕ) → List (List ℕ)
cut_section zero names = []
cut_section (suc k) names = cut k names

pub section_cut : (word : List ℕ) (skipped most k : ℕ) (names : List (List ℕ)) (rest : List ℕ)
    → Word word skipped → most < 2 ^ 32 → length names ≤ most → list_all is_name names ≡ true
    → counted_at name_at most (drop skipped (lines k (blocks name_text word names rest))) ≡ (cut_section k names, lines (k - suc (length names)) rest)
section_cut word skipped most zero names rest w fits few h =
    let none : 0 ≡ 0 - suc (length names) = omega arith in
    counted_none name_at skipped most ∙ ap (λ (n : ℕ). ([], lines n rest)) none
section_cut word skipped most (suc k) names rest w fits few h =
    let left : k - length names ≡ suc k - suc (length names) = omega arith in
    counted_cut name_at name_text word skipped most k names rest _ w fits few (names_cut k names rest h ∙ ap (λ (n : ℕ). (cut k names, lines n rest)) left)

pub section_same : (word : List ℕ) (k : ℕ) (names : List (List ℕ)) (rest other : List ℕ)
    → list_all is_inside word ≡ true → length names < 2 ^ 64 → list_all is_name names ≡ true
    → lines (k - suc (length names)) other ≡ lines (k - suc (length names)) rest
    → lines k (blocks name_text word (filled [] (cut_section k names)) other) ≡ lines k (blocks name_text word names rest)
section_same word zero names rest other inside few h e = refl
section_same word (suc k) names rest other inside few h e =
    let left : suc k - suc (length names) ≡ k - length names = omega arith in
    counted_same name_text word k names _ rest other inside few (filled_length [] k names)
    (names_same [] k names rest other h (subst (λ (n : ℕ). lines n other ≡ lines n rest) left e))

-- ---- they keep the rules

-- what holds of the names of facts or fluents
pub record Names (most : ℕ) (names : List (List ℕ)) : Type 0 where
  pub few : length names ≤ most
  pub are : list_all is_name names ≡ true
  pub rise : each_next name_before names ≡ true

pub names_of : (most : ℕ) (names : List (List ℕ)) → (nat_le (length names) most && list_all is_name names && each_next name_before names) ≡ true → Names most names
names_of most names h =
    let a = and_parts _ _ h in
    let b = and_parts _ _ a.0 in
    record { few = leb-true (length names) most b.0; are = b.1; rise = a.1 }

pub names_test : (most : ℕ) (names : List (List ℕ)) → Names most names → (nat_le (length names) most && list_all is_name names && each_next name_before names) ≡ true
names_test most names n = and_from _ _ (and_from _ _ (le-leb (length names) most n.few) n.are) n.rise

pub cut_names : (most k : ℕ) (names : List (List ℕ)) → Names most names → Names most (filled [] (cut_section k names))
cut_names most zero names n = record { few = omega arith; are = refl; rise = refl }
cut_names most (suc k) names n =
    let both = filled_names k names n.are n.rise in
    let long = filled_length [] k names in
    let few = n.few in
    record { few = omega (arith, long, few); are = both.0; rise = both.1 }

-- once a line behind the count is left
pub all_named : (k : ℕ) (names : List (List ℕ)) → 0 < k → length (filled [] (cut_section k names)) ≡ length names
all_named zero names lt = absurd (omega arith)
all_named (suc k) names lt = filled_length [] k names

pub cut_long : (k : ℕ) (names : List (List ℕ)) → length (cut_section k names) ≡ length (filled [] (cut_section k names))
cut_long zero names = refl
cut_long (suc k) names = kept k names ∙ sym (filled_length [] k names) where
  kept : (k : ℕ) (names : List (List ℕ)) → length (cut_section (suc k) names) ≡ length names
  kept k [] = refl
  kept zero (name ∷ names) = ap suc (kept zero names)
  kept (suc k) (name ∷ names) = ap suc (kept k names)

pub cut_few : (k : ℕ) (names : List (List ℕ)) → length (cut_section k names) ≤ length names
cut_few zero names = omega arith
cut_few (suc k) names = let long = cut_long (suc k) names in let as_long = filled_length [] k names in omega (arith, long, as_long)
