-- The line of a fault, from what begins and what does not.
use Rattle.std.proofs.Common.{◌≡◌, ℕ, zero, suc, ◌+◌, ◌≤◌, Bool, true, false, List, [], ◌∷◌, length, refl, sym, ap, subst, ◌∙◌, arith}
use Rattle.std.specs.Prelude.{◌==◌, if◌then◌else◌}
use Rattle.std.specs.List.{list_all}
use Rattle.std.proofs.lemmas.Bool.{false≢true}
use Rattle.tp_spec.specs.WellFormed.{Ground, IsWellFormed}
use Rattle.ground_text.specs.Texts.{problem_text}
use Rattle.ground_text.proofs.Kept.{ranged}
use Rattle.ground_text.specs.Reading.{number_at, index_at, counted_at, indices_at, values_at, conds_at, parts_at}
use Rattle.problem_rules.specs.Tests.{well_formed}
use Rattle.line_text.specs.Lines.{lines, has_lines, Begins}
use Rattle.line_text.specs.FirstFault.{Tells}
use Rattle.ground_text.specs.Grammar.{IsProblemText}
use Rattle.ground_text.specs.Completion.{completed, NoneBegins, SomeBegins}
use Rattle.ground_text.specs.Filling.{tick_fits}
use Rattle.problem_rules.proofs.Tested.{tested, passes}
use Rattle.ground_text.proofs.Fronts.{cut, front_read, front_is, front_same}

-- the completion of the first lines of the text of p
completed_front : (p : Ground) (n : ℕ) (text : List ℕ) → IsWellFormed p → Begins n (problem_text p) text → completed (parts_at (lines n text)) ≡ completed (cut p n)
completed_front p n text is b = ap (λ (t : List ℕ). completed (parts_at t)) (sym b.1) ∙ ap completed (front_read p n (ranged p is))

-- there are too few lines
pub too_few : (n : ℕ) (text : List ℕ) → has_lines n text ≡ false → NoneBegins n text
too_few n text few p is b = false≢true (sym few ∙ b.0)

-- a tick of the completion does not fit
pub not_fitting : (n : ℕ) (text : List ℕ) → list_all tick_fits (completed (parts_at (lines n text))).timed ≡ false → NoneBegins n text
not_fitting n text unfit p is b =
    false≢true (sym unfit ∙ ap (λ (q : Ground). list_all tick_fits q.timed) (completed_front p n text is b) ∙ (front_is p n (ranged p is)).kept_ticks)

-- the completion is no problem
pub not_formed : (n : ℕ) (text : List ℕ) → well_formed (completed (parts_at (lines n text))) ≡ false → NoneBegins n text
not_formed n text unformed p is b =
    false≢true (sym unformed ∙ ap well_formed (completed_front p n text is b) ∙ passes (completed (cut p n)) (front_is p n (ranged p is)).well_formed)

-- its text has other lines
pub other_lines : (n : ℕ) (text : List ℕ) → (lines n (problem_text (completed (parts_at (lines n text)))) ≡ lines n text → ⊥) → NoneBegins n text
other_lines n text other p is b =
    other (ap (λ (q : Ground). lines n (problem_text q)) (completed_front p n text is b) ∙ front_same p n (ranged p is) ∙ b.1)

-- each line has a line feed, so there are at most as many lines as bytes
no_more : (k : ℕ) (text : List ℕ) → length text ≤ k → has_lines (suc k) text ≡ false
no_more k [] le = refl
no_more zero (c ∷ text) le = absurd (omega arith)
no_more (suc k) (c ∷ text) le = by_end (c == 10) (no_more k text (omega arith)) (no_more (suc k) text (omega arith)) where
  by_end : (is : Bool) → has_lines (suc k) text ≡ false → has_lines (suc (suc k)) text ≡ false → (if is then has_lines (suc k) text else has_lines (suc (suc k)) text) ≡ false
  by_end true less same = less
  by_end false less same = same

-- no text has one line more than bytes
pub beyond : (text : List ℕ) → NoneBegins (length text + 1) text
beyond text =
    let next : suc (length text) ≡ length text + 1 = omega arith in
    too_few (length text + 1) text (ap (λ (k : ℕ). has_lines k text) (sym next) ∙ no_more (length text) text (omega arith))

nothing_is : IsWellFormed (completed (parts_at []))
unfolding parts_at counted_at number_at index_at indices_at values_at conds_at
nothing_is = record { scaled = refl; fact_names = refl; fluent_names = refl; acting = refl; told_apart = refl; timing = refl; ticks_fit = refl; starting = refl; valued = refl; values_fit = refl; aiming = refl }

-- some ground text begins with no line
pub begun_none : (text : List ℕ) → SomeBegins 0 text (completed (parts_at []))
begun_none text = (nothing_is, (refl, refl))

-- what was read of n lines, completed, written and compared
module _ (n : ℕ) (text front : List ℕ) (read : Ground) (same_front : front ≡ lines n text) (completes : read ≡ completed (parts_at front)) where
  is_completion : read ≡ completed (parts_at (lines n text))
  is_completion = completes ∙ ap (λ (t : List ℕ). completed (parts_at t)) same_front

  pub unformed : well_formed read ≡ false → NoneBegins n text
  unformed formed = not_formed n text (ap well_formed (sym is_completion) ∙ formed)

  module _ (problem : Ground) (same : problem ≡ read) where
    pub begun : well_formed read ≡ true → list_all tick_fits (completed (parts_at front)).timed ≡ true → has_lines n text ≡ true → lines n (problem_text problem) ≡ front
        → SomeBegins n text (completed (parts_at (lines n text)))
    begun formed fits has begins = (
      tested (completed (parts_at (lines n text))) (ap well_formed (sym is_completion) ∙ formed),
      (has, ap (λ (q : Ground). lines n (problem_text q)) (sym (same ∙ is_completion)) ∙ begins ∙ same_front),
    )

    pub not_begun : (is : Bool) → (lines n (problem_text problem) ≡ front → is ≡ true) → is ≡ false → NoneBegins n text
    not_begun is fits e = other_lines n text (λ s. false≢true (sym e ∙ fits (ap (λ (q : Ground). lines n (problem_text q)) (same ∙ is_completion) ∙ s ∙ sym same_front)))

pub unfit : (n : ℕ) (text front : List ℕ) → front ≡ lines n text → list_all tick_fits (completed (parts_at front)).timed ≡ false → NoneBegins n text
unfit n text front same fits = not_fitting n text (ap (λ (t : List ℕ). list_all tick_fits (completed (parts_at t)).timed) (sym same) ∙ fits)

-- the fault stands right behind the lines that begin some ground text
pub told : (n m : ℕ) (text : List ℕ) → SomeBegins n text (completed (parts_at (lines n text))) → NoneBegins (n + 1) text → m ≡ n + 1 → Tells IsProblemText m text
told n m text begins none is =
    let next : suc n ≡ n + 1 = omega arith in
    subst (λ (k : ℕ). Tells IsProblemText k text) (next ∙ sym is) (record {
      some = (problem_text (completed (parts_at (lines n text))), (completed (parts_at (lines n text)), begins.0, refl), begins.1);
      none = λ whole w b. subst (λ (k : ℕ). NoneBegins k text) (sym next) none w.0 w.1 (subst (λ (t : List ℕ). Begins (suc n) t text) w.2 b);
    })
