-- Filling in one after the other, as loops do.
use Rattle.std.proofs.Common.{◌≡◌, ℕ, zero, suc, ◌+◌, ◌^◌, ◌<◌, Bool, true, false, ◌&&◌, List, [], ◌∷◌, ◌++◌, length, refl, sym, ap, ◌∙◌, append_assoc, arith}
use Rattle.std.specs.List.{list_all}
use Rattle.std.proofs.lemmas.Bool.{false≢true, and_from, lt-ltb}
use Rattle.std.proofs.lemmas.List.{append-nil}
use Rattle.std.proofs.lemmas.List.Folds.{list_all-append}
use Rattle.tp_spec.specs.declared.problem.Action.{Action}
use Rattle.tp_spec.specs.declared.problem.TimedItem.{TimedItem}
use Rattle.ground_text.specs.Completion.{bang_name, first_free, with_name, filled_action, filled_actions, filled_item, filled_timed}
use Rattle.ground_text.specs.Filling.{tick_fits}

pub bang_more : (n : ℕ) → bang_name (n + 1) ≡ bang_name n ++ 33 ∷ []
bang_more zero = refl
bang_more (suc n) =
    let next : suc n + 1 ≡ suc (n + 1) = omega arith in
    ap bang_name next ∙ ap (λ (name : List ℕ). 33 ∷ name) (bang_more n)

-- one action more
pub action_goes_on : (front : List Action) (marks : List Bool) (a : Action) (before rest : List Action) (b : Action) (next : List Bool) (total : List Action)
    → before ≡ a ∷ rest → b ≡ filled_action (first_free marks) a → next ≡ with_name b.name marks
    → front ++ filled_actions marks before ≡ total → (front ++ b ∷ []) ++ filled_actions next rest ≡ total
action_goes_on front marks a before rest b next total is filled grows so_far =
    append_assoc front (b ∷ []) (filled_actions next rest)
    ∙ ap (λ (m : List Bool). front ++ b ∷ filled_actions m rest) grows
    ∙ ap (λ (c : Action). front ++ c ∷ filled_actions (with_name c.name marks) rest) filled
    ∙ ap (λ (xs : List Action). front ++ filled_actions marks xs) (sym is)
    ∙ so_far

-- one timed item more
pub item_goes_on : (front : List TimedItem) (next : ℕ) (t : TimedItem) (before rest : List TimedItem) (b : TimedItem) (after : ℕ) (total : List TimedItem)
    → before ≡ t ∷ rest → b ≡ filled_item next t → after ≡ b.tick + 1
    → front ++ filled_timed next before ≡ total → (front ++ b ∷ []) ++ filled_timed after rest ≡ total
item_goes_on front next t before rest b after total is filled grows so_far =
    let behind : after ≡ suc b.tick = omega arith in
    append_assoc front (b ∷ []) (filled_timed after rest)
    ∙ ap (λ (n : ℕ). front ++ b ∷ filled_timed n rest) behind
    ∙ ap (λ (c : TimedItem). front ++ c ∷ filled_timed (suc c.tick) rest) filled
    ∙ ap (λ (xs : List TimedItem). front ++ filled_timed next xs) (sym is)
    ∙ so_far

-- it fits as the others do
pub item_fits : (front : List TimedItem) (b : TimedItem) → list_all tick_fits front ≡ true → b.tick < 2 ^ 64 → list_all tick_fits (front ++ b ∷ []) ≡ true
item_fits front b fit less = list_all-append tick_fits front (b ∷ []) ∙ and_from _ _ fit (and_from _ _ (lt-ltb b.tick (2 ^ 64) less) refl)

-- where nothing is left, all are filled in
pub all_filled : {A : Type 0} (front left total : List A) (fill : List A → List A) → fill [] ≡ [] → length left ≡ 0 → front ++ fill left ≡ total → front ≡ total
all_filled front [] total fill none e so_far = sym (append-nil front) ∙ ap (λ (xs : List _). front ++ xs) (sym none) ∙ so_far
all_filled front (x ∷ left) total fill none e so_far = absurd (omega arith)

last_false : (a b : Bool) → b ≡ false → (a && b) ≡ false
last_false true b h = h
last_false false b h = refl

first_false : (a b : Bool) → a ≡ false → (a && b) ≡ false
first_false true b h = absurd (false≢true (sym h))
first_false false b h = refl

-- where the tick of an item does not fit, not all do
pub item_unfit : (front : List TimedItem) (next : ℕ) (t : TimedItem) (before rest total : List TimedItem) → before ≡ t ∷ rest → front ++ filled_timed next before ≡ total
    → tick_fits (filled_item next t) ≡ false → list_all tick_fits total ≡ false
item_unfit front next t before rest total is so_far unfit =
    ap (list_all tick_fits) (sym so_far)
    ∙ list_all-append tick_fits front (filled_timed next before)
    ∙ last_false (list_all tick_fits front) _
    (ap (λ (xs : List TimedItem). list_all tick_fits (filled_timed next xs)) is ∙ first_false _ (list_all tick_fits (filled_timed (suc (filled_item next t).tick) rest)) unfit)
