-- Steps of the loops that build a word's acts and rows.
use Rattle.std.proofs.Common.{◌≡◌, ℕ, zero, suc, ◌+◌, ◌-◌, ◌<◌, Bool, true, false, List, [], ◌∷◌, ◌++◌, length, get_or, set, take, drop, map, Option, Some, None, refl, sym, ap, subst, arith, ◌∙◌, append_assoc}
use Rattle.std.specs.Prelude.{negsuc, not, is_some, ◌&&◌, ◌==◌, if◌then◌else◌}
use Rattle.tick_network.specs.declared.net.Row.{Row}
use Rattle.tp_spec.specs.Words.{Act, ended}
use Rattle.word_rows.specs.Rows.{rise_rows}
use Rattle.word_network.specs.declared.parts.WordAct.{WordAct}
use Rattle.word_network.specs.Parts.{act_of}

pub ended-at : (xs : List WordAct) (i : ℕ) (d : WordAct) (a g : ℕ) (w : List Act) → i < length xs → (not (is_some (get_or xs i d).closes) && ((get_or xs i d).action == a)) ≡ true → map act_of (take i xs) ++ ended a g (map act_of (drop i xs)) ≡ w → map act_of (set xs i (record { action = (get_or xs i d).action; opens = (get_or xs i d).opens; closes = Some g })) ≡ w
ended-at [] i d a g w b runs h = absurd (omega arith)
ended-at (x ∷ xs) zero d a g w b runs h = at x.closes (x.action == a) runs h
  where
    at : (o : Option ℕ) (t : Bool) → (not (is_some o) && t) ≡ true → elim o as (λ _. List Act) [ Some k ↦ act_of x ∷ ended a g (map act_of xs) | None ↦ if t then record { action = x.action; opens = x.opens; closes = Some g } ∷ map act_of xs else act_of x ∷ ended a g (map act_of xs) ] ≡ w → record { action = x.action; opens = x.opens; closes = Some g } ∷ map act_of xs ≡ w
    at (Some k) t r e = absurd cc
    at None true r e = e
    at None false r e = absurd cc
ended-at (x ∷ xs) (suc i) d a g w b runs h = ap (λ (ys : List Act). act_of x ∷ ys) (ended-at xs i d a g _ (omega arith) runs refl) ∙ h

rise-step : (n : ℕ) → 0 < n → rise_rows n ≡ record { y = n - 1; x = n - 1 + 1; w = negsuc 0 } ∷ rise_rows (n - 1)
rise-step zero h = absurd (omega arith)
rise-step (suc m) h =
    let back : m ≡ suc m - 1 = omega arith in
    let next : suc m ≡ m + 1 = omega arith in
    subst (λ (k : ℕ). rise_rows (suc m) ≡ record { y = k; x = k + 1; w = negsuc 0 } ∷ rise_rows k) back (ap (λ (j : ℕ). record { y = m; x = j; w = negsuc 0 } ∷ rise_rows m) next)

pub rise-more : (n : ℕ) (rows new all : List Row) → 0 < n → new ≡ rows ++ record { y = n - 1; x = n - 1 + 1; w = negsuc 0 } ∷ [] → rows ++ rise_rows n ≡ all → new ++ rise_rows (n - 1) ≡ all
rise-more n rows new all some is told =
    ap (λ (rs : List Row). rs ++ rise_rows (n - 1)) is
    ∙ append_assoc rows (record { y = n - 1; x = n - 1 + 1; w = negsuc 0 } ∷ []) (rise_rows (n - 1))
    ∙ ap (λ (rs : List Row). rows ++ rs) (sym (rise-step n some))
    ∙ told

pub ended-there : (old xs : List WordAct) (i : ℕ) (d : WordAct) (a g : ℕ) (w : List Act) → xs ≡ old → i < length xs → (not (is_some (get_or xs i d).closes) && ((get_or xs i d).action == a)) ≡ true → map act_of (take i old) ++ ended a g (map act_of (drop i old)) ≡ w → map act_of (set xs i (record { action = (get_or xs i d).action; opens = (get_or xs i d).opens; closes = Some g })) ≡ w
ended-there old xs i d a g w same b runs h = ended-at xs i d a g w b runs (ap (λ (ys : List WordAct). map act_of (take i ys) ++ ended a g (map act_of (drop i ys))) same ∙ h)
