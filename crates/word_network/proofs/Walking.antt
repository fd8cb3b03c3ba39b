-- Steps of the loops over acts and commitments.
use Rattle.std.proofs.Common.{◌≡◌, ℕ, zero, suc, ◌+◌, ◌<◌, ◌≤◌, Bool, true, false, cond, eqb, List, [], ◌∷◌, ◌++◌, length, get_or, take, drop, map, Option, refl, sym, ap, arith, ◌∙◌, append_assoc}
use Rattle.std.specs.Prelude.{slice_get, ◌==◌, ◌||◌}
use Rattle.std.specs.List.{list_any, remove}
use Rattle.std.proofs.Math.Seq.{drop-cons}
use Rattle.std.proofs.lemmas.Bool.{false≢true, eq-eqb}
use Rattle.std.proofs.lemmas.List.{append-nil, take_more, map-append}
use Rattle.std.proofs.lemmas.Option.{slice_get_past}
use Rattle.tp_spec.specs.declared.plan.Timed.{Timed}
use Rattle.tp_spec.specs.declared.problem.TimedItem.{TimedItem}
use Rattle.tp_spec.specs.Words.{Act}
use Rattle.tp_spec.specs.Schedules.{acts_by, commits_by, without_first}
use Rattle.word_rows.specs.declared.bound.Bound.{Bound}
use Rattle.word_rows.specs.Rows.{by_acts, next_bounds, seen_more, timed_bounds}
use Rattle.word_network.specs.declared.parts.WordAct.{WordAct}
use Rattle.word_network.specs.Nets.{seen_in}
use Rattle.word_network.specs.Parts.{act_of}

-- one act more was seen
seen_push : (front : List Act) (x : Act) (b : ℕ) → seen_more x.action (seen_in front) b ≡ seen_in (front ++ x ∷ []) b
seen_push [] x b = at (eqb x.action b)
  where
    at : (s : Bool) → cond s 1 0 ≡ length (cond s (x ∷ []) [])
    at true = refl
    at false = refl
seen_push (y ∷ ys) x b = at (eqb y.action b) (eqb x.action b) (acts_by b ys) (acts_by b (ys ++ x ∷ [])) (seen_push ys x b)
  where
    at : (s t : Bool) (f g : List Act) → cond t (suc (length f)) (length f) ≡ length g → cond t (suc (length (cond s (y ∷ f) f))) (length (cond s (y ∷ f) f)) ≡ length (cond s (y ∷ g) g)
    at true true f g e = ap suc e
    at true false f g e = ap suc e
    at false t f g e = e

by_step : (f : Act → Option Timed → List Bound) (c : List Timed) (xs : List WordAct) (i : ℕ) (d : WordAct) → i < length xs → by_acts f c (seen_in (map act_of (take i xs))) (map act_of (drop i xs)) ≡ f (act_of (get_or xs i d)) (slice_get (commits_by (get_or xs i d).action c) (length (acts_by (get_or xs i d).action (map act_of (take i xs))))) ++ by_acts f c (seen_in (map act_of (take (i + 1) xs))) (map act_of (drop (i + 1) xs))
by_step f c xs i d b =
    let front : List Act = map act_of (take i xs) in
    let x : WordAct = get_or xs i d in
    let rest : List Act = map act_of (drop (i + 1) xs) in
    let here : List Bound = f (act_of x) (slice_get (commits_by x.action c) (length (acts_by x.action front))) in
    let next : suc i ≡ i + 1 = omega arith in
    let split : drop i xs ≡ x ∷ drop (i + 1) xs = drop-cons xs i d b ∙ ap (λ (j : ℕ). x ∷ drop j xs) next in
    let longer : front ++ act_of x ∷ [] ≡ map act_of (take (i + 1) xs) = sym (ap (map act_of) (take_more xs i d b) ∙ map-append act_of (take i xs) (x ∷ [])) in
    let one : by_acts f c (seen_in front) (map act_of (drop i xs)) ≡ here ++ by_acts f c (seen_more x.action (seen_in front)) rest = ap (λ (zs : List WordAct). by_acts f c (seen_in front) (map act_of zs)) split in
    let two : here ++ by_acts f c (seen_more x.action (seen_in front)) rest ≡ here ++ by_acts f c (seen_in (front ++ act_of x ∷ [])) rest = λ j. here ++ by_acts f c (λ b. seen_push front (act_of x) b j) rest in
    one ∙ two ∙ ap (λ (zs : List Act). here ++ by_acts f c (seen_in zs) rest) longer

pub pushed : (f : Act → Option Timed → List Bound) (c : List Timed) (xs : List WordAct) (i : ℕ) (d : WordAct) (old new all : List Bound) (o : Option Timed) (n : ℕ) → i < length xs → n ≡ length (acts_by (get_or xs i d).action (map act_of (take i xs))) → o ≡ slice_get (commits_by (get_or xs i d).action c) n → new ≡ old ++ f (act_of (get_or xs i d)) o → old ++ by_acts f c (seen_in (map act_of (take i xs))) (map act_of (drop i xs)) ≡ all → new ++ by_acts f c (seen_in (map act_of (take (i + 1) xs))) (map act_of (drop (i + 1) xs)) ≡ all
pushed f c xs i d old new all o n b en eo is told =
    let x : WordAct = get_or xs i d in
    let rest : List Bound = by_acts f c (seen_in (map act_of (take (i + 1) xs))) (map act_of (drop (i + 1) xs)) in
    let which : o ≡ slice_get (commits_by x.action c) (length (acts_by x.action (map act_of (take i xs)))) = eo ∙ ap (λ (k : ℕ). slice_get (commits_by x.action c) k) en in
    ap (λ (zs : List Bound). zs ++ rest) is
    ∙ append_assoc old (f (act_of x) o) rest
    ∙ ap (λ (u : Option Timed). old ++ (f (act_of x) u ++ rest)) which
    ∙ ap (λ (zs : List Bound). old ++ zs) (sym (by_step f c xs i d b))
    ∙ told

pub no-next : (g : ℕ) (items : List TimedItem) (n : ℕ) (old : List Bound) → length items ≤ n → old ≡ old ++ next_bounds g (slice_get items n)
no-next g items n old past = sym (ap (λ (o : Option TimedItem). old ++ next_bounds g o) (slice_get_past items n past) ∙ append-nil old)

pub taken-at : (xs : List WordAct) (i : ℕ) (d : WordAct) (a : ℕ) → i < length xs → list_any (λ x. x.action == a) (map act_of (take i xs)) ≡ false → ((get_or xs i d).action == a) ≡ true → (true ≡ list_any (λ x. x.action == a) (map act_of xs)) × (map act_of (remove xs i) ≡ without_first a (map act_of xs))
taken-at [] i d a b none is = absurd (omega arith)
taken-at (x ∷ xs) zero d a b none is = at (x.action == a) is
  where
    at : (t : Bool) → t ≡ true → (true ≡ (t || list_any (λ y. y.action == a) (map act_of xs))) × (map act_of xs ≡ cond t (map act_of xs) (act_of x ∷ without_first a (map act_of xs)))
    at true e = (refl, refl)
    at false e = absurd (false≢true e)
taken-at (x ∷ xs) (suc i) d a b none is = at (x.action == a) (λ e. taken-at xs i d a (omega arith) e is) none
  where
    at : (t : Bool) → (list_any (λ y. y.action == a) (map act_of (take i xs)) ≡ false → (true ≡ list_any (λ y. y.action == a) (map act_of xs)) × (map act_of (remove xs i) ≡ without_first a (map act_of xs))) → (t || list_any (λ y. y.action == a) (map act_of (take i xs))) ≡ false → (true ≡ (t || list_any (λ y. y.action == a) (map act_of xs))) × (act_of x ∷ map act_of (remove xs i) ≡ cond t (map act_of xs) (act_of x ∷ without_first a (map act_of xs)))
    at true ih e = absurd cc
    at false ih e = let h = ih e in (h.0, ap (λ (ys : List Act). act_of x ∷ ys) h.1)

pub taken-there : (old xs new : List WordAct) (x : WordAct) (i a : ℕ) → xs ≡ old → i < length old → x ≡ get_or xs i x → x.action ≡ a → new ≡ remove xs i → list_any (λ y. y.action == a) (map act_of (take i old)) ≡ false → (true ≡ list_any (λ y. y.action == a) (map act_of old)) × (map act_of new ≡ without_first a (map act_of old))
taken-there old xs new x i a same b is named made none =
    let here : x ≡ get_or old i x = is ∙ ap (λ (zs : List WordAct). get_or zs i x) same in
    let test : ((get_or old i x).action == a) ≡ true = eq-eqb (get_or old i x).action a (sym (ap (λ (z : WordAct). z.action) here) ∙ named) in
    let h = taken-at old i x a b none test in
    (h.0, ap (map act_of) (made ∙ ap (λ (zs : List WordAct). remove zs i) same) ∙ h.1)

no_times : (gs : List ℕ) (items : List TimedItem) (n : ℕ) → length items ≤ n → timed_bounds gs (drop n items) ≡ []
no_times [] [] zero h = refl
no_times (g ∷ gs) [] zero h = refl
no_times [] [] (suc n) h = refl
no_times (g ∷ gs) [] (suc n) h = refl
no_times gs (x ∷ xs) zero h = absurd (omega arith)
no_times gs (x ∷ xs) (suc n) h = no_times gs xs n (omega arith)

pub timed-out : (gs : List ℕ) (items : List TimedItem) (n : ℕ) (old all : List Bound) → length items ≤ n → old ++ timed_bounds gs (drop n items) ≡ all → old ≡ all
timed-out gs items n old all past told = sym (append-nil old) ∙ ap (λ (zs : List Bound). old ++ zs) (sym (no_times gs items n past)) ∙ told
