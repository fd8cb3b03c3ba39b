-- What closing a group leaves.
use Rattle.std.proofs.Common.{◌≡◌, refl, sym, ap, ◌∙◌, subst, ℕ, ◌<◌, Bool, true, false, not, ◌&&◌, ◌||◌, List, [], ◌∷◌, length, Option, Some, None, option_map, if◌then◌else◌}
use Rattle.std.specs.List.{list_any}
use Rattle.std.proofs.lemmas.Bool.{and_parts, false≢true}
use Rattle.tp_spec.specs.declared.plan.Item.{Item}
use Rattle.tp_spec.specs.declared.problem.Problem.{Problem}
use Rattle.tp_spec.specs.Lists.{is_empty}
use Rattle.tp_spec.specs.States.{State}
use Rattle.tp_spec.specs.Items.{is_durative, next, effects_of, after, has_after}
use Rattle.tp_spec.specs.Words.{Progress, is_start_of, is_end_of, past_group, runs_after, closes, keeps_running, state_past}
use Rattle.world_state.specs.declared.rows.BitRow.{BitRow}
use Rattle.world_state.specs.View.{StateView, meaning, IsStateOf}
use Rattle.world_state.specs.Rows.{has_bit, has_place, words_for, is_in_row, width, Loses, Takes}
use Rattle.world_state.proofs.RowSets.{place_below, implied}
use Rattle.node_state.specs.declared.reading.Reading.{Reading}
use Rattle.node_state.specs.Candidates.{IsCandidateRow}
use Rattle.node_state.specs.Readings.{begins, keep_all, progress_of, IsInside, IsClosed}
use Rattle.node_state.proofs.Insides.{durative-below, inside-past}

next-of : (b : Bool) (m n : State) → Some m ≡ (if b then Some n else None) → (b ≡ true) × (m ≡ n)
next-of true m n e = (refl, cc)
next-of false m n e = absurd cc

none-of : (b : Bool) (n : State) → None ≡ (if b then Some n else None) → b ≡ false
none-of true n e = absurd cc
none-of false n e = refl

pub state-after : (p : Problem) (s : State) (items : List Item) (o : Option StateView) (v : StateView) → o ≡ Some v → option_map meaning o ≡ after p s items → (has_after p s items ≡ true) × (meaning v ≡ next s (effects_of p items))
state-after p s items o v is e = next-of (has_after p s items) (meaning v) (next s (effects_of p items)) (ap (option_map meaning) (sym is) ∙ e)

pub none-after : (p : Problem) (s : State) (items : List Item) (o : Option StateView) → o ≡ None → option_map meaning o ≡ after p s items → has_after p s items ≡ false
none-after p s items o is e = none-of (has_after p s items) (next s (effects_of p items)) (ap (option_map meaning) (sym is) ∙ e)

and-shared : (a b d : Bool) → ((a && d) || (b && d)) ≡ ((a || b) && d)
and-shared true b true = refl
and-shared true true false = refl
and-shared true false false = refl
and-shared false b d = refl

any-and : {A : Type 0} (test : A → Bool) (d : Bool) (xs : List A) → list_any (λ x. test x && d) xs ≡ (list_any test xs && d)
any-and test d [] = refl
any-and test d (x ∷ xs) = ap (λ b. (test x && d) || b) (any-and test d xs) ∙ and-shared (test x) (list_any test xs) d

or-comm : (a b : Bool) → (a || b) ≡ (b || a)
or-comm true true = refl
or-comm true false = refl
or-comm false true = refl
or-comm false false = refl

-- what runs after a group, by the rows
pub runs-on : (p : Problem) (group : List Item) (old mid new : BitRow) → width old ≡ words_for (length p.actions) → Loses old mid (λ a. list_any (is_end_of a) group) → Takes mid new (λ a. list_any (begins p a) group) → (a : ℕ)
    → is_in_row new a ≡ ((list_any (is_start_of a) group && is_durative p a) || (is_in_row old a && not (list_any (is_end_of a) group)))
runs-on p group old mid new wide ends starts a =
    starts.has a
    ∙ ap (λ b. is_in_row mid a || b) (implied (has_place (width mid) a) (list_any (begins p a) group) placed ∙ both)
    ∙ or-comm (is_in_row mid a) (list_any (is_start_of a) group && is_durative p a)
    ∙ ap (λ b. (list_any (is_start_of a) group && is_durative p a) || b) (ends.has a)
  where
    both : list_any (begins p a) group ≡ (list_any (is_start_of a) group && is_durative p a)
    both = any-and (is_start_of a) (is_durative p a) group

    placed : list_any (begins p a) group ≡ true → has_place (width mid) a ≡ true
    placed h =
        let below : a < length p.actions = durative-below p a (and_parts (list_any (is_start_of a) group) (is_durative p a) (sym both ∙ h)).1 in
        ap (λ w. has_place w a) (ends.wide ∙ wide) ∙ place_below (length p.actions) a below

-- the same, by a copy of the row
pub runs-of : (p : Problem) (r : Reading) (copy new : BitRow) (given : List Item) → given ≡ r.group.items → copy.words.items ≡ r.running.words.items
    → ((a : ℕ) → is_in_row new a ≡ ((list_any (is_start_of a) given && is_durative p a) || (is_in_row copy a && not (list_any (is_end_of a) given))))
    → (a : ℕ) → is_in_row new a ≡ runs_after p (progress_of r) a
runs-of p r copy new given same row h a = h a ∙ (λ i. (list_any (is_start_of a) (same i) && is_durative p a) || (has_bit (row i) a && not (list_any (is_end_of a) (same i))))

-- the progress behind a group, part by part
pub past-parts : (p : Problem) (c : Progress) (s : State) (running : ℕ → Bool) (group : List Item) → s ≡ state_past p c → group ≡ [] → ((a : ℕ) → running a ≡ runs_after p c a)
    → ◌≡◌ {A = Progress} (record { before = s; group = group; timed = c.timed; running = running }) (past_group p c)
past-parts p c s running group es eg er = λ i. record { before = es i; group = eg i; timed = c.timed; running = λ a. er a i }

-- no state after it
pub shut-none : (p : Problem) (c : Progress) → has_after p c.before c.group ≡ false → closes p c ≡ false
shut-none p c h = by_empty (is_empty c.group) refl
  where
    empty-none : (group : List Item) → is_empty group ≡ true → has_after p c.before group ≡ true
    empty-none [] e = refl
    empty-none (i ∷ is) e = absurd (false≢true e)

    by_empty : (b : Bool) → is_empty c.group ≡ b → closes p c ≡ false
    by_empty true e = absurd (false≢true (sym h ∙ empty-none c.group e))
    by_empty false e = ap (λ b. b || (has_after p c.before c.group && keeps_running p c)) e ∙ ap (λ b. b && keeps_running p c) h

-- where there is a state after it
pub closes-is : (p : Problem) (c : Progress) (s : State) (running : ℕ → Bool) → has_after p c.before c.group ≡ true → s ≡ state_past p c → ((a : ℕ) → running a ≡ runs_after p c a)
    → closes p c ≡ (is_empty c.group || keep_all p running s)
closes-is p c s running exists es er =
    ap (λ b. is_empty c.group || (b && keeps_running p c)) exists
    ∙ ap (λ b. is_empty c.group || b) (sym (λ i. keep_all p (λ a. er a i) (es i)))

pub closed-of : (p : Problem) (c : Progress) (r : Reading) → IsInside p c → closes p c ≡ true → progress_of r ≡ past_group p c → IsStateOf p r.before → width r.running ≡ words_for (length p.actions) → IsCandidateRow p (meaning r.before).fact r.candidates → IsClosed p c r
closed-of p c r h closes progress state wide candidates = record {
  closes = closes;
  progress = progress;
  reading = record { state = state; wide = wide; inside = subst (IsInside p) (sym progress) (inside-past p c h); candidates = candidates };
}
