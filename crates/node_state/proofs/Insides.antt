-- What a reading keeps of its group and of what runs.
use Rattle.std.proofs.Common.{◌≡◌, refl, sym, ap, ◌∙◌, subst, ℕ, ◌-◌, ◌^◌, ◌<◌, ◌≤◌, Bool, true, not, ◌&&◌, ◌||◌, List, [], ◌∷◌, ◌++◌, length, ◌⊎◌, inl, inr, arith, nat_lt, false}
use Rattle.std.specs.Prelude.{◌==◌}
use Rattle.std.specs.List.{list_all, list_any}
use Rattle.std.proofs.lemmas.Bool.{and_parts, and_from, or_cases, false≢true, cases_lt, lt-ltb, ltb-true, leb-true, eqb-true, ne_eqb}
use Rattle.std.proofs.lemmas.List.Folds.{list_all-append}
use Rattle.std.proofs.lemmas.Option.{slice_get_past}
use Rattle.tp_spec.specs.declared.plan.Item.{Item}
use Rattle.tp_spec.specs.declared.plan.Item.TheVariants.{TimedAt, End, Start}
use Rattle.tp_spec.specs.declared.problem.Problem.{Problem}
use Rattle.tp_spec.specs.WellFormed.{IsWellFormed}
use Rattle.tp_spec.specs.Lists.{each_pair, some_and}
use Rattle.tp_spec.specs.Items.{is_durative, is_durative_kind, item_before, own}
use Rattle.tp_spec.specs.Interference.{interfere}
use Rattle.tp_spec.specs.Words.{Progress, at_start, past_group, with_item, may_join, in_turn, is_end_of, is_start_of}
use Rattle.world_state.specs.Happenings.{is_item_of, same_item}
use Rattle.world_state.proofs.Problems.{all_weaker}
use Rattle.world_state.specs.View.{StateView, meaning, IsStateOf}
use Rattle.node_state.specs.Candidates.{IsCandidateRow}
use Rattle.world_state.specs.Rows.{width, has_bit, is_in_row}
use Rattle.node_state.specs.declared.reading.Reading.{Reading}
use Rattle.node_state.specs.Readings.{progress_of, IsCopyOf, IsInside, IsReadingOf, IsStartOf}
use Rattle.node_state.specs.Judges.{item_of, IsCover}
use Rattle.node_state.proofs.Granting.{own-candidate}
use Rattle.world_state.specs.declared.rows.BitRow.{BitRow}

pub inside-start : (p : Problem) → IsInside p (at_start p)
inside-start p = record {
  items = refl;
  different = refl;
  runs = λ a h. absurd (false≢true h);
  timed = omega arith;
}

-- an action that lasts is one of the problem
pub durative-below : (p : Problem) (a : ℕ) → is_durative p a ≡ true → a < length p.actions
durative-below p a h = by_number (cases_lt a (length p.actions))
  where
    by_number : (a < length p.actions) ⊎ (length p.actions ≤ a) → a < length p.actions
    by_number (inl below) = below
    by_number (inr above) = absurd (false≢true (sym (ap (λ o. some_and o (λ x. is_durative_kind x.kind)) (slice_get_past p.actions a above)) ∙ h))

pub inside-past : (p : Problem) (c : Progress) → IsInside p c → IsInside p (past_group p c)
inside-past p c h = record {
  items = refl;
  different = refl;
  runs = λ a r. by_cases a (or_cases (list_any (is_start_of a) c.group && is_durative p a) (c.running a && not (list_any (is_end_of a) c.group)) r);
  timed = h.timed;
}
  where
    by_cases : (a : ℕ) → ((list_any (is_start_of a) c.group && is_durative p a) ≡ true) ⊎ ((c.running a && not (list_any (is_end_of a) c.group)) ≡ true) → nat_lt a (length p.actions) ≡ true
    by_cases a (inl starts) = lt-ltb a (length p.actions) (durative-below p a (and_parts (list_any (is_start_of a) c.group) (is_durative p a) starts).1)
    by_cases a (inr runs) = h.runs a (and_parts (c.running a) (not (list_any (is_end_of a) c.group)) runs).0

pairs-push : {A : Type 0} (related : A → A → Bool) (xs : List A) (y : A) → each_pair related xs ≡ true → list_all (λ x. related x y) xs ≡ true → each_pair related (xs ++ y ∷ []) ≡ true
pairs-push related [] y h k = refl
pairs-push related (x ∷ xs) y h k =
    let parts = and_parts (list_all (related x) xs) (each_pair related xs) h in
    let ends = and_parts (related x y) (list_all (λ x. related x y) xs) k in
    and_from (list_all (related x) (xs ++ y ∷ [])) (each_pair related (xs ++ y ∷ []))
    (list_all-append (related x) xs (y ∷ []) ∙ and_from (list_all (related x) xs) (list_all (related x) (y ∷ [])) parts.0 (and_from (related x y) true ends.0 refl))
    (pairs-push related xs y parts.1 ends.1)

less-differs : (m n : ℕ) → nat_lt m n ≡ true → not (m == n) ≡ true
less-differs m n h =
    let below : m < n = ltb-true m n h in
    let other : m ≡ n → ⊥ = λ e. omega (arith, below, e) in
    ap not (ne_eqb m n other)

before-differs : (i j : Item) → item_before i j ≡ true → not (same_item i j) ≡ true
before-differs (TimedAt m) (TimedAt n) h = less-differs m n h
before-differs (TimedAt m) (End n) h = refl
before-differs (TimedAt m) (Start n) h = refl
before-differs (End m) (TimedAt n) h = refl
before-differs (End m) (End n) h = less-differs m n h
before-differs (End m) (Start n) h = refl
before-differs (Start m) (TimedAt n) h = refl
before-differs (Start m) (End n) h = refl
before-differs (Start m) (Start n) h = less-differs m n h

pub join-turn : (p : Problem) (c : Progress) (i : Item) → may_join p c i ≡ true → in_turn p c i ≡ true
join-turn p c i h =
    (and_parts (in_turn p c i) (own p c.before i) (and_parts (in_turn p c i && own p c.before i) (list_all (λ j. item_before j i && not (interfere p j i)) c.group) h).0).0

pub join-fits : (p : Problem) (c : Progress) (i : Item) → may_join p c i ≡ true → list_all (λ j. item_before j i && not (interfere p j i)) c.group ≡ true
join-fits p c i h = (and_parts (in_turn p c i && own p c.before i) (list_all (λ j. item_before j i && not (interfere p j i)) c.group) h).1

turn-item : (p : Problem) (c : Progress) → IsInside p c → (i : Item) → in_turn p c i ≡ true → is_item_of p i ≡ true
turn-item p c h (TimedAt k) t = (and_parts (k == c.timed) (nat_lt k (length p.timed)) t).1
turn-item p c h (End a) t = h.runs a (and_parts (c.running a) (not (list_any (is_end_of a) c.group)) t).0
turn-item p c h (Start a) t = (and_parts (nat_lt a (length p.actions)) (not (c.running a) || list_any (is_end_of a) c.group) t).0

turn-timed : (p : Problem) (c : Progress) → IsInside p c → (i : Item) → in_turn p c i ≡ true → (with_item c i).timed ≤ length p.timed
turn-timed p c h (TimedAt k) t =
    let parts = and_parts (k == c.timed) (nat_lt k (length p.timed)) t in
    let same : k ≡ c.timed = eqb-true k c.timed parts.0 in
    let below : k < length p.timed = ltb-true k (length p.timed) parts.1 in
    omega (arith, same, below)
turn-timed p c h (End a) t = h.timed
turn-timed p c h (Start a) t = h.timed

pub join-differs : (p : Problem) (c : Progress) (i : Item) → may_join p c i ≡ true → list_all (λ j. not (same_item j i)) c.group ≡ true
join-differs p c i h =
    all_weaker (λ j. item_before j i && not (interfere p j i)) (λ j. not (same_item j i))
    (λ j k. before-differs j i (and_parts (item_before j i) (not (interfere p j i)) k).0) c.group (join-fits p c i h)

pub inside-with : (p : Problem) (c : Progress) (i : Item) → IsInside p c → may_join p c i ≡ true → IsInside p (with_item c i)
inside-with p c i h j = record {
  items = list_all-append (is_item_of p) c.group (i ∷ []) ∙ and_from (list_all (is_item_of p) c.group) (list_all (is_item_of p) (i ∷ [])) h.items (and_from (is_item_of p i) true (turn-item p c h i (join-turn p c i j)) refl);
  different = pairs-push (λ i j. not (same_item i j)) c.group i h.different (join-differs p c i j);
  runs = h.runs;
  timed = turn-timed p c h i (join-turn p c i j);
}

pub few-timed : (p : Problem) → IsWellFormed p → (c : Progress) → IsInside p c → c.timed < 2 ^ 32 - 1
few-timed p formed c h =
    let few : length p.timed ≤ 256 = leb-true (length p.timed) 256 (and_parts _ _ (and_parts _ _ formed.timing).0).0 in
    let timed : c.timed ≤ length p.timed = h.timed in
    omega (arith, few, timed)

pub reading-with : (p : Problem) (old new : Reading) (i : Item) → IsReadingOf p old → may_join p (progress_of old) i ≡ true → new.before ≡ old.before → new.running ≡ old.running → new.candidates ≡ old.candidates → progress_of new ≡ with_item (progress_of old) i → IsReadingOf p new
reading-with p old new i h j before running candidates progress = record {
  state = subst (IsStateOf p) (sym before) h.state;
  wide = ap width running ∙ h.wide;
  inside = subst (IsInside p) (sym progress) (inside-with p (progress_of old) i h.inside j);
  candidates = subst (λ (v : StateView). IsCandidateRow p (meaning v).fact new.candidates) (sym before) (subst (IsCandidateRow p (meaning old.before).fact) (sym candidates) h.candidates);
}

-- what may join is an action's start or end only where there is such an action
pub join-below : (p : Problem) (c : Progress) (starts : Bool) (a : ℕ) → IsInside p c → may_join p c (item_of starts a) ≡ true → a < length p.actions
join-below p c true a h j = ltb-true a (length p.actions) (turn-item p c h (Start a) (join-turn p c (Start a) j))
join-below p c false a h j = ltb-true a (length p.actions) (turn-item p c h (End a) (join-turn p c (End a) j))

pub join-own : (p : Problem) (c : Progress) (i : Item) → may_join p c i ≡ true → own p c.before i ≡ true
join-own p c i h =
    (and_parts (in_turn p c i) (own p c.before i) (and_parts (in_turn p c i && own p c.before i) (list_all (λ j. item_before j i && not (interfere p j i)) c.group) h).0).1

pub cover-starts : (p : Problem) (r : Reading) → IsReadingOf p r → IsCover p (progress_of r) true r.candidates
cover-starts p r h = λ a j.
    h.candidates.has a
    ∙ own-candidate p (meaning r.before) a (turn-item p (progress_of r) h.inside (Start a) (join-turn p (progress_of r) (Start a) j)) (join-own p (progress_of r) (Start a) j)

pub cover-ends : (p : Problem) (r : Reading) → IsCover p (progress_of r) false r.running
cover-ends p r = λ a j.
    (and_parts (is_in_row r.running a) (not (list_any (is_end_of a) r.group.items)) (join-turn p (progress_of r) (End a) j)).0

-- copies
pub row-copied : (p : Problem) (facts : ℕ → Bool) (old new : BitRow) → new.words.items ≡ old.words.items → IsCandidateRow p facts old → IsCandidateRow p facts new
row-copied p facts old new e h = record { wide = ap length e ∙ h.wide; has = λ a. ap (λ ws. has_bit ws a) e ∙ h.has a }

pub start-copied : (p : Problem) (old new : Reading) → IsCopyOf old new → IsStartOf p old → IsStartOf p new
start-copied p old new k h =
    let empty : old.group.items ≡ [] = ap (λ c. c.group) h.progress in
    let same : progress_of new ≡ progress_of old = λ i. record { before = meaning (k.before i); group = (k.group ∙ sym empty) i; timed = k.timed i; running = λ a. has_bit (k.running i) a } in
    record {
      progress = same ∙ h.progress;
      reading = record {
        state = subst (IsStateOf p) (sym k.before) h.reading.state;
        wide = ap length k.running ∙ h.reading.wide;
        inside = subst (IsInside p) (sym same) h.reading.inside;
        candidates = subst (λ (v : StateView). IsCandidateRow p (meaning v).fact new.candidates) (sym k.before) (row-copied p (meaning old.before).fact old.candidates new.candidates k.candidates h.reading.candidates);
      };
    }
