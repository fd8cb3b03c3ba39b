-- Levels of a word, and how they serve another word with the same front.
use Rattle.std.proofs.Common.{◌≡◌, refl, sym, ap, ◌∙◌, subst, ℕ, zero, suc, ◌+◌, ◌<◌, ◌≤◌, Bool, true, false, not, ◌&&◌, List, [], ◌∷◌, ◌++◌, length, take, drop, Some, slice_get, nat_le, arith}
use Rattle.std.specs.Prelude.{if◌then◌else◌}
use Rattle.std.specs.List.{list_all, AllByRecursion as Each}
use Rattle.std.proofs.lemmas.Bool.{and_parts, leb-true, false≢true}
use Rattle.std.proofs.lemmas.List.{take_more, take-take, take-append-drop, take_all}
use Rattle.std.proofs.lemmas.Option.{slice_get_within, get_or_from_slice_get}
use Rattle.tp_laws.proofs.EarlyLists.{each-push}
use Rattle.tp_laws.proofs.EarlyReading.{follow-back}
use Rattle.tp_laws.proofs.Readings.{read_on-append}
use Rattle.tp_laws.proofs.States.{next-none}
use Rattle.tp_spec.specs.States.{initial}
use Rattle.tp_spec.specs.declared.plan.Item.{Item}
use Rattle.tp_spec.specs.declared.plan.Mark.{Mark}
use Rattle.tp_spec.specs.declared.problem.Problem.{Problem}
use Rattle.tp_spec.specs.Lists.{is_empty, some_and}
use Rattle.tp_spec.specs.Words.{Progress, Follow, Sound, at_start, closes, may_follow, may_join, past_group, progress, read_mark, with_item}
use Rattle.world_state.specs.Rows.{is_in_row, width}
use Rattle.world_state.specs.View.{StateView, meaning, IsStateOf}
use Rattle.node_state.specs.Candidates.{IsCandidateRow}
use Rattle.node_state.specs.declared.levels.Level.{Level}
use Rattle.node_state.specs.declared.reading.Reading.{Reading}
use Rattle.node_state.specs.Levels.{fits, is_fresh_at, opened_of, AreAlike, AreLevels, IsLevel, IsReadTo}
use Rattle.node_state.specs.Readings.{progress_of, IsClosed, IsInside, IsReadingOf, IsStartOf}

-- a word with one mark more
pub take-next : (w : List Mark) (i : ℕ) (m : Mark) → slice_get w i ≡ Some m → take (i + 1) w ≡ take i w ++ m ∷ []
take-next w i m e = take_more w i m (slice_get_within w i m e) ∙ ap (λ x. take i w ++ x ∷ []) (get_or_from_slice_get w i m m e)

pub read-next : (p : Problem) (w : List Mark) (i : ℕ) (m : Mark) → slice_get w i ≡ Some m → progress p (take (i + 1) w) ≡ read_mark p (progress p (take i w)) m
read-next p w i m e = ap (progress p) (take-next w i m e) ∙ read_on-append p (at_start p) (take i w) (m ∷ [])

pub follows-next : (p : Problem) (w : List Mark) (i : ℕ) (m : Mark) → Sound p w → slice_get w i ≡ Some m → may_follow p (progress p (take i w)) m ≡ true
follows-next p w i m sound e =
    let front : Follow p (at_start p) (take (i + 1) w) = follow-part (take (i + 1) w) (drop (i + 1) w) (at_start p) (subst (λ u. Follow p (at_start p) u) (sym (take-append-drop (i + 1) w)) sound.follows) in
    (follow-back p (at_start p) (take i w) (m ∷ []) (subst (λ u. Follow p (at_start p) u) (take-next w i m e) front)).0
  where
    follow-part : (u v : List Mark) (c : Progress) → Follow p c (u ++ v) → Follow p c u
    follow-part [] v c h = tt
    follow-part (x ∷ u) v c h = (h.0, follow-part u v (read_mark p c x) h.1)

fresh-mark : (p : Problem) (c : Progress) (m : Mark) → m.fresh ≡ true → may_follow p c m ≡ true → (closes p c ≡ true) × (may_join p (past_group p c) m.item ≡ true)
fresh-mark p c m e h = and_parts (closes p c) (may_join p (past_group p c) m.item) (sym (ap (λ b. if b then closes p c && may_join p (past_group p c) m.item else not (is_empty c.group) && may_join p c m.item) e) ∙ h)

joining-mark : (p : Problem) (c : Progress) (m : Mark) → m.fresh ≡ false → may_follow p c m ≡ true → may_join p c m.item ≡ true
joining-mark p c m e h = (and_parts (not (is_empty c.group)) (may_join p c m.item) (sym (ap (λ b. if b then closes p c && may_join p (past_group p c) m.item else not (is_empty c.group) && may_join p c m.item) e) ∙ h)).1

-- another word with the same front
pub level-moved : (p : Problem) (a b : List Mark) (n : ℕ) (l : Level) → l.start ≤ n → n ≤ length b → take n a ≡ take n b → IsLevel p a l → IsLevel p b l
level-moved p a b n l upto within same h = record {
  within = omega (arith, upto, within);
  timed = h.timed;
  at = h.at ∙ ap (λ w. past_group p (progress p w)) (sym (take-take l.start n a upto) ∙ ap (take l.start) same ∙ take-take l.start n b upto);
  reading = h.reading;
}

pub levels-front : (p : Problem) (w : List Mark) (ls : List Level) (k : ℕ) → AreLevels p w ls → AreLevels p w (take k ls)
levels-front p w [] zero h = tt
levels-front p w [] (suc k) h = tt
levels-front p w (l ∷ ls) zero h = tt
levels-front p w (l ∷ ls) (suc k) h = (h.0, levels-front p w ls k h.1)

pub levels-moved : (p : Problem) (a b : List Mark) (n : ℕ) (ls : List Level) → n ≤ length b → take n a ≡ take n b → list_all (fits b n) ls ≡ true → AreLevels p a ls → AreLevels p b ls
levels-moved p a b n [] within same fit h = tt
levels-moved p a b n (l ∷ ls) within same fit h =
    let parts = and_parts (fits b n l) (list_all (fits b n) ls) fit in
    (level-moved p a b n l (leb-true l.start n (and_parts (nat_le l.start n) (is_fresh_at b l.start) parts.0).0) within same h.0, levels-moved p a b n ls within same parts.1 h.1)

pub levels-pushed : (p : Problem) (w : List Mark) (ls : List Level) (l : Level) → AreLevels p w ls → IsLevel p w l → AreLevels p w (ls ++ l ∷ [])
levels-pushed p w ls l h k = each-push (IsLevel p w) ls l h k

pub levels-split : (p : Problem) (w : List Mark) (ls : List Level) (l : Level) → AreLevels p w (ls ++ l ∷ []) → AreLevels p w ls × IsLevel p w l
levels-split p w [] l h = (tt, h.0)
levels-split p w (x ∷ ls) l h =
    let rest = levels-split p w ls l h.1 in
    ((h.0, rest.0), rest.1)

pub fit-last : (w : List Mark) (n : ℕ) (ls : List Level) (l : Level) → list_all (fits w n) (ls ++ l ∷ []) ≡ true → is_fresh_at w l.start ≡ true
fit-last w n [] l h = (and_parts (nat_le l.start n) (is_fresh_at w l.start) (and_parts (fits w n l) true h).0).1
fit-last w n (x ∷ ls) l h = fit-last w n ls l (and_parts (fits w n x) (list_all (fits w n) (ls ++ l ∷ [])) h).1

-- the group of a level, begun anew
pub restarted : (p : Problem) (w : List Mark) (old new : Level) → IsLevel p w old → progress_of new.reading ≡ opened_of old → new.reading.before ≡ old.reading.before → new.reading.running ≡ old.reading.running → new.reading.candidates ≡ old.reading.candidates → IsReadingOf p new.reading
restarted p w old new h progress before running candidates = record {
  state = subst (IsStateOf p) (sym before) h.reading.state;
  wide = ap width running ∙ h.reading.wide;
  inside = subst (IsInside p) (sym progress) (record { items = refl; different = refl; runs = h.reading.inside.runs; timed = h.timed });
  candidates = subst (λ (v : StateView). IsCandidateRow p (meaning v).fact new.reading.candidates) (sym before) (subst (IsCandidateRow p (meaning old.reading.before).fact) (sym candidates) h.reading.candidates);
}

-- an item more in it
pub level-kept : (p : Problem) (w : List Mark) (old new : Level) (i : Item) → IsLevel p w old → new.start ≡ old.start → new.timed ≡ old.timed → progress_of new.reading ≡ with_item (progress_of old.reading) i → IsReadingOf p new.reading → IsLevel p w new
level-kept p w old new i h start timed reached reading =
    let opened : opened_of new ≡ opened_of old = λ k. record { before = (reached k).before; group = []; timed = timed k; running = (reached k).running } in
    record {
      within = subst (λ (n : ℕ). n ≤ length w) (sym start) h.within;
      timed = subst (λ (n : ℕ). n ≤ length p.timed) (sym timed) h.timed;
      at = opened ∙ h.at ∙ ap (λ (n : ℕ). past_group p (progress p (take n w))) (sym start);
      reading = reading;
    }

pub restarted-level : (p : Problem) (w : List Mark) (old new : Level) → IsLevel p w old → new.start ≡ old.start → new.timed ≡ old.timed → progress_of new.reading ≡ opened_of old → new.reading.before ≡ old.reading.before → new.reading.running ≡ old.reading.running → new.reading.candidates ≡ old.reading.candidates → IsLevel p w new
restarted-level p w old new h start timed reached before running candidates =
    let opened : opened_of new ≡ opened_of old = λ k. record { before = meaning (before k); group = []; timed = timed k; running = is_in_row (running k) } in
    record {
      within = subst (λ (n : ℕ). n ≤ length w) (sym start) h.within;
      timed = subst (λ (n : ℕ). n ≤ length p.timed) (sym timed) h.timed;
      at = opened ∙ h.at ∙ ap (λ (n : ℕ). past_group p (progress p (take n w))) (sym start);
      reading = restarted p w old new h reached before running candidates;
    }

-- the level behind a group that was closed
pub opened-level : (p : Problem) (w : List Mark) (n : ℕ) (c : Progress) (r : Reading) → c ≡ progress p (take n w) → n ≤ length w → IsClosed p c r → IsLevel p w (record { start = n; timed = r.timed; reading = r })
opened-level p w n c r same within h =
    let empty : r.group.items ≡ [] = ap (λ d. d.group) h.progress in
    let opened : opened_of (record { start = n; timed = r.timed; reading = r }) ≡ progress_of r = λ k. record { before = meaning r.before; group = sym empty k; timed = r.timed; running = is_in_row r.running } in
    record {
      within = within;
      timed = h.reading.inside.timed;
      at = opened ∙ h.progress ∙ ap (past_group p) same;
      reading = h.reading;
    }

-- the level of the group that the next mark may open
pub next-level : (p : Problem) (w : List Mark) (c : Progress) (r : Reading) (n : ℕ) → n ≡ length w → c ≡ progress p w → IsClosed p c r → IsLevel p w (record { start = n; timed = r.timed; reading = r })
next-level p w c r n all reached closed =
    opened-level p w n c r (reached ∙ ap (progress p) (sym (take_all n w (omega (arith, all))))) (omega (arith, all)) closed

fresh-item : (p : Problem) (c : Progress) (m : Mark) → m.fresh ≡ true → with_item (past_group p c) m.item ≡ read_mark p c m
fresh-item p c m e = sym (ap (λ b. with_item (if b then past_group p c else c) m.item) e)

joining-item : (p : Problem) (c : Progress) (m : Mark) → m.fresh ≡ false → with_item c m.item ≡ read_mark p c m
joining-item p c m e = sym (ap (λ b. with_item (if b then past_group p c else c) m.item) e)

-- what a mark that opens a group asks
pub opening-joins : (p : Problem) (w : List Mark) (n : ℕ) (m : Mark) (d : Progress) → Sound p w → slice_get w n ≡ Some m → m.fresh ≡ true → d ≡ past_group p (progress p (take n w)) → may_join p d m.item ≡ true
opening-joins p w n m d sound e fresh same = subst (λ x. may_join p x m.item ≡ true) (sym same) (fresh-mark p (progress p (take n w)) m fresh (follows-next p w n m sound e)).1

pub opening-closes : (p : Problem) (w : List Mark) (n : ℕ) (m : Mark) (c : Progress) → Sound p w → slice_get w n ≡ Some m → m.fresh ≡ true → c ≡ progress p (take n w) → closes p c ≡ true
opening-closes p w n m c sound e fresh same = subst (λ x. closes p x ≡ true) (sym same) (fresh-mark p (progress p (take n w)) m fresh (follows-next p w n m sound e)).0

pub joining-joins : (p : Problem) (w : List Mark) (n : ℕ) (m : Mark) (c : Progress) → Sound p w → slice_get w n ≡ Some m → m.fresh ≡ false → c ≡ progress p (take n w) → may_join p c m.item ≡ true
joining-joins p w n m c sound e fresh same = subst (λ x. may_join p x m.item ≡ true) (sym same) (joining-mark p (progress p (take n w)) m fresh (follows-next p w n m sound e))

-- a mark more, which opens the group of a level
pub read-opened : (p : Problem) (w : List Mark) (n : ℕ) (m : Mark) (mid new : Level) → slice_get w n ≡ Some m → m.fresh ≡ true → IsLevel p w mid → progress_of mid.reading ≡ past_group p (progress p (take n w))
    → new.start ≡ mid.start → new.timed ≡ mid.timed → progress_of new.reading ≡ with_item (progress_of mid.reading) m.item → IsReadingOf p new.reading → IsReadTo p w (n + 1) new
read-opened p w n m mid new e fresh level opened start timed reached reading = record {
  level = level-kept p w mid new m.item level start timed reached reading;
  progress = reached ∙ ap (λ c. with_item c m.item) opened ∙ fresh-item p (progress p (take n w)) m fresh ∙ sym (read-next p w n m e);
}

-- a mark more, which joins it
pub read-joined : (p : Problem) (w : List Mark) (n : ℕ) (m : Mark) (old new : Level) → slice_get w n ≡ Some m → m.fresh ≡ false → IsReadTo p w n old
    → new.start ≡ old.start → new.timed ≡ old.timed → progress_of new.reading ≡ with_item (progress_of old.reading) m.item → IsReadingOf p new.reading → IsReadTo p w (n + 1) new
read-joined p w n m old new e fresh h start timed reached reading = record {
  level = level-kept p w old new m.item h.level start timed reached reading;
  progress = reached ∙ ap (λ c. with_item c m.item) h.progress ∙ joining-item p (progress p (take n w)) m fresh ∙ sym (read-next p w n m e);
}

-- the first group
pub past-start : (p : Problem) → past_group p (at_start p) ≡ at_start p
past-start p = λ i. record { before = next-none (initial p) i; group = []; timed = 0; running = λ a. false }

pub first-level : (p : Problem) (w : List Mark) (r : Reading) → IsStartOf p r → IsLevel p w (record { start = 0; timed = 0; reading = r })
first-level p w r h =
    let empty : r.group.items ≡ [] = ap (λ d. d.group) h.progress in
    let none : r.timed ≡ 0 = ap (λ d. d.timed) h.progress in
    let opened : opened_of (record { start = 0; timed = 0; reading = r }) ≡ progress_of r = λ k. record { before = meaning r.before; group = sym empty k; timed = sym none k; running = is_in_row r.running } in
    record {
      within = omega arith;
      timed = omega arith;
      at = opened ∙ h.progress ∙ sym (past-start p);
      reading = h.reading;
    }

pub first-fresh : (p : Problem) (w : List Mark) → Sound p w → is_empty w ≡ false → is_fresh_at w 0 ≡ true
first-fresh p [] sound e = absurd (false≢true (sym e))
first-fresh p (m ∷ w) sound e = by_fresh m.fresh refl
  where
    by_fresh : (b : Bool) → m.fresh ≡ b → m.fresh ≡ true
    by_fresh true is = is
    by_fresh false is = absurd (false≢true (ap (λ b. if b then closes p (at_start p) && may_join p (past_group p (at_start p)) m.item else not (is_empty (at_start p).group) && may_join p (at_start p) m.item) (sym is) ∙ sound.follows.0))

pub fresh-within : (w : List Mark) (n : ℕ) → is_fresh_at w n ≡ true → n < length w
fresh-within [] n e = absurd (false≢true e)
fresh-within (m ∷ w) zero e = omega arith
fresh-within (m ∷ w) (suc n) e = let rest : n < length w = fresh-within w n e in omega (arith, rest)

pub fresh-mark-at : (w : List Mark) (n : ℕ) (m : Mark) → is_fresh_at w n ≡ true → slice_get w n ≡ Some m → m.fresh ≡ true
fresh-mark-at w n m e got = sym (ap (λ o. some_and o (λ x. x.fresh)) got) ∙ e

pub read-whole : (p : Problem) (w : List Mark) (n : ℕ) (l : Level) → length w ≤ n → IsReadTo p w n l → progress_of l.reading ≡ progress p w
read-whole p w n l all h = h.progress ∙ ap (progress p) (take_all n w all)

fresh-of : (w : List Mark) (n : ℕ) (ls : List Level) → list_all (fits w n) ls ≡ true → Each (λ l. is_fresh_at w l.start ≡ true) ls
fresh-of w n [] h = tt
fresh-of w n (l ∷ ls) h =
    let parts = and_parts (fits w n l) (list_all (fits w n) ls) h in
    ((and_parts (nat_le l.start n) (is_fresh_at w l.start) parts.0).1, fresh-of w n ls parts.1)

-- the levels that serve another word
pub moved-levels : (p : Problem) (a b : List Mark) (n count : ℕ) (old new : List Level) → n ≤ length b → take n a ≡ take n b → list_all (fits b n) (take count old) ≡ true → new ≡ take count old → AreLevels p a old → AreLevels p b new
moved-levels p a b n count old new within same fit is h = subst (AreLevels p b) (sym is) (levels-moved p a b n (take count old) within same fit (levels-front p a old count h))

pub moved-fresh : (b : List Mark) (n count : ℕ) (old new : List Level) → list_all (fits b n) (take count old) ≡ true → new ≡ take count old → Each (λ l. is_fresh_at b l.start ≡ true) new
moved-fresh b n count old new fit is = subst (Each (λ l. is_fresh_at b l.start ≡ true)) (sym is) (fresh-of b n (take count old) fit)

pub alike-next : (a b : List Mark) (i : ℕ) (m : Mark) → slice_get a i ≡ Some m → slice_get b i ≡ Some m → AreAlike a b i → AreAlike a b (i + 1)
alike-next a b i m e f h =
    let below : i < length b = slice_get_within b i m f in
    record {
      within = omega (arith, below);
      same = take-next a i m e ∙ ap (λ l. l ++ m ∷ []) h.same ∙ sym (take-next b i m f);
    }
