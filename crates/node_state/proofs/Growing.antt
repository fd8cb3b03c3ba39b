-- Marks that come in one by one.
use Rattle.std.proofs.Common.{◌≡◌, refl, sym, ap, ◌∙◌, subst, ℕ, zero, suc, ◌+◌, ◌-◌, ◌*◌, ◌/◌, ◌%◌, ◌<◌, ◌≤◌, length, slice_index, Bool, true, false, not, ◌&&◌, List, [], ◌∷◌, ◌++◌, map, append_assoc, arith, eqb, nat_lt}
use Rattle.std.specs.Prelude.{cond}
use Rattle.std.specs.Int.{bit_at}
use Rattle.std.specs.List.{filter, list_all, range_with_len}
use Rattle.std.proofs.lemmas.Bool.{false≢true, ne_eqb}
use Rattle.std.proofs.lemmas.List.{map-append, append-nil}
use Rattle.world_state.specs.declared.rows.BitRow.{BitRow}
use Rattle.world_state.specs.Rows.{has_bit, is_in_row}
use Rattle.world_state.proofs.RowBits.{none_at}
use Rattle.node_state.specs.Judges.{item_of, IsCover}
use Rattle.node_state.proofs.Insides.{join-below}
use Rattle.node_state.proofs.Ranges.{range-append}
use Rattle.std.proofs.lemmas.List.Elements.{filter-append}
use Rattle.std.proofs.lemmas.List.FromFn.{map-range_with_len_more}
use Rattle.tp_laws.proofs.EarlyLists.{filter-map, filter-none}
use Rattle.tp_laws.proofs.Readings.{read_on-append}
use Rattle.tp_laws.specs.Plans.{is_whole, none_run, begins_timed}
use Rattle.tp_spec.specs.declared.plan.Item.{Item}
use Rattle.tp_spec.specs.declared.plan.Item.TheVariants.{TimedAt}
use Rattle.tp_spec.specs.declared.plan.Mark.{Mark}
use Rattle.tp_spec.specs.declared.problem.Problem.{Problem}
use Rattle.tp_spec.specs.Lists.{is_empty}
use Rattle.tp_spec.specs.States.{holds}
use Rattle.tp_spec.specs.Items.{all_items, item_before, own}
use Rattle.tp_spec.specs.Interference.{interfere}
use Rattle.tp_spec.specs.Machine.{rank, unmet_goals}
use Rattle.tp_spec.specs.Words.{Progress, at_start, progress, may_join, may_follow, closes, past_group}
use Rattle.node_state.specs.declared.judge.Found.{Found}
use Rattle.node_state.specs.declared.growth.Growth.{Growth}
use Rattle.node_state.specs.declared.reading.Reading.{Reading}
use Rattle.node_state.specs.Readings.{progress_of, IsClosed, IsInside}
use Rattle.node_state.specs.Growths.{mark_of, marks_by, next_marks, rank_with, IsGrowthOf}
use Rattle.node_state.specs.Founds.{unmet_with, unmet_behind, ends_in_goal, Grew, TookMarks}

chain : {A B : Type 0} (f : A → B) (test : A → Bool) (old mid new : List B) (xs ys : List A) → mid ≡ old ++ map f (filter test xs) → new ≡ mid ++ map f (filter test ys) → new ≡ old ++ map f (filter test (xs ++ ys))
chain f test old mid new xs ys h k =
    k
    ∙ ap (λ l. l ++ map f (filter test ys)) h
    ∙ append_assoc old (map f (filter test xs)) (map f (filter test ys))
    ∙ ap (λ l. old ++ l) (sym (map-append f (filter test xs) (filter test ys)) ∙ ap (map f) (sym (filter-append test xs ys)))

pub grew-both : (p : Problem) (c : Progress) (fresh : Bool) (old mid new : Found) (xs ys : List Item) → Grew p c fresh old mid xs → Grew p c fresh mid new ys → Grew p c fresh old new (xs ++ ys)
grew-both p c fresh old mid new xs ys h k = record {
  marks = chain (mark_of fresh) (may_join p c) old.marks.items mid.marks.items new.marks.items xs ys h.marks k.marks;
  ranks = chain (unmet_with p c) (may_join p c) old.ranks.items mid.ranks.items new.ranks.items xs ys h.ranks k.ranks;
}

pub grew-none : (p : Problem) (c : Progress) (fresh : Bool) (found : Found) → Grew p c fresh found found []
grew-none p c fresh found = record { marks = sym (append-nil found.marks.items); ranks = sym (append-nil found.ranks.items) }

pub grew-passed : (p : Problem) (c : Progress) (fresh : Bool) (found : Found) (i : Item) → may_join p c i ≡ false → Grew p c fresh found found (i ∷ [])
grew-passed p c fresh found i h = record {
  marks = sym (append-nil found.marks.items) ∙ ap (λ b. found.marks.items ++ map (mark_of fresh) (cond b (i ∷ []) [])) (sym h);
  ranks = sym (append-nil found.ranks.items) ∙ ap (λ b. found.ranks.items ++ map (unmet_with p c) (cond b (i ∷ []) [])) (sym h);
}

pub grew-taken : (p : Problem) (c : Progress) (fresh : Bool) (old new : Found) (i : Item) (m : Mark) (r : ℕ) → may_join p c i ≡ true → m ≡ mark_of fresh i → r ≡ unmet_with p c i
    → new.marks.items ≡ old.marks.items ++ m ∷ [] → new.ranks.items ≡ old.ranks.items ++ r ∷ [] → Grew p c fresh old new (i ∷ [])
grew-taken p c fresh old new i m r h em er marks ranks = record {
  marks = marks ∙ ap (λ x. old.marks.items ++ x ∷ []) em ∙ ap (λ b. old.marks.items ++ map (mark_of fresh) (cond b (i ∷ []) [])) (sym h);
  ranks = ranks ∙ ap (λ x. old.ranks.items ++ x ∷ []) er ∙ ap (λ b. old.ranks.items ++ map (unmet_with p c) (cond b (i ∷ []) [])) (sym h);
}

map-map : {A B C : Type 0} (g : B → C) (f : A → B) (xs : List A) → map g (map f xs) ≡ map (λ x. g (f x)) xs
map-map g f [] = refl
map-map g f (x ∷ xs) = ap (λ l. g (f x) ∷ l) (map-map g f xs)

joining-marks : (p : Problem) (c : Progress) → is_empty c.group ≡ false → marks_by p c false ≡ map (mark_of false) (filter (may_join p c) (all_items p))
joining-marks p c e =
    filter-map (may_follow p c) (mark_of false) (all_items p)
    ∙ ap (λ b. map (mark_of false) (filter (λ i. not b && may_join p c i) (all_items p))) e

opening-marks : (p : Problem) (c : Progress) → closes p c ≡ true → marks_by p c true ≡ map (mark_of true) (filter (may_join p (past_group p c)) (all_items p))
opening-marks p c e =
    filter-map (may_follow p c) (mark_of true) (all_items p)
    ∙ ap (λ b. map (mark_of true) (filter (λ i. b && may_join p (past_group p c) i) (all_items p))) e

none-joining : (p : Problem) (c : Progress) → is_empty c.group ≡ true → marks_by p c false ≡ []
none-joining p c e =
    filter-map (may_follow p c) (mark_of false) (all_items p)
    ∙ ap (map (mark_of false)) (filter-none (λ i. may_follow p c (mark_of false i)) (all_items p) (λ i. ap (λ b. not b && may_join p c i) e))

pub none-opening : (p : Problem) (c : Progress) → closes p c ≡ false → marks_by p c true ≡ []
none-opening p c e =
    filter-map (may_follow p c) (mark_of true) (all_items p)
    ∙ ap (map (mark_of true)) (filter-none (λ i. may_follow p c (mark_of true i)) (all_items p) (λ i. ap (λ b. b && may_join p (past_group p c) i) e))

pub took-joining : (p : Problem) (c : Progress) (old new : Found) → is_empty c.group ≡ false → Grew p c false old new (all_items p) → TookMarks p c false old new
took-joining p c old new e h = record {
  marks = h.marks ∙ ap (λ l. old.marks.items ++ l) (sym (joining-marks p c e));
  ranks = h.ranks ∙ ap (λ l. old.ranks.items ++ l) (sym (ap (map (unmet_behind p c)) (joining-marks p c e) ∙ map-map (unmet_behind p c) (mark_of false) (filter (may_join p c) (all_items p))));
}

pub took-opening : (p : Problem) (c d : Progress) (old new : Found) → closes p c ≡ true → d ≡ past_group p c → Grew p d true old new (all_items p) → TookMarks p c true old new
took-opening p c d old new e same given =
    let h : Grew p (past_group p c) true old new (all_items p) = subst (λ x. Grew p x true old new (all_items p)) same given in
    record {
      marks = h.marks ∙ ap (λ l. old.marks.items ++ l) (sym (opening-marks p c e));
      ranks = h.ranks ∙ ap (λ l. old.ranks.items ++ l) (sym (ap (map (unmet_behind p c)) (opening-marks p c e) ∙ map-map (unmet_behind p c) (mark_of true) (filter (may_join p (past_group p c)) (all_items p))));
    }

took-nothing : (p : Problem) (c : Progress) (fresh : Bool) (found : Found) → marks_by p c fresh ≡ [] → TookMarks p c fresh found found
took-nothing p c fresh found e = record {
  marks = sym (append-nil found.marks.items) ∙ ap (λ l. found.marks.items ++ l) (sym e);
  ranks = sym (append-nil found.ranks.items) ∙ ap (λ l. found.ranks.items ++ map (unmet_behind p c) l) (sym e);
}

pub took-none-joining : (p : Problem) (c : Progress) (found : Found) → is_empty c.group ≡ true → TookMarks p c false found found
took-none-joining p c found e = took-nothing p c false found (none-joining p c e)

pub took-none-opening : (p : Problem) (c : Progress) (found : Found) → closes p c ≡ false → TookMarks p c true found found
took-none-opening p c found e = took-nothing p c true found (none-opening p c e)

pub rank-behind : (p : Problem) (w : List Mark) (a : Mark) → rank_with p w a ≡ unmet_behind p (progress p w) a
unfolding rank
rank-behind p w a = ap (unmet_goals p) (read_on-append p (at_start p) w (a ∷ []))

-- what came in altogether
pub growth-of : (p : Problem) (w : List Mark) (c : Progress) (old mid new : Found) (g : Growth) → c ≡ progress p w → old.marks.items ≡ [] → old.ranks.items ≡ [] → TookMarks p c false old mid → TookMarks p c true mid new
    → g.marks ≡ new.marks.items → g.ranks ≡ new.ranks.items → g.whole ≡ is_whole p w → IsGrowthOf p w g
growth-of p w c old mid new g is none_marks none_ranks given_joining given_opening marks ranks whole =
    let joining : TookMarks p (progress p w) false old mid = subst (λ x. TookMarks p x false old mid) is given_joining in
    let opening : TookMarks p (progress p w) true mid new = subst (λ x. TookMarks p x true mid new) is given_opening in
    record {
      marks = marks ∙ opening.marks ∙ ap (λ l. l ++ marks_by p (progress p w) true) (joining.marks ∙ ap (λ l. l ++ marks_by p (progress p w) false) none_marks);
      ranks =
          ranks ∙ opening.ranks
          ∙ ap (λ l. l ++ map (unmet_behind p (progress p w)) (marks_by p (progress p w) true)) (joining.ranks ∙ ap (λ l. l ++ map (unmet_behind p (progress p w)) (marks_by p (progress p w) false)) none_ranks)
          ∙ sym (map-append (unmet_behind p (progress p w)) (marks_by p (progress p w) false) (marks_by p (progress p w) true))
          ∙ (λ k. map (λ a. sym (rank-behind p w a) k) (next_marks p w));
      whole = whole;
    }

-- whether a word is whole, by its reading with the last group closed
pub whole-closed : (p : Problem) (w : List Mark) (c d : Progress) → c ≡ progress p w → closes p c ≡ true → d ≡ past_group p c → (ends_in_goal p d && not (is_empty w && begins_timed p)) ≡ is_whole p w
whole-closed p w c d is e same =
    let closed : closes p (progress p w) ≡ true = subst (λ x. closes p x ≡ true) is e in
    let here : d ≡ past_group p (progress p w) = same ∙ ap (past_group p) is in
    ap (λ x. ends_in_goal p x && not (is_empty w && begins_timed p)) here
    ∙ ap (λ b. ((b && none_run p (progress p w)) && list_all (holds (past_group p (progress p w)).before) p.goal) && not (is_empty w && begins_timed p)) (sym closed)

pub not-whole : (p : Problem) (w : List Mark) (c : Progress) → c ≡ progress p w → closes p c ≡ false → false ≡ is_whole p w
not-whole p w c is e =
    let shut : closes p (progress p w) ≡ false = subst (λ x. closes p x ≡ false) is e in
    ap (λ b. ((b && none_run p (progress p w)) && list_all (holds (past_group p (progress p w)).before) p.goal) && not (is_empty w && begins_timed p)) (sym shut)

-- what came in where the last group may not be closed
pub growth-shut : (p : Problem) (w : List Mark) (c : Progress) (old mid : Found) (g : Growth) → c ≡ progress p w → old.marks.items ≡ [] → old.ranks.items ≡ [] → TookMarks p c false old mid → closes p c ≡ false
    → g.marks ≡ mid.marks.items → g.ranks ≡ mid.ranks.items → g.whole ≡ false → IsGrowthOf p w g
growth-shut p w c old mid g is none_marks none_ranks joining shut marks ranks whole =
    growth-of p w c old mid mid g is none_marks none_ranks joining (took-none-opening p c mid shut) marks ranks (whole ∙ not-whole p w c is shut)

-- what came in where it may be closed
pub growth-open : (p : Problem) (w : List Mark) (c : Progress) (next : Reading) (old mid new : Found) (g : Growth) (b : Bool) → c ≡ progress p w → old.marks.items ≡ [] → old.ranks.items ≡ [] → TookMarks p c false old mid → IsClosed p c next → TookMarks p c true mid new
    → g.marks ≡ new.marks.items → g.ranks ≡ new.ranks.items → g.whole ≡ b → b ≡ (ends_in_goal p (progress_of next) && not (is_empty w && begins_timed p)) → IsGrowthOf p w g
growth-open p w c next old mid new g b is none_marks none_ranks joining closed opening marks ranks whole ends =
    growth-of p w c old mid new g is none_marks none_ranks joining opening marks ranks (whole ∙ ends ∙ whole-closed p w c (progress_of next) is closed.closes closed.progress)

filter-range-none : {A : Type 0} (test : A → Bool) (kind : ℕ → A) (a m : ℕ) → ((b : ℕ) → a ≤ b → b < a + m → test (kind b) ≡ false) → filter test (map kind (range_with_len a m)) ≡ []
filter-range-none test kind a zero none = refl
filter-range-none test kind a (suc m) none =
    ap (λ b. cond b (kind a ∷ filter test (map kind (range_with_len (a + 1) m))) (filter test (map kind (range_with_len (a + 1) m)))) (none a (omega arith) (omega arith))
    ∙ filter-range-none test kind (a + 1) m (λ b above below. none b (omega (arith, above)) (omega (arith, below)))

grew-nothing : (p : Problem) (c : Progress) (fresh : Bool) (found : Found) (items : List Item) → filter (may_join p c) items ≡ [] → Grew p c fresh found found items
grew-nothing p c fresh found items e = record {
  marks = sym (append-nil found.marks.items) ∙ ap (λ l. found.marks.items ++ map (mark_of fresh) l) (sym e);
  ranks = sym (append-nil found.ranks.items) ∙ ap (λ l. found.ranks.items ++ map (unmet_with p c) l) (sym e);
}

pub not-joining : (joins covered : Bool) → (joins ≡ true → covered ≡ true) → covered ≡ false → joins ≡ false
not-joining true covered h e = absurd (false≢true (sym e ∙ h refl))
not-joining false covered h e = refl

number-none : (words : List ℕ) (b k i : ℕ) → b / 64 ≡ k → b % 64 ≡ i → bit_at (slice_index words k) i ≡ 0 → has_bit words b ≡ false
unfolding has_bit
number-none words b k i e m h = ap (λ x. eqb x 1) ((λ j. bit_at (slice_index words (e j)) (m j)) ∙ h)

-- a block's numbers up to the next one that the row has
pub grew-on : (p : Problem) (c : Progress) (fresh : Bool) (old new : Found) (starts : Bool) (row : BitRow) (k from to w : ℕ) → IsCover p c starts row → w ≡ slice_index row.words.items k → from ≤ to → to ≤ 64
    → ((i : ℕ) → from ≤ i → i < to → bit_at w i ≡ 0) → Grew p c fresh old new (map (item_of starts) (range_with_len (64 * k) from)) → Grew p c fresh old new (map (item_of starts) (range_with_len (64 * k) to))
grew-on p c fresh old new starts row k from to w covers word after small none h =
    let rest : ℕ = to - from in
    let count : to ≡ from + rest = omega (arith, after) in
    let front = map (item_of starts) (range_with_len (64 * k) from) in
    let back = map (item_of starts) (range_with_len (64 * k + from) rest) in
    subst (λ xs. Grew p c fresh old new xs)
    (sym (ap (λ (n : ℕ). map (item_of starts) (range_with_len (64 * k) n)) count ∙ ap (map (item_of starts)) (range-append (64 * k) from rest) ∙ map-append (item_of starts) (range_with_len (64 * k) from) (range_with_len (64 * k + from) rest)))
    (grew-both p c fresh old new new front back h
    (grew-nothing p c fresh new back
    (filter-range-none (may_join p c) (item_of starts) (64 * k + from) rest (λ b above below.
    let last : b < 64 * k + to = omega (arith, below, count) in
    let block : b / 64 ≡ k = omega (arith, above, last, small) in
    let place : b % 64 ≡ b - 64 * k = omega (arith, above, last, small) in
    let first : from ≤ b - 64 * k = omega (arith, above) in
    let behind : b - 64 * k < to = omega (arith, above, last) in
    not-joining (may_join p c (item_of starts b)) (is_in_row row b) (covers b)
    (number-none row.words.items b k (b - 64 * k) block place (ap (λ x. bit_at x (b - 64 * k)) (sym word) ∙ none (b - 64 * k) first behind))))))

-- the next number of a block
pub grew-next : (p : Problem) (c : Progress) (fresh : Bool) (old mid new : Found) (kind : ℕ → Item) (a n j : ℕ) → a + n ≡ j → Grew p c fresh old mid (map kind (range_with_len a n)) → Grew p c fresh mid new (kind j ∷ []) → Grew p c fresh old new (map kind (range_with_len a (n + 1)))
grew-next p c fresh old mid new kind a n j e h k =
    subst (λ xs. Grew p c fresh old new xs) (sym (map-range_with_len_more kind a n j e))
    (grew-both p c fresh old mid new (map kind (range_with_len a n)) (kind j ∷ []) h k)

map-range-append : {A : Type 0} (kind : ℕ → A) (m n : ℕ) → map kind (range_with_len 0 (m + n)) ≡ map kind (range_with_len 0 m) ++ map kind (range_with_len m n)
map-range-append kind m n =
    let none : 0 + m ≡ m = omega arith in
    ap (map kind) (range-append 0 m n ∙ ap (λ k. range_with_len 0 m ++ range_with_len k n) none) ∙ map-append kind (range_with_len 0 m) (range_with_len m n)

-- the next block
pub grew-block : (p : Problem) (c : Progress) (fresh : Bool) (old mid new : Found) (kind : ℕ → Item) (k : ℕ) → Grew p c fresh old mid (map kind (range_with_len 0 (64 * k))) → Grew p c fresh mid new (map kind (range_with_len (64 * k) 64)) → Grew p c fresh old new (map kind (range_with_len 0 (64 * (k + 1))))
grew-block p c fresh old mid new kind k h g =
    let count : 64 * k + 64 ≡ 64 * (k + 1) = omega arith in
    subst (λ (n : ℕ). Grew p c fresh old new (map kind (range_with_len 0 n))) count
    (subst (λ xs. Grew p c fresh old new xs) (sym (map-range-append kind (64 * k) 64))
    (grew-both p c fresh old mid new (map kind (range_with_len 0 (64 * k))) (map kind (range_with_len (64 * k) 64)) h g))

-- the blocks up to the next one of which the row has some
pub grew-over : (p : Problem) (c : Progress) (fresh : Bool) (old new : Found) (starts : Bool) (row : BitRow) (from to : ℕ) → IsCover p c starts row → from ≤ to → ((k : ℕ) → from ≤ k → k < to → slice_index row.words.items k ≡ 0)
    → Grew p c fresh old new (map (item_of starts) (range_with_len 0 (64 * from))) → Grew p c fresh old new (map (item_of starts) (range_with_len 0 (64 * to)))
grew-over p c fresh old new starts row from to covers after none h =
    let count : 64 * to ≡ 64 * from + 64 * (to - from) = omega (arith, after) in
    let front = map (item_of starts) (range_with_len 0 (64 * from)) in
    let back = map (item_of starts) (range_with_len (64 * from) (64 * (to - from))) in
    subst (λ xs. Grew p c fresh old new xs) (sym (ap (λ (n : ℕ). map (item_of starts) (range_with_len 0 n)) count ∙ map-range-append (item_of starts) (64 * from) (64 * (to - from))))
    (grew-both p c fresh old new new front back h
    (grew-nothing p c fresh new back
    (filter-range-none (may_join p c) (item_of starts) (64 * from) (64 * (to - from)) (λ b above below.
    let first : from ≤ b / 64 = omega (arith, above) in
    let behind : b / 64 < to = omega (arith, below, after) in
    not-joining (may_join p c (item_of starts b)) (is_in_row row b) (covers b) (none_at row.words.items b (none (b / 64) first behind))))))

grew-front : (p : Problem) (c : Progress) (fresh : Bool) (old new : Found) (xs ys : List Item) → filter (may_join p c) ys ≡ [] → Grew p c fresh old new (xs ++ ys) → Grew p c fresh old new xs
grew-front p c fresh old new xs ys none h =
    let same : filter (may_join p c) (xs ++ ys) ≡ filter (may_join p c) xs = filter-append (may_join p c) xs ys ∙ ap (λ l. filter (may_join p c) xs ++ l) none ∙ append-nil (filter (may_join p c) xs) in
    record {
      marks = h.marks ∙ ap (λ l. old.marks.items ++ map (mark_of fresh) l) same;
      ranks = h.ranks ∙ ap (λ l. old.ranks.items ++ map (unmet_with p c) l) same;
    }

-- numbers behind the last action do not count
pub grew-cut : (p : Problem) (c : Progress) (fresh : Bool) (old new : Found) (starts : Bool) (k : ℕ) → IsInside p c → length p.actions ≤ 64 * k → Grew p c fresh old new (map (item_of starts) (range_with_len 0 (64 * k))) → Grew p c fresh old new (map (item_of starts) (range_with_len 0 (length p.actions)))
grew-cut p c fresh old new starts k inside all h =
    let count : 64 * k ≡ length p.actions + (64 * k - length p.actions) = omega (arith, all) in
    grew-front p c fresh old new (map (item_of starts) (range_with_len 0 (length p.actions))) (map (item_of starts) (range_with_len (length p.actions) (64 * k - length p.actions)))
    (filter-range-none (may_join p c) (item_of starts) (length p.actions) (64 * k - length p.actions) (λ b above below. none b above (may_join p c (item_of starts b)) refl))
    (subst (λ xs. Grew p c fresh old new xs) (ap (λ (n : ℕ). map (item_of starts) (range_with_len 0 n)) count ∙ map-range-append (item_of starts) (length p.actions) (64 * k - length p.actions)) h)
  where
    none : (b : ℕ) → length p.actions ≤ b → (t : Bool) → may_join p c (item_of starts b) ≡ t → may_join p c (item_of starts b) ≡ false
    none b above false e = e
    none b above true e = let below : b < length p.actions = join-below p c starts b inside e in absurd (omega (arith, above, below))

timed-passed : (p : Problem) (c : Progress) (k : ℕ) → (k ≡ c.timed → ⊥) → may_join p c (TimedAt k) ≡ false
timed-passed p c k other =
    ap (λ t. ((t && nat_lt k (length p.timed)) && own p c.before (TimedAt k)) && list_all (λ j. item_before j (TimedAt k) && not (interfere p j (TimedAt k))) c.group)
    (ne_eqb k c.timed other)

-- where all timed items came
pub timed-over : (p : Problem) (c : Progress) (fresh : Bool) (found : Found) → length p.timed ≤ c.timed → Grew p c fresh found found (map (λ k. TimedAt k) (range_with_len 0 (length p.timed)))
timed-over p c fresh found all =
    grew-nothing p c fresh found (map (λ k. TimedAt k) (range_with_len 0 (length p.timed)))
    (filter-range-none (may_join p c) (λ k. TimedAt k) 0 (length p.timed) (λ k above below. timed-passed p c k (λ e. omega (arith, all, below, e))))

-- only the next timed item may join
pub timed-next : (p : Problem) (c : Progress) (fresh : Bool) (old new : Found) → c.timed < length p.timed → Grew p c fresh old new (TimedAt c.timed ∷ []) → Grew p c fresh old new (map (λ k. TimedAt k) (range_with_len 0 (length p.timed)))
timed-next p c fresh old new some h =
    let rest : ℕ = length p.timed - (c.timed + 1) in
    let count : length p.timed ≡ c.timed + suc rest = omega (arith, some) in
    let front = map (λ k. TimedAt k) (range_with_len 0 c.timed) in
    let back = map (λ k. TimedAt k) (range_with_len (c.timed + 1) rest) in
    subst (λ xs. Grew p c fresh old new xs) (sym (ap (λ (n : ℕ). map (λ k. TimedAt k) (range_with_len 0 n)) count ∙ map-range-append (λ k. TimedAt k) c.timed (suc rest)))
    (grew-both p c fresh old old new front (TimedAt c.timed ∷ back)
    (grew-nothing p c fresh old front (filter-range-none (may_join p c) (λ k. TimedAt k) 0 c.timed (λ k above below. timed-passed p c k (λ e. omega (arith, below, e)))))
    (grew-both p c fresh old new new (TimedAt c.timed ∷ []) back h
    (grew-nothing p c fresh new back (filter-range-none (may_join p c) (λ k. TimedAt k) (c.timed + 1) rest (λ k above below. timed-passed p c k (λ e. omega (arith, above, e)))))))
