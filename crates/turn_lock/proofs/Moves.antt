-- Each step of the lock keeps its rule.
use Rattle.std.proofs.Common.{◌≡◌, ◌≢◌, ℕ, ◌+◌, ◌%◌, ◌<◌, ◌≤◌, eqb, List, [], ◌∷◌, length, get_or, set, Option, Some, None, IsSome, IfSome, cond, sym, refl, ap, ◌∙◌, subst, ⊎_elim, arith, length-set, get_or-set_other, get_or-set_same, eq-eqb, ne_eqb}
use mathlib.Core.List.{IsPrefix}
use mathlib.Core.Logic.{dite}
use mathlib.Core.Option as maybe
use native.Mathlib.Decide.{ℕ_discrete}
use lib.ListN.{get_elem?}
use lib.Seq.{set-get_or}
use Rattle.atomic_table.specs.Table.{State, Me, put_back, keeps, takes, gives, stepped, Allows}
use Rattle.atomic_table.proofs.Lists.{at_set, set_again, one_turn}
use Rattle.turn_lock.specs.declared.rule.Stage.{Stage}
use Rattle.turn_lock.specs.declared.rule.Stage.TheVariants.{Idle, Waiting, Serving}
use Rattle.turn_lock.specs.declared.rule.View.{View}
use Rattle.turn_lock.specs.Turns.{stands_in, FollowEach, once}
use Rattle.turn_lock.specs.Kept.{busy, slot_of, StageKept, Knows, Kept}
use Rattle.turn_lock.specs.Told.{ticket_of, word_of, at_stage, served, turned, Draws, Looks, Counts, Adds, in_slot, Ends}
use Rattle.turn_lock.proofs.Begins.{prefix_self, prefix_trans, prefix_length}
use Rattle.turn_lock.proofs.Stretches.{follow_each_further, follow_each_turn, stands_in_turn, once_more}
use Rattle.turn_lock.proofs.Sums.{sum_set, sum_le}

-- one more, modulo 2^64
next_word : (t : ℕ) → (word_of t + 1) % 18446744073709551616 ≡ word_of (t + 1)
next_word t = omega arith

module _ {V E : Type 0} (entries : V → List E) (same : V → V → Type 0) (opened : V) (parts : ℕ) where
  abbrev pub W : Type 0
  W = View V E

  abbrev pub St : Type 0
  St = State (Option V) W

  abbrev pub M : Type 0
  M = Me (Option V) W

  abbrev pub Rule : St → Type 0
  Rule = Kept entries same opened parts

  abbrev waiting : W → ℕ
  waiting v = busy v.stage

  -- what every seat knows after one seat's view changed
  pub seats_stay : (K : ℕ → W → Type 0) (vs : List W) (me : ℕ) (w : W) → K me w → ((j : ℕ) (d : W) → j ≢ me → get_elem? vs j ≡ maybe.some d → K j d)
      → (j : ℕ) (d : W) → get_elem? (set vs me w) j ≡ maybe.some d → K j d
  seats_stay K vs me w mine others j d e = ⊎_elim (λ (t : (j ≡ me) × (w ≡ d)). subst (λ (x : ℕ × W). K x.0 x.1) (λ i. (sym t.0 i, t.1 i)) mine)
      (λ (t : (j ≢ me) × (get_elem? vs j ≡ maybe.some d)). others j d t.0 t.1) (at_set vs me j w d e)

  -- a seat that is busy has a part
  pub busy_parts : (log : List E) (done drawn : ℕ) (holder : ℕ → ℕ) (home : Option V) (j : ℕ) (v : W) (st : Stage) → StageKept log done drawn holder home j v st → busy st ≤ v.parts
  busy_parts log done drawn holder home j v Idle k = omega arith
  busy_parts log done drawn holder home j v (Waiting t) k = omega (arith, k.3)
  busy_parts log done drawn holder home j v (Serving t) k = omega (arith, k.3)

  -- no more tickets are held than there are parts
  few_held : (s : St) (r : Rule s) → r.drawn ≤ r.done + parts
  few_held s r = omega (arith, r.waits, r.whole, sum_le waiting (λ v. v.parts) s.views (λ j v e. busy_parts r.log r.done r.drawn r.holder r.home j v v.stage (r.each j v e).stage))

  -- what a seat knows is kept where its stage is and nothing was added
  knows_stays : (log : List E) (done drawn : ℕ) (holder : ℕ → ℕ) (home : Option V) (done' drawn' : ℕ) (holder' : ℕ → ℕ) (home' : Option V) (j : ℕ) (v : W)
      → Knows opened log done drawn holder home j v → StageKept log done' drawn' holder' home' j v v.stage → Knows opened log done' drawn' holder' home' j v
  knows_stays log done drawn holder home done' drawn' holder' home' j v k st = record { of = k.of; seen = k.seen; joined = k.joined; made = k.made; none = k.none; stage = st }

  -- a ticket is drawn
  drawn_holder : (ℕ → ℕ) → ℕ → ℕ → ℕ → ℕ
  drawn_holder holder t id u = cond (eqb u t) id (holder u)

  others_draw : (log : List E) (done drawn : ℕ) (holder : ℕ → ℕ) (home : Option V) (id j : ℕ) (v : W) (st : Stage)
      → StageKept log done drawn holder home j v st → StageKept log done (drawn + 1) (drawn_holder holder drawn id) home j v st
  unfolding drawn_holder
  others_draw log done drawn holder home id j v Idle k = tt
  others_draw log done drawn holder home id j v (Waiting t) k =
      (k.0, omega (arith, k.1), subst (λ b. cond b id (holder t) ≡ j) (sym (ne_eqb t drawn (λ e. omega (arith, k.1)))) k.2, k.3, k.4)
  others_draw log done drawn holder home id j v (Serving t) k =
      (k.0, omega (arith, k.1), subst (λ b. cond b id (holder t) ≡ j) (sym (ne_eqb t drawn (λ e. omega (arith, k.1)))) k.2, k.3, k.4, k.5)

  drawn_here : (holder : ℕ → ℕ) (t id : ℕ) → drawn_holder holder t id t ≡ id
  unfolding drawn_holder
  drawn_here holder t id = ap (λ b. cond b id (holder t)) (eq-eqb t t refl)

  -- a value is home where no ticket is held
  home_now : (s : St) (r : Rule s) → r.drawn ≡ r.done → IsSome r.home
  home_now s r e = some_home r.home (λ z. let l = r.lent z in omega arith)
    where
      some_home : (o : Option V) → (o ≡ None → ⊥) → IsSome o
      some_home None n = absurd (n refl)
      some_home (Some v) n = refl

  pub draws : (slots id : ℕ) (me : M) → me.0.stage ≡ Idle → 0 < me.0.parts → Allows Rule slots id me 1 (λ n. (n + 1) % 18446744073709551616) (λ n w. Draws me n w)
  draws slots id me idle some_parts s r wide at small =
      let t : ℕ = r.drawn in
      let w : W = at_stage me.0 (Waiting t) in
      let k = r.each id me.0 at in
      let three : length s.words ≡ 3 = r.wide in
      let b : busy me.0.stage ≡ 0 = ap busy idle in (
        w,
        keeps,
        tt,
        record {
          log = r.log;
          done = r.done;
          drawn = t + 1;
          holder = drawn_holder r.holder t id;
          home = r.home;
          wide = length-set s.words 1 _ ∙ r.wide;
          count = get_or-set_other s.words 1 0 _ 0 (λ e. omega arith) ∙ r.count;
          next = get_or-set_same s.words 1 _ 0 (omega arith) ∙ (ap (λ n. (n + 1) % 18446744073709551616) r.next ∙ next_word t);
          served = get_or-set_other s.words 1 2 _ 0 (λ e. omega arith) ∙ r.served;
          few = r.few;
          slot = r.slot;
          value = r.value;
          lent = λ z. let l = r.lent z in omega arith;
          waits = omega (arith, r.waits, sum_set waiting s.views id me.0 w at, b);
          whole = omega (arith, r.whole, sum_set (λ v. v.parts) s.views id me.0 w at);
          covered = λ x. omega (arith, r.covered x, sum_set (λ v. stands_in x v.made) s.views id me.0 w at);
          longer = r.longer;
          each = seats_stay (Knows opened r.log r.done (t + 1) (drawn_holder r.holder t id) r.home) s.views id w
              (record {
                of = k.of;
                seen = k.seen;
                joined = k.joined;
                made = k.made;
                none = k.none;
                stage = (omega (arith, r.waits), omega arith, drawn_here r.holder t id, some_parts, λ e. home_now s r e);
              })
              (λ j d _ e. let q = r.each j d e in knows_stays r.log r.done t r.holder r.home r.done (t + 1) (drawn_holder r.holder t id) r.home j d q
              (others_draw r.log r.done t r.holder r.home id j d d.stage q.stage));
        },
        (t, r.next, refl),
      )

  -- the views stay where a seat's view does
  pub unmoved : (s : St) (i id : ℕ) (cs : List (ℕ × Option V)) (w : W) → Rule s → get_elem? s.views id ≡ maybe.some w → Rule (stepped s i (get_or s.words i 0) id cs w keeps)
  unmoved s i id cs w r at = subst Rule (λ k. record { words = sym (set-get_or s.words i 0) k; homes = s.homes; views = sym (set_again s.views id w at) k }) r

  -- the others once a seat has taken the value
  others_take : (log : List E) (done drawn : ℕ) (holder : ℕ → ℕ) (home : Option V) (id j : ℕ) (v : W) (st : Stage) → j ≢ id → holder done ≡ id
      → StageKept log done drawn holder home j v st → StageKept log done drawn holder None j v st
  others_take log done drawn holder home id j v Idle n mine k = tt
  others_take log done drawn holder home id j v (Waiting t) n mine k = (k.0, k.1, k.2, k.3, λ e. absurd (n (sym k.2 ∙ (ap holder e ∙ mine))))
  others_take log done drawn holder home id j v (Serving t) n mine k = absurd (n (sym k.2 ∙ (ap holder k.0 ∙ mine)))

  pub at_home : (o : Option V) → IsSome o → (v : V) × (o ≡ Some v)
  at_home None h = absurd cc
  at_home (Some v) h = (v, refl)

  pub good_at : (log : List E) (o : Option V) (v : V) → IfSome o (λ x. (entries x ≡ log) × same opened x) → o ≡ Some v → (entries v ≡ log) × same opened v
  good_at log o v h e = subst (λ (x : Option V). IfSome x (λ y. (entries y ≡ log) × same opened y)) e h

  pub looks : (slots id : ℕ) (me : M) (t : ℕ) → me.0.stage ≡ Waiting t → Allows Rule slots id me 2 (λ n. n) (λ n w. Looks entries same me n w)
  looks slots id me t waits s r wide at small = dite (ℕ_discrete (get_or s.words 2 0) (word_of (ticket_of me.0.stage)))
      (λ hit.
      let k = r.each id me.0 at in
      let st : StageKept r.log r.done r.drawn r.holder r.home id me.0 (Waiting t) = subst (StageKept r.log r.done r.drawn r.holder r.home id me.0) waits k.stage in
      let words : word_of r.done ≡ word_of t = sym r.served ∙ (hit ∙ ap (λ z. word_of (ticket_of z)) waits) in
      let now : r.done ≡ t = one_turn r.done t 18446744073709551616 st.0 (omega (arith, st.1, few_held s r, r.few)) words in
      let home = at_home r.home (st.4 (sym now)) in
      let v : V = home.0 in
      let good = good_at r.log r.home v r.value home.1 in
      let w : W = served me.0 (entries v) in
      let mine : r.holder r.done ≡ id = ap r.holder now ∙ st.2 in
      let slot : s.homes ≡ maybe.some (Some v) ∷ [] = r.slot ∙ ap (λ o. slot_of o ∷ []) home.1 in
      let here : busy me.0.stage ≡ 1 = ap busy waits in (
        w,
        takes 0 (Some v),
        ap (λ hs. get_elem? hs 0) slot,
        subst (λ ws. Rule record { words = ws; homes = set s.homes 0 maybe.none; views = set s.views id w }) (sym (set-get_or s.words 2 0)) (record {
          log = r.log;
          done = r.done;
          drawn = r.drawn;
          holder = r.holder;
          home = None;
          wide = r.wide;
          count = r.count;
          next = r.next;
          served = r.served;
          few = r.few;
          slot = ap (λ hs. set hs 0 maybe.none) slot;
          value = tt;
          lent = λ _. omega (arith, st.1);
          waits = omega (arith, r.waits, sum_set waiting s.views id me.0 w at, here);
          whole = omega (arith, r.whole, sum_set (λ v. v.parts) s.views id me.0 w at);
          covered = λ x. omega (arith, r.covered x, sum_set (λ v. stands_in x v.made) s.views id me.0 w at);
          longer = r.longer;
          each = seats_stay (Knows opened r.log r.done r.drawn r.holder None) s.views id w
              (record {
                of = k.of;
                seen = subst (λ xs. IsPrefix xs r.log) (sym good.0) (prefix_self r.log);
                joined = k.joined;
                made = k.made;
                none = k.none;
                stage = (ap ticket_of waits ∙ sym now, subst (λ u. u < r.drawn) (sym (ap ticket_of waits)) st.1, ap (λ z. r.holder (ticket_of z)) waits ∙ st.2, st.3, refl, good.0);
              })
              (λ j d n e. let q = r.each j d e in knows_stays r.log r.done r.drawn r.holder r.home r.done r.drawn r.holder None j d q
              (others_take r.log r.done r.drawn r.holder r.home id j d d.stage n mine q.stage));
        }),
        (
          (λ _. record {
            value = v;
            me = refl;
            longer = subst (λ xs. IsPrefix me.0.seen xs) (sym good.0) k.seen;
            charter = λ o e. subst (λ z. same z v) (sym (k.of o e)) good.1;
          }),
          λ miss. absurd (miss hit),
        ),
      ))
      (λ miss. (me.0, keeps, tt, unmoved s 2 id me.1 me.0 r at, ((λ hit. absurd (miss hit)), λ _. refl)))

  pub counts : (slots id : ℕ) (me : M) (t : ℕ) → me.0.stage ≡ Serving t → Allows Rule slots id me 0 (λ n. n) (λ n w. Counts me n w)
  counts slots id me t serving s r wide at small =
      let st : StageKept r.log r.done r.drawn r.holder r.home id me.0 (Serving t) = subst (StageKept r.log r.done r.drawn r.holder r.home id me.0) serving (r.each id me.0 at).stage in
      (me.0, keeps, tt, unmoved s 0 id me.1 me.0 r at, (r.count ∙ sym (ap length st.5), refl))

  -- the others once entries were added
  others_add : (log log' : List E) (done drawn : ℕ) (holder : ℕ → ℕ) (home home' : Option V) (id j : ℕ) (v : W) (st : Stage) → j ≢ id → holder done ≡ id → home ≡ home'
      → StageKept log done drawn holder home j v st → StageKept log' done drawn holder home' j v st
  others_add log log' done drawn holder home home' id j v Idle n mine e k = tt
  others_add log log' done drawn holder home home' id j v (Waiting t) n mine e k = (k.0, k.1, k.2, k.3, λ i. subst IsSome e (k.4 i))
  others_add log log' done drawn holder home home' id j v (Serving t) n mine e k = absurd (n (sym k.2 ∙ (ap holder k.0 ∙ mine)))

  pub adds : (slots id k : ℕ) (me : M) (t : ℕ) (v : V) → me.0.stage ≡ Serving t → me.1 ≡ (0, Some v) ∷ [] → IsPrefix me.0.seen (entries v)
      → length (entries v) ≡ length me.0.seen + k → length (entries v) < 18446744073709551616
      → Allows Rule slots id me 0 (λ n. (n + k) % 18446744073709551616) (λ n w. Adds entries me w)
  adds slots id k me t v serving slot begins long small_enough s r wide at small =
      let q = r.each id me.0 at in
      let st : StageKept r.log r.done r.drawn r.holder r.home id me.0 (Serving t) = subst (StageKept r.log r.done r.drawn r.holder r.home id me.0) serving q.stage in
      let three : length s.words ≡ 3 = r.wide in
      let all : List E = entries v in
      let w : W = turned me.0 all in
      let was : length me.0.seen ≡ length r.log = ap length st.5 in
      let onward : IsPrefix r.log all = subst (λ xs. IsPrefix xs all) st.5 begins in
      let grows : length r.log ≤ length all = prefix_length r.log all onward in
      let mine : r.holder r.done ≡ id = ap r.holder (sym st.0) ∙ st.2 in
      let counted : (get_or s.words 0 0 + k) % 18446744073709551616 ≡ length all = omega (arith, r.count) in (
        w,
        keeps,
        tt,
        record {
          log = all;
          done = r.done;
          drawn = r.drawn;
          holder = r.holder;
          home = None;
          wide = length-set s.words 0 _ ∙ r.wide;
          count = get_or-set_same s.words 0 _ 0 (omega arith) ∙ counted;
          next = get_or-set_other s.words 0 1 _ 0 (λ e. omega arith) ∙ r.next;
          served = get_or-set_other s.words 0 2 _ 0 (λ e. omega arith) ∙ r.served;
          few = r.few;
          slot = r.slot ∙ ap (λ o. slot_of o ∷ []) st.4;
          value = tt;
          lent = λ _. r.lent st.4;
          waits = omega (arith, r.waits, sum_set waiting s.views id me.0 w at);
          whole = omega (arith, r.whole, sum_set (λ v. v.parts) s.views id me.0 w at);
          covered = λ x. omega (
            arith,
            r.covered x,
            sum_set (λ v. stands_in x v.made) s.views id me.0 w at,
            stands_in_turn x (length me.0.seen) (length all) me.0.made,
            ap (λ n. once n (length all) x) was,
            once_more (length (entries opened)) (length r.log) (length all) x r.longer grows,
          );
          longer = omega (arith, r.longer, grows);
          each = seats_stay (Knows opened all r.done r.drawn r.holder None) s.views id w
              (record {
                of = q.of;
                seen = prefix_self all;
                joined = prefix_trans me.0.joined r.log all q.joined onward;
                made = follow_each_turn (length me.0.seen) (length all) me.0.made (omega (arith, was, grows)) (subst (λ n. FollowEach n me.0.made) (sym was) q.made);
                none = λ z. let p = st.3 in absurd (omega arith);
                stage = subst (StageKept all r.done r.drawn r.holder None id w) (sym serving) (st.0, st.1, st.2, st.3, refl, refl);
              })
              (λ j d n e. let o = r.each j d e in record {
                of = o.of;
                seen = prefix_trans d.seen r.log all o.seen onward;
                joined = prefix_trans d.joined r.log all o.joined onward;
                made = follow_each_further (length r.log) (length all) d.made grows o.made;
                none = o.none;
                stage = others_add r.log all r.done r.drawn r.holder r.home None id j d d.stage n mine st.4 o.stage;
              });
        },
        (λ i. (turned me.0 (in_slot entries (sym slot i)), me.1)),
      )

  -- the others once a turn is over
  others_end : (log : List E) (done drawn : ℕ) (holder : ℕ → ℕ) (home : Option V) (new : V) (id j : ℕ) (v : W) (st : Stage) → j ≢ id → holder done ≡ id
      → StageKept log done drawn holder home j v st → StageKept log (done + 1) drawn holder (Some new) j v st
  others_end log done drawn holder home new id j v Idle n mine k = tt
  others_end log done drawn holder home new id j v (Waiting t) n mine k =
      let other : t ≢ done = (λ e. n (sym k.2 ∙ (ap holder e ∙ mine))) in
      let from = k.0 in (omega arith, k.1, k.2, k.3, λ e. refl)
  others_end log done drawn holder home new id j v (Serving t) n mine k = absurd (n (sym k.2 ∙ (ap holder k.0 ∙ mine)))

  pub ends : (slots id : ℕ) (me : M) (t : ℕ) (v : V) → me.0.stage ≡ Serving t → me.1 ≡ (0, Some v) ∷ [] → entries v ≡ me.0.seen
      → ((o : V) × (me.0.opened ≡ Some o) × same o v)
      → Allows Rule slots id me 2 (λ n. (n + 1) % 18446744073709551616) (λ n w. Ends me w)
  ends slots id me t v serving slot all charter s r wide at small =
      let q = r.each id me.0 at in
      let st : StageKept r.log r.done r.drawn r.holder r.home id me.0 (Serving t) = subst (StageKept r.log r.done r.drawn r.holder r.home id me.0) serving q.stage in
      let three : length s.words ≡ 3 = r.wide in
      let w : W = at_stage me.0 Idle in
      let mine : r.holder r.done ≡ id = ap r.holder (sym st.0) ∙ st.2 in
      let here : busy me.0.stage ≡ 1 = ap busy serving in
      let out : s.homes ≡ maybe.none ∷ [] = r.slot ∙ ap (λ o. slot_of o ∷ []) st.4 in (
        w,
        gives,
        tt,
        record {
          log = r.log;
          done = r.done + 1;
          drawn = r.drawn;
          holder = r.holder;
          home = Some v;
          wide = length-set s.words 2 _ ∙ r.wide;
          count = get_or-set_other s.words 2 0 _ 0 (λ e. omega arith) ∙ r.count;
          next = get_or-set_other s.words 2 1 _ 0 (λ e. omega arith) ∙ r.next;
          served = get_or-set_same s.words 2 _ 0 (omega arith) ∙ (ap (λ n. (n + 1) % 18446744073709551616) r.served ∙ next_word r.done);
          few = r.few;
          slot = λ i. put_back (out i) (slot i);
          value = (all ∙ st.5, subst (λ z. same z v) (q.of charter.0 charter.1) charter.2);
          lent = λ z. absurd cc;
          waits = omega (arith, r.waits, sum_set waiting s.views id me.0 w at, here);
          whole = omega (arith, r.whole, sum_set (λ v. v.parts) s.views id me.0 w at);
          covered = λ x. omega (arith, r.covered x, sum_set (λ v. stands_in x v.made) s.views id me.0 w at);
          longer = r.longer;
          each = seats_stay (Knows opened r.log (r.done + 1) r.drawn r.holder (Some v)) s.views id w
              (record { of = q.of; seen = q.seen; joined = q.joined; made = q.made; none = q.none; stage = tt })
              (λ j d n e. let o = r.each j d e in knows_stays r.log r.done r.drawn r.holder r.home (r.done + 1) r.drawn r.holder (Some v) j d o
              (others_end r.log r.done r.drawn r.holder r.home v id j d d.stage n mine o.stage));
        },
        refl,
      )
