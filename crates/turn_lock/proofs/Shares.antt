-- How a lock is opened and closed, and how its seats are split and joined.
use Rattle.std.proofs.Common.{◌≡◌, ◌≢◌, ℕ, zero, suc, ◌<◌, ◌≤◌, leb, Bool, true, false, List, [], ◌∷◌, length, set, Option, Some, None, IsSome, cond, sym, refl, ap, ◌∙◌, subst, ⊎_elim, arith}
use Rattle.std.proofs.lemmas.Bool.Decides.{nat_tests}
use Rattle.std.specs.List.{sum_by}
use mathlib.Core.List.{IsPrefix}
use mathlib.Core.Option as maybe
use lib.ListN.{get_elem?}
use lib.Seq.{set-get_or}
use Rattle.atomic_table.specs.Table.{State, Me, keeps, opening, Final, Seen, Allows, Splits, Joins}
use Rattle.atomic_table.proofs.Lists.{at_snoc, set_else}
use Rattle.turn_lock.specs.declared.rule.Stage.TheVariants.{Idle}
use Rattle.turn_lock.specs.declared.rule.View.{View}
use Rattle.turn_lock.specs.Turns.{stands_in, FollowEach, once}
use Rattle.turn_lock.specs.Kept.{busy, slot_of, StageKept, Knows, Kept, first_view, spent_view}
use Rattle.turn_lock.specs.Told.{longer, shorter, less, given, both, Agrees}
use Rattle.turn_lock.specs.Closes.{Closes, ClosesSlot}
use Rattle.turn_lock.proofs.Begins.{prefix_self, prefix_none, prefix_shorter}
use Rattle.turn_lock.proofs.Stretches.{stands_in_both, follow_each_both, once_none}
use Rattle.turn_lock.proofs.Sums.{sum_set, sum_more, sum_one, sum_two, sum_only}
use Rattle.turn_lock.proofs.Moves.{seats_stay, at_home, good_at, busy_parts}

-- what holds of two things holds of either
pick : {A : Type 0} (P : A → Type 0) (b : Bool) (x y : A) → P x → P y → P (cond b x y)
pick P true x y p q = p
pick P false x y p q = q

-- the shorter of two lists is no longer
pub shorter_length : {E : Type 0} (xs ys : List E) → length (shorter xs ys) ≤ length (longer xs ys)
shorter_length xs ys = by_case (leb (length ys) (length xs)) refl
  where
    by_case : (b : Bool) → leb (length ys) (length xs) ≡ b → length (cond b ys xs) ≤ length (cond b xs ys)
    by_case true e = grind (arith, nat_tests)
    by_case false e = grind (arith, nat_tests)

module _ {V E : Type 0} (entries : V → List E) (same : V → V → Type 0) (opened : V) (parts : ℕ) where
  abbrev W : Type 0
  W = View V E

  abbrev St : Type 0
  St = State (Option V) W

  abbrev Rule : St → Type 0
  Rule = Kept entries same opened parts

  pub starts : (count : ℕ) → count ≡ length (entries opened) → parts < 4294967296 → 0 < parts → same opened opened
      → Rule (opening (count ∷ 0 ∷ 0 ∷ []) (Some opened ∷ []) (first_view entries opened parts))
  starts count counted few some_parts own = record {
    log = entries opened;
    done = 0;
    drawn = 0;
    holder = λ _. 0;
    home = Some opened;
    wide = refl;
    count = counted;
    next = refl;
    served = refl;
    few = few;
    slot = refl;
    value = (refl, own);
    lent = λ e. absurd cc;
    waits = refl;
    whole = omega arith;
    covered = λ x. sym (once_none (length (entries opened)) x);
    longer = omega arith;
    each = at_first;
  }
    where
      first : Knows opened (entries opened) 0 0 (λ _. 0) (Some opened) 0 (first_view entries opened parts)
      first = record { of = λ o e. cc; seen = prefix_self (entries opened); joined = prefix_none (entries opened); made = (omega arith, tt); none = λ e. absurd (omega arith); stage = tt }

      at_first : (seat : ℕ) (v : W) → get_elem? (first_view entries opened parts ∷ []) seat ≡ maybe.some v → Knows opened (entries opened) 0 0 (λ _. 0) (Some opened) seat v
      at_first zero v e = subst (Knows opened (entries opened) 0 0 (λ _. 0) (Some opened) 0) (maybe.some-injective _ v e) first
      at_first (suc k) v e = absurd (maybe.some-ne-none v (sym e))

  pub splits : (id amount : ℕ) (v : W) → v.stage ≡ Idle → 0 < amount → amount < v.parts → Splits Rule id v (less amount v) (given amount v)
  splits id amount v idle some_parts fewer s r at =
      let l : W = less amount v in
      let g : W = given amount v in
      let k = r.each id v at in
      let here : busy v.stage ≡ 0 = ap busy idle in
      record {
        log = r.log;
        done = r.done;
        drawn = r.drawn;
        holder = r.holder;
        home = r.home;
        wide = r.wide;
        count = r.count;
        next = r.next;
        served = r.served;
        few = r.few;
        slot = r.slot;
        value = r.value;
        lent = r.lent;
        waits = omega (arith, r.waits, sum_set (λ u. busy u.stage) s.views id v l at, sum_more (λ u. busy u.stage) (set s.views id l) g);
        whole = omega (arith, r.whole, sum_set (λ u. u.parts) s.views id v l at, sum_more (λ u. u.parts) (set s.views id l) g);
        covered = λ x. omega (arith, r.covered x, sum_set (λ u. stands_in x u.made) s.views id v l at, sum_more (λ u. stands_in x u.made) (set s.views id l) g);
        longer = r.longer;
        each = λ j d e. ⊎_elim
            (λ (t : get_elem? (set s.views id l) j ≡ maybe.some d). seats_stay entries same opened parts (Knows opened r.log r.done r.drawn r.holder r.home) s.views id l
            (record {
              of = k.of;
              seen = k.seen;
              joined = k.joined;
              made = k.made;
              none = λ z. absurd (omega arith);
              stage = subst (StageKept r.log r.done r.drawn r.holder r.home id l) (sym idle) tt;
            })
            (λ i u _ f. r.each i u f) j d t)
            (λ (t : g ≡ d). subst (Knows opened r.log r.done r.drawn r.holder r.home j) t
            (record { of = k.of; seen = k.seen; joined = prefix_none r.log; made = (omega arith, tt); none = λ z. absurd (omega arith); stage = tt }))
            (at_snoc (set s.views id l) g d j e);
      }

  pub joins : (id other : ℕ) (v w : W) → v.stage ≡ Idle → w.stage ≡ Idle → 0 < v.parts → Joins Rule id v other w (both v w) spent_view
  joins id other v w idle idle' some_parts s r at apart there =
      let b : W = both v w in
      let k = r.each id v at in
      let was : get_elem? s.views other ≡ maybe.some w = sym (set_else s.views id other b apart) ∙ there in
      let q = r.each other w was in
      let here : busy v.stage ≡ 0 = ap busy idle in
      let here' : busy w.stage ≡ 0 = ap busy idle' in
      let vs : List W = set s.views id b in
      record {
        log = r.log;
        done = r.done;
        drawn = r.drawn;
        holder = r.holder;
        home = r.home;
        wide = r.wide;
        count = r.count;
        next = r.next;
        served = r.served;
        few = r.few;
        slot = r.slot;
        value = r.value;
        lent = r.lent;
        waits = omega (arith, r.waits, sum_set (λ u. busy u.stage) s.views id v b at, sum_set (λ u. busy u.stage) vs other w spent_view there);
        whole = omega (arith, r.whole, sum_set (λ u. u.parts) s.views id v b at, sum_set (λ u. u.parts) vs other w spent_view there);
        covered = λ x. omega (
          arith,
          r.covered x,
          sum_set (λ u. stands_in x u.made) s.views id v b at,
          sum_set (λ u. stands_in x u.made) vs other w spent_view there,
          stands_in_both x v.made w.made,
        );
        longer = r.longer;
        each = seats_stay entries same opened parts (Knows opened r.log r.done r.drawn r.holder r.home) vs other spent_view
            (record { of = λ o e. absurd cc; seen = prefix_none r.log; joined = prefix_none r.log; made = tt; none = λ _. refl; stage = tt })
            (λ j d n e. seats_stay entries same opened parts (Knows opened r.log r.done r.drawn r.holder r.home) s.views id b
            (record {
              of = k.of;
              seen = pick (λ xs. IsPrefix xs r.log) (leb (length w.seen) (length v.seen)) v.seen w.seen k.seen q.seen;
              joined = pick (λ xs. IsPrefix xs r.log) (leb (length w.seen) (length v.seen)) w.seen v.seen q.seen k.seen;
              made = follow_each_both (length r.log) v.made w.made k.made q.made;
              none = λ z. absurd (omega arith);
              stage = subst (StageKept r.log r.done r.drawn r.holder r.home id b) (sym idle) tt;
            })
            (λ i u _ f. r.each i u f) j d e);
      }

  pub agrees : (slots id : ℕ) (me : Me (Option V) W) → me.0.stage ≡ Idle → length me.0.joined ≤ length me.0.seen → Allows Rule slots id me 0 (λ n. n) (λ n w. Agrees me w)
  agrees slots id me idle less_seen s r wide at small =
      let k = r.each id me.0 at in
      let w : W = record me.0 { joined = [] } in (
        w,
        keeps,
        tt,
        subst (λ ws. Rule record { words = ws; homes = s.homes; views = set s.views id w }) (sym (set-get_or s.words 0 0)) (record {
          log = r.log;
          done = r.done;
          drawn = r.drawn;
          holder = r.holder;
          home = r.home;
          wide = r.wide;
          count = r.count;
          next = r.next;
          served = r.served;
          few = r.few;
          slot = r.slot;
          value = r.value;
          lent = r.lent;
          waits = omega (arith, r.waits, sum_set (λ u. busy u.stage) s.views id me.0 w at);
          whole = omega (arith, r.whole, sum_set (λ u. u.parts) s.views id me.0 w at);
          covered = λ x. omega (arith, r.covered x, sum_set (λ u. stands_in x u.made) s.views id me.0 w at);
          longer = r.longer;
          each = seats_stay entries same opened parts (Knows opened r.log r.done r.drawn r.holder r.home) s.views id w
              (record { of = k.of; seen = k.seen; joined = prefix_none r.log; made = k.made; none = k.none; stage = subst (StageKept r.log r.done r.drawn r.holder r.home id w) (sym idle) tt })
              (λ j d _ e. r.each j d e);
        }),
        (prefix_shorter me.0.joined me.0.seen r.log k.joined k.seen less_seen, omega (arith, r.whole, r.few, sum_one (λ u. u.parts) s.views id me.0 at), refl),
      )

  pub closes : (id : ℕ) (v : W) (words : List ℕ) (slots : List (Option V)) (x : Option V) → v.stage ≡ Idle → v.parts ≡ parts
      → Final (Seen Rule id v) words slots → get_elem? slots 0 ≡ maybe.some x → ClosesSlot entries same opened v x
  closes id v words slots x idle whole f at =
      let s : St = f.0 in
      let r : Rule s = f.1.0 in
      let here : get_elem? s.views id ≡ maybe.some v = f.1.1 in
      let k = r.each id v here in
      let others : (j : ℕ) (d : W) → j ≢ id → get_elem? s.views j ≡ maybe.some d → d.parts ≡ 0 =
      (λ j d n e. omega (arith, r.whole, sum_two (λ (u : W). u.parts) s.views id j v d n here e)) in
      let quiet : sum_by (λ (u : W). busy u.stage) s.views ≡ 0 =
      (sum_only (λ (u : W). busy u.stage) s.views id v here
      (λ j d n e. let z = others j d n e in omega (arith, busy_parts entries same opened parts r.log r.done r.drawn r.holder r.home j d d.stage (r.each j d e).stage))
      ∙ ap busy idle) in
      let free : r.home ≡ None → ⊥ = (λ e. omega (arith, r.lent e, r.waits, quiet)) in
      let home = at_home entries same opened parts r.home (there r.home free) in
      let value : V = home.0 in
      let good = good_at entries same opened parts r.log r.home value r.value home.1 in
      let slot : s.homes ≡ maybe.some (Some value) ∷ [] = r.slot ∙ ap (λ o. slot_of o ∷ []) home.1 in
      let is : maybe.some (Some value) ≡ maybe.some x = sym (f.4 0 (Some value) (ap (λ hs. get_elem? hs 0) slot)) ∙ at in
      let all : r.log ≡ entries value = sym good.0 in
      subst (ClosesSlot entries same opened v) (maybe.some-injective (Some value) x is) (record {
        longer = subst (λ xs. IsPrefix v.seen xs) all k.seen;
        charter = good.1;
        turns = record {
          once_each = λ y.
              sym (sum_only (λ (u : W). stands_in y u.made) s.views id v here (λ j d n e. ap (stands_in y) ((r.each j d e).none (others j d n e))))
              ∙ (r.covered y ∙ ap (λ (xs : List E). once (length (entries opened)) (length xs) y) all);
          in_order = subst (λ (xs : List E). FollowEach (length xs) v.made) all k.made;
        };
      })
    where
      there : (o : Option V) → (o ≡ None → ⊥) → IsSome o
      there None n = absurd (n refl)
      there (Some u) n = refl

  -- the value that is found in the slot at the close
  pub closes_with : (id : ℕ) (v w : W) → w ≡ v → (words : List ℕ) (slots : List (Option V)) (x : Option V) (value : V) → v.stage ≡ Idle → v.parts ≡ parts
      → Final (Seen Rule id w) words slots → get_elem? slots 0 ≡ maybe.some x → x ≡ Some value → Closes entries same opened v value
  closes_with id v w e words slots x value idle whole f at is =
      subst (ClosesSlot entries same opened v) is (closes id v words slots x idle whole (subst (λ u. Final (Seen Rule id u) words slots) e f) at)

  pub closes_full : (id : ℕ) (v w : W) → w ≡ v → (words : List ℕ) (slots : List (Option V)) (x : Option V) → v.stage ≡ Idle → v.parts ≡ parts
      → Final (Seen Rule id w) words slots → get_elem? slots 0 ≡ maybe.some x → x ≡ None → ⊥
  closes_full id v w e words slots x idle whole f at is =
      subst (ClosesSlot entries same opened v) is (closes id v words slots x idle whole (subst (λ u. Final (Seen Rule id u) words slots) e f) at)
