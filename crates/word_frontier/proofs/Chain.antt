-- The slots of a rank, linked in order: steps along them, and one more at the end.
use Rattle.std.proofs.Common.{◌≡◌, ◌≢◌, refl, sym, ap, subst, ◌∙◌, inl, inr, ℕ, zero, suc, ◌<◌, ◌≤◌, Bool, true, false, cond, List, [], ◌∷◌, ◌++◌, length, set, get_or, Option, Some, None, nat_eq, arith, length-append, length-set}
use Rattle.std.proofs.lemmas.List.{length-map, get_or-set_same, get_or-set_other, get_or_append_left}
use Rattle.std.proofs.lemmas.Bool.{cases_lt}
use Rattle.std.specs.List.{slice_get}
use Rattle.std.specs.Option.{option_eq}
use Rattle.std.proofs.lemmas.Option.{slice_get_within, slice_get-get_or}
use Rattle.word_frontier.specs.declared.slot.Slot.{Slot}
use Rattle.word_frontier.specs.declared.slot.Among.{Among}
use Rattle.word_frontier.specs.Slots.{counts, key, keys, ranks_of, links_of, head_at, NoneFrom, FirstAt, LastAt, IsLast, Leads, AreChained}
use Rattle.word_frontier.proofs.Places.{equal, equals, none_some, some_same, both, map-get, item-of, front, seam-at, front_or_seam}

-- a key names the rank of its slot

pub record Counted (a : Among) (slots : List Slot) (j r : ℕ) : Type 0 where
  pub slot : Slot
  pub lies : slice_get slots j ≡ Some slot
  pub counts_is : counts a slot.state ≡ true
  pub rank_is : slot.rank ≡ r

key-counts : (b : Bool) (rank r : ℕ) → cond b (Some rank) None ≡ Some r → (b ≡ true) × (rank ≡ r)
key-counts true rank r h = (refl, some_same h)
key-counts false rank r h = absurd (none_some refl h)

pub counted : (a : Among) (slots : List Slot) (j r : ℕ) → slice_get (keys a slots) j ≡ Some (Some r) → Counted a slots j r
counted a slots j r h =
    let within = slice_get_within (keys a slots) j (Some r) h in
    let n = length-map slots (key a) in
    let s = item-of slots j (omega (arith, within, n)) in
    let is = key-counts (counts a s.0.state) s.0.rank r (some_same (sym (map-get (key a) slots j s.0 s.1) ∙ h)) in
    record { slot = s.0; lies = s.1; counts_is = is.0; rank_is = is.1 }

pub key-of : (a : Among) (slots : List Slot) (j r : ℕ) (s : Slot) → slice_get slots j ≡ Some s → counts a s.state ≡ true → s.rank ≡ r → slice_get (keys a slots) j ≡ Some (Some r)
key-of a slots j r s lies counts-is rank-is = map-get (key a) slots j s lies ∙ ap Some (ap (λ b. cond b (Some s.rank) None) counts-is ∙ ap Some rank-is)

pub ranked : (a : Among) (slots : List Slot) (j r : ℕ) → slice_get (keys a slots) j ≡ Some (Some r) → slice_get (ranks_of slots) j ≡ Some r
ranked a slots j r h = let c = counted a slots j r h in map-get (λ (s : Slot). s.rank) slots j c.slot c.lies ∙ ap Some c.rank_is

pub ranked-within : (slots : List Slot) (j r : ℕ) → slice_get (ranks_of slots) j ≡ Some r → j < length slots
ranked-within slots j r h = let within = slice_get_within (ranks_of slots) j r h in let n = length-map slots (λ (s : Slot). s.rank) in omega (arith, within, n)

-- a slot that does not count
pub passed : (a : Among) (slots : List Slot) (j r : ℕ) (s : Slot) → slice_get slots j ≡ Some s → counts a s.state ≡ false → slice_get (keys a slots) j ≡ Some (Some r) → ⊥
passed a slots j r s lies out h = none_some (ap (λ b. cond b (Some s.rank) None) out) (some_same (sym (map-get (key a) slots j s lies) ∙ h))

-- no slot of the rank comes behind the last one
pub no-more : (a : Among) (slots : List Slot) (lasts : List (Option ℕ)) (rank from id : ℕ) (o : Option ℕ) → AreChained (ranks_of slots) (links_of slots) lasts → head_at lasts rank ≡ o → o ≡ Some id
    → ((j : ℕ) → from ≤ j → j < id → slice_get (keys a slots) j ≡ Some (Some rank) → ⊥) → (slice_get (keys a slots) id ≡ Some (Some rank) → ⊥) → NoneFrom rank from (keys a slots)
no-more a slots lasts rank from id o c e is before out j h k =
    let last : LastAt rank id (ranks_of slots) = subst (IsLast rank (ranks_of slots)) (e ∙ is) (c.last rank) in
    let le = last.behind j (ranked a slots j rank k) in
    elim (cases_lt j id) [
      | inl lt ↦ before j h lt k
      | inr ge ↦ out (subst (λ i. slice_get (keys a slots) i ≡ Some (Some rank)) (let p : j ≡ id = omega (arith, le, ge) in p) k)
    ]

option-equal : (o : Option ℕ) (id : ℕ) → option_eq nat_eq o (Some id) ≡ true → o ≡ Some id
option-equal None id h = absurd (let z : ⊥ = cc in z)
option-equal (Some t) id h = ap Some (equals t id h)

option-apart : (o : Option ℕ) (id : ℕ) → option_eq nat_eq o (Some id) ≡ false → o ≢ Some id
option-apart None id h e = none_some refl e
option-apart (Some t) id h e = let b : true ≡ false = sym (equal t id (some_same e)) ∙ h in let z : ⊥ = cc in z

-- a step along the links

pub record Step (a : Among) (slots : List Slot) (rank from id link : ℕ) : Type 0 where
  pub on : id < link
  pub rank_is : slice_get (ranks_of slots) link ≡ Some rank
  pub before : (j : ℕ) → from ≤ j → j < link → slice_get (keys a slots) j ≡ Some (Some rank) → ⊥

last-of : (ranks : List ℕ) (rank id : ℕ) (o : Option ℕ) → IsLast rank ranks o → slice_get ranks id ≡ Some rank → (t : ℕ) × ((o ≡ Some t) × LastAt rank t ranks)
last-of ranks rank id None last h = absurd (last id h)
last-of ranks rank id (Some t) last h = (t, (refl, last))

pub step-on : (a : Among) (slots : List Slot) (lasts : List (Option ℕ)) (rank from id : ℕ) (s : Slot) → AreChained (ranks_of slots) (links_of slots) lasts → slice_get (ranks_of slots) id ≡ Some rank
    → head_at lasts rank ≢ Some id → slice_get slots id ≡ Some s
    → ((j : ℕ) → from ≤ j → j < id → slice_get (keys a slots) j ≡ Some (Some rank) → ⊥) → (slice_get (keys a slots) id ≡ Some (Some rank) → ⊥) → Step a slots rank from id s.link
step-on a slots lasts rank from id s c is other lies before out =
    let t = last-of (ranks_of slots) rank id (head_at lasts rank) (c.last rank) is in
    let le = t.1.1.behind id is in
    let ne : id ≢ t.0 = (λ e. other (t.1.0 ∙ ap Some (sym e))) in
    let lt : id < t.0 = (elim (cases_lt id t.0) [ inl y ↦ y | inr n ↦ absurd (ne (omega (arith, n, le))) ]) in
    let link : get_or (links_of slots) id 0 ≡ s.link = link-of slots id s lies in
    let leads = (λ (j : ℕ) (k : slice_get (ranks_of slots) j ≡ Some rank) (h : id < j). subst (λ l. Leads (ranks_of slots) rank id l j) link (c.linked rank id j h is k)) in
    let first = leads t.0 t.1.1.key lt in
    record {
      on = first.on;
      rank_is = first.key;
      before = λ j h lt k. elim (cases_lt j id) [
        | inl below ↦ before j h below k
        | inr ge ↦ elim (both j id) [
          | inl e ↦ out (subst (λ i. slice_get (keys a slots) i ≡ Some (Some rank)) e k)
          | inr n ↦
              let after : id < j = (elim (cases_lt id j) [ inl y ↦ y | inr le ↦ absurd (n (omega (arith, le, ge))) ]) in
              let by = (leads j (ranked a slots j rank k) after).by in
              let z : ⊥ = omega (arith, by, lt) in z
        ]
      ];
    }
  where
    link-of : (slots : List Slot) (id : ℕ) (s : Slot) → slice_get slots id ≡ Some s → get_or (links_of slots) id 0 ≡ s.link
    link-of [] id s h = absurd (none_some refl h)
    link-of (t ∷ slots) zero s h = ap (λ (u : Slot). u.link) (some_same h)
    link-of (t ∷ slots) (suc id) s h = link-of slots id s h

-- what code reads

pub among-first : (a : Among) (slots : List Slot) (rank from id : ℕ) (d : Slot) → slice_get (ranks_of slots) id ≡ Some rank → from ≤ id
    → ((j : ℕ) → from ≤ j → j < id → slice_get (keys a slots) j ≡ Some (Some rank) → ⊥) → counts a (get_or slots id d).state ≡ true → FirstAt rank from id (keys a slots)
among-first a slots rank from id d is on before counts-is =
    let lies = slice_get-get_or slots id d (ranked-within slots id rank is) in record {
      from = on;
      key = key-of a slots id rank (get_or slots id d) lies counts-is (some_same (sym (map-get (λ (s : Slot). s.rank) slots id (get_or slots id d) lies) ∙ is));
      before = before;
    }

pub among-none : (a : Among) (slots : List Slot) (lasts : List (Option ℕ)) (rank from id : ℕ) (d : Slot) → AreChained (ranks_of slots) (links_of slots) lasts → slice_get (ranks_of slots) id ≡ Some rank
    → ((j : ℕ) → from ≤ j → j < id → slice_get (keys a slots) j ≡ Some (Some rank) → ⊥) → counts a (get_or slots id d).state ≡ false
    → option_eq nat_eq (head_at lasts rank) (Some id) ≡ true → NoneFrom rank from (keys a slots)
among-none a slots lasts rank from id d c is before out e =
    no-more a slots lasts rank from id (head_at lasts rank) c refl (option-equal (head_at lasts rank) id e) before
    (passed a slots id rank (get_or slots id d) (slice_get-get_or slots id d (ranked-within slots id rank is)) out)

pub among-step : (a : Among) (slots : List Slot) (lasts : List (Option ℕ)) (rank from id : ℕ) (d : Slot) → AreChained (ranks_of slots) (links_of slots) lasts → slice_get (ranks_of slots) id ≡ Some rank
    → ((j : ℕ) → from ≤ j → j < id → slice_get (keys a slots) j ≡ Some (Some rank) → ⊥) → counts a (get_or slots id d).state ≡ false
    → option_eq nat_eq (head_at lasts rank) (Some id) ≡ false → Step a slots rank from id (get_or slots id d).link
among-step a slots lasts rank from id d c is before out e =
    let lies = slice_get-get_or slots id d (ranked-within slots id rank is) in
    step-on a slots lasts rank from id (get_or slots id d) c is (option-apart (head_at lasts rank) id e) lies before (passed a slots id rank (get_or slots id d) lies out)

-- one slot more

abbrev pub marked : Option ℕ → List ℕ → ℕ → List ℕ
marked None ls m = ls
marked (Some t) ls m = set ls t m

marked-length : (o : Option ℕ) (ls : List ℕ) (m : ℕ) → length (marked o ls m) ≡ length ls
marked-length None ls m = refl
marked-length (Some t) ls m = length-set ls t m

front-link : (o : Option ℕ) (ls : List ℕ) (m l k : ℕ) → k < length ls → o ≢ Some k → get_or (marked o ls m ++ l ∷ []) k 0 ≡ get_or ls k 0
front-link None ls m l k h n = get_or_append_left ls (l ∷ []) 0 k h
front-link (Some t) ls m l k h n =
    get_or_append_left (set ls t m) (l ∷ []) 0 k (let e = length-set ls t m in omega (arith, e, h)) ∙ get_or-set_other ls t k m 0 (λ e. n (ap Some (sym e)))

last-link : (ls : List ℕ) (m l k : ℕ) → k < length ls → get_or (set ls k m ++ l ∷ []) k 0 ≡ m
last-link ls m l k h = get_or_append_left (set ls k m) (l ∷ []) 0 k (let e = length-set ls k m in omega (arith, e, h)) ∙ get_or-set_same ls k m 0 h

-- the link of a slot that has another of its rank behind it is not the last one's
linked-front : (ranks ls : List ℕ) (o : Option ℕ) (q r k j m l : ℕ) → length ls ≡ length ranks → IsLast q ranks o
    → slice_get ranks k ≡ Some r → slice_get ranks j ≡ Some r → k < j → Leads ranks r k (get_or ls k 0) j
    → Leads (ranks ++ q ∷ []) r k (get_or (marked o ls m ++ l ∷ []) k 0) j
linked-front ranks ls o q r k j m l n last a b h leads =
    let within = slice_get_within ranks k r a in
    let other : o ≢ Some k = (λ e.
    let t = subst (IsLast q ranks) e last in
    let same : q ≡ r = some_same (sym t.key ∙ a) in
    let le = t.behind j (b ∙ ap Some (sym same)) in
    let z : ⊥ = omega (arith, le, h) in z) in
    subst (λ x. Leads (ranks ++ q ∷ []) r k x j) (sym (front-link o ls m l k (omega (arith, within, n)) other)) (record {
      on = leads.on;
      by = leads.by;
      key = front ranks (q ∷ []) (get_or ls k 0) (slice_get_within ranks (get_or ls k 0) r leads.key) ∙ leads.key;
    })

-- a slot of the rank is linked to the new one, or on to the last one before it
linked-new : (ranks ls : List ℕ) (o : Option ℕ) (r k m l : ℕ) → length ls ≡ length ranks → m ≡ length ranks → IsLast r ranks o
    → ((j : ℕ) → slice_get ranks j ≡ Some r → k < j → Leads ranks r k (get_or ls k 0) j)
    → slice_get ranks k ≡ Some r → Leads (ranks ++ r ∷ []) r k (get_or (marked o ls m ++ l ∷ []) k 0) m
linked-new ranks ls None r k m l n e last leads a = absurd (last k a)
linked-new ranks ls (Some t) r k m l n e last leads a =
    let within = slice_get_within ranks k r a in
    elim (both k t) [
      | inl is ↦ subst (λ x. Leads (ranks ++ r ∷ []) r k (get_or (set ls x m ++ l ∷ []) k 0) m) is
          (subst (λ x. Leads (ranks ++ r ∷ []) r k x m) (sym (last-link ls m l k (omega (arith, within, n)))) (record {
            on = omega (arith, within, e);
            by = omega arith;
            key = seam-at ranks r m e;
          }))
      | inr other ↦
          let le = last.behind k a in
          let lt : k < t = (elim (cases_lt k t) [ inl y ↦ y | inr ge ↦ absurd (other (omega (arith, ge, le))) ]) in
          let old = leads t last.key lt in
          let front-is = front-link (Some t) ls m l k (omega (arith, within, n)) (λ x. other (sym (some_same x))) in
          let inside = slice_get_within ranks (get_or ls k 0) r old.key in
          subst (λ x. Leads (ranks ++ r ∷ []) r k x m) (sym front-is) (record {
            on = old.on;
            by = omega (arith, inside, e);
            key = front ranks (r ∷ []) (get_or ls k 0) inside ∙ old.key;
          })
    ]

last-same : (ranks : List ℕ) (q r m : ℕ) (o : Option ℕ) → m ≡ length ranks → r ≢ q → IsLast r ranks o → IsLast r (ranks ++ q ∷ []) o
last-same ranks q r m None e n last = λ j h. elim (front_or_seam ranks q r m j e h) [ inl p ↦ last j p.1 | inr p ↦ n (sym p.1) ]
last-same ranks q r m (Some t) e n last = record {
  key = front ranks (q ∷ []) t (slice_get_within ranks t r last.key) ∙ last.key;
  behind = λ j h. elim (front_or_seam ranks q r m j e h) [ inl p ↦ last.behind j p.1 | inr p ↦ absurd (n (sym p.1)) ];
}

pub chained-push : (ranks ls : List ℕ) (lasts : List (Option ℕ)) (q m l : ℕ) → AreChained ranks ls lasts → length ls ≡ length ranks → m ≡ length ranks → q < length lasts
    → AreChained (ranks ++ q ∷ []) (marked (head_at lasts q) ls m ++ l ∷ []) (set lasts q (Some m))
chained-push ranks ls lasts q m l c n e within = record {
  linked = λ r k j h a b. elim (front_or_seam ranks q r m k e a) [
    | inr p ↦ absurd (
        let w = slice_get_within (ranks ++ q ∷ []) j r b in let z = length-append ranks (q ∷ []) in
        let is = p.0 in let f : ⊥ = omega (arith, w, z, is, h, e) in f)
    | inl p ↦ elim (front_or_seam ranks q r m j e b) [
      | inl s ↦ linked-front ranks ls (head_at lasts q) q r k j m l n (c.last q) p.1 s.1 h (c.linked r k j h p.1 s.1)
      | inr s ↦ subst (λ x. Leads (ranks ++ q ∷ []) r k (get_or (marked (head_at lasts q) ls m ++ l ∷ []) k 0) x) (sym s.0)
          (subst (λ x. Leads (ranks ++ q ∷ []) x k (get_or (marked (head_at lasts q) ls m ++ l ∷ []) k 0) m) s.1
          (linked-new ranks ls (head_at lasts q) q k m l n e (c.last q) (λ i d lt. let d2 = p.1 ∙ ap Some (sym s.1) in c.linked q k i lt d2 d) (p.1 ∙ ap Some (sym s.1))))
    ]
  ];
  last = λ r. elim (both r q) [
    | inl is ↦ subst (λ x. IsLast x (ranks ++ q ∷ []) (head_at (set lasts q (Some m)) x)) (sym is)
        (subst (IsLast q (ranks ++ q ∷ [])) (sym (get_or-set_same lasts q (Some m) None within)) (record {
          key = seam-at ranks q m e;
          behind = λ j h. let w = slice_get_within (ranks ++ q ∷ []) j q h in let z = length-append ranks (q ∷ []) in omega (arith, w, z, e);
        }))
    | inr d ↦ subst (IsLast r (ranks ++ q ∷ [])) (sym (get_or-set_other lasts q r (Some m) None d)) (last-same ranks q r m (head_at lasts r) e d (c.last r))
  ];
}
