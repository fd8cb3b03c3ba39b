-- How slots and heads keep together: which nodes stand in slots, and what a write of one changes.
use Rattle.std.proofs.Common.{◌≡◌, refl, sym, ap, subst, ◌∙◌, inl, inr, ℕ, zero, suc, ◌<◌, ◌≤◌, ◌==◌, Bool, true, false, not, ◌||◌, cond, List, [], ◌∷◌, length, map, set, get_or, Option, Some, None, is_some, arith, length-set}
use Rattle.std.proofs.lemmas.List.{length-map, map-set}
use Rattle.std.proofs.lemmas.Option.{slice_get_within, slice_get_past, get_or_from_slice_get}
use Rattle.std.proofs.Math.Seq.{map-set_same}
use Rattle.std.specs.List.{slice_get, filter}
use Rattle.tp_spec.specs.Lists.{IsIn, is_empty}
use Rattle.tp_spec.specs.declared.plan.Mark.{Mark}
use Rattle.word_frontier.specs.declared.slot.Slot.{Slot}
use Rattle.word_frontier.specs.declared.slot.Among.{Among}
use Rattle.word_frontier.specs.declared.slot.Among.TheVariants as among
use Rattle.word_frontier.specs.declared.slot.State.{State}
use Rattle.word_frontier.specs.declared.slot.State.TheVariants.{Open, Taken, Gone}
use Rattle.word_frontier.specs.declared.frontier.Standing.{Standing}
use Rattle.word_frontier.specs.Nodes.{RankedNode, NodeView, Tells, IsCopy, is_open, IsLeast, taken_by, renewed, without, has_id, is_taken, open_nodes}
use Rattle.word_frontier.specs.Slots.{Step, Held, held, helds, helds_of, nodes_from, nodes_of, node_in, counts, taker_of, taken_in, key, keys, ranks_of, links_of, step_of, word_of, words_of, head_at, GoBack, IsFirst, FirstAt, AreHeads, IsLast, AreChained, IsKept, LeastHead, IsOfRank, HeadMoved}
use Rattle.word_frontier.proofs.Words.{words_of-length}
use Rattle.word_frontier.proofs.Places.{equal, equals, none_some, some_same, map-get, item-of, lies-of, AreFewer, AgreeBut, heads-moved, fewer-set, agree-set}
use Rattle.word_frontier.proofs.Chain.{Counted, counted, key-of, ranked}
use Rattle.word_frontier.proofs.Nodes.{without-at, taken-at, renewed-at, taken_there, is_taken-at, passes, good_there, has-at, stood, is_in, kept, kept-of, any-found, Mirrors, least-of, least-same, none-of, helds-length, helds-get, helds-set}

pub words-slots : (slots : List Slot) → length (words_of (map step_of slots)) ≡ length slots
words-slots slots = words_of-length (map step_of slots) ∙ length-map slots step_of

pub helds-slots : (slots : List Slot) → length (helds_of slots) ≡ length slots
helds-slots slots = helds-length (words_of (map step_of slots)) slots (words-slots slots)

-- the word of an id
abbrev pub word-at : List Slot → ℕ → List Mark
word-at slots id = word_of (words_of (map step_of slots)) id

pub get-slot : (slots : List Slot) (id : ℕ) (s : Slot) → slice_get slots id ≡ Some s → slice_get (helds_of slots) id ≡ Some (held (word-at slots id) s)
get-slot slots id s h = helds-get (words_of (map step_of slots)) slots id s (words-slots slots) h

-- nodes and their slots

abbrev pub held-in : List Mark → Slot → Held
held-in w s = record { word = w; rank = s.rank; deadline = s.deadline; known = s.known; taker = taker_of s.state s.taker }

held-some : (b : Bool) (h k : Held) → cond b (Some h) None ≡ Some k → (b ≡ true) × (k ≡ h)
held-some true h k e = (refl, sym (some_same e))
held-some false h k e = absurd (none_some refl e)

pub record Place (slots : List Slot) (n : RankedNode) : Type 0 where
  pub slot : Slot
  pub lies : slice_get slots n.id ≡ Some slot
  pub stands : counts among.All slot.state ≡ true
  pub is : n ≡ node_in n.id (held-in (word-at slots n.id) slot)

pub place-of : (slots : List Slot) (n : RankedNode) → IsIn n (nodes_of slots) → Place slots n
place-of slots n h =
    let st = stood (helds_of slots) 0 n h in
    let place : st.place ≡ n.id = (let e = st.id in omega (arith, e)) in
    let lies : slice_get (helds_of slots) n.id ≡ Some (Some st.node) = subst (λ j. slice_get (helds_of slots) j ≡ Some (Some st.node)) place st.lies in
    let size = helds-slots slots in
    let within = slice_get_within (helds_of slots) n.id (Some st.node) lies in
    let s = item-of slots n.id (omega (arith, size, within)) in
    let is = held-some (counts among.All s.0.state) (held-in (word-at slots n.id) s.0) st.node (some_same (sym (get-slot slots n.id s.0 s.1) ∙ lies)) in
    record { slot = s.0; lies = s.1; stands = is.0; is = st.is ∙ ap (node_in n.id) is.1 }

pub held-at : (slots : List Slot) (id : ℕ) (s : Slot) → slice_get slots id ≡ Some s → counts among.All s.state ≡ true → slice_get (helds_of slots) id ≡ Some (Some (held-in (word-at slots id) s))
held-at slots id s lies stands = get-slot slots id s lies ∙ ap (λ b. Some (cond b (Some (held-in (word-at slots id) s)) None)) stands

pub node-at : (slots : List Slot) (id : ℕ) (s : Slot) → slice_get slots id ≡ Some s → counts among.All s.state ≡ true → IsIn (node_in id (held-in (word-at slots id) s)) (nodes_of slots)
node-at slots id s lies stands = is_in (helds_of slots) 0 id id (held-in (word-at slots id) s) (omega arith) (held-at slots id s lies stands)

open-stands : (t : State) → counts among.Open t ≡ true → counts among.All t ≡ true
open-stands Open h = refl
open-stands Taken h = refl
open-stands Gone h = h

open-free : (t : State) (a : ℕ) → counts among.Open t ≡ true → taker_of t a ≡ None
open-free Open a h = refl
open-free Taken a h = absurd (let z : ⊥ = cc in z)
open-free Gone a h = refl

free-open : (t : State) (a : ℕ) → counts among.All t ≡ true → not (is_some (taker_of t a)) ≡ true → counts among.Open t ≡ true
free-open Open a h k = refl
free-open Taken a h k = k
free-open Gone a h k = h

pub mirrors-all : (slots : List Slot) → Mirrors (keys among.All slots) (nodes_of slots)
mirrors-all slots = record {
  key = λ m h. let p = place-of slots m h in key-of among.All slots m.id m.rank p.slot p.lies p.stands (sym (ap (λ (n : RankedNode). n.rank) p.is));
  node = λ f r h. let c = counted among.All slots f r h in (node_in f (held-in (word-at slots f) c.slot), (node-at slots f c.slot c.lies c.counts_is, (refl, c.rank_is)));
}

pub mirrors-open : (slots : List Slot) → Mirrors (keys among.Open slots) (open_nodes (nodes_of slots))
mirrors-open slots = record {
  key = λ m h.
      let k = kept-of is_open m (nodes_of slots) h in
      let p = place-of slots m k.0 in
      let free : not (is_some (taker_of p.slot.state p.slot.taker)) ≡ true = sym (ap is_open p.is) ∙ k.1 in
      key-of among.Open slots m.id m.rank p.slot p.lies (free-open p.slot.state p.slot.taker p.stands free) (sym (ap (λ (n : RankedNode). n.rank) p.is));
  node = λ f r h.
      let c = counted among.Open slots f r h in
      let n : RankedNode = node_in f (held-in (word-at slots f) c.slot) in
      let there = node-at slots f c.slot c.lies (open-stands c.slot.state c.counts_is) in
      (n, (kept is_open n (nodes_of slots) there (ap (λ o. not (is_some o)) (open-free c.slot.state c.slot.taker c.counts_is)), (refl, c.rank_is)));
}

-- what a node's slot has

pub tells-of : (slots : List Slot) (n : RankedNode) (id : ℕ) (x : Slot) → IsIn n (nodes_of slots) → n.id ≡ id → x ≡ get_or slots id x
    → Tells (let f : Standing = record { id = id; deadline = x.deadline; known = x.known } in f) n
tells-of slots n id x h e read =
    let p = place-of slots n h in
    let is : x ≡ p.slot = read ∙ ap (λ j. get_or slots j x) (sym e) ∙ get_or_from_slice_get slots n.id p.slot x p.lies in record {
      id = sym e;
      deadline = ap (λ (s : Slot). s.deadline) is ∙ sym (ap (λ (m : RankedNode). m.deadline) p.is);
      known = ap (λ (s : Slot). s.known) is ∙ sym (ap (λ (m : RankedNode). m.known) p.is);
    }

pub has_id-of : (nodes : List RankedNode) (n : RankedNode) (id : ℕ) → IsIn n nodes → n.id ≡ id → has_id id nodes ≡ true
has_id-of [] n id h e = absurd h
has_id-of (m ∷ nodes) n id (inl p) e = ap (λ b. b || has_id id nodes) (equal m.id id (ap (λ (k : RankedNode). k.id) p ∙ e))
has_id-of (m ∷ nodes) n id (inr i) e =
    let r = has_id-of nodes n id i e in
    elim (m.id == id) as (λ b. (b || has_id id nodes) ≡ true) [ true ↦ refl | false ↦ r ]

-- the node of an id that stands
pub record Here (slots : List Slot) (id : ℕ) : Type 0 where
  pub slot : Slot
  pub lies : slice_get slots id ≡ Some slot
  pub stands : counts among.All slot.state ≡ true

pub here-of : (slots : List Slot) (id : ℕ) → has_id id (nodes_of slots) ≡ true → Here slots id
here-of slots id h =
    let f = any-found (λ (n : RankedNode). n.id == id) (nodes_of slots) h in
    let p = place-of slots f.item f.there in
    record { slot = p.slot; lies = subst (λ j. slice_get slots j ≡ Some p.slot) (equals f.item.id id f.meets) p.lies; stands = p.stands }

pub here-within : (slots : List Slot) (id : ℕ) → has_id id (nodes_of slots) ≡ true → id < length slots
here-within slots id h = let p = here-of slots id h in slice_get_within slots id p.slot p.lies

pub copy-is : (slots : List Slot) (id : ℕ) (d : Slot) (v : NodeView) → has_id id (nodes_of slots) ≡ true → v.word ≡ word-at slots id → v.rank ≡ (get_or slots id d).rank → v.deadline ≡ (get_or slots id d).deadline → IsCopy (nodes_of slots) id v
copy-is slots id d v h w r t =
    let p = here-of slots id h in
    let read : get_or slots id d ≡ p.slot = get_or_from_slice_get slots id p.slot d p.lies in
    let rank-is = r ∙ ap (λ (s : Slot). s.rank) read in
    let deadline-is = t ∙ ap (λ (s : Slot). s.deadline) read in record {
      node = node_in id (held-in (word-at slots id) p.slot);
      there = node-at slots id p.slot p.lies p.stands;
      id_is = refl;
      is = λ i. record { word = w i; rank = rank-is i; deadline = deadline-is i };
    }

-- whether an actor took a node

pub is_taken-none : (slots : List Slot) (a id : ℕ) → length slots ≤ id → is_taken a id (nodes_of slots) ≡ false
is_taken-none slots a id h = is_taken-at a (helds_of slots) id ∙ ap (taken_there a) (slice_get_past (helds_of slots) id (let n = helds-slots slots in omega (arith, n, h)))

taken-is : (t : State) (a actor : ℕ) (w : List Mark) (r d k : ℕ)
    → taken_there actor (Some (cond (counts among.All t) (Some (record { word = w; rank = r; deadline = d; known = k; taker = taker_of t a })) None)) ≡ taken_in t a actor
taken-is Open a actor w r d k = refl
taken-is Taken a actor w r d k = refl
taken-is Gone a actor w r d k = refl

pub is_taken-some : (slots : List Slot) (a id : ℕ) (s : Slot) → slice_get slots id ≡ Some s → is_taken a id (nodes_of slots) ≡ taken_in s.state s.taker a
is_taken-some slots a id s h = is_taken-at a (helds_of slots) id ∙ ap (taken_there a) (get-slot slots id s h) ∙ taken-is s.state s.taker a (word-at slots id) s.rank s.deadline s.known

-- whether a node stands, and whether it is open

abbrev pub any_taker : Option ℕ → Bool
any_taker o = true

abbrev pub no_taker : Option ℕ → Bool
no_taker o = not (is_some o)

all-pass : (ns : List RankedNode) → filter (passes any_taker) ns ≡ ns
all-pass [] = refl
all-pass (n ∷ ns) = ap (λ r. n ∷ r) (all-pass ns)

all-is : (t : State) (a : ℕ) (w : List Mark) (r d k : ℕ)
    → good_there any_taker (Some (cond (counts among.All t) (Some (record { word = w; rank = r; deadline = d; known = k; taker = taker_of t a })) None)) ≡ counts among.All t
all-is Open a w r d k = refl
all-is Taken a w r d k = refl
all-is Gone a w r d k = refl

open-is : (t : State) (a : ℕ) (w : List Mark) (r d k : ℕ)
    → good_there no_taker (Some (cond (counts among.All t) (Some (record { word = w; rank = r; deadline = d; known = k; taker = taker_of t a })) None)) ≡ counts among.Open t
open-is Open a w r d k = refl
open-is Taken a w r d k = refl
open-is Gone a w r d k = refl

pub has-some : (slots : List Slot) (id : ℕ) (s : Slot) → slice_get slots id ≡ Some s → has_id id (nodes_of slots) ≡ counts among.All s.state
has-some slots id s h =
    ap (has_id id) (sym (all-pass (nodes_of slots)))
    ∙ has-at any_taker (helds_of slots) id ∙ ap (good_there any_taker) (get-slot slots id s h) ∙ all-is s.state s.taker (word-at slots id) s.rank s.deadline s.known

pub has-none : (slots : List Slot) (id : ℕ) → length slots ≤ id → has_id id (nodes_of slots) ≡ false
has-none slots id h =
    ap (has_id id) (sym (all-pass (nodes_of slots)))
    ∙ has-at any_taker (helds_of slots) id ∙ ap (good_there any_taker) (slice_get_past (helds_of slots) id (let n = helds-slots slots in omega (arith, n, h)))

pub open-some : (slots : List Slot) (id : ℕ) (s : Slot) → slice_get slots id ≡ Some s → has_id id (open_nodes (nodes_of slots)) ≡ counts among.Open s.state
open-some slots id s h = has-at no_taker (helds_of slots) id ∙ ap (good_there no_taker) (get-slot slots id s h) ∙ open-is s.state s.taker (word-at slots id) s.rank s.deadline s.known

pub open-none : (slots : List Slot) (id : ℕ) → length slots ≤ id → has_id id (open_nodes (nodes_of slots)) ≡ false
open-none slots id h = has-at no_taker (helds_of slots) id ∙ ap (good_there no_taker) (slice_get_past (helds_of slots) id (let n = helds-slots slots in omega (arith, n, h)))

-- a write of a slot's state

pub record Changed (slots new : List Slot) : Type 0 where
  pub steps : map step_of new ≡ map step_of slots
  pub ranks : ranks_of new ≡ ranks_of slots
  pub links : links_of new ≡ links_of slots
  pub size : length new ≡ length slots

abbrev pub with-state : Slot → State → ℕ → Slot
with-state s t a = record s { taker = a; state = t }

pub changed : (slots : List Slot) (id : ℕ) (s : Slot) (t : State) (a : ℕ) → slice_get slots id ≡ Some s → Changed slots (set slots id (with-state s t a))
changed slots id s t a lies =
    let u : Slot = with-state s t a in
    let is : get_or slots id s ≡ s = get_or_from_slice_get slots id s s lies in record {
      steps = map-set_same step_of slots id u s (sym (ap step_of is));
      ranks = map-set_same (λ (v : Slot). v.rank) slots id u s (sym (ap (λ (v : Slot). v.rank) is));
      links = map-set_same (λ (v : Slot). v.link) slots id u s (sym (ap (λ (v : Slot). v.link) is));
      size = length-set slots id u;
    }

changed-helds : (slots : List Slot) (id : ℕ) (s : Slot) (t : State) (a : ℕ) → slice_get slots id ≡ Some s
    → helds_of (set slots id (with-state s t a)) ≡ set (helds_of slots) id (held (word-at slots id) (with-state s t a))
changed-helds slots id s t a lies =
    let c = changed slots id s t a lies in
    ap (λ (ss : List Step). helds (words_of ss) (set slots id (with-state s t a))) c.steps ∙ helds-set (words_of (map step_of slots)) slots id (with-state s t a) (words-slots slots)

-- it counts no more
pub keys-less : (which : Among) (slots : List Slot) (id : ℕ) (s : Slot) (t : State) (a : ℕ) → counts which t ≡ false → keys which (set slots id (with-state s t a)) ≡ set (keys which slots) id None
keys-less which slots id s t a h = map-set (key which) slots id (with-state s t a) ∙ ap (set (keys which slots) id) (ap (λ b. cond b (Some s.rank) None) h)

pub keys-same : (which : Among) (slots : List Slot) (id : ℕ) (s : Slot) (t : State) (a : ℕ) → slice_get slots id ≡ Some s → counts which t ≡ counts which s.state → keys which (set slots id (with-state s t a)) ≡ keys which slots
keys-same which slots id s t a lies h =
    let is : get_or slots id s ≡ s = get_or_from_slice_get slots id s s lies in
    map-set_same (key which) slots id (with-state s t a) s (ap (λ b. cond b (Some s.rank) None) h ∙ sym (ap (key which) is))

key-rank : (b : Bool) (rank r : ℕ) → cond b (Some rank) None ≡ Some r → r ≡ rank
key-rank true rank r h = sym (some_same h)
key-rank false rank r h = absurd (none_some refl h)

pub heads-less : (which : Among) (slots : List Slot) (id : ℕ) (s : Slot) (t : State) (a : ℕ) (heads new : List (Option ℕ)) → slice_get slots id ≡ Some s → counts which t ≡ false → AreHeads (keys which slots) heads
    → HeadMoved s.rank (keys which (set slots id (with-state s t a))) heads new → AreHeads (keys which (set slots id (with-state s t a))) new
heads-less which slots id s t a heads new lies h old moved =
    let is = keys-less which slots id s t a h in
    heads-moved s.rank (keys which (set slots id (with-state s t a))) (keys which slots) heads new
    (subst (λ ks. AreFewer ks (keys which slots)) (sym is) (fewer-set (keys which slots) id))
    (subst (λ ks. AgreeBut s.rank ks (keys which slots)) (sym is) (agree-set (keys which slots) id s.rank (key which s) (map-get (key which) slots id s lies) (λ r e. key-rank (counts which s.state) s.rank r e)))
    old moved

pub kept-after : (slots new : List Slot) (lasts opens stands opens' stands' : List (Option ℕ)) → IsKept slots lasts opens stands → Changed slots new
    → AreHeads (keys among.Open new) opens' → AreHeads (keys among.All new) stands' → length opens' ≡ length opens → length stands' ≡ length stands → IsKept new lasts opens' stands'
kept-after slots new lasts opens stands opens' stands' k c o s n m = record {
  back = subst GoBack (sym c.steps) k.back;
  some = let e = c.size in let h = k.some in omega (arith, e, h);
  few = let e = c.size in let h = k.few in omega (arith, e, h);
  chained = subst (λ rs. AreChained rs (links_of new) lasts) (sym c.ranks) (subst (λ ls. AreChained (ranks_of slots) ls lasts) (sym c.links) k.chained);
  open_heads = o;
  heads = s;
  open_ranks = n ∙ k.open_ranks;
  ranks = m ∙ k.ranks;
}

-- heads lie among the ranks

first-ranked : (which : Among) (slots : List Slot) (r : ℕ) (o : Option ℕ) → IsFirst r 0 (keys which slots) o → IsOfRank (ranks_of slots) r o
first-ranked which slots r None h = tt
first-ranked which slots r (Some f) h = ranked which slots f r h.key

pub head-ranked : (which : Among) (slots new : List Slot) (heads : List (Option ℕ)) (rank : ℕ) → AreHeads (keys which slots) heads → Changed slots new → IsOfRank (ranks_of new) rank (head_at heads rank)
head-ranked which slots new heads rank h c = subst (λ rs. IsOfRank rs rank (head_at heads rank)) (sym c.ranks) (first-ranked which slots rank (head_at heads rank) (h rank))

pub chained-after : (slots new : List Slot) (lasts : List (Option ℕ)) → AreChained (ranks_of slots) (links_of slots) lasts → Changed slots new → AreChained (ranks_of new) (links_of new) lasts
chained-after slots new lasts k c = subst (λ rs. AreChained rs (links_of new) lasts) (sym c.ranks) (subst (λ ls. AreChained (ranks_of slots) ls lasts) (sym c.links) k)

some-within : (heads : List (Option ℕ)) (r f : ℕ) → head_at heads r ≡ Some f → r < length heads
some-within [] r f h = absurd (none_some refl h)
some-within (o ∷ heads) zero f h = omega arith
some-within (o ∷ heads) (suc r) f h = let e = some-within heads r f h in omega (arith, e)

last-within : (ranks : List ℕ) (lasts : List (Option ℕ)) (rank id : ℕ) (o : Option ℕ) → head_at lasts rank ≡ o → IsLast rank ranks o → slice_get ranks id ≡ Some rank → rank < length lasts
last-within ranks lasts rank id None e h k = absurd (h id k)
last-within ranks lasts rank id (Some t) e h k = some-within lasts rank t e

-- each slot's rank is below their number
pub rank-within : (slots : List Slot) (lasts opens stands : List (Option ℕ)) (id : ℕ) (s : Slot) → IsKept slots lasts opens stands → slice_get slots id ≡ Some s → s.rank < length lasts
rank-within slots lasts opens stands id s k lies =
    last-within (ranks_of slots) lasts s.rank id (head_at lasts s.rank) refl (k.chained.last s.rank) (map-get (λ (v : Slot). v.rank) slots id s lies)

-- nodes after a write

pub nodes-leave : (slots : List Slot) (id : ℕ) (s : Slot) (a : ℕ) → slice_get slots id ≡ Some s → nodes_of (set slots id (with-state s Gone a)) ≡ without id (nodes_of slots)
nodes-leave slots id s a lies = ap (nodes_from 0) (changed-helds slots id s Gone a lies) ∙ without-at (helds_of slots) id

pub nodes-take : (slots : List Slot) (id : ℕ) (s : Slot) (a : ℕ) → slice_get slots id ≡ Some s → counts among.All s.state ≡ true → nodes_of (set slots id (with-state s Taken a)) ≡ map (taken_by a id) (nodes_of slots)
nodes-take slots id s a lies stands = ap (nodes_from 0) (changed-helds slots id s Taken a lies) ∙ taken-at a (helds_of slots) id (held-in (word-at slots id) s) (held-at slots id s lies stands)

-- the least nodes

abbrev pub LeastOf : List RankedNode → ℕ → ℕ → Type 0
LeastOf nodes rank id = (n : RankedNode) × (IsLeast nodes n × ((n.id ≡ id) × (n.rank ≡ rank)))

pub best-node : (slots : List Slot) (lasts opens stands : List (Option ℕ)) (rank id : ℕ) → IsKept slots lasts opens stands → LeastHead stands rank id → LeastOf (nodes_of slots) rank id
best-node slots lasts opens stands rank id k h = least-of (keys among.All slots) stands (nodes_of slots) rank id (mirrors-all slots) k.heads h

pub open-node : (slots : List Slot) (lasts opens stands : List (Option ℕ)) (rank id : ℕ) → IsKept slots lasts opens stands → LeastHead opens rank id → LeastOf (open_nodes (nodes_of slots)) rank id
open-node slots lasts opens stands rank id k h = least-of (keys among.Open slots) opens (open_nodes (nodes_of slots)) rank id (mirrors-open slots) k.open_heads h

pub none-stand : (slots : List Slot) (lasts opens stands : List (Option ℕ)) → IsKept slots lasts opens stands → ((r : ℕ) → head_at stands r ≡ None) → nodes_of slots ≡ []
none-stand slots lasts opens stands k h = none-of (keys among.All slots) stands (nodes_of slots) (mirrors-all slots) k.heads h

pub none-open : (slots : List Slot) (lasts opens stands : List (Option ℕ)) → IsKept slots lasts opens stands → ((r : ℕ) → head_at opens r ≡ None) → open_nodes (nodes_of slots) ≡ []
none-open slots lasts opens stands k h = none-of (keys among.Open slots) opens (open_nodes (nodes_of slots)) (mirrors-open slots) k.open_heads h

pub open-among : (nodes : List RankedNode) (n : RankedNode) → IsIn n (open_nodes nodes) → IsIn n nodes
open-among nodes n h = (kept-of is_open n nodes h).0

pub open-in : (slots : List Slot) (n : RankedNode) → IsIn n (open_nodes (nodes_of slots)) → IsIn n (nodes_of slots)
open-in slots n h = open-among (nodes_of slots) n h

pub node-within : (slots : List Slot) (n : RankedNode) (id : ℕ) → IsIn n (nodes_of slots) → n.id ≡ id → id < length slots
node-within slots n id h e = let p = place-of slots n h in subst (λ j. j < length slots) e (slice_get_within slots n.id p.slot p.lies)

-- what code writes

pub record Write (slots new : List Slot) (id : ℕ) (y : Slot) (t : State) (a : ℕ) : Type 0 where
  pub lies : slice_get slots id ≡ Some y
  pub is : new ≡ set slots id (with-state y t a)

pub write-of : (slots new : List Slot) (id : ℕ) (y y' : Slot) (t : State) (a : ℕ) → id < length slots → y ≡ get_or slots id y → y' ≡ with-state y t a → new ≡ set slots id y' → Write slots new id y t a
write-of slots new id y y' t a within read written is = record { lies = lies-of slots id y within read; is = is ∙ ap (set slots id) written }

pub write-changed : (slots new : List Slot) (id : ℕ) (y : Slot) (t : State) (a : ℕ) → Write slots new id y t a → Changed slots new
write-changed slots new id y t a w = subst (Changed slots) (sym w.is) (changed slots id y t a w.lies)

pub head-slot : (which : Among) (slots : List Slot) (heads : List (Option ℕ)) (rank id : ℕ) → AreHeads (keys which slots) heads → LeastHead heads rank id → Counted which slots id rank
head-slot which slots heads rank id h least = let first : FirstAt rank 0 id (keys which slots) = subst (IsFirst rank 0 (keys which slots)) least.is (h rank) in counted which slots id rank first.key

pub head-within : (which : Among) (slots : List Slot) (heads : List (Option ℕ)) (rank id : ℕ) → AreHeads (keys which slots) heads → LeastHead heads rank id → id < length slots
head-within which slots heads rank id h least = let c = head-slot which slots heads rank id h least in slice_get_within slots id c.slot c.lies

pub write-less : (which : Among) (slots new : List Slot) (id : ℕ) (y : Slot) (t : State) (a rank : ℕ) (heads heads' : List (Option ℕ)) → Write slots new id y t a → counts which t ≡ false → y.rank ≡ rank → AreHeads (keys which slots) heads
    → HeadMoved rank (keys which new) heads heads' → AreHeads (keys which new) heads'
write-less which slots new id y t a rank heads heads' w out is h moved =
    subst (λ (xs : List Slot). AreHeads (keys which xs) heads') (sym w.is)
    (heads-less which slots id y t a heads heads' w.lies out h
    (subst (λ (xs : List Slot). HeadMoved y.rank (keys which xs) heads heads') w.is (subst (λ r. HeadMoved r (keys which new) heads heads') (sym is) moved)))

pub take-kept : (slots new : List Slot) (lasts opens stands opens' : List (Option ℕ)) (rank id : ℕ) (y : Slot) (a : ℕ) → IsKept slots lasts opens stands → LeastHead opens rank id → Write slots new id y Taken a
    → HeadMoved rank (keys among.Open new) opens opens' → IsKept new lasts opens' stands
take-kept slots new lasts opens stands opens' rank id y a k least w moved =
    let c = head-slot among.Open slots opens rank id k.open_heads least in
    let same : c.slot ≡ y = some_same (sym c.lies ∙ w.lies) in
    let rank-is : y.rank ≡ rank = ap (λ (s : Slot). s.rank) (sym same) ∙ c.rank_is in
    let stood : counts among.All y.state ≡ true = open-stands y.state (ap (λ (s : Slot). counts among.Open s.state) (sym same) ∙ c.counts_is) in
    let still : keys among.All new ≡ keys among.All slots = ap (keys among.All) w.is ∙ keys-same among.All slots id y Taken a w.lies (sym stood) in
    kept-after slots new lasts opens stands opens' stands k (write-changed slots new id y Taken a w)
    (write-less among.Open slots new id y Taken a rank opens opens' w refl rank-is k.open_heads moved)
    (subst (λ ks. AreHeads ks stands) (sym still) k.heads) moved.ranks refl

pub take-nodes : (slots new : List Slot) (lasts opens stands : List (Option ℕ)) (rank id : ℕ) (y : Slot) (a : ℕ) (n : RankedNode) → IsKept slots lasts opens stands → LeastHead opens rank id → Write slots new id y Taken a
    → IsLeast (open_nodes (nodes_of slots)) n → nodes_of new ≡ map (taken_by a n.id) (nodes_of slots)
take-nodes slots new lasts opens stands rank id y a n k least w h =
    let c = head-slot among.Open slots opens rank id k.open_heads least in
    let same : c.slot ≡ y = some_same (sym c.lies ∙ w.lies) in
    let stood : counts among.All y.state ≡ true = open-stands y.state (ap (λ (s : Slot). counts among.Open s.state) (sym same) ∙ c.counts_is) in
    let l = open-node slots lasts opens stands rank id k least in
    let is : id ≡ n.id = sym l.1.1.0 ∙ least-same (open_nodes (nodes_of slots)) l.0 n l.1.0 h in
    ap nodes_of w.is ∙ nodes-take slots id y a w.lies stood ∙ ap (λ j. map (taken_by a j) (nodes_of slots)) is

pub leave-kept : (slots new : List Slot) (lasts opens stands opens' stands' : List (Option ℕ)) (rank id : ℕ) (y : Slot) (a : ℕ) → IsKept slots lasts opens stands → Write slots new id y Gone a → y.rank ≡ rank
    → HeadMoved rank (keys among.Open new) opens opens' → HeadMoved rank (keys among.All new) stands stands' → IsKept new lasts opens' stands'
leave-kept slots new lasts opens stands opens' stands' rank id y a k w is moved others =
    kept-after slots new lasts opens stands opens' stands' k (write-changed slots new id y Gone a w)
    (write-less among.Open slots new id y Gone a rank opens opens' w refl is k.open_heads moved)
    (write-less among.All slots new id y Gone a rank stands stands' w refl is k.heads others) moved.ranks others.ranks

pub leave-nodes : (slots new : List Slot) (id : ℕ) (y : Slot) (a : ℕ) → Write slots new id y Gone a → nodes_of new ≡ without id (nodes_of slots)
leave-nodes slots new id y a w = ap nodes_of w.is ∙ nodes-leave slots id y a w.lies

-- a write of a slot's deadline

abbrev pub with-deadline : Slot → ℕ → ℕ → Slot
with-deadline s d k = record s { deadline = d; known = k }

renewed-slots : (slots : List Slot) (id : ℕ) (s : Slot) (d k : ℕ) → slice_get slots id ≡ Some s → Changed slots (set slots id (with-deadline s d k))
renewed-slots slots id s d k lies =
    let u : Slot = with-deadline s d k in
    let is : get_or slots id s ≡ s = get_or_from_slice_get slots id s s lies in record {
      steps = map-set_same step_of slots id u s (sym (ap step_of is));
      ranks = map-set_same (λ (v : Slot). v.rank) slots id u s (sym (ap (λ (v : Slot). v.rank) is));
      links = map-set_same (λ (v : Slot). v.link) slots id u s (sym (ap (λ (v : Slot). v.link) is));
      size = length-set slots id u;
    }

renewed-keys : (which : Among) (slots : List Slot) (id : ℕ) (s : Slot) (d k : ℕ) → slice_get slots id ≡ Some s → keys which (set slots id (with-deadline s d k)) ≡ keys which slots
renewed-keys which slots id s d k lies = map-set_same (key which) slots id (with-deadline s d k) s (sym (ap (key which) (get_or_from_slice_get slots id s s lies)))

renewed-helds : (slots : List Slot) (id : ℕ) (s : Slot) (d k : ℕ) → slice_get slots id ≡ Some s
    → helds_of (set slots id (with-deadline s d k)) ≡ set (helds_of slots) id (held (word-at slots id) (with-deadline s d k))
renewed-helds slots id s d k lies =
    let c = renewed-slots slots id s d k lies in
    ap (λ (ss : List Step). helds (words_of ss) (set slots id (with-deadline s d k))) c.steps ∙ helds-set (words_of (map step_of slots)) slots id (with-deadline s d k) (words-slots slots)

-- the slot of an id has a new deadline
pub record Renewal (slots new : List Slot) (id d k : ℕ) : Type 0 where
  pub slot : Slot
  pub lies : slice_get slots id ≡ Some slot
  pub is : new ≡ set slots id (with-deadline slot d k)

pub renewal-of : (slots new : List Slot) (id : ℕ) (y y' : Slot) (d k : ℕ) → id < length slots → y ≡ get_or slots id y → y' ≡ with-deadline y d k → new ≡ set slots id y' → Renewal slots new id d k
renewal-of slots new id y y' d k within read written is = record { slot = y; lies = lies-of slots id y within read; is = is ∙ ap (set slots id) written }

pub renewal-kept : (slots new : List Slot) (lasts opens stands : List (Option ℕ)) (id d k : ℕ) → IsKept slots lasts opens stands → Renewal slots new id d k → IsKept new lasts opens stands
renewal-kept slots new lasts opens stands id d k kept-before w =
    subst (λ (xs : List Slot). IsKept xs lasts opens stands) (sym w.is)
    (kept-after slots (set slots id (with-deadline w.slot d k)) lasts opens stands opens stands kept-before (renewed-slots slots id w.slot d k w.lies)
    (subst (λ ks. AreHeads ks opens) (sym (renewed-keys among.Open slots id w.slot d k w.lies)) kept-before.open_heads)
    (subst (λ ks. AreHeads ks stands) (sym (renewed-keys among.All slots id w.slot d k w.lies)) kept-before.heads) refl refl)

pub renewal-nodes : (slots new : List Slot) (id d k : ℕ) → has_id id (nodes_of slots) ≡ true → Renewal slots new id d k → nodes_of new ≡ map (renewed id d k) (nodes_of slots)
renewal-nodes slots new id d k h w =
    let p = here-of slots id h in
    let same : p.slot ≡ w.slot = some_same (sym p.lies ∙ w.lies) in
    let stood : counts among.All w.slot.state ≡ true = ap (λ (s : Slot). counts among.All s.state) (sym same) ∙ p.stands in
    let before = held-in (word-at slots id) w.slot in
    ap nodes_of w.is ∙ ap (nodes_from 0) (renewed-helds slots id w.slot d k w.lies
    ∙ ap (λ b. set (helds_of slots) id (let o : Option Held = cond b (Some (record before { deadline = d; known = k })) None in o)) stood)
    ∙ renewed-at d k (helds_of slots) id before (held-at slots id w.slot w.lies stood)

pub read-same : (slots : List Slot) (id : ℕ) (x y : Slot) → id < length slots → x ≡ get_or slots id x → slice_get slots id ≡ Some y → y ≡ x
read-same slots id x y within read lies = some_same (sym lies ∙ lies-of slots id x within read)

pub is_empty-none : (nodes : List RankedNode) → nodes ≡ [] → true ≡ is_empty nodes
is_empty-none nodes e = sym (ap is_empty e)

pub is_empty-some : (nodes : List RankedNode) (n : RankedNode) → IsIn n nodes → false ≡ is_empty nodes
is_empty-some [] n h = absurd h
is_empty-some (m ∷ nodes) n h = refl
