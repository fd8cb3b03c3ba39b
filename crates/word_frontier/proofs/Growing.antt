-- One slot more: a child comes in, and the root is made.
use Rattle.std.proofs.Common.{◌≡◌, refl, sym, ap, subst, ◌∙◌, ℕ, ◌+◌, ◌<◌, ◌^◌, cond, List, [], ◌∷◌, ◌++◌, length, map, set, get_or, Option, Some, None, arith, length-append, length-set}
use Rattle.std.proofs.lemmas.List.{length-map, map-set, map_push}
use Rattle.std.proofs.lemmas.Option.{get_or_from_slice_get}
use Rattle.std.proofs.Math.Seq.{map-set_same}
use Rattle.std.specs.List.{slice_get}
use Rattle.std.specs.Vec.{with_item}
use Rattle.tp_spec.specs.declared.plan.Mark.{Mark}
use Rattle.word_frontier.specs.declared.child.Child.{Child}
use Rattle.word_frontier.specs.declared.frontier.Frontier.TheInside.{Inside}
use Rattle.word_frontier.specs.declared.slot.Slot.{Slot}
use Rattle.word_frontier.specs.declared.slot.Among.{Among}
use Rattle.word_frontier.specs.declared.slot.Among.TheVariants as among
use Rattle.word_frontier.specs.declared.slot.State.TheVariants.{Open}
use Rattle.word_frontier.specs.Nodes.{RankedNode, StandsAt, child_of}
use Rattle.word_frontier.specs.Slots.{Step, Held, held, helds, helds_of, nodes_from, nodes_of, counts, taker_of, key, keys, ranks_of, links_of, step_of, mark_of, words_of, head_at, or_else, GoBack, IsFirst, AreHeads, LastAt, IsLast, AreChained, IsKept}
use Rattle.word_frontier.proofs.Words.{words_of-push, back-push}
use Rattle.word_frontier.proofs.Places.{none_some, lies-of, set-back, heads-push}
use Rattle.word_frontier.proofs.Chain.{marked, chained-push, ranked-within}
use Rattle.word_frontier.proofs.Nodes.{push-at, helds-set, helds-push}
use Rattle.word_frontier.proofs.Keeping.{words-slots, helds-slots, word-at, get-slot, place-of}

-- the last slot of a rank is linked to the new id
pub record Linked (slots slots' : List Slot) (last : Option ℕ) (m : ℕ) : Type 0 where
  pub steps : map step_of slots' ≡ map step_of slots
  pub ranks : ranks_of slots' ≡ ranks_of slots
  pub keys_are : (a : Among) → keys a slots' ≡ keys a slots
  pub links : links_of slots' ≡ marked last (links_of slots) m
  pub helds_are : helds_of slots' ≡ helds_of slots
  pub size : length slots' ≡ length slots

pub linked-none : (slots : List Slot) (m : ℕ) → Linked slots slots None m
linked-none slots m = record { steps = refl; ranks = refl; keys_are = λ a. refl; links = refl; helds_are = refl; size = refl }

pub linked-some : (slots : List Slot) (m t : ℕ) (s : Slot) → slice_get slots t ≡ Some s → Linked slots (set slots t (record s { link = m })) (Some t) m
linked-some slots m t s lies =
    let u : Slot = record s { link = m } in
    let is : get_or slots t s ≡ s = get_or_from_slice_get slots t s s lies in
    let steps : map step_of (set slots t u) ≡ map step_of slots = map-set_same step_of slots t u s (sym (ap step_of is)) in record {
      steps = steps;
      ranks = map-set_same (λ (v : Slot). v.rank) slots t u s (sym (ap (λ (v : Slot). v.rank) is));
      keys_are = λ a. map-set_same (key a) slots t u s (sym (ap (key a) is));
      links = map-set (λ (v : Slot). v.link) slots t u;
      helds_are = ap (λ (ss : List Step). helds (words_of ss) (set slots t u)) steps ∙ helds-set (words_of (map step_of slots)) slots t u (words-slots slots)
          ∙ set-back (helds_of slots) t (held (word-at slots t) s) (get-slot slots t s lies);
      size = length-set slots t u;
    }

-- the node of a slot that comes in
abbrev pub comer : List Slot → ℕ → Slot → RankedNode
comer slots m s = record { id = m; word = word-at slots s.parent ++ mark_of s ∷ []; rank = s.rank; deadline = s.deadline; known = s.known; taker = None }

held-open : (w : List Mark) (s : Slot) → s.state ≡ Open → held w s ≡ Some (record { word = w; rank = s.rank; deadline = s.deadline; known = s.known; taker = None })
held-open w s e = ap (λ u. (let o : Option Held = cond (counts among.All u) (Some (let h : Held = record { word = w; rank = s.rank; deadline = s.deadline; known = s.known; taker = taker_of u s.taker } in h)) None in o)) e

pub nodes-push : (slots slots' : List Slot) (last : Option ℕ) (m : ℕ) (s : Slot) → Linked slots slots' last m → 0 < length slots → m ≡ length slots → s.state ≡ Open → nodes_of (slots' ++ s ∷ []) ≡ nodes_of slots ++ comer slots m s ∷ []
nodes-push slots slots' last m s l some e free =
    let steps : List Step = map step_of slots in
    let w : List Mark = word-at slots s.parent ++ mark_of s ∷ [] in
    let n = length-map slots step_of in
    let h : Held = record { word = w; rank = s.rank; deadline = s.deadline; known = s.known; taker = None } in
    let grown : words_of (map step_of (slots' ++ s ∷ [])) ≡ words_of (map step_of slots') ++ w ∷ [] =
    ap words_of (map_push step_of slots' s ∙ ap (λ (ss : List Step). ss ++ step_of s ∷ []) l.steps) ∙ words_of-push steps (step_of s) (omega (arith, n, some)) ∙ sym (ap (λ (ss : List Step). words_of ss ++ w ∷ []) l.steps) in
    let helds-are : helds_of (slots' ++ s ∷ []) ≡ helds_of slots ++ Some h ∷ [] =
    ap (λ (ws : List (List Mark)). helds ws (slots' ++ s ∷ [])) grown ∙ helds-push (words_of (map step_of slots')) slots' w s (words-slots slots')
    ∙ ap (λ (hs : List (Option Held)). hs ++ held w s ∷ []) l.helds_are ∙ ap (λ o. helds_of slots ++ o ∷ []) (held-open w s free) in
    ap (nodes_from 0) helds-are ∙ push-at (helds_of slots) m h (let size = helds-slots slots in omega (arith, size, e))

key-open : (a : Among) (s : Slot) (rank : ℕ) → s.state ≡ Open → s.rank ≡ rank → key a s ≡ Some rank
key-open among.Open s rank e r = ap (λ t. cond (counts among.Open t) (Some s.rank) None) e ∙ ap Some r
key-open among.All s rank e r = ap (λ t. cond (counts among.All t) (Some s.rank) None) e ∙ ap Some r

keys-push : (a : Among) (slots slots' : List Slot) (s : Slot) (rank : ℕ) → keys a slots' ≡ keys a slots → s.state ≡ Open → s.rank ≡ rank → keys a (slots' ++ s ∷ []) ≡ keys a slots ++ Some rank ∷ []
keys-push a slots slots' s rank same e r = map_push (key a) slots' s ∙ ap (λ (ks : List (Option ℕ)). ks ++ key a s ∷ []) same ∙ ap (λ o. keys a slots ++ o ∷ []) (key-open a s rank e r)

heads-grown : (a : Among) (slots slots' : List Slot) (s : Slot) (rank m : ℕ) (heads : List (Option ℕ)) → keys a slots' ≡ keys a slots → s.state ≡ Open → s.rank ≡ rank → m ≡ length slots → rank < length heads
    → AreHeads (keys a slots) heads → AreHeads (keys a (slots' ++ s ∷ [])) (set heads rank (or_else (head_at heads rank) (Some m)))
heads-grown a slots slots' s rank m heads same e r size within h =
    subst (λ ks. AreHeads ks (set heads rank (or_else (head_at heads rank) (Some m)))) (sym (keys-push a slots slots' s rank same e r))
    (heads-push rank m (keys a slots) heads (let n = length-map slots (key a) in omega (arith, n, size)) within h)

-- a slot that comes in, open, as the next one
pub record Comes (slots : List Slot) (m parent rank : ℕ) (s : Slot) : Type 0 where
  pub next : m ≡ length slots
  pub few : m + 1 < 2 ^ 32
  pub parent_is : s.parent ≡ parent
  pub earlier : parent < m
  pub rank_is : s.rank ≡ rank
  pub state : s.state ≡ Open

pub kept-push : (slots slots' : List Slot) (lasts opens stands : List (Option ℕ)) (m parent rank : ℕ) (s : Slot) → IsKept slots lasts opens stands → Linked slots slots' (head_at lasts rank) m → Comes slots m parent rank s
    → rank < length lasts → IsKept (slots' ++ s ∷ []) (set lasts rank (Some m)) (set opens rank (or_else (head_at opens rank) (Some m))) (set stands rank (or_else (head_at stands rank) (Some m)))
kept-push slots slots' lasts opens stands m parent rank s k l c within =
    let n = length-map slots step_of in
    let n-ranks = length-map slots (λ (u : Slot). u.rank) in
    let n-links = length-map slots (λ (u : Slot). u.link) in
    let more = length-append slots' (s ∷ []) in
    let next = c.next in
    let ranks-are : ranks_of (slots' ++ s ∷ []) ≡ ranks_of slots ++ rank ∷ [] = map_push (λ (u : Slot). u.rank) slots' s ∙ ap (λ (rs : List ℕ). rs ++ s.rank ∷ []) l.ranks ∙ ap (λ r. ranks_of slots ++ r ∷ []) c.rank_is in
    let links-are : links_of (slots' ++ s ∷ []) ≡ marked (head_at lasts rank) (links_of slots) m ++ s.link ∷ [] = map_push (λ (u : Slot). u.link) slots' s ∙ ap (λ (xs : List ℕ). xs ++ s.link ∷ []) l.links in
    let chained = chained-push (ranks_of slots) (links_of slots) lasts rank m s.link k.chained (omega (arith, n-ranks, n-links)) (omega (arith, n-ranks, next)) within in
    let opens-size = k.open_ranks in let stands-size = k.ranks in
    record {
      back = subst GoBack (sym (map_push step_of slots' s ∙ ap (λ (ss : List Step). ss ++ step_of s ∷ []) l.steps))
          (back-push (map step_of slots) (step_of s) k.back (let p = c.parent_is in let e = c.earlier in omega (arith, n, next, p, e)));
      some = omega (arith, more);
      few = let size = l.size in let f = c.few in omega (arith, more, size, next, f);
      chained = subst (λ rs. AreChained rs (links_of (slots' ++ s ∷ [])) (set lasts rank (Some m))) (sym ranks-are)
          (subst (λ ls. AreChained (ranks_of slots ++ rank ∷ []) ls (set lasts rank (Some m))) (sym links-are) chained);
      open_heads = heads-grown among.Open slots slots' s rank m opens (l.keys_are among.Open) c.state c.rank_is next (omega (arith, within, opens-size)) k.open_heads;
      heads = heads-grown among.All slots slots' s rank m stands (l.keys_are among.All) c.state c.rank_is next (omega (arith, within, stands-size)) k.heads;
      open_ranks = length-set opens rank (or_else (head_at opens rank) (Some m)) ∙ opens-size ∙ sym (length-set lasts rank (Some m));
      ranks = length-set stands rank (or_else (head_at stands rank) (Some m)) ∙ stands-size ∙ sym (length-set lasts rank (Some m));
    }

-- the root

first-none : (r : ℕ) (o : Option ℕ) → o ≡ None → IsFirst r 0 [] o
first-none r o e = subst (IsFirst r 0 []) (sym e) (λ j h k. none_some refl k)

last-none : (r : ℕ) (o : Option ℕ) → o ≡ None → IsLast r [] o
last-none r o e = subst (IsLast r []) (sym e) (λ j k. none_some refl k)

marked-none : (o : Option ℕ) (l : ℕ) → marked o [] 0 ++ l ∷ [] ≡ l ∷ []
marked-none None l = refl
marked-none (Some t) l = refl

pub root-kept : (s : Slot) (lasts opens stands : List (Option ℕ)) (rank : ℕ) → s.state ≡ Open → s.rank ≡ rank → rank < length lasts → length opens ≡ length lasts → length stands ≡ length lasts
    → ((r : ℕ) → head_at lasts r ≡ None) → ((r : ℕ) → head_at opens r ≡ None) → ((r : ℕ) → head_at stands r ≡ None)
    → IsKept (s ∷ []) (set lasts rank (Some 0)) (set opens rank (or_else (head_at opens rank) (Some 0))) (set stands rank (or_else (head_at stands rank) (Some 0)))
root-kept s lasts opens stands rank e r within n m no-last no-open no-stand =
    let empty : AreChained [] [] lasts = record { linked = λ q k j h a b. absurd (none_some refl a); last = λ q. last-none q (head_at lasts q) (no-last q) } in
    let chained = chained-push [] [] lasts rank 0 s.link empty refl refl within in record {
      back = λ k t h. absurd (none_some refl h);
      some = omega arith;
      few = omega arith;
      chained = subst (λ q. AreChained (q ∷ []) (s.link ∷ []) (set lasts rank (Some 0))) (sym r)
          (subst (λ ls. AreChained (rank ∷ []) ls (set lasts rank (Some 0))) (marked-none (head_at lasts rank) s.link) chained);
      open_heads = heads-grown among.Open [] [] s rank 0 opens refl e r refl (omega (arith, within, n)) (λ q. first-none q (head_at opens q) (no-open q));
      heads = heads-grown among.All [] [] s rank 0 stands refl e r refl (omega (arith, within, m)) (λ q. first-none q (head_at stands q) (no-stand q));
      open_ranks = length-set opens rank (or_else (head_at opens rank) (Some 0)) ∙ n ∙ sym (length-set lasts rank (Some 0));
      ranks = length-set stands rank (or_else (head_at stands rank) (Some 0)) ∙ m ∙ sym (length-set lasts rank (Some 0));
    }

pub root-made : (slots none : List Slot) (s : Slot) (lasts opens stands opens' stands' : List (Option ℕ)) (rank ranks : ℕ) → slots ≡ none ++ s ∷ [] → none ≡ [] → s.state ≡ Open → s.rank ≡ rank → rank < ranks
    → length lasts ≡ ranks → length opens ≡ ranks → length stands ≡ ranks → ((r : ℕ) → head_at lasts r ≡ None) → ((r : ℕ) → head_at opens r ≡ None) → ((r : ℕ) → head_at stands r ≡ None)
    → opens' ≡ set opens rank (or_else (head_at opens rank) (Some 0)) → stands' ≡ set stands rank (or_else (head_at stands rank) (Some 0)) → IsKept slots (set lasts rank (Some 0)) opens' stands'
root-made slots none s lasts opens stands opens' stands' rank ranks is empty e r lt n m k no-last no-open no-stand o p =
    subst (λ (xs : List Slot). IsKept xs (set lasts rank (Some 0)) opens' stands') (sym (is ∙ ap (λ (xs : List Slot). xs ++ s ∷ []) empty))
    (subst (λ (os : List (Option ℕ)). IsKept (s ∷ []) (set lasts rank (Some 0)) os stands') (sym o)
    (subst (λ (os : List (Option ℕ)). IsKept (s ∷ []) (set lasts rank (Some 0)) (set opens rank (or_else (head_at opens rank) (Some 0))) os) (sym p)
    (root-kept s lasts opens stands rank e r (omega (arith, lt, n)) (m ∙ sym n) (k ∙ sym n) no-last no-open no-stand)))

-- the code of `enter`

pub read-head : (lasts : List (Option ℕ)) (rank : ℕ) (x : Option ℕ) → rank < length lasts → x ≡ get_or lasts rank x → head_at lasts rank ≡ x
read-head lasts rank x within read = get_or_from_slice_get lasts rank x None (lies-of lasts rank x within read)

-- fields once the last slot of the rank has its link
pub record Between (x y : Inside) (last : Option ℕ) (m : ℕ) : Type 0 where
  pub linked : Linked x.slots.items y.slots.items last m
  pub lasts : y.lasts.items ≡ x.lasts.items
  pub opens : y.opens ≡ x.opens
  pub stands : y.stands ≡ x.stands

pub between-some : (x y : Inside) (rank t m : ℕ) (s s' : Slot) → IsKept x.slots.items x.lasts.items x.opens x.stands → head_at x.lasts.items rank ≡ Some t
    → s ≡ get_or x.slots.items t s → s' ≡ record s { link = m } → y ≡ record x { slots = with_item x.slots t s' } → Between x y (head_at x.lasts.items rank) m
between-some x y rank t m s s' k is read w h =
    let slots = x.slots.items in
    let last : LastAt rank t (ranks_of slots) = subst (IsLast rank (ranks_of slots)) is (k.chained.last rank) in
    let lies = lies-of slots t s (ranked-within slots t rank last.key) read in
    let linked = subst (λ (o : Option ℕ). Linked slots (set slots t s') o m) (sym is) (subst (λ (u : Slot). Linked slots (set slots t u) (Some t) m) (sym w) (linked-some slots m t s lies)) in
    subst (λ (z : Inside). Between x z (head_at x.lasts.items rank) m) (sym h) (record { linked = linked; lasts = refl; opens = refl; stands = refl })

pub between-none : (x y : Inside) (last : Option ℕ) (m : ℕ) → last ≡ None → y ≡ x → Between x y last m
between-none x y last m e h = subst (λ (z : Inside). Between x z last m) (sym h) (record { linked = subst (λ (o : Option ℕ). Linked x.slots.items x.slots.items o m) (sym e) (linked-none x.slots.items m); lasts = refl; opens = refl; stands = refl })

pub enters-kept : (x y : Inside) (grown : List Slot) (opens stands : List (Option ℕ)) (m parent rank : ℕ) (s : Slot) → IsKept x.slots.items x.lasts.items x.opens x.stands → Between x y (head_at x.lasts.items rank) m → Comes x.slots.items m parent rank s
    → rank < length x.lasts.items → grown ≡ y.slots.items ++ s ∷ [] → opens ≡ set y.opens rank (or_else (head_at y.opens rank) (Some m)) → stands ≡ set y.stands rank (or_else (head_at y.stands rank) (Some m))
    → IsKept grown (set y.lasts.items rank (Some m)) opens stands
enters-kept x y grown opens stands m parent rank s k b c within g o p =
    subst (λ (xs : List Slot). IsKept xs (set y.lasts.items rank (Some m)) opens stands) (sym g)
    (subst (λ (ls : List (Option ℕ)). IsKept (y.slots.items ++ s ∷ []) (set ls rank (Some m)) opens stands) (sym b.lasts)
    (subst (λ (os : List (Option ℕ)). IsKept (y.slots.items ++ s ∷ []) (set x.lasts.items rank (Some m)) os stands) (sym (o ∙ ap (λ (hs : List (Option ℕ)). set hs rank (or_else (head_at hs rank) (Some m))) b.opens))
    (subst (λ (os : List (Option ℕ)). IsKept (y.slots.items ++ s ∷ []) (set x.lasts.items rank (Some m)) (set x.opens rank (or_else (head_at x.opens rank) (Some m))) os) (sym (p ∙ ap (λ (hs : List (Option ℕ)). set hs rank (or_else (head_at hs rank) (Some m))) b.stands))
    (kept-push x.slots.items y.slots.items x.lasts.items x.opens x.stands m parent rank s k b.linked c within))))

-- the word of a node that stands
pub stands-word : (slots : List Slot) (w : List Mark) (id : ℕ) → StandsAt w id (nodes_of slots) → word-at slots id ≡ w
stands-word slots w id h =
    let p = place-of slots h.node h.there in
    ap (word-at slots) (sym h.id_is) ∙ sym (ap (λ (n : RankedNode). n.word) p.is) ∙ h.word_is

pub enters-nodes : (slots slots' grown : List Slot) (last : Option ℕ) (m parent rank : ℕ) (s : Slot) (w : List Mark) (child : Child) (known : ℕ) → Linked slots slots' last m → 0 < length slots → Comes slots m parent rank s
    → grown ≡ slots' ++ s ∷ [] → mark_of s ≡ child.mark → rank ≡ child.rank → s.deadline ≡ child.deadline → s.known ≡ known → StandsAt w parent (nodes_of slots) → nodes_of grown ≡ nodes_of slots ++ child_of known m w child ∷ []
enters-nodes slots slots' grown last m parent rank s w child known l some c g mark-is rank-of deadline-is known-is h =
    let word-is : word-at slots s.parent ≡ w = ap (word-at slots) c.parent_is ∙ stands-word slots w parent h in
    let rank-is : s.rank ≡ child.rank = c.rank_is ∙ rank-of in
    let node-is : comer slots m s ≡ child_of known m w child =
    (λ i. let n : RankedNode = record { id = m; word = word-is i ++ mark-is i ∷ []; rank = rank-is i; deadline = deadline-is i; known = known-is i; taker = None } in n) in
    ap nodes_of g ∙ nodes-push slots slots' last m s l some c.next c.state ∙ ap (λ (n : RankedNode). nodes_of slots ++ n ∷ []) node-is
