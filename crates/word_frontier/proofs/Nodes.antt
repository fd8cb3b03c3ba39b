-- What a write of one slot does to the nodes, and which nodes stand.
use Rattle.std.proofs.Common.{◌≡◌, refl, sym, ap, subst, ◌∙◌, inl, inr, ◌⊎◌, ℕ, zero, suc, ◌+◌, ◌<◌, ◌≤◌, Bool, true, false, not, ◌&&◌, ◌||◌, ◌==◌, nat_lt, nat_le, cond, List, [], ◌∷◌, ◌++◌, length, map, set, Option, Some, None, arith}
use Rattle.std.proofs.lemmas.Bool.{cases_lt}
use Rattle.std.proofs.lemmas.Bool.Decides.{nat_tests}
use Rattle.std.specs.List.{slice_get, filter, list_all, list_any}
use Rattle.tp_spec.specs.Lists.{IsIn, each_pair}
use Rattle.tp_spec.specs.declared.plan.Mark.{Mark}
use Rattle.word_frontier.specs.declared.slot.Slot.{Slot}
use Rattle.word_frontier.specs.Nodes.{RankedNode, no_later, IsLeast, taken_by, renewed, without, is_taker, is_taken, has_id}
use Rattle.word_frontier.specs.Slots.{Held, held, helds, node_in, nodes_from, word_of, head_at, NoneFrom, FirstAt, IsFirst, AreHeads, LeastHead}
use Rattle.word_frontier.proofs.Places.{equal, unlike, above, some_same, none_some}

-- an emptied slot

without-before : (hs : List (Option Held)) (i id : ℕ) → id < i → without id (nodes_from i hs) ≡ nodes_from i hs
without-before [] i id h = refl
without-before (None ∷ hs) i id h = without-before hs (suc i) id (omega arith)
without-before (Some s ∷ hs) i id h =
    ap (λ b. cond (not b) (node_in i s ∷ without id (nodes_from (suc i) hs)) (without id (nodes_from (suc i) hs))) (above i id h)
    ∙ ap (λ r. node_in i s ∷ r) (without-before hs (suc i) id (omega arith))

without-from : (hs : List (Option Held)) (i k id : ℕ) → id ≡ i + k → nodes_from i (set hs k None) ≡ without id (nodes_from i hs)
without-from [] i k id e = refl
without-from (None ∷ hs) i zero id e = sym (without-before hs (suc i) id (omega arith))
without-from (None ∷ hs) i (suc k) id e = without-from hs (suc i) k id (omega arith)
without-from (Some s ∷ hs) i zero id e =
    sym (ap (λ b. cond (not b) (node_in i s ∷ without id (nodes_from (suc i) hs)) (without id (nodes_from (suc i) hs))) (equal i id (omega arith))
    ∙ without-before hs (suc i) id (omega arith))
without-from (Some s ∷ hs) i (suc k) id e =
    ap (λ r. node_in i s ∷ r) (without-from hs (suc i) k id (omega arith))
    ∙ sym (ap (λ b. cond (not b) (node_in i s ∷ without id (nodes_from (suc i) hs)) (without id (nodes_from (suc i) hs))) (unlike i id (omega arith)))

pub without-at : (hs : List (Option Held)) (id : ℕ) → nodes_from 0 (set hs id None) ≡ without id (nodes_from 0 hs)
without-at hs id = without-from hs 0 id id (omega arith)

-- a slot whose node changed, but for its id

-- the node of an id changes, the others stay
abbrev pub where-id : (RankedNode → RankedNode) → ℕ → RankedNode → RankedNode
where-id g id n = cond (n.id == id) (g n) n

one-before : (g : RankedNode → RankedNode) (hs : List (Option Held)) (i id : ℕ) → id < i → map (where-id g id) (nodes_from i hs) ≡ nodes_from i hs
one-before g [] i id h = refl
one-before g (None ∷ hs) i id h = one-before g hs (suc i) id (omega arith)
one-before g (Some s ∷ hs) i id h =
    ap (λ b. cond b (g (node_in i s)) (node_in i s) ∷ map (where-id g id) (nodes_from (suc i) hs)) (above i id h)
    ∙ ap (λ r. node_in i s ∷ r) (one-before g hs (suc i) id (omega arith))

-- what changes a node, and the same where it is held
abbrev pub Agree : (Held → Held) → (RankedNode → RankedNode) → Type 0
Agree f g = (i : ℕ) (h : Held) → node_in i (f h) ≡ g (node_in i h)

one-from : (f : Held → Held) (g : RankedNode → RankedNode) (agree : Agree f g) (hs : List (Option Held)) (i k id : ℕ) (h : Held) → id ≡ i + k → slice_get hs k ≡ Some (Some h)
    → nodes_from i (set hs k (Some (f h))) ≡ map (where-id g id) (nodes_from i hs)
one-from f g agree [] i k id h e l = absurd (none_some refl l)
one-from f g agree (None ∷ hs) i zero id h e l = absurd (none_some refl (some_same l))
one-from f g agree (None ∷ hs) i (suc k) id h e l = one-from f g agree hs (suc i) k id h (omega arith) l
one-from f g agree (Some s ∷ hs) i zero id h e l =
    subst (λ p. nodes_from i (Some (f p) ∷ hs) ≡ map (where-id g id) (node_in i s ∷ nodes_from (suc i) hs)) (some_same (some_same l))
    (ap (λ (n : RankedNode). n ∷ nodes_from (suc i) hs) (agree i s)
    ∙ sym (ap (λ b. cond b (g (node_in i s)) (node_in i s) ∷ map (where-id g id) (nodes_from (suc i) hs)) (equal i id (omega arith))
    ∙ ap (λ r. g (node_in i s) ∷ r) (one-before g hs (suc i) id (omega arith))))
one-from f g agree (Some s ∷ hs) i (suc k) id h e l =
    ap (λ r. node_in i s ∷ r) (one-from f g agree hs (suc i) k id h (omega arith) l)
    ∙ sym (ap (λ b. cond b (g (node_in i s)) (node_in i s) ∷ map (where-id g id) (nodes_from (suc i) hs)) (unlike i id (omega arith)))

pub taken-at : (a : ℕ) (hs : List (Option Held)) (id : ℕ) (h : Held) → slice_get hs id ≡ Some (Some h) → nodes_from 0 (set hs id (Some (record h { taker = Some a }))) ≡ map (taken_by a id) (nodes_from 0 hs)
taken-at a hs id h l = one-from (λ (x : Held). record x { taker = Some a }) (λ (n : RankedNode). record n { taker = Some a }) (λ i x. refl) hs 0 id id h (omega arith) l

pub renewed-at : (d k : ℕ) (hs : List (Option Held)) (id : ℕ) (h : Held) → slice_get hs id ≡ Some (Some h) → nodes_from 0 (set hs id (Some (record h { deadline = d; known = k }))) ≡ map (renewed id d k) (nodes_from 0 hs)
renewed-at d k hs id h l = one-from (λ (x : Held). record x { deadline = d; known = k }) (λ (n : RankedNode). record n { deadline = d; known = k }) (λ i x. refl) hs 0 id id h (omega arith) l

-- one slot more

push-from : (hs : List (Option Held)) (i j : ℕ) (h : Held) → j ≡ i + length hs → nodes_from i (hs ++ Some h ∷ []) ≡ nodes_from i hs ++ node_in j h ∷ []
push-from [] i j h e = ap (λ n. node_in n h ∷ []) (let p : i ≡ j = omega arith in p)
push-from (None ∷ hs) i j h e = push-from hs (suc i) j h (omega arith)
push-from (Some t ∷ hs) i j h e = ap (λ r. node_in i t ∷ r) (push-from hs (suc i) j h (omega arith))

pub push-at : (hs : List (Option Held)) (j : ℕ) (h : Held) → j ≡ length hs → nodes_from 0 (hs ++ Some h ∷ []) ≡ nodes_from 0 hs ++ node_in j h ∷ []
push-at hs j h e = push-from hs 0 j h (omega arith)

-- look-ups

abbrev pub taken_there : ℕ → Option (Option Held) → Bool
taken_there actor None = false
taken_there actor (Some None) = false
taken_there actor (Some (Some h)) = is_taker actor h.taker

is_taken-before : (a : ℕ) (hs : List (Option Held)) (i id : ℕ) → id < i → is_taken a id (nodes_from i hs) ≡ false
is_taken-before a [] i id h = refl
is_taken-before a (None ∷ hs) i id h = is_taken-before a hs (suc i) id (omega arith)
is_taken-before a (Some s ∷ hs) i id h =
    ap (λ b. (b && is_taker a s.taker) || is_taken a id (nodes_from (suc i) hs)) (above i id h) ∙ is_taken-before a hs (suc i) id (omega arith)

or_false : (b : Bool) → (b || false) ≡ b
or_false true = refl
or_false false = refl

is_taken-from : (a : ℕ) (hs : List (Option Held)) (i k id : ℕ) → id ≡ i + k → is_taken a id (nodes_from i hs) ≡ taken_there a (slice_get hs k)
is_taken-from a [] i k id e = refl
is_taken-from a (None ∷ hs) i zero id e = is_taken-before a hs (suc i) id (omega arith)
is_taken-from a (None ∷ hs) i (suc k) id e = is_taken-from a hs (suc i) k id (omega arith)
is_taken-from a (Some s ∷ hs) i zero id e =
    ap (λ b. (b && is_taker a s.taker) || is_taken a id (nodes_from (suc i) hs)) (equal i id (omega arith))
    ∙ ap (λ b. is_taker a s.taker || b) (is_taken-before a hs (suc i) id (omega arith)) ∙ or_false (is_taker a s.taker)
is_taken-from a (Some s ∷ hs) i (suc k) id e =
    ap (λ b. (b && is_taker a s.taker) || is_taken a id (nodes_from (suc i) hs)) (unlike i id (omega arith)) ∙ is_taken-from a hs (suc i) k id (omega arith)

pub is_taken-at : (a : ℕ) (hs : List (Option Held)) (id : ℕ) → is_taken a id (nodes_from 0 hs) ≡ taken_there a (slice_get hs id)
is_taken-at a hs id = is_taken-from a hs 0 id id (omega arith)

-- whether a node of an id stands whose taker passes a test

module _ (good : Option ℕ → Bool) where
  abbrev pub passes : RankedNode → Bool
  passes n = good n.taker

  abbrev pub good_there : Option (Option Held) → Bool
  good_there None = false
  good_there (Some None) = false
  good_there (Some (Some h)) = good h.taker

  has-before : (hs : List (Option Held)) (i id : ℕ) → id < i → has_id id (filter passes (nodes_from i hs)) ≡ false
  has-before [] i id h = refl
  has-before (None ∷ hs) i id h = has-before hs (suc i) id (omega arith)
  has-before (Some s ∷ hs) i id h = elim (good s.taker) as (λ b. has_id id (cond b (node_in i s ∷ filter passes (nodes_from (suc i) hs)) (filter passes (nodes_from (suc i) hs))) ≡ false) [
    | true ↦ ap (λ b. b || has_id id (filter passes (nodes_from (suc i) hs))) (above i id h) ∙ has-before hs (suc i) id (omega arith)
    | false ↦ has-before hs (suc i) id (omega arith)
  ]

  has-from : (hs : List (Option Held)) (i k id : ℕ) → id ≡ i + k → has_id id (filter passes (nodes_from i hs)) ≡ good_there (slice_get hs k)
  has-from [] i k id e = refl
  has-from (None ∷ hs) i zero id e = has-before hs (suc i) id (omega arith)
  has-from (None ∷ hs) i (suc k) id e = has-from hs (suc i) k id (omega arith)
  has-from (Some s ∷ hs) i zero id e = elim (good s.taker) as (λ b. has_id id (cond b (node_in i s ∷ filter passes (nodes_from (suc i) hs)) (filter passes (nodes_from (suc i) hs))) ≡ b) [
    | true ↦ ap (λ b. b || has_id id (filter passes (nodes_from (suc i) hs))) (equal i id (omega arith))
    | false ↦ has-before hs (suc i) id (omega arith)
  ]
  has-from (Some s ∷ hs) i (suc k) id e = elim (good s.taker) as (λ b. has_id id (cond b (node_in i s ∷ filter passes (nodes_from (suc i) hs)) (filter passes (nodes_from (suc i) hs))) ≡ good_there (slice_get hs k)) [
    | true ↦ ap (λ b. b || has_id id (filter passes (nodes_from (suc i) hs))) (unlike i id (omega arith)) ∙ has-from hs (suc i) k id (omega arith)
    | false ↦ has-from hs (suc i) k id (omega arith)
  ]

  pub has-at : (hs : List (Option Held)) (id : ℕ) → has_id id (filter passes (nodes_from 0 hs)) ≡ good_there (slice_get hs id)
  has-at hs id = has-from hs 0 id id (omega arith)

-- the node of an id lies in its slot
pub record Stood (hs : List (Option Held)) (i : ℕ) (n : RankedNode) : Type 0 where
  pub place : ℕ
  pub node : Held
  pub lies : slice_get hs place ≡ Some (Some node)
  pub id : n.id ≡ i + place
  pub is : n ≡ node_in n.id node

pub stood : (hs : List (Option Held)) (i : ℕ) (n : RankedNode) → IsIn n (nodes_from i hs) → Stood hs i n
stood [] i n h = absurd h
stood (None ∷ hs) i n h = let r = stood hs (suc i) n h in record { place = suc r.place; node = r.node; lies = r.lies; id = let e = r.id in omega (arith, e); is = r.is }
stood (Some s ∷ hs) i n (inl p) =
    let id-is : n.id ≡ i = ap (λ (m : RankedNode). m.id) (sym p) in record {
      place = 0;
      node = s;
      lies = refl;
      id = omega (arith, id-is);
      is = sym p ∙ ap (λ j. node_in j s) (sym id-is);
    }
stood (Some s ∷ hs) i n (inr h) = let r = stood hs (suc i) n h in record { place = suc r.place; node = r.node; lies = r.lies; id = let e = r.id in omega (arith, e); is = r.is }

pub is_in : (hs : List (Option Held)) (i k id : ℕ) (h : Held) → id ≡ i + k → slice_get hs k ≡ Some (Some h) → IsIn (node_in id h) (nodes_from i hs)
is_in [] i k id h e l = absurd (none_some refl l)
is_in (None ∷ hs) i zero id h e l = absurd (none_some refl (some_same l))
is_in (None ∷ hs) i (suc k) id h e l = is_in hs (suc i) k id h (omega arith) l
is_in (Some s ∷ hs) i zero id h e l = inl (let p = some_same (some_same l) in let q : i ≡ id = omega arith in λ j. node_in (q j) (p j))
is_in (Some s ∷ hs) i (suc k) id h e l = inr (is_in hs (suc i) k id h (omega arith) l)

-- nodes lie in the order of ids

later : (hs : List (Option Held)) (i j : ℕ) → i < j → list_all (λ (n : RankedNode). nat_lt i n.id) (nodes_from j hs) ≡ true
later [] i j h = refl
later (None ∷ hs) i j h = later hs i (suc j) (omega arith)
later (Some s ∷ hs) i j h = ap (λ b. b && list_all (λ (n : RankedNode). nat_lt i n.id) (nodes_from (suc j) hs)) (less i j h) ∙ later hs i (suc j) (omega arith)
  where
    less : (a b : ℕ) → a < b → nat_lt a b ≡ true
    less a b h = grind (arith, nat_tests)

pub rising : (hs : List (Option Held)) (i : ℕ) → each_pair (λ (m n : RankedNode). nat_lt m.id n.id) (nodes_from i hs) ≡ true
rising [] i = refl
rising (None ∷ hs) i = rising hs (suc i)
rising (Some s ∷ hs) i = ap (λ b. b && each_pair (λ (m n : RankedNode). nat_lt m.id n.id) (nodes_from (suc i) hs)) (later hs i (suc i) (omega arith)) ∙ rising hs (suc i)

pub given : (hs : List (Option Held)) (i made : ℕ) → i + length hs ≤ made → list_all (λ (n : RankedNode). nat_lt n.id made) (nodes_from i hs) ≡ true
given [] i made h = refl
given (None ∷ hs) i made h = given hs (suc i) made (omega arith)
given (Some s ∷ hs) i made h = ap (λ b. b && list_all (λ (n : RankedNode). nat_lt n.id made) (nodes_from (suc i) hs)) (less i made (omega arith)) ∙ given hs (suc i) made (omega arith)
  where
    less : (a b : ℕ) → a < b → nat_lt a b ≡ true
    less a b h = grind (arith, nat_tests)

-- both

and-left : (a b : Bool) → (a && b) ≡ true → a ≡ true
and-left true b h = refl
and-left false b h = h

and-right : (a b : Bool) → (a && b) ≡ true → b ≡ true
and-right true b h = h
and-right false b h = absurd (let f : ⊥ = cc in f)

-- members

pub all-member : {A : Type 0} (t : A → Bool) (xs : List A) (x : A) → list_all t xs ≡ true → IsIn x xs → t x ≡ true
all-member t [] x h i = absurd i
all-member t (y ∷ ys) x h (inl p) = ap t (sym p) ∙ and-left (t y) (list_all t ys) h
all-member t (y ∷ ys) x h (inr i) = all-member t ys x (and-right (t y) (list_all t ys) h) i

pub all-of : {A : Type 0} (t : A → Bool) (xs : List A) → ((x : A) → IsIn x xs → t x ≡ true) → list_all t xs ≡ true
all-of t [] h = refl
all-of t (y ∷ ys) h = ap (λ b. b && list_all t ys) (h y (inl refl)) ∙ all-of t ys (λ x i. h x (inr i))

pub none-in : {A : Type 0} (xs : List A) → ((x : A) → IsIn x xs → ⊥) → xs ≡ []
none-in [] h = refl
none-in (y ∷ ys) h = absurd (h y (inl refl))

pub kept : {A : Type 0} (t : A → Bool) (x : A) (xs : List A) → IsIn x xs → t x ≡ true → IsIn x (filter t xs)
kept t x [] h e = h
kept t x (y ∷ xs) (inl p) e = subst (λ b. IsIn x (cond b (y ∷ filter t xs) (filter t xs))) (sym (ap t p ∙ e)) (inl p)
kept t x (y ∷ xs) (inr p) e =
    let r = kept t x xs p e in
    elim (t y) as (λ b. IsIn x (cond b (y ∷ filter t xs) (filter t xs))) [ true ↦ inr r | false ↦ r ]

pub kept-of : {A : Type 0} (t : A → Bool) (x : A) (xs : List A) → IsIn x (filter t xs) → IsIn x xs × (t x ≡ true)
kept-of t x [] h = absurd h
kept-of t x (y ∷ xs) h =
    elim (t y) as (λ b. t y ≡ b → IsIn x (cond b (y ∷ filter t xs) (filter t xs)) → IsIn x (y ∷ xs) × (t x ≡ true)) [
      | true ↦ λ e i. here e (kept-of t x xs) i
      | false ↦ λ e i. let r = kept-of t x xs i in (inr r.0, r.1)
    ] refl h
  where
    here : t y ≡ true → (IsIn x (filter t xs) → IsIn x xs × (t x ≡ true)) → IsIn x (y ∷ filter t xs) → IsIn x (y ∷ xs) × (t x ≡ true)
    here e f (inl p) = (inl p, ap t (sym p) ∙ e)
    here e f (inr i) = let r = f i in (inr r.0, r.1)

pub record Found {A : Type 0} (t : A → Bool) (xs : List A) : Type 0 where
  pub item : A
  pub there : IsIn item xs
  pub meets : t item ≡ true

pub any-found : {A : Type 0} (t : A → Bool) (xs : List A) → list_any t xs ≡ true → Found t xs
any-found t [] h = absurd (let z : true ≡ false = sym h in let f : ⊥ = cc in f)
any-found t (y ∷ ys) h =
    elim (t y) as (λ b. t y ≡ b → (b || list_any t ys) ≡ true → Found t (y ∷ ys)) [
      | true ↦ λ e k. record { item = y; there = inl refl; meets = e }
      | false ↦ λ e k. let r = any-found t ys k in record { item = r.item; there = inr r.there; meets = r.meets }
    ] refl h

-- the least node

no_later-less : (a b c d : ℕ) → a < c → (nat_lt a c || (a == c && nat_le b d)) ≡ true
no_later-less a b c d h = grind (arith, nat_tests)

no_later-same : (a b c d : ℕ) → a ≡ c → b ≤ d → (nat_lt a c || (a == c && nat_le b d)) ≡ true
no_later-same a b c d h k = grind (arith, nat_tests)

no_later-both : (a b c d : ℕ) → (nat_lt a c || (a == c && nat_le b d)) ≡ true → (nat_lt c a || (c == a && nat_le d b)) ≡ true → (a ≡ c) × (b ≡ d)
no_later-both a b c d h k = (grind (arith, nat_tests), grind (arith, nat_tests))

pub least-same : (nodes : List RankedNode) (m n : RankedNode) → IsLeast nodes m → IsLeast nodes n → m.id ≡ n.id
least-same nodes m n h k =
    (no_later-both m.rank m.id n.rank n.id (all-member (no_later m) nodes n h.least k.there) (all-member (no_later n) nodes m k.least h.there)).1

pub none-least : (nodes : List RankedNode) (n : RankedNode) → nodes ≡ [] → IsLeast nodes n → ⊥
none-least nodes n e h = subst (IsIn n) e h.there

-- the ids of nodes count under their ranks, and no others
pub record Mirrors (ks : List (Option ℕ)) (nodes : List RankedNode) : Type 0 where
  pub key : (m : RankedNode) → IsIn m nodes → slice_get ks m.id ≡ Some (Some m.rank)
  pub node : (f r : ℕ) → slice_get ks f ≡ Some (Some r) → (m : RankedNode) × (IsIn m nodes × ((m.id ≡ f) × (m.rank ≡ r)))

order : (a b : ℕ) → (a < b) ⊎ ((a ≡ b) ⊎ (b < a))
order a b = elim (cases_lt a b) [ inl y ↦ inl y | inr n ↦ elim (cases_lt b a) [ inl y ↦ inr (inr y) | inr m ↦ inr (inl (omega (arith, n, m))) ] ]

-- the head of the least rank that has one is the least node's id
pub least-of : (ks heads : List (Option ℕ)) (nodes : List RankedNode) (rank id : ℕ) → Mirrors ks nodes → AreHeads ks heads → LeastHead heads rank id → (n : RankedNode) × (IsLeast nodes n × ((n.id ≡ id) × (n.rank ≡ rank)))
least-of ks heads nodes rank id m h least =
    let first : FirstAt rank 0 id ks = subst (IsFirst rank 0 ks) least.is (h rank) in
    let n = m.node id rank first.key in (
      n.0,
      (
        record {
          there = n.1.0;
          least = all-of (no_later n.0) nodes (λ x i. later x (m.key x i) n.0 n.1.1.0 n.1.1.1 first);
        },
        n.1.1,
      ),
    )
  where
    later : (x : RankedNode) → slice_get ks x.id ≡ Some (Some x.rank) → (n : RankedNode) → n.id ≡ id → n.rank ≡ rank → FirstAt rank 0 id ks → no_later n x ≡ true
    later x k n e q first = elim (order n.rank x.rank) [
      | inl less ↦ no_later-less n.rank n.id x.rank x.id less
      | inr (inl is) ↦ no_later-same n.rank n.id x.rank x.id is (elim (cases_lt x.id id) [
        | inl before ↦ absurd (first.before x.id (omega arith) before (k ∙ ap (λ r. Some (Some r)) (sym is ∙ q)))
        | inr ge ↦ omega (arith, ge, e)
      ])
      | inr (inr more) ↦
          let none : NoneFrom x.rank 0 ks = subst (IsFirst x.rank 0 ks) (least.before x.rank (omega (arith, more, q))) (h x.rank) in absurd (none x.id (omega arith) k)
    ]

-- where no rank has a head, no node is there
pub none-of : (ks heads : List (Option ℕ)) (nodes : List RankedNode) → Mirrors ks nodes → AreHeads ks heads → ((r : ℕ) → head_at heads r ≡ None) → nodes ≡ []
none-of ks heads nodes m h none = none-in nodes (λ x i.
    let first : NoneFrom x.rank 0 ks = subst (IsFirst x.rank 0 ks) (none x.rank) (h x.rank) in first x.id (omega arith) (m.key x i))

-- what stands in slots

pub helds-length : (words : List (List Mark)) (slots : List Slot) → length words ≡ length slots → length (helds words slots) ≡ length slots
helds-length words [] e = refl
helds-length [] (s ∷ slots) e = absurd (let z : ⊥ = omega arith in z)
helds-length (w ∷ words) (s ∷ slots) e = let r = helds-length words slots (omega arith) in omega (arith, r)

pub helds-get : (words : List (List Mark)) (slots : List Slot) (k : ℕ) (s : Slot) → length words ≡ length slots → slice_get slots k ≡ Some s → slice_get (helds words slots) k ≡ Some (held (word_of words k) s)
helds-get words [] k s e h = absurd (none_some refl h)
helds-get [] (t ∷ slots) k s e h = absurd (let z : ⊥ = omega arith in z)
helds-get (w ∷ words) (t ∷ slots) zero s e h = ap (λ (u : Slot). Some (held w u)) (some_same h)
helds-get (w ∷ words) (t ∷ slots) (suc k) s e h = helds-get words slots k s (omega arith) h

pub helds-set : (words : List (List Mark)) (slots : List Slot) (k : ℕ) (s : Slot) → length words ≡ length slots → helds words (set slots k s) ≡ set (helds words slots) k (held (word_of words k) s)
helds-set words [] k s e = refl
helds-set [] (t ∷ slots) k s e = absurd (let z : ⊥ = omega arith in z)
helds-set (w ∷ words) (t ∷ slots) zero s e = refl
helds-set (w ∷ words) (t ∷ slots) (suc k) s e = ap (λ r. held w t ∷ r) (helds-set words slots k s (omega arith))

pub helds-push : (words : List (List Mark)) (slots : List Slot) (w : List Mark) (s : Slot) → length words ≡ length slots → helds (words ++ w ∷ []) (slots ++ s ∷ []) ≡ helds words slots ++ held w s ∷ []
helds-push [] [] w s e = refl
helds-push (v ∷ words) [] w s e = absurd (let z : ⊥ = omega arith in z)
helds-push [] (t ∷ slots) w s e = absurd (let z : ⊥ = omega arith in z)
helds-push (v ∷ words) (t ∷ slots) w s e = ap (λ r. held v t ∷ r) (helds-push words slots w s (omega arith))
