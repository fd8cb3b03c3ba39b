-- Children in the place of a node: those that are live come in one by one, then the node leaves.
use Rattle.std.proofs.Common.{◌≡◌, refl, sym, ap, subst, ◌∙◌, inl, inr, ℕ, suc, ◌+◌, ◌<◌, ◌≤◌, Bool, true, false, not, ◌&&◌, ◌||◌, ◌==◌, nat_lt, nat_le, cond, List, [], ◌∷◌, ◌++◌, length, get_or, arith, take, zero, length-append}
use Rattle.std.proofs.lemmas.List.{take_more, take_all, append-nil}
use Rattle.std.proofs.lemmas.Bool.Decides.{nat_tests}
use Rattle.std.specs.List.{filter, list_all}
use Rattle.tp_spec.specs.Lists.{IsIn}
use Rattle.tp_spec.specs.declared.plan.Mark.{Mark}
use Rattle.word_frontier.specs.declared.child.Child.{Child}
use Rattle.word_frontier.specs.Nodes.{FrontierView, RankedNode, without, is_taker, is_taken, has_id, word_at, StandsAt, child_of, children_from, live_at}
use Rattle.word_frontier.proofs.Places.{above, equals}
use Rattle.word_frontier.proofs.Nodes.{all-member}

-- live children

filter-push : {A : Type 0} (t : A → Bool) (xs : List A) (x : A) → filter t (xs ++ x ∷ []) ≡ filter t xs ++ cond (t x) (x ∷ []) []
filter-push t [] x = refl
filter-push t (y ∷ xs) x =
    elim (t y) as (λ b. cond b (y ∷ filter t (xs ++ x ∷ [])) (filter t (xs ++ x ∷ [])) ≡ cond b (y ∷ filter t xs) (filter t xs) ++ cond (t x) (x ∷ []) []) [
      | true ↦ ap (λ r. y ∷ r) (filter-push t xs x)
      | false ↦ filter-push t xs x
    ]

filter-take : {A : Type 0} (t : A → Bool) (xs : List A) (k : ℕ) → length (filter t (take k xs)) ≤ length (filter t xs)
filter-take t [] zero = omega arith
filter-take t [] (suc k) = omega arith
filter-take t (y ∷ xs) zero = omega arith
filter-take t (y ∷ xs) (suc k) =
    let r = filter-take t xs k in
    elim (t y) as (λ b. length (cond b (y ∷ filter t (take k xs)) (filter t (take k xs))) ≤ length (cond b (y ∷ filter t xs) (filter t xs))) [
      | true ↦ omega (arith, r)
      | false ↦ r
    ]

live-more : (now k : ℕ) (children : List Child) (d : Child) → k < length children → live_at now (take (k + 1) children) ≡ live_at now (take k children) ++ cond (nat_le now (get_or children k d).deadline) (get_or children k d ∷ []) []
live-more now k children d h = ap (live_at now) (take_more children k d h) ∙ filter-push (λ (c : Child). nat_le now c.deadline) (take k children) (get_or children k d)

pub live-yes : (now k : ℕ) (children : List Child) (d : Child) → k < length children → nat_le now (get_or children k d).deadline ≡ true → live_at now (take (k + 1) children) ≡ live_at now (take k children) ++ get_or children k d ∷ []
live-yes now k children d h e = live-more now k children d h ∙ ap (λ b. live_at now (take k children) ++ cond b (get_or children k d ∷ []) []) e

pub live-no : (now k : ℕ) (children : List Child) (d : Child) → k < length children → nat_le now (get_or children k d).deadline ≡ false → live_at now (take (k + 1) children) ≡ live_at now (take k children)
live-no now k children d h e = live-more now k children d h ∙ ap (λ b. live_at now (take k children) ++ cond b (get_or children k d ∷ []) []) e ∙ append-nil (live_at now (take k children))

pub live-count : (now k : ℕ) (children : List Child) (d : Child) → k < length children → nat_le now (get_or children k d).deadline ≡ true → length (live_at now (take (k + 1) children)) ≡ length (live_at now (take k children)) + 1
live-count now k children d h e = ap length (live-yes now k children d h e) ∙ length-append (live_at now (take k children)) (get_or children k d ∷ [])

-- there is one more among all that are live
pub live-below : (now k : ℕ) (children : List Child) (d : Child) → k < length children → nat_le now (get_or children k d).deadline ≡ true → length (live_at now (take k children)) < length (live_at now children)
live-below now k children d h e = let n = live-count now k children d h e in let m = filter-take (λ (c : Child). nat_le now c.deadline) children (k + 1) in omega (arith, n, m)

-- children behind others

children-push : (known : ℕ) (base : List RankedNode) (w : List Mark) (made j : ℕ) (children : List Child) (c : Child) → j ≡ made + length children
    → (base ++ children_from known w made children) ++ child_of known j w c ∷ [] ≡ base ++ children_from known w made (children ++ c ∷ [])
children-push known [] w made j [] c n = ap (λ i. child_of known i w c ∷ []) (let p : j ≡ made = omega arith in p)
children-push known [] w made j (d ∷ children) c n = ap (λ rest. child_of known made w d ∷ rest) (children-push known [] w (suc made) j children c (omega arith))
children-push known (b ∷ base) w made j children c n = ap (λ rest. b ∷ rest) (children-push known base w made j children c n)

-- children have later ids than the node that leaves
without-children : (known : ℕ) (w : List Mark) (id made : ℕ) (children : List Child) → id < made → without id (children_from known w made children) ≡ children_from known w made children
without-children known w id made [] h = refl
without-children known w id made (c ∷ children) h =
    let rest = children_from known w (suc made) children in
    ap (λ b. cond (not b) (child_of known made w c ∷ without id rest) (without id rest)) (above made id h) ∙ ap (λ r. child_of known made w c ∷ r) (without-children known w id (suc made) children (omega arith))

without-family : (known : ℕ) (base : List RankedNode) (w : List Mark) (id made : ℕ) (children : List Child) → id < made → without id (base ++ children_from known w made children) ≡ without id base ++ children_from known w made children
without-family known [] w id made children h = without-children known w id made children h
without-family known (b ∷ base) w id made children h =
    elim (b.id == id) as (λ t. cond (not t) (b ∷ without id (base ++ children_from known w made children)) (without id (base ++ children_from known w made children)) ≡ cond (not t) (b ∷ without id base) (without id base) ++ children_from known w made children) [
      | true ↦ without-family known base w id made children h
      | false ↦ ap (λ r. b ∷ r) (without-family known base w id made children h)
    ]

-- the word of a node that an actor took
pub stands-taken : (a id : ℕ) (nodes : List RankedNode) → is_taken a id nodes ≡ true → StandsAt (word_at id nodes) id nodes
stands-taken a id [] h = absurd (let z : true ≡ false = sym h in let f : ⊥ = cc in f)
stands-taken a id (n ∷ nodes) h =
    elim (n.id == id) as (λ b. (n.id == id) ≡ b → ((b && is_taker a n.taker) || is_taken a id nodes) ≡ true → StandsAt (cond b n.word (word_at id nodes)) id (n ∷ nodes)) [
      | true ↦ λ e k. record { node = n; there = inl refl; id_is = equals n.id id e; word_is = refl }
      | false ↦ λ e k. let r = stands-taken a id nodes k in record { node = r.node; there = inr r.there; id_is = r.id_is; word_is = r.word_is }
    ] refl h

in-more : {A : Type 0} (x : A) (xs ys : List A) → IsIn x xs → IsIn x (xs ++ ys)
in-more x [] ys h = absurd h
in-more x (y ∷ xs) ys (inl p) = inl p
in-more x (y ∷ xs) ys (inr p) = inr (in-more x xs ys p)

stands-more : (w : List Mark) (id : ℕ) (nodes more : List RankedNode) → StandsAt w id nodes → StandsAt w id (nodes ++ more)
stands-more w id nodes more s = record { node = s.node; there = in-more s.node nodes more s.there; id_is = s.id_is; word_is = s.word_is }

-- a node that an actor took stands, also behind children
pub has_id-taken : (a id : ℕ) (nodes more : List RankedNode) → is_taken a id nodes ≡ true → has_id id (nodes ++ more) ≡ true
has_id-taken a id [] more h = absurd (let z : true ≡ false = sym h in let f : ⊥ = cc in f)
has_id-taken a id (n ∷ nodes) more h =
    elim (n.id == id) as (λ b. ((b && is_taker a n.taker) || is_taken a id nodes) ≡ true → (b || has_id id (nodes ++ more)) ≡ true) [
      | true ↦ λ k. refl
      | false ↦ λ k. has_id-taken a id nodes more k
    ] h

-- a node that stands was given its id
pub given-id : (w : List Mark) (id made : ℕ) (nodes : List RankedNode) → StandsAt w id nodes → list_all (λ (n : RankedNode). nat_lt n.id made) nodes ≡ true → id < made
given-id w id made nodes s h = subst (λ j. j < made) s.id_is (less s.node.id made (all-member (λ (n : RankedNode). nat_lt n.id made) nodes s.node h s.there))
  where
    less : (a b : ℕ) → nat_lt a b ≡ true → a < b
    less a b h = grind (arith, nat_tests)

-- one child more of a node that an actor took
pub entered-at : (known : ℕ) (base now new : List RankedNode) (a id made j clock k : ℕ) (children : List Child) (d : Child) → is_taken a id base ≡ true → k < length children → nat_le clock (get_or children k d).deadline ≡ true
    → j ≡ made + length (live_at clock (take k children)) → now ≡ base ++ children_from known (word_at id base) made (live_at clock (take k children))
    → ((w : List Mark) → StandsAt w id now → new ≡ now ++ child_of known j w (get_or children k d) ∷ []) → new ≡ base ++ children_from known (word_at id base) made (live_at clock (take (k + 1) children))
entered-at known base now new a id made j clock k children d taken lt live n is grown =
    let w : List Mark = word_at id base in
    let old : List Child = live_at clock (take k children) in
    let stands = subst (λ (xs : List RankedNode). StandsAt w id xs) (sym is) (stands-more w id base (children_from known w made old) (stands-taken a id base taken)) in
    grown w stands ∙ ap (λ xs. xs ++ child_of known j w (get_or children k d) ∷ []) is ∙ children-push known base w made j old (get_or children k d) n
    ∙ ap (λ cs. base ++ children_from known w made cs) (sym (live-yes clock k children d lt live))

-- all children are there, and the node leaves
pub expanded : (known : ℕ) (base now new : List RankedNode) (a id made clock k : ℕ) (children : List Child) → is_taken a id base ≡ true → list_all (λ (n : RankedNode). nat_lt n.id made) base ≡ true → length children ≤ k
    → now ≡ base ++ children_from known (word_at id base) made (live_at clock (take k children)) → new ≡ without id now → new ≡ without id base ++ children_from known (word_at id base) made (live_at clock children)
expanded known base now new a id made clock k children taken below all is left =
    let w : List Mark = word_at id base in
    left ∙ ap (without id) (is ∙ ap (λ cs. base ++ children_from known w made (live_at clock cs)) (take_all k children all))
    ∙ without-family known base w id made (live_at clock children) (given-id w id made base (stands-taken a id base taken) below)

-- what stands once some of the children were seen
pub record Grown (known : ℕ) (old new : FrontierView) (id clock k : ℕ) (children : List Child) : Type 0 where
  pub nodes : new.nodes ≡ old.nodes ++ children_from known (word_at id old.nodes) old.made (live_at clock (take k children))
  pub made : new.made ≡ old.made + length (live_at clock (take k children))
  pub ranks : new.ranks ≡ old.ranks
  pub room : old.room ≤ new.room + length (live_at clock (take k children))

-- what a child's coming in does
pub record Entered (known : ℕ) (now new : FrontierView) (id : ℕ) (c : Child) : Type 0 where
  pub nodes : (w : List Mark) → StandsAt w id now.nodes → new.nodes ≡ now.nodes ++ child_of known now.made w c ∷ []
  pub made : new.made ≡ now.made + 1
  pub ranks : new.ranks ≡ now.ranks
  pub room : now.room ≤ new.room + 1

yes : (a b : ℕ) → a ≤ b → nat_le a b ≡ true
yes a b h = grind (arith, nat_tests)

no : (a b : ℕ) → b < a → nat_le a b ≡ false
no a b h = grind (arith, nat_tests)

pub grown-yes : (known : ℕ) (old now new : FrontierView) (a id clock k : ℕ) (children : List Child) (d : Child) → is_taken a id old.nodes ≡ true → Grown known old now id clock k children → k < length children → clock ≤ (get_or children k d).deadline
    → Entered known now new id (get_or children k d) → Grown known old new id clock (k + 1) children
grown-yes known old now new a id clock k children d taken g lt live e =
    let t = yes clock (get_or children k d).deadline live in
    let n = live-count clock k children d lt t in record {
      nodes = entered-at known old.nodes now.nodes new.nodes a id old.made now.made clock k children d taken lt t g.made g.nodes e.nodes;
      made = let p = e.made in let q = g.made in omega (arith, n, p, q);
      ranks = e.ranks ∙ g.ranks;
      room = let p = e.room in let q = g.room in omega (arith, n, p, q);
    }

pub grown-no : (known : ℕ) (old now : FrontierView) (id clock k : ℕ) (children : List Child) (d : Child) → Grown known old now id clock k children → k < length children → (get_or children k d).deadline < clock → Grown known old now id clock (k + 1) children
grown-no known old now id clock k children d g lt dead =
    let same = live-no clock k children d lt (no clock (get_or children k d).deadline dead) in
    let n = ap length same in record {
      nodes = g.nodes ∙ ap (λ cs. old.nodes ++ children_from known (word_at id old.nodes) old.made cs) (sym same);
      made = let q = g.made in omega (arith, n, q);
      ranks = g.ranks;
      room = let q = g.room in omega (arith, n, q);
    }

pub room-for : (clock k : ℕ) (children : List Child) (d : Child) → k < length children → clock ≤ (get_or children k d).deadline → length (live_at clock (take k children)) < length (live_at clock children)
room-for clock k children d lt live = live-below clock k children d lt (yes clock (get_or children k d).deadline live)
