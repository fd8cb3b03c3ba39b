-- The frontier that is kept and the machine's, event by event.
use Rattle.std.proofs.Common.{◌≡◌, refl, sym, ap, subst, ◌∙◌, ℕ, suc, ◌+◌, ◌≤◌, inl, inr, ◌==◌, ◌||◌, ◌&&◌, nat_lt, nat_le, Bool, true, false, not, cond, List, [], ◌∷◌, ◌++◌, length, map, take, Option, Some, None, arith}
use Rattle.std.specs.List.{list_all}
use Rattle.std.proofs.lemmas.Bool.{and_parts, and_from, or_cases, false≢true, eqb-true}
use Rattle.std.proofs.lemmas.List.{length-append, map-append, take_all, take-append-le}
use Rattle.tp_spec.specs.declared.event.Event.TheVariants.{Drop, Dispatch, Take, Expand}
use Rattle.tp_spec.specs.declared.plan.Limits.{Limits}
use Rattle.tp_spec.specs.declared.plan.Mark.{Mark}
use Rattle.tp_spec.specs.declared.plan.Timed.{Timed}
use Rattle.tp_spec.specs.declared.problem.Problem.{Problem}
use Rattle.tp_spec.specs.Lists.{IsIn}
use Rattle.tp_spec.specs.Machine.{Machine, Node, step, rank, no_worse, IsBest, IsTaken, taken_by, without, children, word_of}
use Rattle.tp_spec.specs.Machine as machine
use Rattle.tp_laws.specs.Clocks.{IsDeadline}
use Rattle.tp_laws.proofs.EarlyLists.{filter-map}
use Rattle.tp_laws.proofs.Members.{in-filter, in-append, in-map, map-in}
use Rattle.word_frontier.specs.declared.child.Child.{Child}
use Rattle.word_frontier.specs.Nodes.{RankedNode, FrontierView, IsLeast, no_later, is_taken, is_taker, children_from, child_of, renewed}
use Rattle.word_frontier.specs.Nodes as kept
use Rattle.machine_run.specs.Children.{IsChild, marks_of}
use Rattle.machine_run.specs.Frontiers.{IsFrontierOf, plain_node}

-- the kept rank of a node is its word's, and the kept deadline is under so many of the commitments
pub record IsTold (p : Problem) (l : Limits) (commits : List Timed) (n : RankedNode) : Type 0 where
  pub ranked : n.rank ≡ rank p n.word
  pub known : n.known ≤ length commits
  pub timely : IsDeadline p l (take n.known commits) n.word n.deadline

pub told-in : (p : Problem) (l : Limits) (f : FrontierView) (m : Machine) → IsFrontierOf p l f m → (n : RankedNode) → IsIn n f.nodes → IsTold p l m.commits n
told-in p l f m is n i = record { ranked = is.ranked n i; known = is.known n i; timely = is.timely n i }

-- a deadline that was found under all commitments
pub told-all : (p : Problem) (l : Limits) (commits : List Timed) (n : RankedNode) → IsTold p l commits n → n.known ≡ length commits → IsDeadline p l commits n.word n.deadline
told-all p l commits n t all = subst (λ cs. IsDeadline p l cs n.word n.deadline) (take_all n.known commits (omega (arith, all))) t.timely

all-told : (p : Problem) (l : Limits) (commits : List Timed) (n : RankedNode) → n.rank ≡ rank p n.word → n.known ≡ length commits → IsDeadline p l commits n.word n.deadline → IsTold p l commits n
all-told p l commits n ranked all timely = record {
  ranked = ranked;
  known = omega (arith, all);
  timely = subst (λ cs. IsDeadline p l cs n.word n.deadline) (sym (take_all n.known commits (omega (arith, all)))) timely;
}

-- commitments that come behind change nothing
told-more : (p : Problem) (l : Limits) (commits more : List Timed) (n : RankedNode) → IsTold p l commits n → IsTold p l (commits ++ more) n
told-more p l commits more n t = record {
  ranked = t.ranked;
  known = omega (arith, t.known, length-append commits more);
  timely = subst (λ cs. IsDeadline p l cs n.word n.deadline) (sym (take-append-le n.known commits more t.known)) t.timely;
}

-- a frontier by its nodes
pub frontier-by : (p : Problem) (l : Limits) (g : FrontierView) (m : Machine) → map plain_node g.nodes ≡ m.nodes → g.made ≡ m.made → ((n : RankedNode) → IsIn n g.nodes → IsTold p l m.commits n) → IsFrontierOf p l g m
frontier-by p l g m nodes made told = record { nodes = nodes; made = made; ranked = λ n i. (told n i).ranked; known = λ n i. (told n i).known; timely = λ n i. (told n i).timely }

-- the same nodes under the same commitments
pub frontier-same : (p : Problem) (l : Limits) (f g : FrontierView) (m n : Machine) → g.nodes ≡ f.nodes → g.made ≡ f.made → n.nodes ≡ m.nodes → n.made ≡ m.made → n.commits ≡ m.commits → IsFrontierOf p l f m → IsFrontierOf p l g n
frontier-same p l f g m n nodes made same given commits is =
    frontier-by p l g n (ap (map plain_node) nodes ∙ is.nodes ∙ sym same) (made ∙ is.made ∙ sym given)
    (λ k i. subst (λ cs. IsTold p l cs k) (sym commits) (told-in p l f m is k (subst (λ ns. IsIn k ns) nodes i)))

-- one commitment more
pub frontier-dispatch : (p : Problem) (l : Limits) (f : FrontierView) (m : Machine) (act : Timed) → IsFrontierOf p l f m → IsFrontierOf p l f (step l m (Dispatch act))
frontier-dispatch p l f m act is = frontier-by p l f (step l m (Dispatch act)) is.nodes is.made (λ n i. told-more p l m.commits (act ∷ []) n (told-in p l f m is n i))

-- a node with a deadline that was found under all commitments

plain-renewed : (id deadline known : ℕ) (ns : List RankedNode) → map plain_node (map (renewed id deadline known) ns) ≡ map plain_node ns
plain-renewed id deadline known [] = refl
plain-renewed id deadline known (n ∷ ns) = λ i. by_test (n.id == id) i ∷ plain-renewed id deadline known ns i where
  by_test : (b : Bool) → plain_node (cond b (record n { deadline = deadline; known = known }) n) ≡ plain_node n
  by_test true = refl
  by_test false = refl

renewed-told : (p : Problem) (l : Limits) (commits : List Timed) (id deadline known : ℕ) (n : RankedNode) → known ≡ length commits → (n.id ≡ id → IsDeadline p l commits n.word deadline) → IsTold p l commits n → IsTold p l commits (renewed id deadline known n)
renewed-told p l commits id deadline known n all timely t = by_test (n.id == id) refl where
  by_test : (b : Bool) → (n.id == id) ≡ b → IsTold p l commits (cond b (record n { deadline = deadline; known = known }) n)
  by_test true e = all-told p l commits (record n { deadline = deadline; known = known }) t.ranked all (timely (eqb-true n.id id e))
  by_test false e = t

pub frontier-renew : (p : Problem) (l : Limits) (f g : FrontierView) (m : Machine) (id deadline known : ℕ) → g.nodes ≡ map (renewed id deadline known) f.nodes → g.made ≡ f.made → known ≡ length m.commits
    → ((n : RankedNode) → IsIn n f.nodes → n.id ≡ id → IsDeadline p l m.commits n.word deadline) → IsFrontierOf p l f m → IsFrontierOf p l g m
frontier-renew p l f g m id deadline known nodes made all timely is =
    frontier-by p l g m
    (ap (map plain_node) nodes ∙ plain-renewed id deadline known f.nodes ∙ is.nodes)
    (made ∙ is.made)
    (λ n i.
    let from = in-map (renewed id deadline known) n f.nodes (subst (λ ns. IsIn n ns) nodes i) in
    subst (IsTold p l m.commits) from.2 (renewed-told p l m.commits id deadline known from.0 all (timely from.0 from.1) (told-in p l f m is from.0 from.1)))

pub frontier-drop : (p : Problem) (l : Limits) (f g : FrontierView) (m : Machine) (id : ℕ) → g.nodes ≡ kept.without id f.nodes → g.made ≡ f.made → IsFrontierOf p l f m → IsFrontierOf p l g (step l m (Drop id))
frontier-drop p l f g m id nodes made is =
    frontier-by p l g (step l m (Drop id))
    (ap (map plain_node) nodes ∙ sym (filter-map (λ k. not (k.id == id)) plain_node f.nodes) ∙ ap (without id) is.nodes)
    (made ∙ is.made)
    (λ k i. told-in p l f m is k (in-filter (λ x. not (x.id == id)) k f.nodes (subst (λ ns. IsIn k ns) nodes i)))

plain-taken : (actor id : ℕ) (ns : List RankedNode) → map plain_node (map (kept.taken_by actor id) ns) ≡ map (taken_by actor id) (map plain_node ns)
plain-taken actor id [] = refl
plain-taken actor id (n ∷ ns) = λ i. by_test (n.id == id) i ∷ plain-taken actor id ns i where
  by_test : (b : Bool) → plain_node (cond b (record n { taker = Some actor }) n) ≡ cond b (record (plain_node n) { taker = Some actor }) (plain_node n)
  by_test true = refl
  by_test false = refl

taken-told : (p : Problem) (l : Limits) (commits : List Timed) (actor id : ℕ) (n : RankedNode) → IsTold p l commits n → IsTold p l commits (kept.taken_by actor id n)
taken-told p l commits actor id n e = elim (n.id == id) as (λ b. IsTold p l commits (cond b (record n { taker = Some actor }) n)) [
  | true ↦ record { ranked = e.ranked; known = e.known; timely = e.timely }
  | false ↦ e
]

pub frontier-take : (p : Problem) (l : Limits) (f g : FrontierView) (m : Machine) (actor id : ℕ) → g.nodes ≡ map (kept.taken_by actor id) f.nodes → g.made ≡ f.made → IsFrontierOf p l f m → IsFrontierOf p l g (step l m (Take actor id))
frontier-take p l f g m actor id nodes made is =
    frontier-by p l g (step l m (Take actor id))
    (ap (map plain_node) nodes ∙ plain-taken actor id f.nodes ∙ ap (map (taken_by actor id)) is.nodes)
    (made ∙ is.made)
    (λ n i.
    let from = in-map (kept.taken_by actor id) n f.nodes (subst (λ ns. IsIn n ns) nodes i) in
    subst (IsTold p l m.commits) from.2 (taken-told p l m.commits actor id from.0 (told-in p l f m is from.0 from.1)))

-- children

plain-children : (known : ℕ) (w : List Mark) (made : ℕ) (cs : List Child) → map plain_node (children_from known w made cs) ≡ children w made (marks_of cs)
plain-children known w made [] = refl
plain-children known w made (c ∷ cs) = λ i. record { id = made; word = w ++ c.mark ∷ []; taker = None } ∷ plain-children known w (suc made) cs i

child-told : (p : Problem) (l : Limits) (commits : List Timed) (known : ℕ) (w : List Mark) (made : ℕ) (cs : List Child) → known ≡ length commits → ((c : Child) → IsIn c cs → IsChild p l commits w c)
    → (n : RankedNode) → IsIn n (children_from known w made cs) → IsTold p l commits n
child-told p l commits known w made [] all each n h = absurd h
child-told p l commits known w made (c ∷ cs) all each n (inl e) = subst (IsTold p l commits) e (all-told p l commits (child_of known made w c) (each c (inl refl)).ranked all (each c (inl refl)).timely)
child-told p l commits known w made (c ∷ cs) all each n (inr h) = child-told p l commits known w (suc made) cs all (λ d i. each d (inr i)) n h

-- the word of an id is the machine's
pub word-at : (id : ℕ) (ns : List RankedNode) → word_of id (map plain_node ns) ≡ kept.word_at id ns
word-at id [] = refl
word-at id (n ∷ ns) = ap (cond (n.id == id) n.word) (word-at id ns)

pub frontier-expand : (p : Problem) (l : Limits) (f g : FrontierView) (m : Machine) (actor id known : ℕ) (cs : List Child) → known ≡ length m.commits
    → ((c : Child) → IsIn c cs → IsChild p l m.commits (kept.word_at id f.nodes) c)
    → g.nodes ≡ kept.without id f.nodes ++ children_from known (kept.word_at id f.nodes) f.made cs → g.made ≡ f.made + length (marks_of cs)
    → IsFrontierOf p l f m → IsFrontierOf p l g (step l m (Expand actor id (marks_of cs)))
frontier-expand p l f g m actor id known cs all each nodes made is =
    let w : List Mark = kept.word_at id f.nodes in
    let at : w ≡ word_of id m.nodes = sym (word-at id f.nodes) ∙ ap (word_of id) is.nodes in
    let left : map plain_node (kept.without id f.nodes) ≡ without id m.nodes = sym (filter-map (λ k. not (k.id == id)) plain_node f.nodes) ∙ ap (without id) is.nodes in
    let right : map plain_node (children_from known w f.made cs) ≡ children (word_of id m.nodes) m.made (marks_of cs) = plain-children known w f.made cs ∙ (λ i. children (at i) (is.made i) (marks_of cs)) in
    frontier-by p l g (step l m (Expand actor id (marks_of cs)))
    (ap (map plain_node) nodes ∙ map-append plain_node (kept.without id f.nodes) (children_from known w f.made cs) ∙ (λ i. left i ++ right i))
    (made ∙ ap (λ k. k + length (marks_of cs)) is.made)
    (λ n i. elim (in-append n (kept.without id f.nodes) (children_from known w f.made cs) (subst (λ ns. IsIn n ns) nodes i)) [
      | inl k ↦ told-in p l f m is n (in-filter (λ x. not (x.id == id)) n f.nodes k)
      | inr k ↦ child-told p l m.commits known w f.made cs all each n k
    ])

-- the least nodes

worse-each : (p : Problem) (n : RankedNode) → n.rank ≡ rank p n.word → (ns : List RankedNode) → ((k : RankedNode) → IsIn k ns → k.rank ≡ rank p k.word)
    → list_all (no_later n) ns ≡ true → list_all (no_worse p (plain_node n)) (map plain_node ns) ≡ true
worse-each p n e [] ranked h = refl
worse-each p n e (k ∷ ns) ranked h =
    let d : k.rank ≡ rank p k.word = ranked k (inl refl) in
    and_from _ _
    ((λ i. nat_lt (sym e i) (sym d i) || (sym e i == sym d i && nat_le n.id k.id)) ∙ (and_parts _ _ h).0)
    (worse-each p n e ns (λ x i. ranked x (inr i)) (and_parts _ _ h).1)

-- the least node is the machine's best
pub least-best : (p : Problem) (l : Limits) (f : FrontierView) (m : Machine) (n : RankedNode) → IsFrontierOf p l f m → IsLeast f.nodes n → IsBest p m.nodes (plain_node n)
least-best p l f m n is h = subst (λ ns. IsBest p ns (plain_node n)) is.nodes (record {
  there = map-in plain_node n f.nodes h.there;
  least = worse-each p n (is.ranked n h.there) f.nodes is.ranked h.least;
})

-- the machine's open nodes are the open ones
pub opened : (p : Problem) (l : Limits) (f : FrontierView) (m : Machine) → IsFrontierOf p l f m → machine.open_nodes m.nodes ≡ map plain_node (kept.open_nodes f.nodes)
opened p l f m is = ap machine.open_nodes (sym is.nodes) ∙ filter-map machine.is_open plain_node f.nodes

pub least-open-best : (p : Problem) (l : Limits) (f : FrontierView) (m : Machine) (n : RankedNode) → IsFrontierOf p l f m → IsLeast (kept.open_nodes f.nodes) n → IsBest p (machine.open_nodes m.nodes) (plain_node n)
least-open-best p l f m n is h = subst (λ ns. IsBest p ns (plain_node n)) (sym (opened p l f m is)) (record {
  there = map-in plain_node n (kept.open_nodes f.nodes) h.there;
  least = worse-each p n (is.ranked n (in-filter kept.is_open n f.nodes h.there)) (kept.open_nodes f.nodes) (λ k i. is.ranked k (in-filter kept.is_open k f.nodes i)) h.least;
})

-- a node of the frontier stands in the machine
pub stands-in : (p : Problem) (l : Limits) (f : FrontierView) (m : Machine) (n : RankedNode) → IsFrontierOf p l f m → IsIn n f.nodes → IsIn (plain_node n) m.nodes
stands-in p l f m n is h = subst (λ ns. IsIn (plain_node n) ns) is.nodes (map-in plain_node n f.nodes h)

-- a node that an actor took, as the machine has it
pub record IsFound (m : Machine) (actor id : ℕ) : Type 0 where
  pub node : Node
  pub taken : IsTaken m actor id node

record IsKeptNode (ns : List RankedNode) (actor id : ℕ) : Type 0 where
  node : RankedNode
  there : IsIn node ns
  named : node.id ≡ id
  taken : node.taker ≡ Some actor

taker-is : (actor : ℕ) (taker : Option ℕ) → is_taker actor taker ≡ true → taker ≡ Some actor
taker-is actor None h = absurd (false≢true h)
taker-is actor (Some a) h = ap Some (eqb-true a actor h)

kept-node : (actor id : ℕ) (ns : List RankedNode) → is_taken actor id ns ≡ true → IsKeptNode ns actor id
kept-node actor id [] h = absurd (false≢true h)
kept-node actor id (n ∷ ns) h = elim (or_cases (n.id == id && is_taker actor n.taker) (is_taken actor id ns) h) [
  | inl here ↦ record {
    node = n;
    there = inl refl;
    named = eqb-true n.id id (and_parts (n.id == id) (is_taker actor n.taker) here).0;
    taken = taker-is actor n.taker (and_parts (n.id == id) (is_taker actor n.taker) here).1;
  }
  | inr more ↦ let k = kept-node actor id ns more in record { node = k.node; there = inr k.there; named = k.named; taken = k.taken }
]

pub found-node : (p : Problem) (l : Limits) (f : FrontierView) (m : Machine) (actor id : ℕ) → IsFrontierOf p l f m → is_taken actor id f.nodes ≡ true → IsFound m actor id
found-node p l f m actor id is h =
    let k : IsKeptNode f.nodes actor id = kept-node actor id f.nodes h in record {
      node = plain_node k.node;
      taken = record { there = stands-in p l f m k.node is k.there; named = k.named; taken = k.taken };
    }
