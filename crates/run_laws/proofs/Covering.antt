-- An expansion keeps the cover: each possible plan's word begins with the word of a node.
use Rattle.std.proofs.Common.{◌≡◌, refl, sym, ap, subst, ◌∙◌, ℕ, suc, ◌==◌, Bool, true, false, not, cond, List, [], ◌∷◌, ◌++◌, append_assoc, append-nil, inl, inr, None, arith}
use Rattle.std.proofs.lemmas.Bool.{and_parts, false≢true, eqb-true, eq-eqb}
use Rattle.tp_spec.specs.declared.event.Event.TheVariants.{Expand}
use Rattle.tp_spec.specs.Lists.{each_pair}
use Rattle.tp_spec.specs.declared.plan.Mark.{Mark}
use Rattle.tp_spec.specs.declared.plan.Plan.{Plan}
use Rattle.tp_spec.specs.declared.plan.Limits.{Limits}
use Rattle.tp_spec.specs.declared.problem.Problem.{Problem}
use Rattle.tp_spec.specs.Lists.{IsIn, BeginsWith}
use Rattle.tp_spec.specs.Courses.{Possible}
use Rattle.tp_spec.specs.Words.{spell}
use Rattle.tp_spec.specs.Schedules.{Live}
use Rattle.tp_spec.specs.Machine.{Machine, Node, without, children, word_of, step, IsCovered, ExpandIsLegal}
use Rattle.tp_laws.proofs.EarlyLists.{each-in, each-true, in-left, in-right}

-- each front of a possible plan's word is live in a state of the machine
abbrev pub FrontsLiveAt : Problem → Limits → Machine → Type 0
FrontsLiveAt p l m = (plan : Plan) (front : List Mark) → Possible p l m.now m.commits plan → BeginsWith (spell p plan) front → Live p l m.now m.commits front

-- a node of another id stays
pub in-without : (id : ℕ) (n : Node) (ns : List Node) → (n.id == id) ≡ false → IsIn n ns → IsIn n (without id ns)
in-without id n [] e h = absurd h
in-without id n (m ∷ ns) e (inl same) = subst (λ b. IsIn n (cond b (m ∷ without id ns) (without id ns))) (sym (ap (λ k. not (k.id == id)) same ∙ ap not e)) (inl same)
in-without id n (m ∷ ns) e (inr h) = elim (not (m.id == id)) as (λ b. IsIn n (cond b (m ∷ without id ns) (without id ns))) [ true ↦ inr (in-without id n ns e h) | false ↦ in-without id n ns e h ]

-- each mark has its child
child_of_mark : (w : List Mark) (made : ℕ) (marks : List Mark) (a : Mark) → IsIn a marks → (n : Node) × IsIn n (children w made marks) × (n.word ≡ w ++ a ∷ [])
child_of_mark w made [] a h = absurd h
child_of_mark w made (b ∷ marks) a (inl e) = (record { id = made; word = w ++ b ∷ []; taker = None }, inl refl, ap (λ m. w ++ m ∷ []) e)
child_of_mark w made (b ∷ marks) a (inr h) = let r = child_of_mark w (suc made) marks a h in (r.0, inr r.1, r.2)

-- the word that an id stands for is the word of each node of this id
pub word_of-in : (id : ℕ) (n : Node) (ns : List Node) → each_pair (λ a b. not (a.id == b.id)) ns ≡ true → IsIn n ns → (n.id == id) ≡ true → word_of id ns ≡ n.word
word_of-in id n [] apart h e = absurd h
word_of-in id n (m ∷ ns) apart (inl same) e = ap (λ b. cond b m.word (word_of id ns)) (ap (λ k. k.id == id) same ∙ e) ∙ ap (λ k. k.word) same
word_of-in id n (m ∷ ns) apart (inr h) e = by_test (word_of-in id n ns (and_parts _ _ apart).1 h e) (m.id == id) refl where
  by_test : word_of id ns ≡ n.word → (b : Bool) → (m.id == id) ≡ b → cond b m.word (word_of id ns) ≡ n.word
  by_test ih false f = ih
  by_test ih true f =
      let differ : not (m.id == n.id) ≡ true = each-in (λ k. not (m.id == k.id) ≡ true) ns n (each-true (λ k. not (m.id == k.id)) ns (and_parts _ _ apart).0) h in
      let same : m.id ≡ n.id = omega (arith, eqb-true m.id id f, eqb-true n.id id e) in
      absurd (false≢true (ap not (sym (eq-eqb m.id n.id same)) ∙ differ))

module _ (p : Problem) (l : Limits) (m : Machine) (told_apart : each_pair (λ a b. not (a.id == b.id)) m.nodes ≡ true) where
  pub cover-expand : FrontsLiveAt p l m → (actor id : ℕ) (marks : List Mark) → ExpandIsLegal p l m actor id marks → (plan : Plan) → Possible p l m.now m.commits plan → IsCovered p m plan → IsCovered p (step l m (Expand actor id marks)) plan
  cover-expand live actor id marks legal plan possible cover = by_test (cover.node.id == id) refl where
    w : List Mark
    w = word_of id m.nodes

    is_word : (n : Node) → IsIn n m.nodes → (n.id == id) ≡ true → word_of id m.nodes ≡ n.word
    is_word n i e = word_of-in id n m.nodes told_apart i e

    node_word : word_of id m.nodes ≡ legal.node.word
    node_word = is_word legal.node legal.taken.there (eq-eqb legal.node.id id legal.taken.named)

    by_rest : (rest : List Mark) → spell p plan ≡ legal.node.word ++ rest → IsCovered p (step l m (Expand actor id marks)) plan
    by_rest [] whole = absurd (legal.incomplete plan possible (whole ∙ append-nil legal.node.word))
    by_rest (a ∷ rest) whole =
        let v : List Mark = legal.node.word ++ a ∷ [] in
        let more : spell p plan ≡ v ++ rest = whole ∙ sym (append_assoc legal.node.word (a ∷ []) rest) in
        let in_marks : IsIn a marks = legal.exact.all a (live plan v possible (record { rest = rest; is = more })) in
        let child = child_of_mark (word_of id m.nodes) m.made marks a in_marks in
        let child_word : child.0.word ≡ v = child.2 ∙ ap (λ u. u ++ a ∷ []) node_word in
        record {
          node = child.0;
          there = in-right child.0 (without id m.nodes) (children (word_of id m.nodes) m.made marks) child.1;
          begins = record { rest = rest; is = more ∙ ap (λ u. u ++ rest) (sym child_word) };
        }

    by_test : (b : Bool) → (cover.node.id == id) ≡ b → IsCovered p (step l m (Expand actor id marks)) plan
    by_test true e = by_rest cover.begins.rest (cover.begins.is ∙ ap (λ u. u ++ cover.begins.rest) (sym (is_word cover.node cover.there e) ∙ node_word))
    by_test false e = record { node = cover.node; there = in-left cover.node (without id m.nodes) (children (word_of id m.nodes) m.made marks) (in-without id cover.node m.nodes e cover.there); begins = cover.begins }
