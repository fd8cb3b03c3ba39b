-- A list of tokens is the spelling of one list of trees at most.
use Rattle.std.proofs.Common.{◌≡◌, ℕ, List, [], ◌∷◌, ◌++◌, refl, ap, sym, ◌∙◌, append_assoc}
use Rattle.pddl_tokens.specs.Tokens.{Token, Opens, Closes, Spells}
use Rattle.pddl_tokens.specs.Trees.{Tree, Trees, Leaf, Node, End, More, spelled, all_spelled}

-- no tree begins so
abbrev Stops : List Token → Type 0
Stops [] = Unit {0}
Stops (Closes at ∷ rest) = Unit {0}
Stops (Opens at ∷ rest) = ⊥
Stops (Spells at text ∷ rest) = ⊥

begins : (t : Tree) (x rest : List Token) → Stops x → x ≡ spelled t ++ rest → ⊥
begins (Leaf at text) [] rest s h = cc
begins (Leaf at text) (Closes c ∷ x) rest s h = cc
begins (Leaf at text) (Opens c ∷ x) rest s h = s
begins (Leaf at text) (Spells c w ∷ x) rest s h = s
begins (Node at close ps) [] rest s h = cc
begins (Node at close ps) (Closes c ∷ x) rest s h = cc
begins (Node at close ps) (Opens c ∷ x) rest s h = s
begins (Node at close ps) (Spells c w ∷ x) rest s h = s

tail_of : (a b : ℕ) (x y : List Token) → Opens a ∷ x ≡ Opens b ∷ y → (a ≡ b) × (x ≡ y)
tail_of a b x y h = ((cc), (cc))

node_of : (a b c d : ℕ) (ps qs : Trees) (x y : List Token) → a ≡ b → ps ≡ qs → Closes c ∷ x ≡ Closes d ∷ y → (Node a c ps ≡ Node b d qs) × (x ≡ y)
node_of a b c d ps qs x y e p h = let k : c ≡ d = cc in ((cc), (cc))

mutual
  pub one_tree : (t u : Tree) (x y : List Token) → spelled t ++ x ≡ spelled u ++ y → (t ≡ u) × (x ≡ y)
  one_tree (Leaf a s) (Leaf b r) x y h = ((cc), (cc))
  one_tree (Leaf a s) (Node b d qs) x y h = absurd (cc)
  one_tree (Node a c ps) (Leaf b r) x y h = absurd (cc)
  one_tree (Node a c ps) (Node b d qs) x y h =
      let h2 = tail_of a b ((all_spelled ps ++ Closes c ∷ []) ++ x) ((all_spelled qs ++ Closes d ∷ []) ++ y) h in
      let r = all_trees ps qs (Closes c ∷ x) (Closes d ∷ y) tt tt (sym (append_assoc (all_spelled ps) (Closes c ∷ []) x) ∙ (h2.1 ∙ append_assoc (all_spelled qs) (Closes d ∷ []) y)) in
      node_of a b c d ps qs x y h2.0 r.0 r.1

  pub all_trees : (ts us : Trees) (x y : List Token) → Stops x → Stops y → all_spelled ts ++ x ≡ all_spelled us ++ y → (ts ≡ us) × (x ≡ y)
  all_trees End End x y sx sy h = (refl, h)
  all_trees End (More u us) x y sx sy h = absurd (begins u x (all_spelled us ++ y) sx (h ∙ append_assoc (spelled u) (all_spelled us) y))
  all_trees (More t ts) End x y sx sy h = absurd (begins t y (all_spelled ts ++ x) sy (sym h ∙ append_assoc (spelled t) (all_spelled ts) x))
  all_trees (More t ts) (More u us) x y sx sy h =
      let r = one_tree t u (all_spelled ts ++ x) (all_spelled us ++ y) (sym (append_assoc (spelled t) (all_spelled ts) x) ∙ (h ∙ append_assoc (spelled u) (all_spelled us) y)) in
      let q = all_trees ts us x y sx sy r.1 in
      (ap (λ v. More v ts) r.0 ∙ ap (More u) q.0, q.1)

-- tokens are the spelling of one row of trees at most
pub same_trees : (ts us : Trees) → all_spelled ts ≡ all_spelled us → ts ≡ us
same_trees ts us h = (all_trees ts us [] [] tt tt (ap (λ (x : List Token). x ++ []) h)).0
