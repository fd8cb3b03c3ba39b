-- A form without its memory, as a tree that definitions go down, and what it spells.
use Rattle.std.specs.Prelude.{ℕ, suc, ◌+◌, Bool, true, ◌&&◌, List, [], ◌∷◌, ◌++◌, map}
use Rattle.std.specs.List.{list_all}
use Rattle.pddl_tokens.specs.declared.form.Form.{Form}
use Rattle.pddl_tokens.specs.declared.form.Form.TheOpen.{Form-F}
use Rattle.pddl_tokens.specs.declared.form.Form.TheFolds.{fold-Form}
use Rattle.pddl_tokens.specs.Tokens.{Token, Opens, Closes, Spells, is_letter}

-- a word with its place, or a list with the places of its parentheses; a row of them
mutual
  pub data Tree : Type 0 where
    Leaf : (at : ℕ) → (text : List ℕ) → Tree
    Node : (at : ℕ) → (close : ℕ) → (parts : Trees) → Tree

  pub data Trees : Type 0 where
    End : Trees
    More : (tree : Tree) → (rest : Trees) → Trees

abbrev pub row : List Tree → Trees
row [] = End
row (t ∷ ts) = More t (row ts)

abbrev pub tree_at : Form-F Tree → Tree
tree_at (Form-F.Single w) = Leaf w.at w.text
tree_at (Form-F.Group at close parts) = Node at close (row parts)

-- the tree that a form is
abbrev pub tree_of : Form → Tree
tree_of = fold-Form Tree tree_at

-- the trees that some forms are
abbrev pub trees_of : List Form → Trees
trees_of forms = row (map tree_of forms)

-- the tokens of a tree, in order
abbrev mutual
  pub spelled : Tree → List Token
  spelled (Leaf at text) = Spells at text ∷ []
  spelled (Node at close parts) = Opens at ∷ (all_spelled parts ++ Closes close ∷ [])

  pub all_spelled : Trees → List Token
  all_spelled End = []
  all_spelled (More t rest) = spelled t ++ all_spelled rest

-- whether all words of a tree are of letters alone: of no white space and no parenthesis
abbrev mutual
  pub has_letters : Tree → Bool
  has_letters (Leaf at text) = list_all is_letter text
  has_letters (Node at close parts) = have_letters parts

  pub have_letters : Trees → Bool
  have_letters End = true
  have_letters (More t rest) = has_letters t && have_letters rest

-- how many steps a walk over a tree takes at most
abbrev mutual
  pub size : Tree → ℕ
  size (Leaf at text) = 1
  size (Node at close parts) = suc (sizes parts)

  pub sizes : Trees → ℕ
  sizes End = 0
  sizes (More t rest) = suc (size t + sizes rest)
