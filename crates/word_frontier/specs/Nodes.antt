-- The frontier as contracts see it, and the words on its nodes.
use Rattle.std.specs.Prelude.{ℕ, suc, Bool, false, not, ◌&&◌, ◌||◌, ◌==◌, ◌≡◌, nat_lt, nat_le, List, [], ◌∷◌, ◌++◌, Option, Some, None, IsTrue, if◌then◌else◌, is_some}
use Rattle.std.specs.List.{filter, list_all, list_any}
use Rattle.tp_spec.specs.declared.plan.Mark.{Mark}
use Rattle.word_frontier.specs.declared.child.Child.{Child}
use Rattle.word_frontier.specs.declared.frontier.Standing.{Standing}
use Rattle.tp_spec.specs.Lists.{IsIn, each_pair}

-- a word that the search tries, its rank, and its deadline: the last clock at which it is live
pub record NodeView : Type 0 where
  pub word : List Mark
  pub rank : ℕ
  pub deadline : ℕ

-- a node: its word, rank and deadline, under how many commitments the deadline was found, and the
-- actor that took it, or none while it is open
pub record RankedNode : Type 0 where
  pub id : ℕ
  pub word : List Mark
  pub rank : ℕ
  pub deadline : ℕ
  pub known : ℕ
  pub taker : Option ℕ

-- the nodes in order of ids, how many ids were given, below what all ranks are, and how many nodes
-- can come in without memory
pub record FrontierView : Type 0 where
  pub nodes : List RankedNode
  pub made : ℕ
  pub ranks : ℕ
  pub room : ℕ

-- nodes lie in the rising order of their ids, and these were given
pub record AreApart (f : FrontierView) : Type 0 where
  pub rising : IsTrue (each_pair (λ m n. nat_lt m.id n.id) f.nodes)
  pub given : IsTrue (list_all (λ n. nat_lt n.id f.made) f.nodes)

-- the open node of a word and one mark more, whose deadline was found under so many commitments
abbrev pub child_of : ℕ → ℕ → List Mark → Child → RankedNode
child_of known id w c = record {
  id = id;
  word = w ++ c.mark ∷ [];
  rank = c.rank;
  deadline = c.deadline;
  known = known;
  taker = None;
}

-- one open node for each child of a word, with the next ids
abbrev pub children_from : ℕ → List Mark → ℕ → List Child → List RankedNode
children_from known w made [] = []
children_from known w made (c ∷ rest) =
    child_of known made w c ∷ children_from known w (suc made) rest

-- the children that are live at a clock
abbrev pub live_at : ℕ → List Child → List Child
live_at now children = filter (λ c. nat_le now c.deadline) children

abbrev pub is_open : RankedNode → Bool
is_open n = not (is_some n.taker)

abbrev pub open_nodes : List RankedNode → List RankedNode
open_nodes nodes = filter is_open nodes

-- whether a node comes no later than another: by rank, then by id
abbrev pub no_later : RankedNode → RankedNode → Bool
no_later m n = nat_lt m.rank n.rank || (m.rank == n.rank && nat_le m.id n.id)

-- the node of the least rank and id
pub record IsLeast (nodes : List RankedNode) (n : RankedNode) : Type 0 where
  pub there : IsIn n nodes
  pub least : IsTrue (list_all (no_later n) nodes)

-- what is told of a node: its id, its deadline, and under how many commitments that was found
pub record Tells (found : Standing) (n : RankedNode) : Type 0 where
  pub id : found.id ≡ n.id
  pub deadline : found.deadline ≡ n.deadline
  pub known : found.known ≡ n.known

-- nothing where there is no node, else the id and the deadline of the least one
abbrev pub GivesLeast : List RankedNode → Option Standing → Type 0
GivesLeast nodes None = nodes ≡ []
GivesLeast nodes (Some found) = (n : RankedNode) × IsLeast nodes n × Tells found n

-- the word, the rank and the deadline of a node of this id
pub record IsCopy (nodes : List RankedNode) (id : ℕ) (v : NodeView) : Type 0 where
  pub node : RankedNode
  pub there : IsIn node nodes
  pub id_is : node.id ≡ id
  pub is : v ≡ record { word = node.word; rank = node.rank; deadline = node.deadline }

-- whether a node of this id stands
abbrev pub has_id : ℕ → List RankedNode → Bool
has_id id nodes = list_any (λ n. n.id == id) nodes

abbrev pub taken_by : ℕ → ℕ → RankedNode → RankedNode
taken_by actor id n = if n.id == id then record n { taker = Some actor } else n

-- the node of an id with a deadline that was found under so many commitments
abbrev pub renewed : ℕ → ℕ → ℕ → RankedNode → RankedNode
renewed id deadline known n =
    if n.id == id then record n { deadline = deadline; known = known } else n

abbrev pub without : ℕ → List RankedNode → List RankedNode
without id nodes = filter (λ n. not (n.id == id)) nodes

abbrev pub is_taker : ℕ → Option ℕ → Bool
is_taker actor None = false
is_taker actor (Some a) = a == actor

-- whether a node of this id stands that this actor took
abbrev pub is_taken : ℕ → ℕ → List RankedNode → Bool
is_taken actor id nodes = list_any (λ n. n.id == id && is_taker actor n.taker) nodes

-- the word of an id
abbrev pub word_at : ℕ → List RankedNode → List Mark
word_at id [] = []
word_at id (n ∷ nodes) = if n.id == id then n.word else word_at id nodes

-- the node of an id stands, and has this word
pub record StandsAt (w : List Mark) (id : ℕ) (nodes : List RankedNode) : Type 0 where
  pub node : RankedNode
  pub there : IsIn node nodes
  pub id_is : node.id ≡ id
  pub word_is : node.word ≡ w
