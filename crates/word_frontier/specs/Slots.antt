-- The slots and the heads of a frontier, and the nodes that they stand for.
use Rattle.std.specs.Prelude.{◌≡◌, ◌≢◌, ℕ, suc, ◌<◌, ◌≤◌, ◌^◌, Bool, true, false, ◌==◌, cond, List, [], ◌∷◌, ◌++◌, length, map, Option, Some, None, slice_index_or}
use Rattle.std.specs.List.{slice_get}
use Rattle.tp_spec.specs.declared.plan.Item.{Item}
use Rattle.tp_spec.specs.declared.plan.Item.TheVariants.{TimedAt, End, Start}
use Rattle.tp_spec.specs.declared.plan.Mark.{Mark}
use Rattle.word_frontier.specs.declared.slot.Kind.{Kind}
use Rattle.word_frontier.specs.declared.slot.Kind.TheVariants as kind
use Rattle.word_frontier.specs.declared.slot.State.{State}
use Rattle.word_frontier.specs.declared.slot.State.TheVariants.{Open, Taken, Gone}
use Rattle.word_frontier.specs.declared.slot.Among.{Among}
use Rattle.word_frontier.specs.declared.slot.Among.TheVariants as among
use Rattle.word_frontier.specs.declared.slot.Slot.{Slot}
use Rattle.word_frontier.specs.Nodes.{RankedNode}

abbrev pub item_of : Kind → ℕ → Item
item_of kind.TimedAt number = TimedAt number
item_of kind.End number = End number
item_of kind.Start number = Start number

abbrev pub mark_of : Slot → Mark
mark_of s = record { fresh = s.fresh; item = item_of s.kind s.number }

-- a word: an earlier one, and one mark behind it
pub record Step : Type 0 where
  pub parent : ℕ
  pub mark : Mark

abbrev pub step_of : Slot → Step
step_of s = record { parent = s.parent; mark = mark_of s }

abbrev pub word_of : List (List Mark) → ℕ → List Mark
word_of words id = slice_index_or words id []

-- the words so far, and those of more steps
abbrev pub words_from : List (List Mark) → List Step → List (List Mark)
words_from words [] = words
words_from words (s ∷ steps) =
    words_from (words ++ (word_of words s.parent ++ s.mark ∷ []) ∷ []) steps

-- the words of all steps, the first of which is the empty word's
abbrev pub words_of : List Step → List (List Mark)
words_of [] = []
words_of (s ∷ steps) = words_from ([] ∷ []) steps

-- each word but the first is made of an earlier one
abbrev pub GoBack : List Step → Type 0
GoBack steps = (n : ℕ) (s : Step) → slice_get steps (suc n) ≡ Some s → s.parent ≤ n

-- a node without its id
pub record Held : Type 0 where
  pub word : List Mark
  pub rank : ℕ
  pub deadline : ℕ
  pub known : ℕ
  pub taker : Option ℕ

abbrev pub taker_of : State → ℕ → Option ℕ
taker_of Open taker = None
taker_of Taken taker = Some taker
taker_of Gone taker = None

-- whether a node of this state is one of those that are meant
abbrev pub counts : Among → State → Bool
counts among.Open Open = true
counts among.Open Taken = false
counts among.Open Gone = false
counts among.All Open = true
counts among.All Taken = true
counts among.All Gone = false

-- what stands in a slot, where its node did not leave
abbrev pub held : List Mark → Slot → Option Held
held w s = cond (counts among.All s.state) (Some (record {
  word = w;
  rank = s.rank;
  deadline = s.deadline;
  known = s.known;
  taker = taker_of s.state s.taker;
})) None

abbrev pub helds : List (List Mark) → List Slot → List (Option Held)
helds words [] = []
helds [] (s ∷ slots) = []
helds (w ∷ words) (s ∷ slots) = held w s ∷ helds words slots

abbrev pub node_in : ℕ → Held → RankedNode
node_in id h = record {
  id = id;
  word = h.word;
  rank = h.rank;
  deadline = h.deadline;
  known = h.known;
  taker = h.taker;
}

-- the nodes of slots, the first of which has this id
abbrev pub nodes_from : ℕ → List (Option Held) → List RankedNode
nodes_from id [] = []
nodes_from id (None ∷ hs) = nodes_from (suc id) hs
nodes_from id (Some h ∷ hs) = node_in id h ∷ nodes_from (suc id) hs

abbrev pub helds_of : List Slot → List (Option Held)
helds_of slots = helds (words_of (map step_of slots)) slots

abbrev pub nodes_of : List Slot → List RankedNode
nodes_of slots = nodes_from 0 (helds_of slots)

-- whether this actor took what stands in a slot
abbrev pub taken_in : State → ℕ → ℕ → Bool
taken_in Open taker actor = false
taken_in Taken taker actor = taker == actor
taken_in Gone taker actor = false

-- the rank of a slot whose node is one of those that are meant
abbrev pub key : Among → Slot → Option ℕ
key a s = cond (counts a s.state) (Some s.rank) None

abbrev pub keys : Among → List Slot → List (Option ℕ)
keys a slots = map (key a) slots

abbrev pub ranks_of : List Slot → List ℕ
ranks_of slots = map (λ s. s.rank) slots

abbrev pub links_of : List Slot → List ℕ
links_of slots = map (λ s. s.link) slots

abbrev pub or_else : Option ℕ → Option ℕ → Option ℕ
or_else None other = other
or_else (Some id) other = Some id

abbrev pub head_at : List (Option ℕ) → ℕ → Option ℕ
head_at heads rank = slice_index_or heads rank None

-- no id from `k` on has this rank
abbrev pub NoneFrom : ℕ → ℕ → List (Option ℕ) → Type 0
NoneFrom r k ks = (j : ℕ) → k ≤ j → slice_get ks j ≡ Some (Some r) → ⊥

-- this is the first id from `k` on that has this rank
pub record FirstAt (r k f : ℕ) (ks : List (Option ℕ)) : Type 0 where
  pub from : k ≤ f
  pub key : slice_get ks f ≡ Some (Some r)
  pub before : (j : ℕ) → k ≤ j → j < f → slice_get ks j ≡ Some (Some r) → ⊥

abbrev pub IsFirst : ℕ → ℕ → List (Option ℕ) → Option ℕ → Type 0
IsFirst r k ks None = NoneFrom r k ks
IsFirst r k ks (Some f) = FirstAt r k f ks

-- the first id of each rank
abbrev pub AreHeads : List (Option ℕ) → List (Option ℕ) → Type 0
AreHeads ks heads = (r : ℕ) → IsFirst r 0 ks (head_at heads r)

-- the last id of a rank
pub record LastAt (r t : ℕ) (ranks : List ℕ) : Type 0 where
  pub key : slice_get ranks t ≡ Some r
  pub behind : (j : ℕ) → slice_get ranks j ≡ Some r → j ≤ t

abbrev pub IsLast : ℕ → List ℕ → Option ℕ → Type 0
IsLast r ranks None = (j : ℕ) → slice_get ranks j ≡ Some r → ⊥
IsLast r ranks (Some t) = LastAt r t ranks

-- a link leads on in the rank, and passes over no id of it
pub record Leads (ranks : List ℕ) (r k link j : ℕ) : Type 0 where
  pub on : k < link
  pub by : link ≤ j
  pub key : slice_get ranks link ≡ Some r

-- all ids of a rank are linked in order, and the last one is known
pub record AreChained (ranks links : List ℕ) (lasts : List (Option ℕ)) : Type 0 where
  pub linked : (r k j : ℕ) → k < j → slice_get ranks k ≡ Some r → slice_get ranks j ≡ Some r
      → Leads ranks r k (slice_index_or links k 0) j
  pub last : (r : ℕ) → IsLast r ranks (head_at lasts r)

-- slots, last ids and heads keep together
pub record IsKept (slots : List Slot) (lasts opens stands : List (Option ℕ)) : Type 0 where
  pub back : GoBack (map step_of slots)
  pub some : 0 < length slots
  pub few : length slots < 2 ^ 32
  pub chained : AreChained (ranks_of slots) (links_of slots) lasts
  pub open_heads : AreHeads (keys among.Open slots) opens
  pub heads : AreHeads (keys among.All slots) stands
  pub open_ranks : length opens ≡ length lasts
  pub ranks : length stands ≡ length lasts

-- from a rank on, this one is the first that has an id, or none has
pub record IsNextFull (heads : List (Option ℕ)) (from next : ℕ) : Type 0 where
  pub before : (r : ℕ) → from ≤ r → r < next → head_at heads r ≡ None
  pub full : slice_get heads next ≢ Some None

-- the least rank that has an id
pub record LeastHead (heads : List (Option ℕ)) (rank id : ℕ) : Type 0 where
  pub is : head_at heads rank ≡ Some id
  pub before : (r : ℕ) → r < rank → head_at heads r ≡ None

abbrev pub IsLeastHead : List (Option ℕ) → Option (ℕ × ℕ) → Type 0
IsLeastHead heads None = (r : ℕ) → head_at heads r ≡ None
IsLeastHead heads (Some found) = LeastHead heads found.0 found.1

-- an id of this rank, if there is one
abbrev pub IsOfRank : List ℕ → ℕ → Option ℕ → Type 0
IsOfRank ranks r None = Unit {0}
IsOfRank ranks r (Some id) = slice_get ranks id ≡ Some r

-- the first id of a rank from another one on, where there is that other one
abbrev pub IsFirstBehind : ℕ → List (Option ℕ) → Option ℕ → Option ℕ → Type 0
IsFirstBehind r ks None o = o ≡ None
IsFirstBehind r ks (Some id) o = IsFirst r id ks o

-- one rank's first id moved on, the others stay
pub record HeadMoved (rank : ℕ) (ks old new : List (Option ℕ)) : Type 0 where
  pub here : IsFirstBehind rank ks (head_at old rank) (head_at new rank)
  pub others : (r : ℕ) → r ≢ rank → head_at new r ≡ head_at old r
  pub ranks : length new ≡ length old
