-- What a reader sees of a list of forms: how it begins.
use Rattle.std.specs.Prelude.{◌≡◌}
use Rattle.pddl_tokens.specs.declared.look.Head.{Head}
use Rattle.pddl_tokens.specs.declared.look.Head.TheVariants.{Missing, Word, List}
use Rattle.pddl_tokens.specs.Trees.{Trees, Leaf, Node, End, More, trees_of}

-- the trees are none, or begin with this word or this list
abbrev pub IsHead : Head → Trees → Type 0
IsHead Missing ts = ts ≡ End
IsHead (Word w rest) ts = ts ≡ More (Leaf w.now.at w.now.text) (trees_of rest.now)
IsHead (List at close parts rest) ts =
    ts ≡ More (Node at close (trees_of parts.now)) (trees_of rest.now)
