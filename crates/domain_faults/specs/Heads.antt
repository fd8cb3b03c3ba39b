-- The heads of predicates and functions: lists of a name and typed variables.
use Rattle.std.specs.Prelude.{ℕ, Bool, true, false, not, ◌&&◌, if◌then◌else◌, List, [], ◌++◌, codes}
use Rattle.std.specs.Str.{bytes_eq}
use Rattle.pddl_tokens.specs.Trees.{Trees, Leaf, Node, End, More}
use Rattle.pddl_parts.specs.declared.faults.Fault.{Fault}
use Rattle.domain_faults.specs.declared.heads.HeadKind.{HeadKind}
use Rattle.domain_faults.specs.declared.heads.HeadKind.TheVariants.{Predicates, Functions}
use Rattle.pddl_parts.specs.declared.typed.Part.{Part}
use Rattle.pddl_parts.specs.declared.typed.Part.TheVariants.{Start, Items, Hyphen}
use Rattle.pddl_parts.specs.declared.typed.Rule.{Rule}
use Rattle.pddl_parts.specs.Words.{is_dash, is_head_word, is_thing}
use Rattle.pddl_parts.specs.Literals.{misfit_word, misfit_list, name_faults}
use Rattle.pddl_parts.specs.Typed.{typed_faults, repeat_faults, end_faults, again_faults, with_item}

-- variables, each of a type that is declared
abbrev pub parameters : Rule
parameters = record { variables = true; any_type = false }

-- what is wrong with typed variables, each of them new
abbrev pub variables_faults : List (List ℕ) → ℕ → Trees → List Fault
variables_faults types close ts =
    typed_faults parameters types close Start ts ++ repeat_faults parameters [] Start ts

-- what is wrong with a head but for its name's being declared before
abbrev pub head_faults : List (List ℕ) → ℕ → ℕ → Trees → List Fault
head_faults types at close End = misfit_list at End
head_faults types at close (More (Node first end parts) rest) =
    misfit_list at (More (Node first end parts) rest)
head_faults types at close (More (Leaf head text) rest) =
    if is_head_word text then name_faults head text ++ variables_faults types close rest
    else misfit_list at (More (Leaf head text) rest)

-- a name that came before
abbrev pub again_head : List (List ℕ) → Trees → List Fault
again_head seen End = []
again_head seen (More (Node first end parts) rest) = []
again_head seen (More (Leaf head text) rest) = again_faults (is_thing text) seen head text

-- the names of heads, with this one
abbrev pub with_head : List (List ℕ) → Trees → List (List ℕ)
with_head seen End = seen
with_head seen (More (Node first end parts) rest) = seen
with_head seen (More (Leaf head text) rest) = with_item (is_thing text) seen text

-- a word among functions: a hyphen directly behind a head, and `number` behind that; predicates
-- have none
abbrev pub number_faults : Part → ℕ → List ℕ → List Fault
number_faults Start at text = misfit_word at text
number_faults Items at text = if is_dash text then [] else misfit_word at text
number_faults Hyphen at text = if bytes_eq text (codes "number") then [] else misfit_word at text

-- what may follow a word
abbrev pub behind_word : Part → List ℕ → Part
behind_word Start text = Start
behind_word Items text = if is_dash text then Hyphen else Start
behind_word Hyphen text = Start

-- a list among functions or predicates: a head, but none directly behind a hyphen
abbrev pub listed_faults : List (List ℕ) → List (List ℕ) → Part → ℕ → ℕ → Trees → List Fault
listed_faults types seen Start at close parts =
    again_head seen parts ++ head_faults types at close parts
listed_faults types seen Items at close parts =
    again_head seen parts ++ head_faults types at close parts
listed_faults types seen Hyphen at close parts = misfit_list at parts

-- the names of heads, with that of this list where it is a head
abbrev pub with_listed : List (List ℕ) → Part → Trees → List (List ℕ)
with_listed seen Start parts = with_head seen parts
with_listed seen Items parts = with_head seen parts
with_listed seen Hyphen parts = seen

-- what may follow a list: a hyphen only behind a function
abbrev pub behind_list : HeadKind → Part → Part
behind_list Predicates part = Start
behind_list Functions Start = Items
behind_list Functions Items = Items
behind_list Functions Hyphen = Start

-- what is wrong with the members of `:predicates`, or of `:functions`
abbrev pub heads_faults : HeadKind → List (List ℕ) → ℕ → List (List ℕ) → Part → Trees → List Fault
heads_faults kind types close seen part End = end_faults part close
heads_faults kind types close seen part (More (Leaf at text) rest) =
    number_faults part at text ++ heads_faults kind types close seen (behind_word part text) rest
heads_faults kind types close seen part (More (Node at end parts) rest) =
    listed_faults types seen part at end parts
    ++ heads_faults kind types close (with_listed seen part parts) (behind_list kind part)
    rest
