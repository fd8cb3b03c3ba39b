-- The parts of an action, each behind its keyword.
use Rattle.std.specs.Prelude.{ℕ, Bool, false, ◌||◌, if◌then◌else◌, List, codes}
use Rattle.std.specs.Str.{bytes_eq}
use Rattle.pddl_tokens.specs.Trees.{Trees, Leaf, Node, End, More}
use Rattle.domain_faults.specs.declared.parts.ActionKind.{ActionKind}
use Rattle.domain_faults.specs.declared.parts.ActionKind.TheVariants.{Instant, Durative}
use Rattle.domain_faults.specs.declared.parts.Slot.{Slot}
use Rattle.domain_faults.specs.declared.parts.Slot.TheVariants.{Keyword, Wanted, Other}

-- the keyword of an action's condition
abbrev pub condition_key : ActionKind → List ℕ
condition_key Instant = codes ":precondition"
condition_key Durative = codes ":condition"

-- only a kind action has a duration
abbrev pub is_duration_key : ActionKind → List ℕ → Bool
is_duration_key Instant text = false
is_duration_key Durative text = bytes_eq text (codes ":duration")

-- the keywords of an action
abbrev pub is_key : ActionKind → List ℕ → Bool
is_key kind text =
    bytes_eq text (codes ":parameters") || bytes_eq text (codes ":effect")
    || bytes_eq text (condition_key kind) || is_duration_key kind text

-- what a word begins where a keyword is to stand: a word that is none stands alone
abbrev pub slot_of : ActionKind → List ℕ → List ℕ → Slot
slot_of kind key text =
    if is_key kind text then (if bytes_eq text key then Wanted else Other) else Keyword

-- the members of the list behind the first such keyword; none where there is no list
abbrev pub part_from : ActionKind → List ℕ → Slot → Trees → Trees
part_from kind key slot End = End
part_from kind key Keyword (More (Leaf at text) rest) =
    part_from kind key (slot_of kind key text) rest
part_from kind key Keyword (More (Node at close parts) rest) =
    part_from kind key Keyword rest
part_from kind key Wanted (More (Leaf at text) rest) = End
part_from kind key Wanted (More (Node at close parts) rest) = parts
part_from kind key Other (More t rest) = part_from kind key Keyword rest

abbrev pub part_of : ActionKind → List ℕ → Trees → Trees
part_of kind key members = part_from kind key Keyword members

-- what stands behind a first member, as behind an action's name
abbrev pub behind_name : Trees → Trees
behind_name End = End
behind_name (More t rest) = rest

-- the heads of actions
abbrev pub is_action : List ℕ → Bool
is_action text = bytes_eq text (codes ":action") || bytes_eq text (codes ":durative-action")

abbrev pub kind_of : List ℕ → ActionKind
kind_of text = if bytes_eq text (codes ":durative-action") then Durative else Instant
