-- The functions that the effects of actions write.
use Rattle.std.specs.Prelude.{ℕ, true, false, ◌||◌, if◌then◌else◌, List, [], codes}
use Rattle.std.specs.Str.{bytes_eq}
use Rattle.pddl_tokens.specs.Trees.{Trees, Leaf, Node, End, More}
use Rattle.pddl_parts.specs.Names.{with_name}
use Rattle.pddl_parts.specs.Words.{is_update}
use Rattle.domain_faults.specs.declared.parts.ActionKind.TheVariants.{Instant, Durative}
use Rattle.domain_faults.specs.Parts.{part_of, behind_name}

-- behind the head of an update: a list that begins with a function's name
abbrev pub with_target : List (List ℕ) → Trees → List (List ℕ)
with_target names End = names
with_target names (More (Leaf at text) rest) = names
with_target names (More (Node at close End) rest) = names
with_target names (More (Node at close (More (Node first end parts) more)) rest) = names
with_target names (More (Node at close (More (Leaf head text) more)) rest) = with_name names text

abbrev mutual
  -- the names, with those that a list in an effect's place writes, whatever else is wrong with it
  pub with_effect : List (List ℕ) → Trees → List (List ℕ)
  with_effect names End = names
  with_effect names (More (Node first end parts) rest) = names
  with_effect names (More (Leaf head text) rest) =
      if bytes_eq text (codes "and") then with_effects names rest
      else if is_update text then with_target names rest
      else names

  pub with_effects : List (List ℕ) → Trees → List (List ℕ)
  with_effects names End = names
  with_effects names (More (Leaf at text) rest) = with_effects names rest
  with_effects names (More (Node at close parts) rest) = with_effects (with_effect names parts) rest

-- an effect behind its label
abbrev pub with_labelled : List (List ℕ) → Trees → List (List ℕ)
with_labelled names End = names
with_labelled names (More (Leaf at text) rest) = names
with_labelled names (More (Node at close parts) rest) = with_effect names parts

-- behind `at`
abbrev pub with_at : List (List ℕ) → Trees → List (List ℕ)
with_at names End = names
with_at names (More (Node at close parts) rest) = names
with_at names (More (Leaf at text) rest) =
    if bytes_eq text (codes "start")
    || bytes_eq text (codes "end") then with_labelled names rest else names

abbrev mutual
  -- the names, with those that a list in a timed effect's place writes
  pub with_timed : List (List ℕ) → Trees → List (List ℕ)
  with_timed names End = names
  with_timed names (More (Node first end parts) rest) = names
  with_timed names (More (Leaf head text) rest) =
      if bytes_eq text (codes "and") then with_all_timed names rest
      else if bytes_eq text (codes "at") then with_at names rest
      else names

  pub with_all_timed : List (List ℕ) → Trees → List (List ℕ)
  with_all_timed names End = names
  with_all_timed names (More (Leaf at text) rest) = with_all_timed names rest
  with_all_timed names (More (Node at close parts) rest) =
      with_all_timed (with_timed names parts) rest

-- the names, with those that an action's effect writes
abbrev pub with_section : List (List ℕ) → Trees → List (List ℕ)
with_section names End = names
with_section names (More (Node first end parts) members) = names
with_section names (More (Leaf head text) members) =
    if bytes_eq text (codes ":action")
    then with_effect names (part_of Instant (codes ":effect") (behind_name members))
    else if bytes_eq text (codes ":durative-action")
    then with_timed names (part_of Durative (codes ":effect") (behind_name members))
    else names

-- the names, with those that any action's effect writes
abbrev pub with_sections : List (List ℕ) → Trees → List (List ℕ)
with_sections names End = names
with_sections names (More (Leaf at text) rest) = with_sections names rest
with_sections names (More (Node at close parts) rest) =
    with_sections (with_section names parts) rest

-- the functions that the actions of a domain write
abbrev pub written_of : Trees → List (List ℕ)
written_of sections = with_sections [] sections
