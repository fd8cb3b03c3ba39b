-- Where the effects of one start or one end stand, of which there may be 4,096.
use Rattle.std.specs.Prelude.{ℕ, nat_lt, if◌then◌else◌, List, [], ◌∷◌, ◌++◌, length, get_or, codes}
use Rattle.std.specs.Str.{bytes_eq}
use Rattle.pddl_tokens.specs.Trees.{Trees, Leaf, Node, End, More}
use Rattle.pddl_parts.specs.declared.faults.Fault.{Fault}
use Rattle.pddl_parts.specs.declared.faults.Kind.TheVariants.{Shape}
use Rattle.pddl_parts.specs.First.{fault}

abbrev mutual
  -- the places of the effects in a list that is an effect, where `()` and conjunctions are none
  -- themselves
  pub effect_places : ℕ → Trees → List ℕ
  effect_places at End = []
  effect_places at (More (Node first end parts) rest) = at ∷ []
  effect_places at (More (Leaf head text) rest) =
      if bytes_eq text (codes "and") then effects_places rest else at ∷ []

  pub effects_places : Trees → List ℕ
  effects_places End = []
  effects_places (More (Leaf at text) rest) = effects_places rest
  effects_places (More (Node at close parts) rest) = effect_places at parts ++ effects_places rest

-- an effect behind its label
abbrev pub labelled_places : Trees → List ℕ
labelled_places End = []
labelled_places (More (Leaf at text) rest) = []
labelled_places (More (Node at close parts) rest) = effect_places at parts

-- behind `at`, where this label stands
abbrev pub at_places : List ℕ → Trees → List ℕ
at_places label End = []
at_places label (More (Node at close parts) rest) = []
at_places label (More (Leaf at text) rest) =
    if bytes_eq text label then labelled_places rest else []

abbrev mutual
  -- the places of the effects with this label, `start` or `end`
  pub timed_places : List ℕ → Trees → List ℕ
  timed_places label End = []
  timed_places label (More (Node first end parts) rest) = []
  timed_places label (More (Leaf head text) rest) =
      if bytes_eq text (codes "and") then all_timed_places label rest
      else if bytes_eq text (codes "at") then at_places label rest
      else []

  pub all_timed_places : List ℕ → Trees → List ℕ
  all_timed_places label End = []
  all_timed_places label (More (Leaf at text) rest) = all_timed_places label rest
  all_timed_places label (More (Node at close parts) rest) =
      timed_places label parts ++ all_timed_places label rest

-- the first effect past the 4,096th; further ones stand behind it
abbrev pub past_faults : List ℕ → List Fault
past_faults places =
    if nat_lt 4096 (length places) then fault Shape (get_or places 4096 0) ∷ [] else []
