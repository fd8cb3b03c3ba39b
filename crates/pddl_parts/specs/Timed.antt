-- Conditions and effects of durative actions: at the start, at the end, and conditions over all of
-- it.
use Rattle.std.specs.Prelude.{ℕ, Bool, true, false, ◌&&◌, ◌||◌, if◌then◌else◌, List, [], ◌∷◌, ◌++◌, codes}
use Rattle.std.specs.Str.{bytes_eq}
use Rattle.pddl_tokens.specs.Trees.{Trees, Leaf, Node, End, More}
use Rattle.pddl_parts.specs.declared.faults.Fault.{Fault}
use Rattle.pddl_parts.specs.declared.faults.Kind.TheVariants.{Shape, LeftOut}
use Rattle.pddl_parts.specs.declared.timed.TimedPart.{TimedPart}
use Rattle.pddl_parts.specs.declared.timed.TimedPart.TheVariants.{Condition, Effect}
use Rattle.pddl_parts.specs.First.{fault}
use Rattle.pddl_parts.specs.Settings.{Setting}
use Rattle.pddl_parts.specs.Literals.{misfit_word, misfit_list}
use Rattle.pddl_parts.specs.Conditions.{condition_faults}
use Rattle.pddl_parts.specs.Effects.{effect_faults}
use Rattle.pddl_parts.specs.Members.{surplus_faults}

-- a condition, or an effect
abbrev pub inner_faults : TimedPart → Setting → ℕ → ℕ → Trees → List Fault
inner_faults Condition setting at close parts = condition_faults setting at close parts
inner_faults Effect setting at close parts = effect_faults setting at close parts

-- the two labels behind `at`
abbrev pub is_label : List ℕ → Bool
is_label text = bytes_eq text (codes "start") || bytes_eq text (codes "end")

-- whether a list comes first
abbrev pub begins_with_list : Trees → Bool
begins_with_list End = false
begins_with_list (More (Leaf at text) rest) = false
begins_with_list (More (Node at close parts) rest) = true

-- behind `at`: a label and a list
abbrev pub has_label : Trees → Bool
has_label End = false
has_label (More (Node at close parts) rest) = false
has_label (More (Leaf at text) rest) = is_label text && begins_with_list rest

-- a list of a first word and members that is labelled, and so no atom where labels may stand
abbrev pub is_labelled : Trees → Bool
is_labelled End = false
is_labelled (More (Node at close parts) rest) = false
is_labelled (More (Leaf at text) rest) = bytes_eq text (codes "at") && has_label rest

-- whether a labelled list comes first
abbrev pub denies_labelled : Trees → Bool
denies_labelled End = false
denies_labelled (More (Leaf at text) rest) = false
denies_labelled (More (Node at close parts) rest) = is_labelled parts

-- behind `at start` or `at end`
abbrev pub labelled_faults : TimedPart → Setting → ℕ → ℕ → Trees → List Fault
labelled_faults part setting at close End = fault Shape close ∷ []
labelled_faults part setting at close (More (Leaf place text) rest) = fault Shape at ∷ []
labelled_faults part setting at close (More (Node place end parts) rest) =
    inner_faults part setting place end parts ++ surplus_faults rest

-- behind `at`
abbrev pub at_faults : TimedPart → Setting → ℕ → ℕ → Trees → List Fault
at_faults part setting at close End = fault Shape at ∷ []
at_faults part setting at close (More (Node place end parts) rest) = fault Shape at ∷ []
at_faults part setting at close (More (Leaf place text) rest) =
    if is_label text then labelled_faults part setting at close rest else fault Shape at ∷ []

-- one condition that is the last member
abbrev pub last_condition_faults : Setting → ℕ → Trees → List Fault
last_condition_faults setting close End = fault Shape close ∷ []
last_condition_faults setting close (More (Leaf at text) rest) =
    misfit_word at text ++ surplus_faults rest
last_condition_faults setting close (More (Node at end parts) rest) =
    condition_faults setting at end parts ++ surplus_faults rest

-- behind `over`: `all`, and a condition
abbrev pub over_faults : Setting → ℕ → Trees → List Fault
over_faults setting close End = fault Shape close ∷ []
over_faults setting close (More (Node at end parts) rest) =
    misfit_list at parts ++ last_condition_faults setting close rest
over_faults setting close (More (Leaf at text) rest) =
    (if bytes_eq text (codes "all") then [] else misfit_word at text)
    ++ last_condition_faults setting close rest

-- whether `over` may stand here
abbrev pub takes_over : TimedPart → List ℕ → Bool
takes_over Condition text = bytes_eq text (codes "over")
takes_over Effect text = false

abbrev mutual
  -- what is wrong with a list that is to be a timed condition, or effect; no `not` may stand here
  pub timed_faults : TimedPart → Setting → ℕ → ℕ → Trees → List Fault
  timed_faults part setting at close End = []
  timed_faults part setting at close (More (Node first end parts) rest) =
      misfit_list at (More (Node first end parts) rest)
  timed_faults part setting at close (More (Leaf head text) rest) =
      if bytes_eq text (codes "and") then all_timed_faults part setting rest
      else if bytes_eq text (codes "at") then at_faults part setting at close rest
      else if takes_over part text then over_faults setting close rest
      else if bytes_eq text (codes "not") && denies_labelled rest then fault LeftOut head ∷ []
      else misfit_list at (More (Leaf head text) rest)

  -- what is wrong with some of them
  pub all_timed_faults : TimedPart → Setting → Trees → List Fault
  all_timed_faults part setting End = []
  all_timed_faults part setting (More (Leaf at text) rest) =
      misfit_word at text ++ all_timed_faults part setting rest
  all_timed_faults part setting (More (Node at close parts) rest) =
      timed_faults part setting at close parts ++ all_timed_faults part setting rest
