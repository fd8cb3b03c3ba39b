-- What may come behind a word: the marks, and the ranks of the longer words.
use Rattle.std.specs.Prelude.{ℕ, ◌≡◌, Bool, true, false, ◌++◌, ◌∷◌, [], List, map}
use Rattle.std.specs.List.{filter}
use Rattle.tp_spec.specs.declared.plan.Item.{Item}
use Rattle.tp_spec.specs.declared.plan.Mark.{Mark}
use Rattle.tp_spec.specs.declared.problem.Problem.{Problem}
use Rattle.tp_spec.specs.Items.{all_items}
use Rattle.tp_spec.specs.Words.{Progress, progress, may_follow}
use Rattle.tp_spec.specs.Machine.{rank}
use Rattle.tp_laws.specs.Plans.{is_whole}
use Rattle.node_state.specs.declared.growth.Growth.{Growth}

abbrev pub mark_of : Bool → Item → Mark
mark_of fresh i = record { fresh = fresh; item = i }

-- the marks that may come next, of items that join the last group or that open the next one
abbrev pub marks_by : Problem → Progress → Bool → List Mark
marks_by p c fresh = filter (may_follow p c) (map (mark_of fresh) (all_items p))

-- The marks that make a sound word a longer sound word, in order: those that join its last group,
-- then those that open the next one, each in item order.
abbrev pub next_marks : Problem → List Mark → List Mark
next_marks p w = marks_by p (progress p w) false ++ marks_by p (progress p w) true

-- the rank of a word with one mark more
abbrev pub rank_with : Problem → List Mark → Mark → ℕ
rank_with p w a = rank p (w ++ a ∷ [])

-- the marks that may come behind a word, the ranks of the words that they make, and whether the
-- word itself may be a whole plan's
pub record IsGrowthOf (p : Problem) (w : List Mark) (g : Growth) : Type 0 where
  pub marks : g.marks ≡ next_marks p w
  pub ranks : g.ranks ≡ map (rank_with p w) (next_marks p w)
  pub whole : g.whole ≡ is_whole p w
