-- What the code keeps of a word.
use Rattle.std.specs.Prelude.{◌≡◌, List, map}
use Rattle.tp_spec.specs.declared.plan.Mark.{Mark}
use Rattle.tp_spec.specs.declared.problem.Problem.{Problem}
use Rattle.tp_spec.specs.Words.{Act, groups, acts_of, timed_of}
use Rattle.word_network.specs.declared.parts.WordAct.{WordAct}
use Rattle.word_network.specs.declared.parts.WordParts.{WordParts}

abbrev pub act_of : WordAct → Act
act_of a = record { action = a.action; opens = a.opens; closes = a.closes }

-- they are a word's
pub record ArePartsOf (p : Problem) (w : List Mark) (r : WordParts) : Type 0 where
  pub counted : r.groups ≡ groups w
  pub acting : map act_of r.acts.items ≡ acts_of p w
  pub timing : r.timed.items ≡ timed_of w
