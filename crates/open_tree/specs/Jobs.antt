-- What a job and its sprouts say of a history.
use Rattle.std.specs.Prelude.{◌≡◌, ℕ, List, [], ◌∷◌, ◌++◌}
use Rattle.tp_spec.specs.declared.event.Event.{Event}
use Rattle.tp_spec.specs.declared.event.Event.TheVariants.{Take}
use Rattle.tp_spec.specs.declared.plan.Limits.{Limits}
use Rattle.tp_spec.specs.Machine.{Node, IsTaken, state_of}
use Rattle.tp_laws.specs.Plans.{is_whole}
use Rattle.machine_run.specs.Children.{AreChildren}
use Rattle.open_tree.specs.Views.{JobView, SproutsView}

-- The history has a Take of the job's id by this actor; the job's word, clock and commitments are
-- those of the state after it.
pub record IsJobOf (l : Limits) (history : List Event) (actor : ℕ) (job : JobView) : Type 0 where
  pub front : List Event
  pub rest : List Event
  pub split : history ≡ (front ++ Take actor job.id ∷ []) ++ rest
  pub node : Node
  pub taken : IsTaken (state_of l (front ++ Take actor job.id ∷ [])) actor job.id node
  pub word : job.node.word ≡ node.word
  pub clock : job.clock ≡ (state_of l (front ++ Take actor job.id ∷ [])).now
  pub commits : job.commits ≡ (state_of l (front ++ Take actor job.id ∷ [])).commits

-- the children are exactly the marks that make the job's word a live word under its view, in order,
-- each with the rank and the deadline of the longer word; and it is told whether the word may be a
-- whole plan's
pub record AreSprouts (s : SproutsView) : Type 0 where
  pub exact : AreChildren s.job.problem s.job.limits s.job.clock s.job.commits s.job.node.word
      s.children
  pub told : s.whole ≡ is_whole s.job.problem s.job.node.word
