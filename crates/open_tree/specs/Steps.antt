-- What a turn's parts do to the run of a tree.
use Rattle.std.specs.Prelude.{◌≡◌, ℕ, ◌+◌, ◌<◌, ◌≤◌, ◌^◌, true, false, List, [], ◌∷◌, ◌++◌, length, All}
use Rattle.tp_spec.specs.declared.event.Event.{Event}
use Rattle.tp_spec.specs.declared.event.Event.TheVariants.{Expand}
use Rattle.tp_spec.specs.declared.plan.Mark.{Mark}
use Rattle.tp_spec.specs.declared.plan.Plan.{Plan}
use Rattle.tp_spec.specs.Machine.{IsSettled, SpellsNone, readings}
use Rattle.tp_spec.specs.WellFormed.{IsWellFormed}
use Rattle.tp_spec.specs.Schedules.{awaited}
use Rattle.tp_spec.specs.Words.{Sound, acts_of}
use Rattle.tp_spec.specs.declared.plan.Timed.{Timed}
use Rattle.tp_laws.specs.Clocks.{StartFrom}
use Rattle.word_frontier.specs.declared.child.Child.{Child}
use Rattle.tp_laws.specs.Plans.{is_whole}
use Rattle.word_frontier.specs.Nodes.{live_at}
use Rattle.word_network.specs.Conditions.{AreLimits, AreCommits}
use Rattle.word_network.specs.Schedules.{IsEarliest}
use Rattle.machine_run.specs.Children.{AreChildren, IsChild}
use Rattle.machine_run.specs.Turns.{Settles, has_outcome}
use Rattle.machine_run.specs.Views.{RunView, state, word_in}
use Rattle.open_tree.specs.Views.{SproutsView}
use Rattle.open_tree.specs.Answers.{IsDeedOn}
use Rattle.open_tree.specs.declared.job.Merged.{Merged}
use Rattle.open_tree.specs.declared.job.Merged.TheVariants as merged

-- one reading more was made a Tick, and the run is settled
pub record EndsTurn (old new : RunView) (reading : ℕ) : Type 0 where
  pub read : readings new.history ≡ readings old.history ++ reading ∷ []
  pub settled : IsSettled new.problem new.limits (state new)

-- Sprouts whose job's node stands: its word is the job's. The job's commitments are the first of
-- the run's, and the later ones start at the job's clock or later.
pub record AreReady (r : RunView) (s : SproutsView) : Type 0 where
  pub formed : IsWellFormed r.problem
  pub limited : AreLimits r.limits
  pub clocked : (state r).now ≤ r.limits.horizon + 1
  pub soon : (state r).now ≤ 2 ^ 40 + 1
  pub committed : AreCommits r.problem (state r).commits
  pub word : word_in r s.job.id ≡ s.job.node.word
  pub sound : Sound r.problem s.job.node.word
  pub few : length s.job.node.word + 1 < 2 ^ 31
  pub told : s.whole ≡ is_whole r.problem s.job.node.word
  pub later : s.job.clock ≤ (state r).now
  pub more : List Timed
  pub grown : (state r).commits ≡ s.job.commits ++ more
  pub from : StartFrom s.job.clock more
  pub sprouted : AreChildren r.problem r.limits s.job.clock s.job.commits s.job.node.word
      s.children

-- Children of a node under the run's commitments: those that are live at the run's clock are
-- exactly its live ones; the ranks and the deadlines of all are told.
pub record AreBrood (r : RunView) (id : ℕ) (children : List Child) : Type 0 where
  pub exact : AreChildren r.problem r.limits (state r).now (state r).commits (word_in r id)
      (live_at (state r).now children)
  pub each : All (IsChild r.problem r.limits (state r).commits (word_in r id)) children

-- the word of a node may be a whole plan's and has each commitment, and this is the plan of its
-- least schedule now
pub record IsPublication (r : RunView) (id : ℕ) (plan : Plan) : Type 0 where
  pub whole : is_whole r.problem (word_in r id) ≡ true
  pub all : awaited (acts_of r.problem (word_in r id)) (state r).commits ≡ []
  pub earliest : IsEarliest r.problem r.limits (state r).now (state r).commits (word_in r id) plan

-- no plan that is still possible has the word of a node
abbrev pub HasNoPlan : RunView → ℕ → Type 0
HasNoPlan r id = SpellsNone r.problem r.limits (state r) (word_in r id)

-- a deed and settling, by which the run is settled
pub record DoesDeed (old new : RunView) (deed : Event) : Type 0 where
  pub events : Settles (old.history ++ deed ∷ []) new.history
  pub settled : IsSettled new.problem new.limits (state new)

-- an Expand of the node without an outcome behind it, or a deed on it behind which one stands
abbrev pub Finishes : RunView → RunView → ℕ → ℕ → Merged → Type 0
Finishes old new actor id merged.Done = (marks : List Mark)
    × DoesDeed old new (Expand actor id marks) × (has_outcome new.history ≡ false)
Finishes old new actor id merged.Stale = ⊥
Finishes old new actor id merged.Over = (deed : Event) × DoesDeed old new deed
    × IsDeedOn actor id deed × (has_outcome new.history ≡ true)
