-- The answers of a tree's turns. They tell what stands behind a turn, whose form is a Tick,
-- settling, at most one deed, and settling again.
use Rattle.std.specs.Prelude.{◌≡◌, ◌⊎◌, ℕ, true, false, not, ◌==◌, List, [], Option, Some, None, IsTrue, drop}
use Rattle.std.specs.List.{list_any}
use Rattle.tp_spec.specs.declared.event.Event.{Event}
use Rattle.tp_spec.specs.declared.event.Event.TheVariants.{Take, Expand, Publish, Limit}
use Rattle.tp_spec.specs.declared.plan.Limits.{Limits}
use Rattle.tp_spec.specs.declared.plan.Mark.{Mark}
use Rattle.tp_spec.specs.declared.plan.Plan.{Plan}
use Rattle.tp_spec.specs.declared.problem.Problem.{Problem}
use Rattle.tp_spec.specs.Machine.{open_nodes, rank, state_of}
use Rattle.tp_spec.specs.Schedules.{Live}
use Rattle.tp_laws.specs.Clocks.{IsDeadline}
use Rattle.machine_run.specs.Turns.{IsTurn, has_outcome}
use Rattle.open_tree.specs.Views.{JobView}
use Rattle.open_tree.specs.Jobs.{IsJobOf}
use Rattle.open_tree.specs.declared.job.Look.{Look}
use Rattle.open_tree.specs.declared.job.Taken.{Taken}
use Rattle.open_tree.specs.declared.job.Taken.TheVariants as taken
use Rattle.open_tree.specs.declared.job.Merged.{Merged}
use Rattle.open_tree.specs.declared.job.Merged.TheVariants as merged

-- The turn's deed is the Take of the job's node, and no outcome stands behind it. The job is of
-- this problem, these limits and this history; its word is live, and its rank and its deadline are
-- the word's.
pub record GivesJob (p : Problem) (l : Limits) (old new : List Event) (actor reading : ℕ)
    (j : JobView) : Type 0 where
  pub turn : IsTurn old new actor reading (Some (Take actor j.id))
  pub standing : has_outcome new ≡ false
  pub problem : j.problem ≡ p
  pub limits : j.limits ≡ l
  pub job : IsJobOf l new actor j
  pub live : Live p l j.clock j.commits j.node.word
  pub ranked : j.node.rank ≡ rank p j.node.word
  pub timely : IsDeadline p l j.commits j.node.word j.node.deadline

-- The turn has no deed, no outcome stands behind it, and no node is open.
pub record GivesNothing (l : Limits) (old new : List Event) (actor reading : ℕ) : Type 0 where
  pub turn : IsTurn old new actor reading None
  pub standing : has_outcome new ≡ false
  pub none_open : open_nodes (state_of l new).nodes ≡ []

-- The turn has no deed: an outcome came as it settled.
pub record FindsOutcome (old new : List Event) (actor reading : ℕ) : Type 0 where
  pub turn : IsTurn old new actor reading None
  pub outcome : has_outcome new ≡ true

-- over exactly where an outcome stands, else nothing exactly where no node is open
abbrev pub GivesTaken : Problem → Limits → List Event → List Event → ℕ → ℕ → Taken → Type 0
GivesTaken p l old new actor reading (taken.Job job) = GivesJob p l old new actor reading job
GivesTaken p l old new actor reading taken.Nothing = GivesNothing l old new actor reading
GivesTaken p l old new actor reading taken.Over = FindsOutcome old new actor reading

-- a deed on this id, other than a Take
abbrev pub IsDeedOn : ℕ → ℕ → Event → Type 0
IsDeedOn actor id e =
    ((marks : List Mark) × (e ≡ Expand actor id marks))
    ⊎ (((plan : Plan) × (e ≡ Publish actor id plan))
    ⊎ ((made : ℕ) × (marks : ℕ) × (e ≡ Limit actor id made marks)))

-- The turn's deed is an Expand of the node, and no outcome stands behind it.
pub record IsExpanded (old new : List Event) (actor reading id : ℕ) : Type 0 where
  pub marks : List Mark
  pub turn : IsTurn old new actor reading (Some (Expand actor id marks))
  pub standing : has_outcome new ≡ false

-- The turn has no deed, no outcome stands behind it, and the node left the frontier.
pub record IsStale (l : Limits) (old new : List Event) (actor reading id : ℕ) : Type 0 where
  pub turn : IsTurn old new actor reading None
  pub standing : has_outcome new ≡ false
  pub left : IsTrue (not (list_any (λ n. n.id == id) (state_of l new).nodes))

-- An outcome stands behind the turn, whose deed, if there is one, is on the node.
pub record EndsSearch (old new : List Event) (actor reading id : ℕ) : Type 0 where
  pub deed : Option Event
  pub turn : IsTurn old new actor reading deed
  pub outcome : has_outcome new ≡ true
  pub on : (deed ≡ None) ⊎ ((e : Event) × (deed ≡ Some e) × IsDeedOn actor id e)

-- over exactly where an outcome stands, else stale exactly where the node left the frontier with no
-- deed
abbrev pub GivesMerged : Limits → List Event → List Event → ℕ → ℕ → ℕ → Merged → Type 0
GivesMerged l old new actor reading id merged.Done = IsExpanded old new actor reading id
GivesMerged l old new actor reading id merged.Stale = IsStale l old new actor reading id
GivesMerged l old new actor reading id merged.Over = EndsSearch old new actor reading id

-- The turn has no deed. What it gives are the commitments behind it after the first ones, so many,
-- and that it is over exactly where an outcome stands behind it.
pub record GivesLook (l : Limits) (old new : List Event) (actor reading sent : ℕ) (look : Look) :
    Type 0 where
  pub turn : IsTurn old new actor reading None
  pub acts : look.acts ≡ drop sent (state_of l new).commits
  pub over : look.over ≡ has_outcome new
