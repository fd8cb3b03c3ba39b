-- What `summary` gives of a seed: the lines that sum up the search of its problem.
use Rattle.std.specs.Prelude.{◌≡◌, ◌⊎◌, ℕ, List, []}
use Rattle.tp_spec.specs.declared.event.Event.{Event}
use Rattle.tp_world.specs.Sinks.{SinkView}
use Rattle.workload_run.specs.Summaries.{IsSummary}
use Rattle.run_cli.specs.Orders.{limits_of}
use Rattle.run_cli.specs.Printing.{Prints, PrintsNothing}

-- The history is a search of the seed's problem under the default limits; the text that sums it up
-- is put, at the status of its result, or memory was refused for that.
pub record IsSummedUp (seed : ℕ) (before after : SinkView) (status : ℕ) (history : List Event) :
    Type 0 where
  pub text : List ℕ
  pub wanted : ℕ
  pub summary : IsSummary seed (limits_of []) text wanted history
  pub printed : Prints text wanted before after status ⊎ PrintsNothing before after status

-- memory was refused before there was a search that ends with a result: nothing is put, and there
-- is no history
pub record IsUnsearched (before after : SinkView) (status : ℕ) (history : List Event) : Type 0 where
  pub none : history ≡ []
  pub nothing : PrintsNothing before after status

abbrev pub EndsSummary : ℕ → SinkView → SinkView → ℕ → List Event → Type 0
EndsSummary seed before after status history =
    IsSummedUp seed before after status history ⊎ IsUnsearched before after status history
