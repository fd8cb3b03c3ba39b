-- What a worker keeps of a job's word of instants.
use Rattle.std.specs.Prelude.{◌≡◌, [], IsTrue}
use Rattle.tp_spec.specs.declared.problem.Problem.{Problem}
use Rattle.tp_laws.specs.Instants as laws
use Rattle.tp_laws.specs.Instants.{of_instants, outlook_of}
use Rattle.open_tree.specs.Views.{JobView}
use Rattle.search_workers.specs.declared.outlook.Outlook.{Outlook}

-- the outlook that is kept
abbrev pub told : Outlook → laws.Outlook
told o = record {
  opened = o.opened;
  starts = o.starts;
  first = o.first;
  timed = o.timed;
  last = o.last;
}

-- it is that of a job's word, which is of instants, and the job has no commitments
pub record IsOutlookOf (p : Problem) (j : JobView) (o : Outlook) : Type 0 where
  pub free : j.commits ≡ []
  pub instants : IsTrue (of_instants p j.node.word)
  pub known : told o ≡ outlook_of p j.node.word
