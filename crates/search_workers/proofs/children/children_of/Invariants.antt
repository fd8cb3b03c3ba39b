use Rattle.std.proofs.Common.{take, All}
use Rattle.machine_run.specs.Children.{IsChild, marks_of}
use Rattle.search_workers.specs.Sprouting.{AreThose, IsLiveMark}
use Rattle.search_workers.proofs.children.children_of.Given as goal

abbrev pub invariant-loop-index : goal.invariant-loop-index
invariant-loop-index l = record {
  those : AreThose (IsLiveMark l.problem l.job) (take l.index l.marks) (marks_of l.children);
  each : All (IsChild l.problem l.job.limits l.job.commits l.job.node.word) l.children;
}
