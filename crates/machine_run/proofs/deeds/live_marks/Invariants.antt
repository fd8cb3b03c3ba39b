use Rattle.std.proofs.Common.{◌≡◌, take}
use Rattle.word_frontier.specs.Nodes.{live_at}
use Rattle.machine_run.specs.Children.{marks_of}
use Rattle.machine_run.proofs.deeds.live_marks.Given as goal

abbrev pub invariant-loop-child : goal.invariant-loop-child
invariant-loop-child l = l.marks.items ≡ marks_of (live_at l.now (take l.child-index l.children))
