use Rattle.std.proofs.Common.{◌≡◌, ◌≤◌, ◌+◌, ◌++◌, length, take}
use Rattle.word_frontier.specs.Nodes.{children_from, live_at, word_at}
use Rattle.word_frontier.proofs.frontier.Frontier.expand.Given as goal

abbrev pub invariant-loop-child : goal.invariant-loop-child
invariant-loop-child l = record {
  nodes : l.self.nodes ≡ l.fn.self.nodes ++ children_from l.known (word_at l.id l.fn.self.nodes) l.fn.self.made (live_at l.now (take l.child-index l.children));
  made : l.self.made ≡ l.fn.self.made + length (live_at l.now (take l.child-index l.children));
  ranks : l.self.ranks ≡ l.fn.self.ranks;
  room : l.fn.self.room ≤ l.self.room + length (live_at l.now (take l.child-index l.children));
}
