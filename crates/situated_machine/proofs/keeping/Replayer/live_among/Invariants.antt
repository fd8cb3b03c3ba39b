use Rattle.std.proofs.Common.{◌≡◌, take}
use Rattle.situated_machine.specs.Marked.{AreLiveAmong, sight_of}
use Rattle.situated_machine.proofs.keeping.Replayer.live_among.Given as goal

abbrev pub invariant-loop-index : goal.invariant-loop-index
invariant-loop-index l = (l.word.items ≡ l.fn.word.items) × AreLiveAmong (sight_of l.fn.self l.fn.word.items) (take l.index l.fn.marks) l.children
