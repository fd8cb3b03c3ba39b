use Rattle.std.proofs.Common.{◌≡◌, ℕ, List, [], take}
use Rattle.std.specs.List.{list_any}
use Rattle.std.specs.Str.{bytes_eq}
use Rattle.std.specs.BTreeSet.{contains_text}
use Rattle.grounder.specs.Sources.{source_of, atom_name}
use Rattle.grounder.proofs.tables.truths_of.Given as goal

abbrev pub invariant-loop-atom : goal.invariant-loop-atom
invariant-loop-atom l = (name : List ℕ) → contains_text l.names name
    ≡ list_any (λ a. bytes_eq (atom_name (source_of l.source) [] a) name)
    (take l.atom-index l.source.task.now.init)
