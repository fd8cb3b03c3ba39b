use Rattle.std.proofs.Common.{◌≡◌, ◌&&◌, ◌==◌, ℕ, List, [], take}
use Rattle.std.specs.List.{list_any}
use Rattle.std.specs.Str.{bytes_eq}
use Rattle.std.specs.BTreeSet.{contains_text}
use Rattle.grounder.specs.Sources.{source_of, atom_name}
use Rattle.grounder.specs.Rigid.{is_so}
use Rattle.grounder.proofs.timed.dated_names.Given as goal

abbrev pub invariant-loop-dated : goal.invariant-loop-dated
invariant-loop-dated l = (name : List ℕ) → contains_text l.names name
    ≡ list_any (λ d. d.tick == l.tick && is_so l.positive d.positive
    && bytes_eq (atom_name (source_of l.start.source) [] d.atom) name)
    (take l.dated-index l.start.source.task.now.timed)
