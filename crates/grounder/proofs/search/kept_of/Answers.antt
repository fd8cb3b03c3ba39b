use Rattle.std.proofs.Common.{List, ℕ, [], ◌++◌, map, ap, ◌∙◌}
use Rattle.std.specs.List.{filter}
use Rattle.grounder.specs.Sources.{source_of}
use Rattle.grounder.specs.Objects.{choices, objects_of}
use Rattle.grounder.specs.Kept.{is_kept, kept_behind}
use Rattle.grounder.proofs.Choices.{behind_nothing}
use Rattle.grounder.proofs.search.kept_of.Goals as goal

pub returns : goal.returns
returns c =
    let s = source_of c.args.start.now.source in
    let ranges = c.as_slice-2.result.now in
    let p = is_kept s c.args.schema.now in
    c.in_ok-kept.ensures
    ∙ ap (λ (l : List (List ℕ)). l ++ kept_behind s c.args.schema.now [] ranges) c.new-none.ensures
    ∙ behind_nothing p (choices ranges)
    ∙ ap (λ (r : List (List ℕ)). filter p (choices r)) (c.as_slice-2.ensures ∙ c.in_ok-ranges.ensures ∙ ap (map (objects_of s)) c.as_slice.ensures)
