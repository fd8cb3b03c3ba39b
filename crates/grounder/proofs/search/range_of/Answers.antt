use Rattle.std.proofs.Common.{length, sym, ◌∙◌, ap, slice_get}
use Rattle.grounder.specs.Sources.{source_of}
use Rattle.grounder.specs.Objects.{objects_of}
use Rattle.grounder.proofs.Steps.{row_at}
use Rattle.grounder.proofs.search.range_of.Goals as goal

pub returns-in_ok-range-in-Some : goal.returns-in_ok-range-in-Some
returns-in_ok-range-in-Some c =
    c.in_ok-range-in-Some.ensures
    ∙ c.as_slice-in-Some.ensures
    ∙ row_at (objects_of (source_of c.args.start.now.source)) (length c.args.start.now.source.domain.now.types) c.args.sort c.in-Some.range.now c.args.start.now.objects
    c.args.start.now.of_types
    (ap (λ rows. slice_get rows c.args.sort) (sym c.as_slice.ensures) ∙ sym c.in-Some.ensures)
