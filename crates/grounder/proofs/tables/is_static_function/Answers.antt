use Rattle.std.proofs.Common.{length, sym, ◌∙◌, ap, slice_get}
use Rattle.grounder.specs.Sources.{source_of}
use Rattle.grounder.specs.Rigid.{is_static_function}
use Rattle.grounder.proofs.Steps.{row_at}
use Rattle.grounder.proofs.tables.is_static_function.Goals as goal

pub returns-in-Some : goal.returns-in-Some
returns-in-Some c =
    row_at (is_static_function (source_of c.args.start.now.source)) (length c.args.start.now.source.domain.now.functions) c.args.function c.in-Some.answer c.args.start.now.functions
    c.args.start.now.static_functions
    (ap (λ rows. slice_get rows c.args.function) (sym c.as_slice.ensures) ∙ sym c.in-Some.ensures)
