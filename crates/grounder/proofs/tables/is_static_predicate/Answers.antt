use Rattle.std.proofs.Common.{length, sym, ◌∙◌, ap, slice_get}
use Rattle.grounder.specs.Sources.{source_of}
use Rattle.grounder.specs.Rigid.{is_static_predicate}
use Rattle.grounder.proofs.Steps.{row_at}
use Rattle.grounder.proofs.tables.is_static_predicate.Goals as goal

pub returns-in-Some : goal.returns-in-Some
returns-in-Some c =
    row_at (is_static_predicate (source_of c.args.start.now.source)) (length c.args.start.now.source.domain.now.predicates) c.args.predicate c.in-Some.answer c.args.start.now.predicates
    c.args.start.now.static_predicates
    (ap (λ rows. slice_get rows c.args.predicate) (sym c.as_slice.ensures) ∙ sym c.in-Some.ensures)
