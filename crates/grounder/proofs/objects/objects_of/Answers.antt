use Rattle.std.proofs.Common.{◌<◌, List, length, get_or, ◌∙◌, ap, subst}
use Rattle.pddl_meaning.specs.declared.groups.Object.{Object}
use Rattle.grounder.specs.Sources.{source_of}
use Rattle.grounder.specs.Objects.{is_below}
use Rattle.grounder.proofs.Numbers.{where_step}
use Rattle.grounder.proofs.objects.objects_of.Goals as goal

pub loop-number-preserved : goal.loop-number-preserved
loop-number-preserved c =
    let same = c.as_slice-object-items.ensures in
    let P : List Object → Type 0 = λ xs. c.loop-number.number < length xs in
    where_step (λ (o : Object). is_below (source_of c.args.source.now) c.args.sort o.sort) c.args.source.now.task.now.objects c.loop-number.number c.object-item.result c.is_below.result c.loop-number.objects c.in_ok-objects.objects
    (subst P same c.loop-number-test.true)
    (c.object-item.is ∙ ap (λ (xs : List Object). get_or xs c.loop-number.number c.object-item.result) same)
    c.is_below.ensures
    c.loop-number.invariant
    c.in_ok-objects.ensures
