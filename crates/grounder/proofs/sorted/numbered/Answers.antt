use Rattle.std.proofs.Common.{ℕ, List, take, ap, ◌∙◌}
use Rattle.pddl_parts.specs.Names.{with_name}
use Rattle.grounder.proofs.Rising.{number_step}
use Rattle.grounder.proofs.sorted.numbered.Goals as goal

pub loop-name-preserved : goal.loop-name-preserved
loop-name-preserved c =
    let text = c.as_bytes.result.now in
    let front = take c.loop-name.name-index c.args.names.now in
    c.in_ok-enter.ensures.table
    ∙ ap (λ (t : List (List ℕ)). with_name t text) c.loop-name.invariant
    ∙ ap (with_name front) (c.as_bytes.ensures.value ∙ c.as_str.ensures)
    ∙ number_step c.args.names.now c.loop-name.name-index c.name-item.result c.requires c.loop-name-test.true c.name-item.is
