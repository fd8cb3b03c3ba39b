use Rattle.std.proofs.Common.{◌≡◌, ◌∙◌, ap, false, Some}
use Rattle.std.proofs.lemmas.Option.{MatchOption-at_some}
use Rattle.tp_spec.specs.Items.{has_after}
use Rattle.world_state.specs.Happenings.{AreValuesAfter}
use Rattle.world_state.specs.View.{meaning, StateView}
use Rattle.world_state.proofs.After.{some_after}
use Rattle.world_state.proofs.changes.apply.Goals as goal

pub returns-in_ok-facts-in-Some-clause-is : goal.returns-in_ok-facts-in-Some-clause-is
returns-in_ok-facts-in-Some-clause-is c =
    let p = c.args.problem.now in
    let v = c.args.state.now in
    let w : StateView = record { words = c.in_ok-facts-in-Some.facts.words.items; values = c.in-Some.values.items } in
    ap (λ s. Some (meaning s)) c.of_parts.ensures
    ∙ some_after p c.keeps_the_rules.ensures c.args.items.now v w c.requires.of_problem.valued c.in_ok-facts-in-Some.ensures.has
    (MatchOption-at_some (has_after p (meaning v) c.args.items.now ≡ false) (λ values. AreValuesAfter p (meaning v) c.args.items.now values.items)
    c.in-Some.values c.in-Some.is c.in_ok-values_after.ensures)
