-- The tests pass exactly where the rules hold.
use Rattle.std.proofs.Common.{◌≡◌, true, length}
use Rattle.std.proofs.lemmas.Bool.{and_parts, and_from, eqb-true, eq-eqb}
use Rattle.tp_spec.specs.WellFormed.{Ground, IsWellFormed}
use Rattle.problem_rules.specs.Tests.{well_formed}

pub tested : (p : Ground) → well_formed p ≡ true → IsWellFormed p
tested p h =
    let all = and_parts _ _ h in
    let front = and_parts _ _ all.0 in
    let half = and_parts _ _ front.0 in
    let names = and_parts _ _ half.0 in
    let first = and_parts _ _ names.0 in
    let items = and_parts _ _ half.1 in
    let actions = and_parts _ _ items.0 in
    let states = and_parts _ _ front.1 in
    let values = and_parts _ _ states.0 in
    let ranges = and_parts _ _ all.1 in
    record {
      scaled = first.0;
      fact_names = first.1;
      fluent_names = names.1;
      acting = actions.0;
      told_apart = actions.1;
      timing = items.1;
      ticks_fit = ranges.0;
      starting = values.0;
      valued = eqb-true (length p.values) (length p.fluents) values.1;
      values_fit = ranges.1;
      aiming = states.1;
    }

pub passes : (p : Ground) → IsWellFormed p → well_formed p ≡ true
passes p w =
    and_from _ _
    (and_from _ _
    (and_from _ _
    (and_from _ _ (and_from _ _ w.scaled w.fact_names) w.fluent_names)
    (and_from _ _ (and_from _ _ w.acting w.told_apart) w.timing))
    (and_from _ _ (and_from _ _ w.starting (eq-eqb (length p.values) (length p.fluents) w.valued)) w.aiming))
    (and_from _ _ w.ticks_fit w.values_fit)
