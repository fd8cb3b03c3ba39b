use Rattle.std.proofs.Common.{◌≡◌, ◌+◌, [], ◌∷◌, ◌++◌, take, ap, sym, ◌∙◌}
use Rattle.std.specs.List.{list_any}
use Rattle.std.proofs.lemmas.Grind.{take_at_read}
use Rattle.tp_spec.specs.Lists.{each_pair}
use Rattle.tp_spec.specs.declared.problem.Action.{Action}
use Rattle.problem_rules.proofs.Distinct.{apart, named, seen_more, refuses, keeps}
use Rattle.problem_rules.proofs.apart.told_apart.Goals as goal

pub returns-in-Ok-false : goal.returns-in-Ok-false
returns-in-Ok-false c =
    refuses c.args.actions.now c.loop-action.action-index c.action-item.result c.loop-action-test.true c.action-item.is c.loop-action.seen
    c.as_str.result c.as_str.ensures c.in-Ok-false.field-0 c.in-Ok-false.ensures.added c.loop-action.invariant.seen c.in-Ok-false.field-0-test

pub loop-action-preserved : goal.loop-action-preserved
loop-action-preserved c =
    let i = c.loop-action.action-index in
    let a = c.action-item.result in
    let next : take (i + 1) c.args.actions.now ≡ take i c.args.actions.now ++ a ∷ [] =
    (take_at_read c.args.actions.now i a c.loop-action-test.true).1 ∙ ap (λ (b : Action). take i c.args.actions.now ++ b ∷ []) (sym c.action-item.is) in
    record {
      apart = ap (each_pair apart) next ∙ keeps c.args.actions.now i a c.loop-action-test.true c.action-item.is c.loop-action.seen
          c.as_str.result c.as_str.ensures c.in-Ok-true.field-0 c.in-Ok-true.ensures.added c.loop-action.invariant.seen c.in-Ok-true.field-0-test c.loop-action.invariant.apart;
      seen = λ name. seen_more c.loop-action.seen c.insert.new.self c.as_str.result (take i c.args.actions.now) a c.as_str.ensures c.in-Ok-true.ensures.updates c.loop-action.invariant.seen name
          ∙ sym (ap (list_any (named name)) next);
    }
