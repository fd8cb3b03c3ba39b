use Rattle.std.proofs.Common.{rules, refl, arith, ◌≡◌, ◌<◌, ◌≤◌, ◌∙◌, subst, sym, ap, ℕ, length, get_or, set, max, take, ◌+◌}
use Rattle.std.proofs.lemmas.Bool.{ltb-true}
use Rattle.std.proofs.lemmas.List.{get_or_read, length-set}
use Rattle.world_state.proofs.After.{list_all_get}
use Rattle.tp_spec.specs.declared.plan.Timed.{Timed}
use Rattle.plan_validator.specs.Acts.{is_of, reach, AreFree}
use Rattle.plan_validator.proofs.Free.{first_out_here, kept_more, free_after}
use Rattle.plan_validator.proofs.acts.first_out.Goals as goal

abbrev none : Timed
none = record { action = 0; start = 0; length = 0 }

pub returns-then-act-from : goal.returns-then-act-from
returns-then-act-from c =
    let x : Timed = get_or c.args.acts.now c.loop-act.act-index none in
    let known : x.action < c.args.count = ltb-true x.action c.args.count (list_all_get (is_of c.args.count) c.args.acts.now c.loop-act.act-index none c.requires.inside c.loop-act-test.true) in
    let inside : x.action < length c.loop-act.free.items = omega arith in
    let read : c.index-from.result.now ≡ get_or c.loop-act.free.items x.action 0 = get_or_read c.loop-act.free.items x.action c.index-from.result.now inside c.index-from.ensures 0 in
    first_out_here c.args.rule c.args.acts.now c.loop-act.free.items c.loop-act.act-index x none c.loop-act-test.true refl inside c.loop-act.invariant.whole c.loop-act.invariant.free (omega arith)

pub loop-act-preserved : goal.loop-act-preserved
loop-act-preserved c =
    let x : Timed = get_or c.args.acts.now c.loop-act.act-index none in
    let known : x.action < c.args.count = ltb-true x.action c.args.count (list_all_get (is_of c.args.count) c.args.acts.now c.loop-act.act-index none c.requires.inside c.loop-act-test.true) in
    let inside : x.action < length c.loop-act.free.items = omega arith in
    let read : c.index-from.result.now ≡ get_or c.loop-act.free.items x.action 0 = get_or_read c.loop-act.free.items x.action c.index-from.result.now inside c.index-from.ensures 0 in
    let late : get_or c.loop-act.free.items x.action 0 ≤ x.start = omega arith in
    let value : max (get_or c.loop-act.free.items x.action 0) (reach c.args.rule x) ≡ c.max.result = cc in
    record {
      len = length-set c.loop-act.free.items x.action c.max.result ∙ c.loop-act.invariant.len;
      whole = kept_more c.args.rule c.args.acts.now c.loop-act.free.items c.loop-act.act-index x none c.loop-act-test.true refl inside c.loop-act.invariant.whole c.loop-act.invariant.free late;
      free = subst (λ m. AreFree c.args.rule (take (c.loop-act.act-index + 1) c.args.acts.now) (set c.loop-act.free.items x.action m)) value (free_after c.args.rule c.args.acts.now c.loop-act.free.items c.loop-act.act-index x none c.loop-act-test.true refl inside c.loop-act.invariant.free);
    }
