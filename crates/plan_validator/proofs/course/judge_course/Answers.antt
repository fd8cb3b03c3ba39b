use Rattle.std.proofs.Common.{◌≡◌, ◌<◌, ◌+◌, ◌++◌, ℕ, suc, List, ◌∙◌, ap, sym, subst, get_or, length, arith}
use Rattle.std.specs.List.{filter}
use Rattle.tp_spec.specs.declared.plan.Timed.{Timed}
use Rattle.plan_validator.specs.declared.standings.Place.TheVariants.{Fixed}
use Rattle.plan_validator.specs.declared.standings.Standing.{Standing}
use Rattle.plan_validator.specs.declared.tick.Judged.TheVariants.{Fault, Passed}
use Rattle.plan_validator.specs.Course.{IsReached}
use Rattle.plan_validator.specs.Standings.{behind_at}
use Rattle.plan_validator.specs.Watched.{AreWatched, is_watched, begun_at, later_at}
use Rattle.plan_validator.proofs.Walk.{reach, through, reached_more, first_from, first_late, past_end, none_left, shorter}
use Rattle.plan_validator.proofs.Watched.{moved, inside_here, different_here, judged_here, watched_more}
use Rattle.plan_validator.proofs.course.judge_course.Goals as goal

abbrev none : Standing
none = record { tick = 0; place = Fixed 0 }

abbrev first_tick : List Standing → ℕ
first_tick xs = (get_or xs 0 none).tick

pub returns-then-tick-end : goal.returns-then-tick-end
returns-then-tick-end c =
    let reached = c.loop-rest.invariant.reached in
    through c.args.problem.now c.args.acts.now c.requires.inside c.args.end c.loop-rest.state c.loop-rest.rest.now
    (past_end c.args.end c.loop-rest.rest.now none c.in-len1-up.len_at_least reached.left.rising c.if-tick-end.true) reached

pub returns : goal.returns
returns c =
    let reached = c.loop-rest.invariant.reached in
    let empty : length c.loop-rest.rest.now ≡ 0 = omega (arith, c.in_default.len_below) in
    through c.args.problem.now c.args.acts.now c.requires.inside c.args.end c.loop-rest.state c.loop-rest.rest.now
    (none_left (suc c.args.end) c.loop-rest.rest.now empty) reached

pub judge_tick-requires-clause-inside : goal.judge_tick-requires-clause-inside
judge_tick-requires-clause-inside c =
    inside_here c.args.problem.now c.args.acts.now c.requires.inside c.args.end c.loop-rest.state c.loop-rest.rest.now none c.in-len1-up.len_at_least c.loop-rest.invariant.reached
    c.deref-in-len1-up.result.now (c.deref-in-len1-up.ensures.value ∙ c.in_ok-here.ensures)

pub judge_tick-requires-clause-different : goal.judge_tick-requires-clause-different
judge_tick-requires-clause-different c =
    different_here c.args.problem.now c.args.acts.now c.requires.inside c.args.end c.loop-rest.state c.loop-rest.rest.now none c.in-len1-up.len_at_least c.loop-rest.invariant.reached
    c.deref-in-len1-up.result.now (c.deref-in-len1-up.ensures.value ∙ c.in_ok-here.ensures)

pub returns-in-Fault : goal.returns-in-Fault
returns-in-Fault c =
    let reached = c.loop-rest.invariant.reached in
    let rest : List Standing = c.loop-rest.rest.now in
    let kept : c.take_in.new.running.items ≡ moved c.args.problem.now (first_tick rest) c.loop-rest.running.items c.loop-rest.coming.now =
    c.in_ok-take_in.ensures ∙ ap (λ xs. xs ++ filter (is_watched c.args.problem.now) (begun_at (first_tick rest) c.loop-rest.coming.now)) c.drop_ended.ensures in
    record {
      tick = first_tick rest;
      in_time = c.if-tick-end.false;
      passed = (reach c.args.problem.now c.args.acts.now c.requires.inside c.args.end c.loop-rest.state rest (first_tick rest) reached
          (first_late reached.tick rest none c.in-len1-up.len_at_least reached.left.late) (first_from rest none c.in-len1-up.len_at_least reached.left.rising)).0;
      fault = judged_here c.args.problem.now c.args.acts.now c.requires.inside c.args.end c.loop-rest.state rest none c.in-len1-up.len_at_least reached
          c.deref-in-len1-up.result.now (c.deref-in-len1-up.ensures.value ∙ c.in_ok-here.ensures)
          c.loop-rest.running.items c.loop-rest.coming.now c.deref.result.now c.loop-rest.invariant.watched (c.deref.ensures.value ∙ kept) _ (Fault c.in-Fault.verdict) c.in-Fault.is c.in_ok-verdict.ensures;
    }

pub loop-rest-smaller : goal.loop-rest-smaller
loop-rest-smaller c =
    let less = shorter c.loop-rest.rest.now none c.in-len1-up.len_at_least in
    subst (λ (xs : List Standing). length xs < length c.loop-rest.rest.now) (sym c.behind-rest.ensures) less

pub loop-rest-preserved : goal.loop-rest-preserved
loop-rest-preserved c =
    let reached = c.loop-rest.invariant.reached in
    let watched = c.loop-rest.invariant.watched in
    let rest : List Standing = c.loop-rest.rest.now in
    let kept : c.take_in.new.running.items ≡ moved c.args.problem.now (first_tick rest) c.loop-rest.running.items c.loop-rest.coming.now =
    c.in_ok-take_in.ensures ∙ ap (λ xs. xs ++ filter (is_watched c.args.problem.now) (begun_at (first_tick rest) c.loop-rest.coming.now)) c.drop_ended.ensures in
    let from = first_from rest none c.in-len1-up.len_at_least reached.left.rising in
    record {
      tables = c.loop-rest.invariant.tables;
      reached = subst (λ (xs : List Standing). IsReached c.args.problem.now c.args.acts.now c.args.end c.in-Passed.next xs) (sym c.behind-rest.ensures)
          (reached_more c.args.problem.now c.args.acts.now c.requires.inside c.args.end c.loop-rest.state c.in-Passed.next rest (first_tick rest) reached c.if-tick-end.false
          (first_late reached.tick rest none c.in-len1-up.len_at_least reached.left.late) from
          (judged_here c.args.problem.now c.args.acts.now c.requires.inside c.args.end c.loop-rest.state rest none c.in-len1-up.len_at_least reached
          c.deref-in-len1-up.result.now (c.deref-in-len1-up.ensures.value ∙ c.in_ok-here.ensures)
          c.loop-rest.running.items c.loop-rest.coming.now c.deref.result.now watched (c.deref.ensures.value ∙ kept) _ (Passed c.in-Passed.next) c.in-Passed.is c.in_ok-verdict.ensures));
      watched = subst (λ (xs : List Standing). AreWatched c.args.problem.now c.args.acts.now c.take_in.new.running.items c.later-coming.result.now xs) (sym c.behind-rest.ensures)
          (subst (λ (ys : List Timed). AreWatched c.args.problem.now c.args.acts.now c.take_in.new.running.items ys (behind_at (first_tick rest) rest)) (sym c.later-coming.ensures)
          (subst (λ (zs : List Timed). AreWatched c.args.problem.now c.args.acts.now zs (later_at (first_tick rest) c.loop-rest.coming.now) (behind_at (first_tick rest) rest)) (sym kept)
          (watched_more c.args.problem.now c.args.acts.now c.loop-rest.running.items c.loop-rest.coming.now rest (first_tick rest) watched
          (first_late watched.tick rest none c.in-len1-up.len_at_least watched.late) reached.left.rising from)));
    }
