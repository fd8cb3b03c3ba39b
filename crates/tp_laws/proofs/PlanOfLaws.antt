-- Each front of a possible plan's word is live, and the plan is the one of its word and its ticks.
use Rattle.std.proofs.Common.{◌≡◌, refl, sym, ap, subst, ◌∙◌, suc, ◌+◌, ◌≤◌, true, List, [], ◌∷◌, ◌++◌, length, map, inl, inr, arith, append-nil}
use Rattle.std.specs.Prelude.{nat_le}
use Rattle.std.specs.List.{AllByRecursion as Each}
use Rattle.std.proofs.lemmas.Bool.{and_from, leb-true}
use Rattle.tp_spec.specs.declared.plan.Limits.{Limits}
use Rattle.tp_spec.specs.declared.plan.Mark.{Mark}
use Rattle.tp_spec.specs.declared.plan.Plan.{Plan}
use Rattle.tp_spec.specs.declared.plan.Timed.{Timed}
use Rattle.tp_spec.specs.declared.problem.Problem.{Problem}
use Rattle.tp_spec.specs.Lists.{IsIn, is_empty}
use Rattle.tp_spec.specs.Courses.{Valid}
use Rattle.tp_spec.specs.WellFormed.{IsWellFormed}
use Rattle.tp_spec.specs.Words.{Follow, at_start, groups, acts_of, spell}
use Rattle.tp_spec.specs.Schedules.{Schedule, awaited, timed_act, last_tick}
use Rattle.tp_laws.specs.Plans.{WordsOfPlansAreSound, WordsOfPlansAreWhole, FrontsAreLive, PlansAreOfWords, WordsOfPlansAreComplete, is_whole}
use Rattle.tp_laws.proofs.EarlyLists.{each-in, each-true, in-right}
use Rattle.tp_laws.proofs.EarlyReading.{follow-front}
use Rattle.tp_laws.proofs.Ends.{groups-append}
use Rattle.tp_laws.proofs.PlanOfBeside.{beside-equal}
use Rattle.tp_laws.proofs.PlanOfOrders.{plays}
use Rattle.tp_laws.proofs.PlanOfTicks.{last-group}
use Rattle.tp_laws.proofs.PlanOfWalk.{Along, along-front}
use Rattle.tp_laws.proofs.PlanOfPairs.{Ahead, Pair}
use Rattle.tp_laws.proofs.PlanOfWords.{Known, Read, ticks_to, walk-word}
use Rattle.tp_laws.proofs.PlanOfSchedules.{schedule_of, is-schedule, same-timed, awaits}

none-of : {A : Type 0} (xs : List A) → length xs ≤ 0 → is_empty xs ≡ true
none-of [] h = refl
none-of (x ∷ xs) h = absurd (omega (arith, h))

module _ (p : Problem) (l : Limits) (formed : IsWellFormed p) where
  read-word : (plan : Plan) → Valid p l plan → Read p plan.acts (suc plan.end) (suc plan.end)
  read-word plan valid = walk-word p plan.acts (suc plan.end) (plays p l plan formed valid) (suc plan.end) (omega arith)

  pub live-fronts : WordsOfPlansAreSound p l → FrontsAreLive p l
  live-fronts sound now commits plan front turn possible begins =
      let rest : List Mark = begins.rest in
      let follows : Follow p (at_start p) (front ++ rest) = subst (Follow p (at_start p)) begins.is (sound plan possible.valid).follows in
      let known : Known p plan.acts (suc plan.end) front =
      along-front (Known p plan.acts (suc plan.end)) [] front rest (subst (Along (Known p plan.acts (suc plan.end)) []) begins.is (read-word plan possible.valid).along) in
      record {
        sound = record { follows = follow-front p (at_start p) front rest follows };
        schedule = schedule_of p plan.acts (suc plan.end) front known;
        is = is-schedule p l now commits plan formed turn possible front known (omega (arith, groups-append front rest, ap groups begins.is));
      }

  -- the whole word is known as what stands before the tick behind the end
  abbrev whole : (plan : Plan) → Valid p l plan → Known p plan.acts (suc plan.end) (spell p plan)
  whole plan valid =
      record { t = suc plan.end; j = 0; s = suc plan.end; k = 0; n = suc plan.end; m = 0; stage = (read-word plan valid).at.stage; clock = (read-word plan valid).at.clock }

  -- each act started
  none-left : (plan : Plan) (valid : Valid p l plan) → (whole plan valid).stage.rest ≡ []
  none-left plan valid = by_rest (whole plan valid).stage.rest (whole plan valid).stage.ahead (whole plan valid).stage.whole
    where
      too_late : (y : Timed) → Ahead (suc plan.end) 0 y → y.start + y.length ≤ plan.end → ⊥
      too_late y (inl b) e = omega (arith, b, e)
      too_late y (inr b) e = omega (arith, b.0, e)

      by_rest : (rest : List Timed) → Each (Ahead (suc plan.end) 0) rest → plan.acts ≡ (whole plan valid).stage.done ++ rest → rest ≡ []
      by_rest [] h e = refl
      by_rest (y ∷ ys) h e =
          let there : IsIn y plan.acts = subst (IsIn y) (sym e) (in-right y (whole plan valid).stage.done (y ∷ ys) (inl refl)) in
          let ended : y.start + y.length ≤ plan.end = leb-true (y.start + y.length) plan.end (each-in (λ z. nat_le (z.start + z.length) plan.end ≡ true) plan.acts y (each-true (λ z. nat_le (z.start + z.length) plan.end) plan.acts valid.all_ended) there) in
          absurd (too_late y h.0 ended)

  all-done : (plan : Plan) (valid : Valid p l plan) → (whole plan valid).stage.done ≡ plan.acts
  all-done plan valid = sym ((whole plan valid).stage.whole ∙ ap (λ ys. (whole plan valid).stage.done ++ ys) (none-left plan valid) ∙ append-nil (whole plan valid).stage.done)

  pub plans-of-words : PlansAreOfWords p l
  plans-of-words now commits plan turn possible =
      let k : Known p plan.acts (suc plan.end) (spell p plan) = whole plan possible.valid in
      let x : Schedule = schedule_of p plan.acts (suc plan.end) (spell p plan) k in
      let acts : map (timed_act x) (acts_of p (spell p plan)) ≡ plan.acts =
      beside-equal (Pair p (ticks_to p plan.acts (suc plan.end)) k.stage.ends k.t k.j) (timed_act x) (acts_of p (spell p plan)) k.stage.done (same-timed p (ticks_to p plan.acts (suc plan.end)) k.stage.ends k.t k.j) k.stage.beside
      ∙ all-done plan possible.valid in
      let end : last_tick x (groups (spell p plan)) ≡ plan.end = last-group p plan.acts plan.end possible.valid.closing x (λ g. refl) in (
        x,
        is-schedule p l now commits plan formed turn possible (spell p plan) k (omega arith),
        λ i. record { acts = acts i; end = end i },
      )

  pub complete-words : WordsOfPlansAreWhole p l → WordsOfPlansAreComplete p l
  complete-words are_whole now commits plan turn possible =
      let k : Known p plan.acts (suc plan.end) (spell p plan) = whole plan possible.valid in
      let few : length (awaited (acts_of p (spell p plan)) commits) ≤ 0 = omega (arith, (awaits p l now commits plan formed turn possible (spell p plan) k).few, ap length (none-left plan possible.valid)) in
      and_from (is_whole p (spell p plan)) _ (are_whole plan possible.valid) (none-of (awaited (acts_of p (spell p plan)) commits) few)
