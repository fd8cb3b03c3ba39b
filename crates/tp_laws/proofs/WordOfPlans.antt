-- The word of a valid plan is sound and whole.
use Rattle.std.proofs.Common.{◌≡◌, refl, sym, ap, subst, ◌∙◌, ℕ, suc, ◌+◌, ◌<◌, ◌≤◌, ◌==◌, true, false, not, ◌&&◌, List, [], ◌∷◌, ◌++◌, length, arith, nat_le}
use Rattle.std.specs.List.{list_all, range_with_len}
use Rattle.std.proofs.lemmas.Bool.{and_from, and_parts, false≢true, leb-true, not_from_false, false_from_ne_true}
use Rattle.tp_spec.specs.declared.plan.Item.{Item}
use Rattle.tp_spec.specs.declared.plan.Item.TheVariants.{TimedAt}
use Rattle.tp_spec.specs.declared.plan.Limits.{Limits}
use Rattle.tp_spec.specs.declared.plan.Mark.{Mark}
use Rattle.tp_spec.specs.declared.plan.Plan.{Plan}
use Rattle.tp_spec.specs.declared.plan.Timed.{Timed}
use Rattle.tp_spec.specs.declared.problem.Problem.{Problem}
use Rattle.tp_spec.specs.Lists.{IsIn, is_empty, some_and}
use Rattle.tp_spec.specs.States.{holds}
use Rattle.tp_spec.specs.WellFormed.{IsWellFormed}
use Rattle.tp_spec.specs.Courses.{Passes, Valid, happening}
use Rattle.tp_spec.specs.Words.{Sound, progress, runs_after, state_past, spell, marked}
use Rattle.tp_laws.specs.Plans.{is_whole, none_run, begins_timed}
use Rattle.tp_laws.proofs.Readings.{state_before-spelled}
use Rattle.tp_laws.proofs.EarlyReading.{spelled-front}
use Rattle.tp_laws.proofs.WordOfLists.{all-in, in-all, some-below}
use Rattle.tp_laws.proofs.WordOfHappenings.{happening-in}
use Rattle.tp_laws.proofs.WordOfActs.{AreApart, acts-apart, runs_to, RunsTo, to-runs}
use Rattle.tp_laws.proofs.WordOfTicks.{ReadsTo, read-spelled}

module _ (p : Problem) (l : Limits) (formed : IsWellFormed p) (plan : Plan) (valid : Valid p l plan) where
  course : (k : ℕ) → k < suc plan.end → Passes p plan.acts k
  course k b = valid.course k (omega (arith, b))

  fine : AreApart p plan.acts
  fine = acts-apart p l plan formed valid

  -- what the reading of a plan's whole word gives
  pub reads-spell : ReadsTo p plan.acts (suc plan.end) (progress p (spell p plan))
  reads-spell = (read-spelled p plan.acts formed fine (suc plan.end) course).1

  pub spell-sound : Sound p (spell p plan)
  spell-sound = record { follows = (read-spelled p plan.acts formed fine (suc plan.end) course).0 }

  none-left : (a : ℕ) → runs_to plan.acts (suc plan.end) a ≡ false
  none-left a = false_from_ne_true _ (λ h. ended (to-runs plan.acts (suc plan.end) a h)) where
    ended : RunsTo plan.acts (suc plan.end) a → ⊥
    ended r =
        let x : Timed = r.act in
        let in_time : x.start + x.length ≤ plan.end = leb-true (x.start + x.length) plan.end (all-in (λ x. nat_le (x.start + x.length) plan.end) plan.acts x valid.all_ended r.there) in
        omega (arith, in_time, r.unended)

  none-run : none_run p (progress p (spell p plan)) ≡ true
  none-run = in-all (λ a. not (runs_after p (progress p (spell p plan)) a)) (range_with_len 0 (length p.actions)) (λ a i. not_from_false _ (reads-spell.runs a ∙ none-left a))

  goals-hold : list_all (holds (state_past p (progress p (spell p plan)))) p.goal ≡ true
  goals-hold = subst (λ o. some_and o (λ s. list_all (holds s) p.goal) ≡ true) (state_before-spelled p plan.acts (suc plan.end) (λ k b. (course k b).exists)) valid.goal

  -- a timed item at tick 0 is the first mark
  empty-front : (u v : List Mark) → is_empty (u ++ v) ≡ true → is_empty u ≡ true
  empty-front [] v h = refl
  empty-front (m ∷ u) v h = absurd (false≢true h)

  some-marked : (is : List Item) (i : Item) → IsIn i is → is_empty (marked is) ≡ false
  some-marked [] i h = absurd h
  some-marked (j ∷ is) i h = refl

  not-both : is_empty (spell p plan) ≡ true → begins_timed p ≡ true → ⊥
  not-both empty begins =
      let front = spelled-front p plan.acts 1 (suc plan.end) (omega arith) in
      let first : is_empty (marked (happening p plan.acts 0)) ≡ true = empty-front (marked (happening p plan.acts 0)) front.0 (ap is_empty (sym front.1) ∙ empty) in
      let stands : IsIn (TimedAt 0) (happening p plan.acts 0) = happening-in p plan.acts 0 (TimedAt 0) (some-below (λ i. i.tick == 0) p.timed 0 begins) begins in
      false≢true (sym (some-marked (happening p plan.acts 0) (TimedAt 0) stands) ∙ first)

  pub spell-whole : is_whole p (spell p plan) ≡ true
  spell-whole =
      and_from _ _ (and_from _ _ (and_from _ _ reads-spell.shut none-run) goals-hold) (not_from_false _ (false_from_ne_true _ both)) where
        both : (is_empty (spell p plan) && begins_timed p) ≡ true → ⊥
        both h = let e = and_parts (is_empty (spell p plan)) (begins_timed p) h in not-both e.0 e.1
