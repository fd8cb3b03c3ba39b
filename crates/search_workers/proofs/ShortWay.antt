-- Deadlines of words of instants by the outlook of a job's word.
use Rattle.std.proofs.Common.{◌≡◌, ℕ, sym, subst, ◌∙◌, true, [], ◌∷◌, ◌++◌, Option, Some, None}
use Rattle.std.specs.Prelude.{IfSome, IfNone}
use Rattle.std.proofs.lemmas.Bool.{and_from}
use Rattle.tp_spec.specs.declared.plan.Mark.{Mark}
use Rattle.tp_spec.specs.declared.problem.Problem.{Problem}
use Rattle.tp_spec.specs.Schedules.{Live}
use Rattle.tp_spec.specs.Words.{Sound}
use Rattle.tp_laws.specs.Clocks.{IsDeadline}
use Rattle.tp_laws.specs.Instants.{HasDeadline, deadline_with, is_instant_item, of_instants}
use Rattle.tp_laws.proofs.InstantMarks.{deadlines-by-mark}
use Rattle.tp_laws.proofs.InstantOutlooks.{instants-by-mark}
use Rattle.open_tree.specs.Views.{JobView}
use Rattle.search_workers.specs.declared.outlook.Outlook.{Outlook}
use Rattle.search_workers.specs.Outlooks.{told, IsOutlookOf}
use Rattle.search_workers.specs.Sprouting.{CanSprout}

module _ (p : Problem) (j : JobView) (o : Outlook) (a : Mark) (can : CanSprout p j) (known : IsOutlookOf p j o) (instant : is_instant_item p a.item ≡ true) (sound : Sound p (j.node.word ++ a ∷ [])) where
  by_law : HasDeadline p j.limits (j.node.word ++ a ∷ []) (deadline_with p j.limits (told o) j.node.deadline a)
  by_law =
      subst (λ k. HasDeadline p j.limits (j.node.word ++ a ∷ []) (deadline_with p j.limits k j.node.deadline a)) (sym known.known)
      (deadlines-by-mark p j.limits can.formed j.node.word a j.node.deadline
      (subst (λ cs. IsDeadline p j.limits cs j.node.word j.node.deadline) known.free can.timely) sound
      (instants-by-mark p j.node.word a ∙ and_from (of_instants p j.node.word) (is_instant_item p a.item) known.instants instant))

  module _ (r : Option ℕ) (is : r ≡ deadline_with p j.limits (told o) j.node.deadline a) where
    law : HasDeadline p j.limits (j.node.word ++ a ∷ []) r
    law = subst (HasDeadline p j.limits (j.node.word ++ a ∷ [])) (sym is) by_law

    pub by-outlook-some : IfSome r (IsDeadline p j.limits j.commits (j.node.word ++ a ∷ []))
    by-outlook-some = subst (λ cs. IfSome r (IsDeadline p j.limits cs (j.node.word ++ a ∷ []))) (sym known.free) (by_result r law) where
      by_result : (r : Option ℕ) → HasDeadline p j.limits (j.node.word ++ a ∷ []) r → IfSome r (IsDeadline p j.limits [] (j.node.word ++ a ∷ []))
      by_result None h = tt
      by_result (Some d) h = h

    pub by-outlook-none : IfNone r (¬ (Live p j.limits 0 j.commits (j.node.word ++ a ∷ [])))
    by-outlook-none = subst (λ cs. IfNone r (¬ (Live p j.limits 0 cs (j.node.word ++ a ∷ [])))) (sym known.free) (by_result r law) where
      by_result : (r : Option ℕ) → HasDeadline p j.limits (j.node.word ++ a ∷ []) r → IfNone r (¬ (Live p j.limits 0 [] (j.node.word ++ a ∷ [])))
      by_result None h = h 0
      by_result (Some d) h = tt
