-- Children that are told anew one by one, under the run's commitments.
use Rattle.std.proofs.Common.{◌≡◌, sym, subst, ◌∙◌, ℕ, ◌+◌, ◌<◌, ◌≤◌, List, [], ◌∷◌, ◌++◌, length, take, get_or, Option, Some, None}
use Rattle.std.proofs.lemmas.List.{take_more, take_all}
use Rattle.std.proofs.lemmas.List.Elements.{All-get_or}
use Rattle.tp_spec.specs.declared.plan.Limits.{Limits}
use Rattle.tp_spec.specs.declared.plan.Mark.{Mark}
use Rattle.tp_spec.specs.declared.plan.Timed.{Timed}
use Rattle.tp_spec.specs.declared.problem.Problem.{Problem}
use Rattle.tp_spec.specs.Lists.{IsIn}
use Rattle.tp_spec.specs.Schedules.{Live}
use Rattle.tp_spec.specs.Words.{Sound}
use Rattle.tp_laws.proofs.Members.{map-in}
use Rattle.word_frontier.specs.declared.child.Child.{Child}
use Rattle.machine_run.specs.Views.{RunView, state}
use Rattle.open_tree.specs.Broods.{AreRenewed, Renews}
use Rattle.open_tree.specs.Steps.{AreBrood, AreReady}
use Rattle.open_tree.specs.Views.{SproutsView}
use Rattle.open_tree.proofs.Offspring.{in-all, told-push, told-skip}
use Rattle.open_tree.proofs.Merging.{told-brood}

-- one child more of so many
module _ (p : Problem) (l : Limits) (commits : List Timed) (w : List Mark) (olds news : List Child) (i : ℕ) (d : Child) (below : i < length olds)
    (told : AreRenewed p l commits w (take i olds) news) (found : Option Child) (renews : Renews p l commits w (get_or olds i d) found) where
  pub told-some : (y : Child) (new : List Child) → found ≡ Some y → new ≡ news ++ y ∷ [] → AreRenewed p l commits w (take (i + 1) olds) new
  told-some y new is longer =
      subst (λ xs. AreRenewed p l commits w xs new) (sym (take_more olds i d below))
      (subst (AreRenewed p l commits w (take i olds ++ get_or olds i d ∷ [])) (sym longer)
      (told-push p l commits w (take i olds) news (get_or olds i d) y told (subst (Renews p l commits w (get_or olds i d)) is renews)))

  pub told-none : (new : List Child) → found ≡ None → new ≡ news → AreRenewed p l commits w (take (i + 1) olds) new
  told-none new is same =
      subst (λ xs. AreRenewed p l commits w xs new) (sym (take_more olds i d below))
      (subst (AreRenewed p l commits w (take i olds ++ get_or olds i d ∷ [])) (sym same)
      (told-skip p l commits w (take i olds) news (get_or olds i d) told (subst (Renews p l commits w (get_or olds i d)) is renews)))

-- a job's word and its children, as a walk over them has them
module _ (r : RunView) (s : SproutsView) (known : AreReady r s) {olds : List Child} {w : List Mark}
    (children : olds ≡ s.children) (word : w ≡ s.job.node.word) (i : ℕ) where
  pub sound-child : (d : Child) → i < length olds → Sound r.problem (w ++ (get_or olds i d).mark ∷ [])
  sound-child d below =
      let c : Child = get_or olds i d in
      let there : IsIn c olds = All-get_or (λ x. IsIn x olds) olds i d below (in-all (λ x. IsIn x olds) olds (λ x h. h)) in
      let live : Live r.problem r.limits s.job.clock s.job.commits (s.job.node.word ++ c.mark ∷ []) =
      known.sprouted.exact.live c.mark (map-in (λ (x : Child). x.mark) c s.children (subst (λ xs. IsIn c xs) children there)) in
      subst (λ v. Sound r.problem (v ++ c.mark ∷ [])) (sym word) live.sound

  pub all-told : (news : List Child) → length olds ≤ i → AreRenewed r.problem r.limits (state r).commits w (take i olds) news → AreBrood r s.job.id news
  all-told news whole told =
      told-brood r s known news
      (subst (λ v. AreRenewed r.problem r.limits (state r).commits v s.children news) word
      (subst (λ xs. AreRenewed r.problem r.limits (state r).commits w xs news) (take_all i olds whole ∙ children) told))
