use Rattle.std.proofs.Common.{ap, ◌∙◌, ℕ, List, drop}
use Rattle.tp_spec.specs.declared.problem.Cond.{Cond}
use Rattle.tp_spec.specs.declared.problem.Effect.{Effect}
use Rattle.tp_spec.specs.declared.problem.Kind.TheVariants.{Durative}
use Rattle.ground_text.specs.Reading.{number_at, conds_at, effects_at, durative_at}
use Rattle.ground_text.proofs.sections.durative.Goals as goal

-- each part is what is read behind the one before it
pub returns : goal.returns
unfolding durative_at
returns c =
    let least = c.number-least.ensures ∙ ap number_at c.skip.ensures in
    let most = c.number-most.ensures ∙ ap number_at (c.skip-2.ensures ∙ ap (λ (x : ℕ × List ℕ). drop 1 x.1) least) in
    let start_conds = c.in_ok-start_conds.ensures ∙ ap conds_at (c.skip-3.ensures ∙ ap (λ (x : ℕ × List ℕ). drop 3 x.1) most) in
    let all_conds = c.in_ok-all_conds.ensures ∙ ap conds_at (c.skip-4.ensures ∙ ap (λ (x : List Cond × List ℕ). drop 3 x.1) start_conds) in
    let end_conds = c.in_ok-end_conds.ensures ∙ ap conds_at (c.skip-5.ensures ∙ ap (λ (x : List Cond × List ℕ). drop 3 x.1) all_conds) in
    let start_effects = c.in_ok-start_effects.ensures ∙ ap effects_at (c.skip-6.ensures ∙ ap (λ (x : List Cond × List ℕ). drop 3 x.1) end_conds) in
    let end_effects = c.in_ok-end_effects.ensures ∙ ap effects_at (c.skip-7.ensures ∙ ap (λ (x : List Effect × List ℕ). drop 3 x.1) start_effects) in
    let rest = c.skip-8.ensures ∙ ap (λ (x : List Effect × List ℕ). drop 1 x.1) end_effects in
    λ i. (
      record {
        name = c.args.name;
        kind = Durative (least i).0 (most i).0;
        start_conds = (start_conds i).0;
        all_conds = (all_conds i).0;
        end_conds = (end_conds i).0;
        start_effects = (start_effects i).0;
        end_effects = (end_effects i).0;
      },
      rest i,
    )
