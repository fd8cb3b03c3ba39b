use Rattle.std.proofs.Common.{◌≡◌, ◌∙◌, ◌&&◌, eqb, length, ap, subst}
use Rattle.std.specs.List.{list_any}
use Rattle.tp_spec.specs.WellFormed.{IsWellFormed}
use Rattle.world_state.specs.Rows.{has_place, words_for}
use Rattle.world_state.proofs.After.{state_at_start}
use Rattle.world_state.proofs.state.initial.Goals as goal

pub returns-clause-is : goal.returns-clause-is
returns-clause-is c =
    let count : length c.as_slice.result.now ≡ length c.args.problem.now.facts = ap length (c.as_slice.ensures ∙ ap (λ q. q.facts) c.problem.view_is) in
    let init : c.as_slice-2.result.now ≡ c.args.problem.now.init = c.as_slice-2.ensures ∙ ap (λ q. q.init) c.problem.view_is in
    state_at_start c.args.problem.now (subst IsWellFormed c.problem.view_is c.problem.invariant)
    (record { words = c.in_ok-facts.facts.words.items; values = c.in_ok-values.values.items })
    (c.in_ok-values.ensures.same ∙ c.as_slice-3.ensures ∙ ap (λ q. q.values) c.problem.view_is)
    (λ f. c.in_ok-facts.ensures.has f
    ∙ ap (λ n. has_place (words_for n) f && list_any (λ g. eqb f g) c.as_slice-2.result.now) count
    ∙ ap (λ xs. has_place (words_for (length c.args.problem.now.facts)) f && list_any (λ g. eqb f g) xs) init)
