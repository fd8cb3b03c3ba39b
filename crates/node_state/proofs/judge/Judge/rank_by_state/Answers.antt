use Rattle.std.proofs.Common.{◌≡◌, ◌∙◌, ap, sym, subst, List, [], ◌∷◌, ◌++◌, not, true}
use Rattle.tp_spec.specs.declared.plan.Item.{Item}
use Rattle.std.specs.List.{list_all}
use Rattle.tp_spec.specs.Lists.{each_pair}
use Rattle.tp_spec.specs.WellFormed.{Ground}
use Rattle.world_state.specs.Happenings.{is_item_of, same_item}
use Rattle.node_state.specs.Readings.{progress_of}
use Rattle.node_state.proofs.Insides.{inside-with}
use Rattle.node_state.proofs.judge.Judge.rank_by_state.Goals as goal

pub apply-requires-clause-different : goal.apply-requires-clause-different
apply-requires-clause-different c =
    subst (λ (xs : List Item). each_pair (λ i j. not (same_item i j)) xs ≡ true)
    (sym (c.deref-2.ensures.value ∙ c.in_ok-longer.ensures ∙ ap (λ (l : List Item). l ++ c.args.item ∷ []) c.deref.ensures.value))
    (inside-with c.args.self.now (progress_of c.args.reading.now) c.args.item c.requires.reading.inside c.requires.joins).different

pub apply-requires-clause-inside : goal.apply-requires-clause-inside
apply-requires-clause-inside c =
    subst (λ (p : Ground). list_all (is_item_of p) c.deref-2.result.now ≡ true) (sym c.self.view_is)
    (subst (λ (xs : List Item). list_all (is_item_of c.args.self.now) xs ≡ true)
    (sym (c.deref-2.ensures.value ∙ c.in_ok-longer.ensures ∙ ap (λ (l : List Item). l ++ c.args.item ∷ []) c.deref.ensures.value))
    (inside-with c.args.self.now (progress_of c.args.reading.now) c.args.item c.requires.reading.inside c.requires.joins).items)
