use Rattle.std.proofs.Common.{◌≡◌, ◌∙◌, sym, ap, subst, true, take, List}
use Rattle.std.specs.List.{list_all}
use Rattle.tp_spec.specs.declared.plan.Mark.{Mark}
use Rattle.node_state.specs.declared.levels.Level.{Level}
use Rattle.node_state.specs.Levels.{fits, AreLevels}
use Rattle.node_state.proofs.Leveling.{moved-levels, moved-fresh}
use Rattle.node_state.proofs.levels.move_to.Goals as goal

pub returns-clause-levels : goal.returns-clause-levels
returns-clause-levels c = λ p h.
    subst (λ (b : List Mark). AreLevels p b c.truncate.new.self.items) (sym c.in-Ok.ensures.items)
    (moved-levels p c.args.kept.now.items c.args.word.now c.common-front.result c.fitting-count.result c.args.levels.now.items c.truncate.new.self.items c.common-front.ensures.second
    (ap (take c.common-front.result) (sym c.deref.ensures.value) ∙ c.common-front.ensures.same)
    (subst (λ (ls : List Level). list_all (fits c.args.word.now c.common-front.result) (take c.fitting-count.result ls) ≡ true) c.deref-2.ensures.value c.fitting-count.ensures.fit)
    c.truncate.ensures.items h)

pub returns-clause-open : goal.returns-clause-open
returns-clause-open c =
    moved-fresh c.args.word.now c.common-front.result c.fitting-count.result c.args.levels.now.items c.truncate.new.self.items
    (subst (λ (ls : List Level). list_all (fits c.args.word.now c.common-front.result) (take c.fitting-count.result ls) ≡ true) c.deref-2.ensures.value c.fitting-count.ensures.fit)
    c.truncate.ensures.items
