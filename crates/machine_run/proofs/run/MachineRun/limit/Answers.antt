use Rattle.std.proofs.Common.{◌≡◌, sym, subst, ap, ◌∙◌, ◌+◌, ◌<◌, ◌++◌, ◌∷◌, [], length, arith}
use Rattle.tp_spec.specs.declared.event.Event.TheVariants.{Limit}
use Rattle.word_frontier.specs.Nodes.{live_at}
use Rattle.machine_run.specs.Deeds.{Holds, AreOffspring}
use Rattle.machine_run.specs.Views.{RunView, state}
use Rattle.machine_run.proofs.Holding.{clock-is, few-children, kept-limit}
use Rattle.machine_run.proofs.run.MachineRun.limit.Goals as goal

pub overflow_cast-marks : goal.overflow_cast-marks
overflow_cast-marks c =
    let held = subst (λ (r : RunView). Holds r c.args.actor c.args.id) (sym c.self.view_is) c.requires.held in
    let offspring = subst (λ (r : RunView). AreOffspring r c.args.id c.args.children.now) (sym c.self.view_is) c.requires.offspring in
    let count = c.count_live-marks.ensures ∙ ap (λ n. length (live_at n c.args.children.now)) (clock-is c.self.invariant c.args.actor c.args.id held) in
    omega (arith, count, few-children c.self.invariant c.args.actor c.args.id held c.args.children.now offspring)

pub invariant_of-self-2 : goal.invariant_of-self-2
invariant_of-self-2 c =
    let held = subst (λ (r : RunView). Holds r c.args.actor c.args.id) (sym c.self.view_is) c.requires.held in
    kept-limit c.self.invariant c.args.actor c.args.id held c.args.children.now
    (subst (λ (r : RunView). AreOffspring r c.args.id c.args.children.now) (sym c.self.view_is) c.requires.offspring)
    c.made-made.result c.count_live-marks.result _ c.made-made.ensures
    (c.count_live-marks.ensures ∙ ap (λ n. length (live_at n c.args.children.now)) (clock-is c.self.invariant c.args.actor c.args.id held))
    (subst (λ (r : RunView). r.limits.nodes < r.frontier.made + length (live_at (state r).now c.args.children.now)) (sym c.self.view_is) c.requires.full)
    (c.push_reserved.ensures.items ∙ ap (λ es. es ++ Limit c.args.actor c.args.id c.made-made.result c.count_live-marks.result ∷ []) c.reserve_event.ensures.items)

pub returns-clause-deed : goal.returns-clause-deed
returns-clause-deed c =
    let held = subst (λ (r : RunView). Holds r c.args.actor c.args.id) (sym c.self.view_is) c.requires.held in
    let count = c.count_live-marks.ensures ∙ ap (λ n. length (live_at n c.args.children.now)) (clock-is c.self.invariant c.args.actor c.args.id held) in
    subst (λ (r : RunView). c.push_reserved.new.self.items ≡ r.history ++ Limit c.args.actor c.args.id r.frontier.made (length (live_at (state r).now c.args.children.now)) ∷ []) c.self.view_is
    (c.push_reserved.ensures.items ∙ (λ i. c.reserve_event.ensures.items i ++ Limit c.args.actor c.args.id (c.made-made.ensures i) (count i) ∷ []))
