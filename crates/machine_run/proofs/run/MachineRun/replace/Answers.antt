use Rattle.std.proofs.Common.{refl, sym, subst, ap, ◌∙◌, ◌+◌, ◌≤◌, ◌++◌, ◌∷◌, [], length, arith}
use Rattle.tp_spec.specs.declared.event.Event.TheVariants.{Expand}
use Rattle.word_frontier.specs.Nodes.{live_at, without, word_at, children_from}
use Rattle.machine_run.specs.Children.{marks_of}
use Rattle.machine_run.specs.Deeds.{Holds, AreOffspring}
use Rattle.machine_run.specs.Kept.{Writes}
use Rattle.machine_run.specs.Views.{RunView, state}
use Rattle.machine_run.proofs.Standing.{kept-lent}
use Rattle.machine_run.proofs.Holding.{same-live, ranks-fit, ids-fit, kept-expand}
use Rattle.machine_run.proofs.run.MachineRun.replace.Goals as goal

pub invariant_of-self-in_err-reserve : goal.invariant_of-self-in_err-reserve
invariant_of-self-in_err-reserve c =
    kept-lent c.self.invariant _ c.reserve.new.self c.reserve_event.ensures.items c.reserve.ensures.nodes c.reserve.ensures.made c.reserve.ensures.ranks
    (λ still. c.reserve_event.ensures.kept (c.self.invariant.room still))

pub expand-requires-clause-below : goal.expand-requires-clause-below
expand-requires-clause-below c =
    let held = subst (λ (r : RunView). Holds r c.args.actor c.args.id) (sym c.self.view_is) c.requires.held in
    let offspring = subst (λ (r : RunView). AreOffspring r c.args.id c.args.children.now) (sym c.self.view_is) c.requires.offspring in
    ranks-fit c.self.invariant c.args.actor c.args.id held c.args.children.now offspring c.reserve.new.self.ranks c.reserve.ensures.ranks

pub expand-requires-clause-ids : goal.expand-requires-clause-ids
expand-requires-clause-ids c =
    let held = subst (λ (r : RunView). Holds r c.args.actor c.args.id) (sym c.self.view_is) c.requires.held in
    let offspring = subst (λ (r : RunView). AreOffspring r c.args.id c.args.children.now) (sym c.self.view_is) c.requires.offspring in
    let same = same-live c.self.invariant c.args.actor c.args.id held c.args.children.now offspring in
    let room = subst (λ (r : RunView). r.frontier.made + length (live_at (state r).now c.args.children.now) ≤ r.limits.nodes) (sym c.self.view_is) c.requires.room in
    omega (arith, ids-fit c.self.invariant c.args.actor c.args.id held c.args.children.now offspring room, ap length same, c.reserve.ensures.made)

pub invariant_of-self-2 : goal.invariant_of-self-2
invariant_of-self-2 c =
    let held = subst (λ (r : RunView). Holds r c.args.actor c.args.id) (sym c.self.view_is) c.requires.held in
    let offspring = subst (λ (r : RunView). AreOffspring r c.args.id c.args.children.now) (sym c.self.view_is) c.requires.offspring in
    let same = same-live c.self.invariant c.args.actor c.args.id held c.args.children.now offspring in
    let room = subst (λ (r : RunView). r.frontier.made + length (live_at (state r).now c.args.children.now) ≤ r.limits.nodes) (sym c.self.view_is) c.requires.room in
    let nodes = c.reserve.ensures.nodes in
    let made = c.reserve.ensures.made in
    let marks = c.in_ok-marks.ensures ∙ ap marks_of same in
    let all = c.known-known.ensures ∙ ap (λ (r : RunView). length (state r).commits) (sym c.self.view_is) in
    kept-expand c.self.invariant c.args.actor c.args.id held c.args.children.now offspring room c.known-known.result _ c.expand.new.self all
    (c.expand.ensures.nodes ∙ (λ i. without c.args.id (nodes i) ++ children_from c.known-known.result (word_at c.args.id (nodes i)) (made i) (same i)))
    (c.expand.ensures.made ∙ (λ i. made i + length (same i)))
    (c.expand.ensures.ranks ∙ c.reserve.ensures.ranks)
    (c.push_reserved.ensures.items ∙ (λ i. c.reserve_event.ensures.items i ++ Expand c.args.actor c.args.id (marks i) ∷ []))
    (omega (arith, c.in_ok-reserve_event.ensures.room, c.push_reserved.ensures.len, c.push_reserved.ensures.capacity))

pub returns-clause-ok : goal.returns-clause-ok
returns-clause-ok c =
    let held = subst (λ (r : RunView). Holds r c.args.actor c.args.id) (sym c.self.view_is) c.requires.held in
    let offspring = subst (λ (r : RunView). AreOffspring r c.args.id c.args.children.now) (sym c.self.view_is) c.requires.offspring in
    let same = same-live c.self.invariant c.args.actor c.args.id held c.args.children.now offspring in
    let marks = c.in_ok-marks.ensures ∙ ap marks_of same in
    subst (λ (r : RunView). Writes r (record { problem = c.self.inside.problem.now; limits = c.self.inside.limits; history = c.push_reserved.new.self.items; frontier = c.expand.new.self }) (Expand c.args.actor c.args.id (marks_of (live_at (state r).now c.args.children.now)))) c.self.view_is
    (record {
      task = record { problem = refl; limits = refl };
      history = c.push_reserved.ensures.items ∙ (λ i. c.reserve_event.ensures.items i ++ Expand c.args.actor c.args.id (marks i) ∷ []);
    })
