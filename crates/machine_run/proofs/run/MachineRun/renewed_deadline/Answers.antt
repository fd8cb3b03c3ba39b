use Rattle.std.proofs.Common.{◌≡◌, refl, sym, ap, subst, ◌∙◌, false, length, IfSome, arith}
use Rattle.machine_run.specs.Settling.{IsToldOf, IsDeadlineIn, KeepsDeadline, Renews}
use Rattle.machine_run.specs.Turns.{has_outcome}
use Rattle.machine_run.specs.Views.{RunView, state}
use Rattle.machine_run.proofs.Dispatching.{kept-deadline, kept-renew, renew-keeps}
use Rattle.machine_run.proofs.Renewing.{renews-one}
use Rattle.machine_run.proofs.Standing.{run}
use Rattle.machine_run.proofs.Taking.{has-id}
use Rattle.machine_run.proofs.run.MachineRun.renewed_deadline.Goals as goal

pub returns-then-node-known-clause-some : goal.returns-then-node-known-clause-some
returns-then-node-known-clause-some c =
    let none = subst (λ (r : RunView). has_outcome r.history ≡ false) (sym c.self.view_is) c.requires.standing in
    let told = subst (λ (r : RunView). IsToldOf r c.args.node) (sym c.self.view_is) c.requires.told in
    let all = ap (λ (r : RunView). length (state r).commits) c.self.view_is in
    subst (λ (r : RunView). KeepsDeadline r c.args.node.id c.args.node.deadline) c.self.view_is
    (subst (KeepsDeadline _ c.args.node.id) (sym told.tells.deadline)
    (kept-deadline c.self.invariant none c.args.node.id told.node told.there (sym told.tells.id)
    (omega (arith, told.tells.known, c.if-node-known.true, c.known-known.ensures, all))))

pub found_deadline-requires-clause-there : goal.found_deadline-requires-clause-there
found_deadline-requires-clause-there c =
    let told = c.requires.told in
    has-id c.args.node.id told.node _ told.there (sym told.tells.id)

pub renew-requires : goal.renew-requires
renew-requires c =
    let told = subst (λ (r : RunView). IsToldOf r c.args.node) (sym c.self.view_is) c.requires.told in
    has-id c.args.node.id told.node _ told.there (sym told.tells.id)

pub invariant_of-self : goal.invariant_of-self
invariant_of-self c =
    let none = subst (λ (r : RunView). has_outcome r.history ≡ false) (sym c.self.view_is) c.requires.standing in
    let all = c.known-known.ensures ∙ ap (λ (r : RunView). length (state r).commits) (sym c.self.view_is) in
    let found = subst (λ o. IfSome o (IsDeadlineIn c.args.self.now c.args.node.id)) c.in-Some.is c.in_ok-found_deadline.ensures.some in
    kept-renew c.self.invariant none c.args.node.id c.in-Some.deadline c.known-known.result c.renew.new.self c.renew.ensures.nodes all
    (subst (λ (r : RunView). IsDeadlineIn r c.args.node.id c.in-Some.deadline) (sym c.self.view_is) found)
    c.renew.ensures.made c.renew.ensures.ranks

pub returns-in-Some-clause-renews : goal.returns-in-Some-clause-renews
returns-in-Some-clause-renews c =
    let old = run c.self.inside.problem.now c.self.inside.limits c.self.inside.history.items c.self.inside.frontier in
    let new = run c.self.inside.problem.now c.self.inside.limits c.self.inside.history.items c.renew.new.self in
    subst (λ (r : RunView). Renews r new) c.self.view_is
    (renews-one c.args.node.id c.in-Some.deadline c.known-known.result old new (record { problem = refl; limits = refl }) refl c.renew.ensures.nodes)

pub returns-in-Some-clause-some : goal.returns-in-Some-clause-some
returns-in-Some-clause-some c =
    let none = subst (λ (r : RunView). has_outcome r.history ≡ false) (sym c.self.view_is) c.requires.standing in
    let all = c.known-known.ensures ∙ ap (λ (r : RunView). length (state r).commits) (sym c.self.view_is) in
    renew-keeps c.self.invariant none c.args.node.id c.in-Some.deadline c.known-known.result c.renew.new.self c.renew.ensures.nodes all
