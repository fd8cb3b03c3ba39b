use Rattle.std.proofs.Common.{◌≡◌, sym, ap, subst, ◌∙◌, true, length, IfSome}
use Rattle.situated_machine.specs.Deadlines.{IsDeadlineIn}
use Rattle.situated_machine.specs.Keeping.{ReplayView}
use Rattle.situated_machine.specs.Rules.{has_id}
use Rattle.situated_machine.proofs.Deadlines.{kept-id, kept-renew, same-view}
use Rattle.situated_machine.proofs.keeping.Replayer.renewed_deadline.Goals as goal

pub renew-requires : goal.renew-requires
renew-requires c = kept-id c.self.invariant c.args.node.id (subst (λ (r : ReplayView). has_id c.args.node.id r.machine.nodes ≡ true) (sym c.self.view_is) c.requires.told.there)

pub invariant_of-self : goal.invariant_of-self
invariant_of-self c =
    let all = c.known-known.ensures ∙ ap (λ (r : ReplayView). length r.machine.commits) (sym c.self.view_is) in
    let found = subst (λ o. IfSome o (IsDeadlineIn c.args.self.now c.args.node.id)) c.in-Some.is c.in_ok-found_deadline.ensures.some in
    kept-renew c.self.invariant c.args.node.id c.in-Some.deadline c.known-known.result c.renew.new.self c.renew.ensures.nodes c.renew.ensures.made all
    (subst (λ (r : ReplayView). IsDeadlineIn r c.args.node.id c.in-Some.deadline) (sym c.self.view_is) found)
    c.renew.ensures.ranks

pub returns-in-Some-clause-same : goal.returns-in-Some-clause-same
returns-in-Some-clause-same c =
    same-view c.self.invariant c.args.node.id c.in-Some.deadline c.known-known.result c.renew.new.self c.renew.ensures.nodes c.renew.ensures.made ∙ c.self.view_is
