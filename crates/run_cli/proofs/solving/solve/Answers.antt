use Rattle.std.proofs.Common.{◌≡◌, ◌∙◌, ◌++◌, ◌∷◌, [], ap, subst, sym, List, rules}
use Rattle.tp_spec.specs.declared.event.Event.{Event}
use Rattle.tp_spec.specs.declared.problem.Problem.{Problem}
use Rattle.tp_spec.specs.Machine.{IsRun}
use Rattle.run_cli.specs.Outcomes.{GivesEnd}
use Rattle.run_cli.proofs.Solved.{unmade, search-ends}
use Rattle.run_cli.proofs.solving.solve.Goals as goal

pub returns-in-Err-clause-ends : goal.returns-in-Err-clause-ends
returns-in-Err-clause-ends g c =
    let begins = c.begin.ensures.begun ∙ ap (λ (q : Problem). g.C.Clock.begun c.args.clock ++ q.scale ∷ []) c.problem.view_is in
    let rates = c.begin.ensures.rate ∙ ap (λ (q : Problem). q.scale) c.problem.view_is in
    let same : c.unsearched.result.clock ≡ c.begin.new.self = search rules in
    unmade g.C.Clock.count g.C.Clock.last g.C.Clock.rate g.C.Clock.given g.C.Clock.begun c.args.problem.now c.args.limits c.args.clock c.begin.new.self
    c.begin.ensures.count c.begin.ensures.last c.begin.ensures.given begins rates
    (g.O.Sink.view c.args.out.now) c.unsearched.result.status c.unsearched.result.history.items c.unsearched.result.clock
    same c.unsearched.ensures.history c.unsearched.ensures.status

pub returns-clause-ends : goal.returns-clause-ends
returns-clause-ends g c =
    let begins = c.begin.ensures.begun ∙ ap (λ (q : Problem). g.C.Clock.begun c.args.clock ++ q.scale ∷ []) c.problem.view_is in
    let rates = c.begin.ensures.rate ∙ ap (λ (q : Problem). q.scale) c.problem.view_is in
    let p : Problem = c.args.problem.now in
    let h : List Event = c.into_parts-history.result.0.items in
    let s = g.O.Sink.view c.args.out.now in
    let t = g.O.Sink.view c.search-sent.new.out in
    let u = g.O.Sink.view c.print_end-status.new.out in
    let sent = c.search-sent.result in
    let end = subst (λ (k : List Event). GivesEnd p k sent t u c.print_end-status.result) c.deref.ensures.value c.print_end-status.ensures in
    let told = c.commands_of_history.ensures p c.args.limits h in
    search-ends g.C.Clock.count g.C.Clock.last g.C.Clock.rate g.C.Clock.given g.C.Clock.begun p c.args.limits c.args.clock c.begin.new.self
    c.begin.ensures.count c.begin.ensures.last c.begin.ensures.given begins rates
    c.in-Ok.tree c.search-sent.new.tree h c.into_parts-history.result.1
    c.in-Ok.ensures.problem c.in-Ok.ensures.limits c.in-Ok.ensures.opened c.search-sent.ensures.charter c.into_parts-history.ensures.history c.into_parts-history.ensures.clock
    c.into_parts-history.ensures.whole c.into_parts-history.ensures.rate c.into_parts-history.ensures.begun c.into_parts-history.ensures.given c.into_parts-history.ensures.clocked
    sent s t c.search-sent.ensures.ends c.search-sent.ensures.busy c.search-sent.ensures.commands told
    (c.commitments_of_runs.ensures.grow p c.args.limits c.requires.formed) u c.print_end-status.result end
