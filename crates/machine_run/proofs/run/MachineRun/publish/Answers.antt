use Rattle.std.proofs.Common.{◌≡◌, sym, subst, ap, ◌∙◌, ◌++◌, ◌∷◌, [], true}
use Rattle.tp_spec.specs.declared.event.Event.TheVariants.{Publish}
use Rattle.tp_spec.specs.Schedules.{awaited}
use Rattle.tp_spec.specs.Words.{acts_of}
use Rattle.tp_laws.specs.Plans.{is_whole}
use Rattle.word_network.specs.Schedules.{IsEarliest}
use Rattle.machine_run.specs.Deeds.{Holds}
use Rattle.machine_run.specs.Views.{RunView, state, word_in}
use Rattle.machine_run.proofs.Holding.{kept-publish}
use Rattle.machine_run.proofs.run.MachineRun.publish.Goals as goal

pub invariant_of-self-2 : goal.invariant_of-self-2
invariant_of-self-2 c =
    kept-publish c.self.invariant c.args.actor c.args.id (subst (λ (r : RunView). Holds r c.args.actor c.args.id) (sym c.self.view_is) c.requires.held) c.args.plan _
    (subst (λ (r : RunView). is_whole r.problem (word_in r c.args.id) ≡ true) (sym c.self.view_is) c.requires.whole)
    (subst (λ (r : RunView). awaited (acts_of r.problem (word_in r c.args.id)) (state r).commits ≡ []) (sym c.self.view_is) c.requires.all)
    (subst (λ (r : RunView). IsEarliest r.problem r.limits (state r).now (state r).commits (word_in r c.args.id) c.args.plan) (sym c.self.view_is) c.requires.earliest)
    (c.push_reserved.ensures.items ∙ ap (λ es. es ++ Publish c.args.actor c.args.id c.args.plan ∷ []) c.reserve_event.ensures.items)
