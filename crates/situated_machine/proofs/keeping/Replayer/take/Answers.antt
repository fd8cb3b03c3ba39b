use Rattle.std.proofs.Common.{refl, sym, subst, true}
use Rattle.tp_spec.specs.declared.event.Event.TheVariants.{Take}
use Rattle.situated_machine.specs.Keeping.{view_of, ReplayView}
use Rattle.situated_machine.specs.Judged.{Steps}
use Rattle.situated_machine.specs.Rules.{KeepsAll}
use Rattle.situated_machine.proofs.Stepping.{behind-take, parts}
use Rattle.situated_machine.proofs.keeping.Replayer.take.Goals as goal

pub invariant_of-self : goal.invariant_of-self
invariant_of-self c = (behind-take c.self.invariant c.args.actor c.args.id c.take_least.new.self (subst (λ (r : ReplayView). KeepsAll r.problem r.limits r.machine (Take c.args.actor c.args.id)) (sym c.self.view_is) c.requires.kept) c.take_least.ensures.nodes c.take_least.ensures.made c.take_least.ensures.ranks).kept

pub returns : goal.returns
returns c = (subst (λ (r : ReplayView). Steps r (view_of (parts c.self.inside.problem.now c.self.inside.walker c.self.inside.limits c.take_least.new.self c.self.inside.commits c.self.inside.clock c.self.inside.actor true c.self.inside.over)) (Take c.args.actor c.args.id)) c.self.view_is
    (record { problem = refl; limits = refl; stepped = (behind-take c.self.invariant c.args.actor c.args.id c.take_least.new.self (subst (λ (r : ReplayView). KeepsAll r.problem r.limits r.machine (Take c.args.actor c.args.id)) (sym c.self.view_is) c.requires.kept) c.take_least.ensures.nodes c.take_least.ensures.made c.take_least.ensures.ranks).stepped }))
