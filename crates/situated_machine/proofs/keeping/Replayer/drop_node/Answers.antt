use Rattle.std.proofs.Common.{refl, sym, subst}
use Rattle.tp_spec.specs.declared.event.Event.TheVariants.{Drop}
use Rattle.situated_machine.specs.Keeping.{view_of, ReplayView}
use Rattle.situated_machine.specs.Judged.{Steps}
use Rattle.situated_machine.specs.Rules.{KeepsAll}
use Rattle.situated_machine.proofs.Stepping.{node-there, behind-drop, parts}
use Rattle.situated_machine.proofs.keeping.Replayer.drop_node.Goals as goal

pub leave-requires : goal.leave-requires
leave-requires c = node-there c.self.invariant c.args.id (subst (λ (r : ReplayView). KeepsAll r.problem r.limits r.machine (Drop c.args.id)) (sym c.self.view_is) c.requires.kept)

pub invariant_of-self : goal.invariant_of-self
invariant_of-self c = (behind-drop c.self.invariant c.args.id c.leave.new.self (subst (λ (r : ReplayView). KeepsAll r.problem r.limits r.machine (Drop c.args.id)) (sym c.self.view_is) c.requires.kept) c.leave.ensures.nodes c.leave.ensures.made c.leave.ensures.ranks).kept

pub returns : goal.returns
returns c = (subst (λ (r : ReplayView). Steps r (view_of (parts c.self.inside.problem.now c.self.inside.walker c.self.inside.limits c.leave.new.self c.self.inside.commits c.self.inside.clock c.self.inside.actor c.self.inside.acted c.self.inside.over)) (Drop c.args.id)) c.self.view_is
    (record { problem = refl; limits = refl; stepped = (behind-drop c.self.invariant c.args.id c.leave.new.self (subst (λ (r : ReplayView). KeepsAll r.problem r.limits r.machine (Drop c.args.id)) (sym c.self.view_is) c.requires.kept) c.leave.ensures.nodes c.leave.ensures.made c.leave.ensures.ranks).stepped }))
